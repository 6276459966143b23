-- An offer keeps a set free of members that another outranks.
use Rattle.std.proofs.Common.{◌≡◌, ◌≤◌, List, Bool, false, not, None, Result, Ok, Err, IfOk, OnErr, length, arith}
use Rattle.std.specs.List.{filter, position, position_or_len, All}
use Rattle.std.specs.declared.alloc.AllocError.{AllocError}
use Rattle.std.proofs.lemmas.Bool.{not-true}
use Rattle.std.proofs.lemmas.Bool.Decides.{nat_tests}
use Rattle.std.proofs.lemmas.List.Sums.{prefix_len_passes}
use Rattle.std.proofs.lemmas.List.Kept.{AllPairs-filter}
use Rattle.std.proofs.lemmas.List.Quantifiers.{all_pairs_push}
use Rattle.std.proofs.lemmas.List.Elements.{filter_passes, All-filter}
use Rattle.dominance_prune.specs.Antichains.{IsAntichain}
use Rattle.dominance_prune.specs.Offers.{Answered}
use Rattle.dominance_prune.specs.declared.plan_set.Offer.{Offer}
use Rattle.dominance_prune.specs.declared.plan_set.Offer.TheVariants.{Kept, Covered}

-- where no position is answered, no element passes
none_passes : {X : Type 0} (p : X → Bool) (xs : List X) → position p xs ≡ None → All (λ x. p x ≡ false) xs
none_passes p xs none k d h =
    let long : length xs ≤ position_or_len p xs = grind (arith, nat_tests, none) in
    not-true _ (prefix_len_passes (λ x. not (p x)) xs k d (omega arith))

pub IsAntichain-offered : {T : Type 0} (outranks : T → T → Bool) (old : List T) (item : T) (new : List T) (answer : Offer)
    → Answered outranks old item new answer → IsAntichain outranks old → IsAntichain outranks new
IsAntichain-offered {T} outranks old item new Kept a chain =
    let apart : T → T → Type 0 = λ x y. (outranks x y ≡ false) × (outranks y x ≡ false) in
    let stays = λ (m : T). not (outranks item m) in
    let none : All (λ m. outranks m item ≡ false) old = none_passes _ old a.0 in
    let left = All-filter stays (λ m. outranks m item ≡ false) old none in
    let passed = filter_passes stays old in
    rw a.1 (all_pairs_push apart (filter stays old) item (AllPairs-filter apart stays old chain) (λ k d h. (left k d h, not-true _ (passed k d h))))
IsAntichain-offered outranks old item new (Covered i) a chain = rw a.1 chain

pub IsAntichain-answered : {T : Type 0} (outranks : T → T → Bool) (old : List T) (item : T) (new : List T) (answer : Result Offer AllocError)
    → IfOk answer (Answered outranks old item new) → OnErr answer (new ≡ old) → IsAntichain outranks old → IsAntichain outranks new
IsAntichain-answered outranks old item new (Ok answer) ok err chain = IsAntichain-offered outranks old item new answer ok chain
IsAntichain-answered outranks old item new (Err e) ok err chain = rw err chain
