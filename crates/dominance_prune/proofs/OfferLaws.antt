-- An offer gathers its item.
use Rattle.std.proofs.Common.{◌≡◌, ◌++◌, List, [], ◌∷◌, Bool, true, false, not, Result, Ok, Err, IfOk, OnOk, get_or, inl, inr, refl, sym, subst}
use Rattle.std.specs.List.{Contains}
use Rattle.std.specs.declared.alloc.AllocError.{AllocError}
use Rattle.std.proofs.lemmas.List.Quantifiers.{position-Some}
use Rattle.std.proofs.lemmas.List.Elements.{Contains-push, Contains-push_cases, Contains-append_left, Contains-get_or}
use Rattle.dominance_prune.proofs.Filtered.{Contains-filter, Contains-filter_cases}
use Rattle.dominance_prune.specs.Gathering.{HasAbove, Gathers}
use Rattle.dominance_prune.specs.GatheringCases.{member_above, above_from}
use Rattle.dominance_prune.specs.Offers.{survivors, Answered}
use Rattle.dominance_prune.specs.declared.plan_set.Offer.{Offer}
use Rattle.dominance_prune.specs.declared.plan_set.Offer.TheVariants.{Kept, Covered}

module _ {T : Type 0} (outranks : T → T → Bool) (reflexive : (x : T) → outranks x x ≡ true)
    (transitive : (x y z : T) → outranks x y ≡ true → outranks y z ≡ true → outranks x z ≡ true) where
  pub Gathers-answered : (old : List T) (item : T) (new : List T) (answer : Offer) → Answered outranks old item new answer → Gathers outranks old new (λ x. x ≡ item)
  Gathers-answered old item new Kept a = rw a.1 (record {
    covers = λ x same. (let P : T → Type 0 = λ u. HasAbove outranks (survivors outranks old item ++ item ∷ []) u in
        subst P (sym same) (above_from outranks _ item item (Contains-push (survivors outranks old item) item) (reflexive item)));
    keeps = λ x above. let (m, among, over) = member_above outranks old x above in kept x m among over (outranks item m) refl;
    from = λ m k. elim (Contains-push_cases (survivors outranks old item) item m k) [
      | inl stays ↦ inl (Contains-filter_cases (λ m. not (outranks item m)) old m stays)
      | inr same ↦ inr (sym same)
    ];
  })
    where
      kept : (x m : T) → Contains old m → outranks m x ≡ true → (b : Bool) → outranks item m ≡ b → HasAbove outranks (survivors outranks old item ++ item ∷ []) x
      kept x m among over true e = above_from outranks _ x item (Contains-push (survivors outranks old item) item) (transitive item m x e over)
      kept x m among over false e =
          above_from outranks _ x m (Contains-append_left (survivors outranks old item) (item ∷ []) m (Contains-filter (λ u. not (outranks item u)) old m among (rw e refl))) over
  Gathers-answered old item new (Covered i) a = rw a.1 (record {
    covers = λ x same. (let P : T → Type 0 = λ u. HasAbove outranks old u in
        let found = position-Some (λ m. outranks m item) old i item a.0 in
        subst P (sym same) (above_from outranks old item (get_or old i item) (Contains-get_or old i item found.0) found.1));
    keeps = λ x k. k;
    from = λ m k. inl k;
  })

  pub Gathers-result : (old : List T) (item : T) (new : List T) (answer : Result Offer AllocError) → IfOk answer (Answered outranks old item new)
      → OnOk answer (Gathers outranks old new (λ x. x ≡ item))
  Gathers-result old item new (Ok answer) a = Gathers-answered old item new answer a
  Gathers-result old item new (Err e) a = tt
