-- Each chain is one of the lists.
use Rattle.std.proofs.Common.{◌≡◌, ◌≢◌, ℕ, ◌<◌, Bool, true, false, ◌&&◌, List, [], ◌∷◌, map, refl, lit<, arith}
use Rattle.std.specs.List.{list_all, Contains}
use Rattle.star_model.specs.Plans.{is_chain, names, rank, differs}
use Rattle.star_model.specs.declared.plans.GlueOp.{GlueOp}
use Rattle.star_model.specs.declared.plans.GlueOp.TheVariants.{Sort, Ship, Store}
use Rattle.star_model.specs.declared.plans.Require.{Require}
use Rattle.glue.specs.declared.chains.TheConstants.{CHAINS}

abbrev pub listed : List (List GlueOp)
listed = map (λ words. words.now) CHAINS

abbrev differ : List GlueOp → Bool
differ [] = true
differ (o ∷ os) = list_all (differs o) os && differ os

both : (a b : Bool) → (a && b) ≡ true → (a ≡ true) × (b ≡ true)
both true b h = (refl, h)
both false b h = absurd (cc)

chain_differs : (r : Require) (os : List GlueOp) → is_chain r os ≡ true → differ os ≡ true
unfolding is_chain
chain_differs r [] h = refl
chain_differs r (o ∷ os) h =
    let parts = both (names r o && list_all (differs o) os) (is_chain r os) h in
    let word = both (names r o) (list_all (differs o) os) parts.0 in
    λ i. word.1 i && chain_differs r os parts.1 i

-- of a list without repeats the first word differs from each later one
differs_first : (o p : GlueOp) → differs o p ≡ true → rank o ≢ rank p
differs_first Sort Sort h same = cc
differs_first Ship Ship h same = cc
differs_first Store Store h same = cc
differs_first _ _ h same = absurd (omega (arith, same))

small : (o : GlueOp) → rank o < 3
small Sort = lit< tt
small Ship = lit< tt
small Store = lit< tt

four_below_three : (k l m n : ℕ) → k < 3 → l < 3 → m < 3 → n < 3 → k ≢ l → k ≢ m → k ≢ n → l ≢ m → l ≢ n → m ≢ n → ⊥
four_below_three k l m n a b c d e f g h i j = absurd (omega arith)

no_fourth : (a b c d : GlueOp) (os : List GlueOp) → differ (a ∷ b ∷ c ∷ d ∷ os) ≡ true → ⊥
no_fourth a b c d os h =
    let first = both (list_all (differs a) (b ∷ c ∷ d ∷ os)) (differ (b ∷ c ∷ d ∷ os)) h in
    let a_all = both (differs a b) (list_all (differs a) (c ∷ d ∷ os)) first.0 in
    let a_more = both (differs a c) (list_all (differs a) (d ∷ os)) a_all.1 in
    let a_last = both (differs a d) (list_all (differs a) os) a_more.1 in
    let second = both (list_all (differs b) (c ∷ d ∷ os)) (differ (c ∷ d ∷ os)) first.1 in
    let b_all = both (differs b c) (list_all (differs b) (d ∷ os)) second.0 in
    let b_last = both (differs b d) (list_all (differs b) os) b_all.1 in
    let third = both (list_all (differs c) (d ∷ os)) (differ (d ∷ os)) second.1 in
    let c_last = both (differs c d) (list_all (differs c) os) third.0 in
    four_below_three _ _ _ _ (small a) (small b) (small c) (small d) (differs_first a b a_all.0) (differs_first a c a_more.0) (differs_first a d a_last.0)
    (differs_first b c b_all.0) (differs_first b d b_last.0) (differs_first c d c_last.0)

pub each_differing : (os : List GlueOp) → differ os ≡ true → Contains listed os
each_differing [] h = (0, lit< tt, refl)
each_differing (Sort ∷ []) h = (1, lit< tt, refl)
each_differing (Ship ∷ []) h = (2, lit< tt, refl)
each_differing (Store ∷ []) h = (3, lit< tt, refl)
each_differing (Sort ∷ Ship ∷ []) h = (4, lit< tt, refl)
each_differing (Sort ∷ Store ∷ []) h = (5, lit< tt, refl)
each_differing (Ship ∷ Sort ∷ []) h = (6, lit< tt, refl)
each_differing (Ship ∷ Store ∷ []) h = (7, lit< tt, refl)
each_differing (Store ∷ Sort ∷ []) h = (8, lit< tt, refl)
each_differing (Store ∷ Ship ∷ []) h = (9, lit< tt, refl)
each_differing (Sort ∷ Ship ∷ Store ∷ []) h = (10, lit< tt, refl)
each_differing (Sort ∷ Store ∷ Ship ∷ []) h = (11, lit< tt, refl)
each_differing (Ship ∷ Sort ∷ Store ∷ []) h = (12, lit< tt, refl)
each_differing (Ship ∷ Store ∷ Sort ∷ []) h = (13, lit< tt, refl)
each_differing (Store ∷ Sort ∷ Ship ∷ []) h = (14, lit< tt, refl)
each_differing (Store ∷ Ship ∷ Sort ∷ []) h = (15, lit< tt, refl)
each_differing (a ∷ b ∷ c ∷ d ∷ os) h = absurd (no_fourth a b c d os h)
each_differing _ h = absurd (cc)

pub each_chain_is_listed : (r : Require) (chain : List GlueOp) → is_chain r chain ≡ true → Contains listed chain
each_chain_is_listed r chain h = each_differing chain (chain_differs r chain h)
