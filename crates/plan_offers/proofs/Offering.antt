-- What one offer gathers, where the vector is tested before the plan is made.
use Rattle.std.proofs.Common.{◌≡◌, true, List, [], Option, Some, None, sym, ◌∙◌, ap, subst}
use Rattle.std.specs.List.{list_any}
use Rattle.std.specs.Option.{option_map}
use Rattle.std.proofs.lemmas.List.Folds.{Any-from_list_any}
use Rattle.star_model.specs.Vectors.{is_better}
use Rattle.star_model.specs.declared.plans.Props.{Props}
use Rattle.dominance_prune.specs.Antichains.{IsAntichain}
use Rattle.dominance_prune.specs.Gathering.{HasAbove, Gathers, IsFrontier}
use Rattle.dominance_prune.specs.GatheringCases.{Gathers-nothing, Gathers-covered, Gathers-same}
use Rattle.lolepop.specs.Derived.{DerivedPlan, vector_of, is_better_plan}

-- a member is as good as the vector
abbrev pub covers : List DerivedPlan → Props → Type 0
covers plans v = list_any (λ m. is_better (vector_of m) v) plans ≡ true

above_vector : (plans : List DerivedPlan) (v : Props) → covers plans v → (x : DerivedPlan) → v ≡ vector_of x → HasAbove is_better_plan plans x
above_vector plans v over x same =
    let P : Props → Type 0 = λ w. covers plans w in
    Any-from_list_any (λ m. is_better (vector_of m) (vector_of x)) plans (subst P same over)

-- ---- a plan that is made of another

pub offers_covered : (Q : DerivedPlan → Type 0) (plans : List DerivedPlan) (v : Props) → covers plans v → ((x : DerivedPlan) → Q x → v ≡ vector_of x) → Gathers is_better_plan plans plans Q
offers_covered Q plans v over reads = Gathers-covered is_better_plan Q plans (λ x made. above_vector plans v over x (reads x made))

pub offered_as : (made e : DerivedPlan) (old new : List DerivedPlan) → made ≡ e → Gathers is_better_plan old new (λ x. x ≡ made) → Gathers is_better_plan old new (λ x. x ≡ e)
offered_as made e old new same g = let P : DerivedPlan → Type 0 = λ y. Gathers is_better_plan old new (λ x. x ≡ y) in subst P same g

pub offered_where : (M : Type 0) (made e : DerivedPlan) (old new : List DerivedPlan) → M → made ≡ e → Gathers is_better_plan old new (λ x. x ≡ made)
    → Gathers is_better_plan old new (λ x. M × (x ≡ e))
offered_where M made e old new met same g =
    Gathers-same is_better_plan (λ x. x ≡ e) (λ x. M × (x ≡ e)) old new (λ x is. (met, is)) (λ x h. h.1) (offered_as made e old new same g)

-- ---- what is made of a vector, if there is one

module _ (make : Props → DerivedPlan) where
  pub made_none : (found : Option Props) (plans : List DerivedPlan) → found ≡ None → Gathers is_better_plan plans plans (λ x. option_map make found ≡ Some x)
  made_none found plans none = Gathers-nothing is_better_plan (λ x. option_map make found ≡ Some x) plans (λ x made. never x (sym (ap (option_map make) none) ∙ made))
    where
      never : (x : DerivedPlan) → None ≡ Some x → ⊥
      never x h = cc

  made_some : (found : Option Props) (v : Props) → found ≡ Some v → (x : DerivedPlan) → option_map make found ≡ Some x → x ≡ make v
  made_some found v some x made = let same : Some (make v) ≡ Some x = sym (ap (option_map make) some) ∙ made in cc

  pub made_covered : ((v : Props) → vector_of (make v) ≡ v) → (found : Option Props) (v : Props) (plans : List DerivedPlan) → found ≡ Some v → covers plans v
      → Gathers is_better_plan plans plans (λ x. option_map make found ≡ Some x)
  made_covered read found v plans some over =
      offers_covered (λ x. option_map make found ≡ Some x) plans v over (λ x made. sym (read v) ∙ ap vector_of (sym (made_some found v some x made)))

  pub made_offered : (found : Option Props) (v : Props) (e : DerivedPlan) (old new : List DerivedPlan) → found ≡ Some v → e ≡ make v → Gathers is_better_plan old new (λ x. x ≡ e)
      → Gathers is_better_plan old new (λ x. option_map make found ≡ Some x)
  made_offered found v e old new some same g =
      Gathers-same is_better_plan (λ x. x ≡ e) (λ x. option_map make found ≡ Some x) old new
      (λ x is. ap (option_map make) some ∙ ap Some (sym same ∙ sym is))
      (λ x made. made_some found v some x made ∙ sym same) g

-- ---- a whole set, begun with none

pub frontier_of : (Q : DerivedPlan → Type 0) (old new : List DerivedPlan) → old ≡ [] → Gathers is_better_plan old new Q → IsAntichain is_better_plan new → IsFrontier is_better_plan Q new
frontier_of Q old new none gathered apart =
    let P : List DerivedPlan → Type 0 = λ begun. Gathers is_better_plan begun new Q in
    record { gathered = subst P none gathered; apart = apart }
