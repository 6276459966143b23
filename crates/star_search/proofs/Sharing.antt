-- What holds of a set holds of what shares it.
use Rattle.std.proofs.Common.{◌≡◌, List, Result, Ok, Err, IfOk, sym, subst}
use Rattle.std.specs.Prelude.{MatchResult}
use Rattle.std.specs.declared.alloc.AllocError.{AllocError}
use Rattle.lolepop.specs.Derived.{DerivedPlan}

module _ (plans : List DerivedPlan) (P : List DerivedPlan → Type 0) where
  pub shared_so : (r : Result (List DerivedPlan) AllocError) → P plans → IfOk r (λ set. set ≡ plans) → IfOk r P
  shared_so (Ok set) h same = subst P (sym same) h
  shared_so (Err e) h same = same

  pub copied_so : (r : Result (List DerivedPlan) AllocError) (N : AllocError → Type 0) → P plans → MatchResult r (λ set. set ≡ plans) N → IfOk r P
  copied_so (Ok set) N h same = subst P (sym same) h
  copied_so (Err e) N h same = tt

  -- what is lent is what there is
  pub lent_so : (lent : List DerivedPlan) → lent ≡ plans → P plans → P lent
  lent_so lent same h = subst P (sym same) h
