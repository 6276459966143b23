-- The plans of a goal have its tables, columns and predicates.
use Rattle.std.proofs.Common.{◌≡◌, ℕ, true, ◌&&◌, nat_eq, ap, ◌∙◌}
use Rattle.std.proofs.lemmas.Bool.{and_parts, eqb-true}
use Rattle.star_model.specs.Expected.{ForGoal}
use Rattle.star_model.specs.Goals.{is_target}
use Rattle.star_model.specs.Predicates.{used, eligible}
use Rattle.star_model.specs.Sets.{union}
use Rattle.star_model.specs.Vectors.{same_numbers}
use Rattle.star_model.specs.declared.plans.Props.{Props}
use Rattle.star_model.specs.declared.query.Query.{Query}
use Rattle.star_model.specs.declared.rules.RuleFile.{RuleFile}
use Rattle.star_model.proofs.Laws.{same_are}
use Rattle.lolepop.specs.Derived.{DerivedPlan, vector_of}
use Rattle.exchange.specs.Places.{IsDerived}
use Rattle.exchange.proofs.Laws.{goal_ways}

pub has_target : (q : Query) (rules : RuleFile) (s j : ℕ) (e : DerivedPlan) → IsDerived q rules (ForGoal s j) e → is_target q s j (vector_of e) ≡ true
has_target q rules s j e derived =
    let (split, (i, may, made, (target, is))) = (goal_ways q rules s j e).0 derived in ap (λ (x : DerivedPlan). is_target q s j (vector_of x)) is ∙ target

pub record Relation (q : Query) (s j : ℕ) (v : Props) : Type 0 where
  pub tables : v.tables ≡ s
  pub cols : v.cols ≡ used q s
  pub preds : v.preds ≡ union (eligible q s) j

pub relation : (q : Query) (s j : ℕ) (v : Props) → is_target q s j v ≡ true → Relation q s j v
relation q s j v target =
    let a = and_parts (nat_eq v.tables s && same_numbers v.cols (used q s)) (nat_eq v.preds (union (eligible q s) j)) target in
    let b = and_parts (nat_eq v.tables s) (same_numbers v.cols (used q s)) a.0 in
    record { tables = eqb-true v.tables s b.0; cols = same_are v.cols (used q s) b.1; preds = eqb-true v.preds (union (eligible q s) j) a.1 }
