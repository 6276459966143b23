-- What a place to which a goal leads keeps, where the rule file is accepted.
use Rattle.std.specs.Prelude.{◌≡◌, ℕ, ◌<◌, ◌^◌, Bool, true, ◌&&◌, ◌||◌, nat_eq, nat_lt, List, length, map, Some, is_some}
use Rattle.std.specs.List.{list_all}
use Rattle.star_model.specs.Sets.{size, is_within}
use Rattle.star_model.specs.Stars.{star_named}
use Rattle.star_model.specs.Kinds.{kind_of_value}
use Rattle.star_model.specs.Streams.{tables_pass}
use Rattle.star_model.specs.Expected.{Expected, ForQuery, ForGoal, Call, Expression}
use Rattle.star_model.specs.Accepted.{references_in, count_of_parameters, kinds_of, body_has_kinds}
use Rattle.star_model.specs.declared.rules.PlanExpr.{PlanExpr}
use Rattle.star_model.specs.declared.rules.StarDef.{StarDef}
use Rattle.star_model.specs.declared.rules.RuleFile.{RuleFile}
use Rattle.star_model.specs.declared.values.RuleValue.{RuleValue}

-- the set of quantifiers that a stream may have within a goal for s: some of these, and not all where they are several
abbrev pub may_read : ℕ → ℕ → Bool
may_read s t = nat_lt 0 t && nat_lt t (2 ^ 32) && is_within t s && (nat_eq (size s) 1 || nat_lt (size t) (size s))

-- whether each stream among the values has such quantifiers
abbrev pub read_within : ℕ → List RuleValue → Bool
read_within s values = list_all (tables_pass (may_read s)) values

-- whether each reference is to a STAR that is defined, with a value for each of its parameters
abbrev pub refers_rightly : RuleFile → PlanExpr → Bool
refers_rightly rules e = list_all (λ r. is_some (star_named rules r.0) && nat_eq (length r.1) (count_of_parameters rules r.0)) (references_in e)

-- the STAR is defined, and the values have the kinds of its parameters
pub record IsSoundCall (rules : RuleFile) (s : ℕ) (star : List ℕ) (b : List RuleValue) : Type 0 where
  pub definition : StarDef
  pub named : star_named rules star ≡ Some definition
  pub kinds : map kind_of_value b ≡ kinds_of rules definition
  pub streams : read_within s b ≡ true

-- the values of the expression's parts have the kinds that their places ask
pub record IsSoundExpression (rules : RuleFile) (s : ℕ) (e : PlanExpr) (b : List RuleValue) : Type 0 where
  pub kinds : body_has_kinds rules (map kind_of_value b) e ≡ true
  pub references : refers_rightly rules e ≡ true
  pub streams : read_within s b ≡ true

-- of a place within a goal for s; the query is none
abbrev pub IsSound : RuleFile → ℕ → Expected → Type 0
IsSound rules s ForQuery = ⊥
IsSound rules s (ForGoal t pushed) = (t ≡ s) × (0 < s) × (s < 2 ^ 32)
IsSound rules s (Call star b) = IsSoundCall rules s star b
IsSound rules s (Expression e b) = IsSoundExpression rules s e b
