-- What the operators of the rules with two indexes make, computed.
use Rattle.std.proofs.Common.{◌≡◌, ℕ, false, List, [], ◌∷◌, Some, None, refl, codes}
use Rattle.star_model.specs.Cardinality.{card}
use Rattle.star_model.specs.Canon.{canon, least_equal}
use Rattle.star_model.specs.Costs.{costs_of, formula_of}
use Rattle.star_model.specs.Formulas.{value}
use Rattle.star_model.specs.Judging.{Vector, judge}
use Rattle.star_model.specs.Meaning.{meaning, holds, numbers_of, plain}
use Rattle.star_model.specs.Operators.{step, width_of}
use Rattle.star_model.specs.Plans.{is_chain, vector}
use Rattle.star_model.specs.Predicates.{used, eligible, crossing}
use Rattle.star_model.specs.Requirements.{satisfies}
use Rattle.star_model.specs.Sets.{set_of, has, members, single, union, meet, minus, is_within, places}
use Rattle.star_model.specs.Vectors.{begins}
use Rattle.star_model.specs.Expected.{ForQuery, leaf_of, unary_of, binary_of, operator_of, values_of, meets}
use Rattle.star_model.specs.ValueCases as v
use Rattle.star_model.specs.ConditionCases as condition
use Rattle.star_model.specs.PlanExprCases as expr
use Rattle.star_model.specs.declared.rules.Alternative.{Alternative}
use Rattle.star_model.specs.declared.rules.Condition.TheVariants as made_condition
use Rattle.star_model.specs.declared.rules.Flavour.TheVariants as flavour
use Rattle.star_model.specs.declared.rules.ForAll.{ForAll}
use Rattle.star_model.specs.declared.rules.PlanExpr.{PlanExpr}
use Rattle.star_model.specs.declared.rules.PlanExpr.TheVariants as made
use Rattle.star_model.specs.declared.rules.Range.TheVariants as range
use Rattle.star_model.specs.declared.rules.ValueExpr.{ValueExpr}
use Rattle.star_model.specs.declared.rules.ValueExpr.TheVariants as variable
use Rattle.star_model.specs.declared.plans.Props.{Props}
use Rattle.star_model.specs.declared.values.RuleValue.{RuleValue}
use Rattle.star_model.specs.declared.values.RuleValue.TheVariants as is
use Rattle.worked_choices.specs.Indexing.{query, rules, by_one_index}
use Rattle.worked_plans.specs.Derivations as tree

-- ---- the alternatives of the STAR of accesses

abbrev pub stream : ValueExpr
stream = variable.Variable (codes "A") 0

abbrev pub preds : ValueExpr
preds = variable.Variable (codes "P") 1

abbrev pub x : ValueExpr
x = variable.Variable (codes "x") 2

abbrev pub y : ValueExpr
y = variable.Variable (codes "y") 3

abbrev pub by : ValueExpr → ValueExpr
by index = v.Indexable stream index preds

-- the predicates that the index doesn't apply
abbrev pub rest_by : ValueExpr → ValueExpr
rest_by applied = v.Minus preds applied

abbrev pub access : ValueExpr → PlanExpr
access index = made.Leaf flavour.AccessIndex (stream ∷ index ∷ by index ∷ [])

abbrev pub heap : PlanExpr
heap = made.Leaf flavour.AccessHeap (stream ∷ preds ∷ [])

abbrev pub one : PlanExpr
one = expr.Unary flavour.Get (stream ∷ rest_by (by x) ∷ []) (access x)

abbrev pub both : PlanExpr
both = expr.Unary flavour.Get (stream ∷ rest_by (v.Union (by x) (by y)) ∷ []) (expr.Binary flavour.Intersect [] (access x) (access y))

abbrev pub on_indexes : List ℕ → ForAll
on_indexes name = record { name = name; range = range.Indexes stream }

abbrev pub reading_all : Alternative
reading_all = record { ranges = []; condition = None; body = heap }

abbrev pub reading_one : Alternative
reading_one = record { ranges = on_indexes (codes "x") ∷ []; condition = None; body = one }

abbrev pub reading_both : Alternative
reading_both = record {
  ranges = on_indexes (codes "x") ∷ on_indexes (codes "y") ∷ [];
  condition = Some (condition.Not (made_condition.Same x y));
  body = both;
}

-- ---- the bindings

abbrev pub arguments : List RuleValue
arguments = plain 1 ∷ is.Preds 3 ∷ []

abbrev pub under : ℕ → List RuleValue
under n = plain 1 ∷ is.Preds 3 ∷ is.Index n ∷ []

abbrev pub under_both : ℕ → ℕ → List RuleValue
under_both n m = plain 1 ∷ is.Preds 3 ∷ is.Index n ∷ is.Index m ∷ []

-- the table has two indexes
pub two : (b : List RuleValue) → numbers_of query (plain 1 ∷ b) (range.Indexes stream) ≡ 0 ∷ 1 ∷ []
unfolding meaning has members places
two b = refl

pub first_twice : meets query (under_both 0 0) reading_both.condition ≡ false
unfolding holds meaning
first_twice = refl

pub second_twice : meets query (under_both 1 1) reading_both.condition ≡ false
unfolding holds meaning
second_twice = refl

-- ---- the vectors

-- the table is read
abbrev pub whole : Props
whole = record {
  tables = 1;
  cols = (7 ∷ 0 ∷ 0 ∷ 0 ∷ 0 ∷ 0 ∷ 0 ∷ 0 ∷ 0 ∷ 0 ∷ 0 ∷ 0 ∷ []);
  preds = 3;
  order = [];
  site = record { 0 = 0 };
  temp = false;
  path = [];
  card = 5;
  cost = 2000;
  rescan = 2000;
}

-- what an index gives
abbrev pub first : Props
first = record {
  tables = 1;
  cols = (2 ∷ 0 ∷ 0 ∷ 0 ∷ 0 ∷ 0 ∷ 0 ∷ 0 ∷ 0 ∷ 0 ∷ 0 ∷ 0 ∷ []);
  preds = 1;
  order = (record { quant = record { 0 = 0 }; column = 1 } ∷ []);
  site = record { 0 = 0 };
  temp = false;
  path = [];
  card = 100;
  cost = 120;
  rescan = 120;
}

abbrev pub second : Props
second = record {
  tables = 1;
  cols = (4 ∷ 0 ∷ 0 ∷ 0 ∷ 0 ∷ 0 ∷ 0 ∷ 0 ∷ 0 ∷ 0 ∷ 0 ∷ 0 ∷ []);
  preds = 2;
  order = (record { quant = record { 0 = 0 }; column = 2 } ∷ []);
  site = record { 0 = 0 };
  temp = false;
  path = [];
  card = 50;
  cost = 65;
  rescan = 65;
}

-- what both give, in the order of the first, and of the second
abbrev pub shared : Props
shared = record {
  tables = 1;
  cols = (6 ∷ 0 ∷ 0 ∷ 0 ∷ 0 ∷ 0 ∷ 0 ∷ 0 ∷ 0 ∷ 0 ∷ 0 ∷ 0 ∷ []);
  preds = 3;
  order = (record { quant = record { 0 = 0 }; column = 1 } ∷ []);
  site = record { 0 = 0 };
  temp = false;
  path = [];
  card = 5;
  cost = 335;
  rescan = 335;
}

abbrev pub shared_turned : Props
shared_turned = record shared { order = (record { quant = record { 0 = 0 }; column = 2 } ∷ []) }

-- the rows are read
abbrev pub by_first : Props
by_first = record {
  tables = 1;
  cols = (7 ∷ 0 ∷ 0 ∷ 0 ∷ 0 ∷ 0 ∷ 0 ∷ 0 ∷ 0 ∷ 0 ∷ 0 ∷ 0 ∷ []);
  preds = 3;
  order = (record { quant = record { 0 = 0 }; column = 1 } ∷ []);
  site = record { 0 = 0 };
  temp = false;
  path = [];
  card = 5;
  cost = 1220;
  rescan = 1220;
}

abbrev pub by_second : Props
by_second = record {
  tables = 1;
  cols = (7 ∷ 0 ∷ 0 ∷ 0 ∷ 0 ∷ 0 ∷ 0 ∷ 0 ∷ 0 ∷ 0 ∷ 0 ∷ 0 ∷ []);
  preds = 3;
  order = (record { quant = record { 0 = 0 }; column = 2 } ∷ []);
  site = record { 0 = 0 };
  temp = false;
  path = [];
  card = 5;
  cost = 615;
  rescan = 615;
}

abbrev pub by_both : Props
by_both = record by_first { cost = 385; rescan = 385 }

abbrev pub by_both_turned : Props
by_both_turned = record by_second { cost = 385; rescan = 385 }

pub reads_whole : step query (costs_of rules) (operator_of flavour.AccessHeap (values_of query arguments (stream ∷ preds ∷ []))) [] ≡ Some whole
unfolding step value card used width_of formula_of canon least_equal set_of has members single union meet minus is_within places meaning eligible crossing
reads_whole = refl

pub reads_first : step query (costs_of rules) (operator_of flavour.AccessIndex (values_of query (under 0) (stream ∷ x ∷ by x ∷ []))) [] ≡ Some first
unfolding step value card used width_of formula_of canon least_equal set_of has members single union meet minus is_within places meaning eligible crossing
reads_first = refl

pub reads_second : step query (costs_of rules) (operator_of flavour.AccessIndex (values_of query (under 1) (stream ∷ x ∷ by x ∷ []))) [] ≡ Some second
unfolding step value card used width_of formula_of canon least_equal set_of has members single union meet minus is_within places meaning eligible crossing
reads_second = refl

pub reads_first_of_both : step query (costs_of rules) (operator_of flavour.AccessIndex (values_of query (under_both 0 1) (stream ∷ x ∷ by x ∷ []))) [] ≡ Some first
unfolding step value card used width_of formula_of canon least_equal set_of has members single union meet minus is_within places meaning eligible crossing
reads_first_of_both = refl

pub reads_second_of_both : step query (costs_of rules) (operator_of flavour.AccessIndex (values_of query (under_both 0 1) (stream ∷ y ∷ by y ∷ []))) [] ≡ Some second
unfolding step value card used width_of formula_of canon least_equal set_of has members single union meet minus is_within places meaning eligible crossing
reads_second_of_both = refl

pub reads_second_turned : step query (costs_of rules) (operator_of flavour.AccessIndex (values_of query (under_both 1 0) (stream ∷ x ∷ by x ∷ []))) [] ≡ Some second
unfolding step value card used width_of formula_of canon least_equal set_of has members single union meet minus is_within places meaning eligible crossing
reads_second_turned = refl

pub reads_first_turned : step query (costs_of rules) (operator_of flavour.AccessIndex (values_of query (under_both 1 0) (stream ∷ y ∷ by y ∷ []))) [] ≡ Some first
unfolding step value card used width_of formula_of canon least_equal set_of has members single union meet minus is_within places meaning eligible crossing
reads_first_turned = refl

pub shares : step query (costs_of rules) (operator_of flavour.Intersect (values_of query (under_both 0 1) [])) (first ∷ second ∷ []) ≡ Some shared
unfolding step value card used width_of formula_of canon least_equal set_of has members single union meet minus is_within places meaning eligible crossing
shares = refl

pub shares_turned : step query (costs_of rules) (operator_of flavour.Intersect (values_of query (under_both 1 0) [])) (second ∷ first ∷ []) ≡ Some shared_turned
unfolding step value card used width_of formula_of canon least_equal set_of has members single union meet minus is_within places meaning eligible crossing
shares_turned = refl

pub gets_first : step query (costs_of rules) (operator_of flavour.Get (values_of query (under 0) (stream ∷ rest_by (by x) ∷ []))) (first ∷ []) ≡ Some by_first
unfolding step value card used width_of formula_of canon least_equal set_of has members single union meet minus is_within places meaning eligible crossing
gets_first = refl

pub gets_second : step query (costs_of rules) (operator_of flavour.Get (values_of query (under 1) (stream ∷ rest_by (by x) ∷ []))) (second ∷ []) ≡ Some by_second
unfolding step value card used width_of formula_of canon least_equal set_of has members single union meet minus is_within places meaning eligible crossing
gets_second = refl

pub gets_both : step query (costs_of rules) (operator_of flavour.Get (values_of query (under_both 0 1) (stream ∷ rest_by (v.Union (by x) (by y)) ∷ []))) (shared ∷ []) ≡ Some by_both
unfolding step value card used width_of formula_of canon least_equal set_of has members single union meet minus is_within places meaning eligible crossing
gets_both = refl

pub gets_both_turned : step query (costs_of rules) (operator_of flavour.Get (values_of query (under_both 1 0) (stream ∷ rest_by (v.Union (by x) (by y)) ∷ []))) (shared_turned ∷ []) ≡ Some by_both_turned
unfolding step value card used width_of formula_of canon least_equal set_of has members single union meet minus is_within places meaning eligible crossing
gets_both_turned = refl

-- ---- two root derivations

pub both_judged : judge query rules tree.both_indexes ForQuery 1 ≡ Vector by_both
unfolding judge leaf_of unary_of binary_of holds begins satisfies is_chain vector step value card used width_of formula_of canon least_equal set_of has members single union meet minus is_within places meaning eligible crossing
both_judged = refl

pub one_judged : judge query rules by_one_index ForQuery 1 ≡ Vector by_second
unfolding judge leaf_of unary_of binary_of holds begins satisfies is_chain vector step value card used width_of formula_of canon least_equal set_of has members single union meet minus is_within places meaning eligible crossing
one_judged = refl
