-- What is claimed of derivations, expressions, formulas and operators. A table of rows is claimed as one equation.
use Rattle.std.specs.Prelude.{◌≡◌, ℕ, min, nat_lt, Bool, true, false, is_some, List, [], ◌∷◌, ◌++◌, map, filter, find, fold, Option, Some, None, unwrap_or}
use Rattle.std.specs.List.{list_all, list_any}
use Rattle.std.specs.Option.{option_map}
use Rattle.star_model.specs.Formulas.{value}
use Rattle.star_model.specs.Monotone.{passes, first_offending}
use Rattle.star_model.specs.Meaning.{meaning, holds, members_of}
use Rattle.star_model.specs.Canon.{canon}
use Rattle.star_model.specs.Requirements.{satisfies}
use Rattle.star_model.specs.Vectors.{is_better}
use Rattle.star_model.specs.Cardinality.{card}
use Rattle.star_model.specs.Selectivity.{selects_of, weighed}
use Rattle.star_model.specs.Costs.{costs_of}
use Rattle.star_model.specs.Operators.{step}
use Rattle.star_model.specs.Plans.{is_chain}
use Rattle.star_model.specs.Goals.{is_target}
use Rattle.star_model.specs.Expected.{ForGoal}
use Rattle.star_model.specs.Judging.{Judgement, Vector, FirstInvalid, judge, judge_root}
use Rattle.star_model.specs.Kinds.{kind_of, kind_of_range, is_kinded}
use Rattle.star_model.specs.declared.rules.Kind.{Kind}
use Rattle.star_model.specs.Accepted.{is_unknown, is_star_twice, is_formula_twice, is_select_twice, has_wrong_arity, has_wrong_kind, lacks_root, lacks_formula, height_of, weight_of}
use Rattle.star_model.specs.declared.faults.RuleFault.{RuleFault}
use Rattle.star_model.specs.declared.faults.RuleFault.TheVariants as fault
use Rattle.star_model.specs.declared.faults.Root.TheVariants as root
use Rattle.star_model.specs.declared.rules.Flavour.{Flavour}
use Rattle.star_model.specs.declared.rules.Flavour.TheVariants as flavour
use Rattle.star_model.specs.declared.rules.StarDef.{StarDef}
use Rattle.star_model.specs.declared.rules.FormulaDef.{FormulaDef}
use Rattle.star_model.specs.declared.formula.Formula.{Formula}
use Rattle.star_model.specs.declared.formula.Vars.{Vars}
use Rattle.star_model.specs.declared.columns.Col.{Col}
use Rattle.star_model.specs.declared.query.Query.{Query}
use Rattle.star_model.specs.declared.rules.RuleFile.{RuleFile}
use Rattle.star_model.specs.declared.rules.ValueExpr.{ValueExpr}
use Rattle.star_model.specs.declared.rules.Condition.{Condition}
use Rattle.star_model.specs.declared.rules.Range.{Range}
use Rattle.star_model.specs.declared.values.RuleValue.{RuleValue}
use Rattle.star_model.specs.declared.plans.Props.{Props}
use Rattle.star_model.specs.declared.plans.Require.{Require}
use Rattle.star_model.specs.declared.plans.Op.{Op}
use Rattle.star_model.specs.declared.plans.GlueOp.{GlueOp}
use Rattle.star_model.specs.declared.derivations.Deriv.{Deriv}

-- the cost, the cost of each further production and the estimated rows, where the tree is valid
abbrev pub numbers_in : Judgement → Option (ℕ × ℕ × ℕ)
numbers_in (Vector v) = Some (v.cost, v.rescan, v.card)
numbers_in (FirstInvalid node) = None

-- the query, each predicate with the selectivity that the rules give
abbrev pub by : Query → RuleFile → Query
by query rules = weighed (selects_of rules) query

-- each predicate of the query has the selectivity that it has where no rule file gives one
abbrev pub HasUsualSelectivities : Query → Type 0
HasUsualSelectivities query = (map (λ p. p.num) (weighed [] query).preds ≡ map (λ p. p.num) query.preds) × (map (λ p. p.den) (weighed [] query).preds ≡ map (λ p. p.den) query.preds)

-- it is a root derivation of the query under the rules, with these numbers
abbrev pub HasNumbers : Query → RuleFile → Deriv → ℕ → ℕ → ℕ → Type 0
HasNumbers query rules tree cost rescan card = numbers_in (judge_root query rules tree) ≡ Some (cost, rescan, card)

-- it is a valid node for the goal of these quantifiers and pushed predicates, with these numbers
abbrev pub HasNumbersFor : ℕ → ℕ → Query → RuleFile → Deriv → ℕ → ℕ → ℕ → Type 0
HasNumbersFor tables pushed query rules tree cost rescan card =
    numbers_in (judge query rules tree (ForGoal tables pushed) 1) ≡ Some (cost, rescan, card)

-- it is no root derivation, and this is its first invalid node
abbrev pub IsInvalidAt : ℕ → Query → RuleFile → Deriv → Type 0
IsInvalidAt node query rules tree = judge_root query rules tree ≡ FirstInvalid node

-- the values of expressions of the rule language, beside what they are to mean
abbrev pub MeanAs : Query → List RuleValue → List (ValueExpr × RuleValue) → Type 0
MeanAs query bindings rows = map (λ row. meaning query bindings row.0) rows ≡ map (λ row. row.1) rows

-- whether conditions hold
abbrev pub HoldAs : Query → List RuleValue → List (Condition × Bool) → Type 0
HoldAs query bindings rows = map (λ row. holds query bindings row.0) rows ≡ map (λ row. row.1) rows

-- the members of ranges, in their order
abbrev pub RangeAs : Query → List RuleValue → List (Range × List RuleValue) → Type 0
RangeAs query bindings rows = map (λ row. members_of query bindings row.0) rows ≡ map (λ row. row.1) rows

-- the kinds of expressions, where names have these kinds
abbrev pub HaveKinds : List Kind → List (ValueExpr × Option Kind) → Type 0
HaveKinds bound rows = map (λ row. kind_of bound row.0) rows ≡ map (λ row. row.1) rows

-- the kinds of the members of ranges
abbrev pub RangeOverKinds : List Kind → List (Range × Option Kind) → Type 0
RangeOverKinds bound rows = map (λ row. kind_of_range bound row.0) rows ≡ map (λ row. row.1) rows

-- whether conditions are well kinded
abbrev pub AreKinded : List Kind → List (Condition × Bool) → Type 0
AreKinded bound rows = map (λ row. is_kinded bound row.0) rows ≡ map (λ row. row.1) rows

-- the operators, in the order of their table
abbrev pub flavours : List Flavour
flavours =
    flavour.AccessHeap ∷ flavour.AccessIndex ∷ flavour.Get ∷ flavour.Filter ∷ flavour.Sort ∷ flavour.Store ∷ flavour.Ship ∷ flavour.Probe
    ∷ flavour.JoinNl ∷ flavour.JoinMerge ∷ flavour.JoinHash ∷ flavour.Intersect ∷ []

-- the first of those that are there
abbrev pub first_of : List (Option RuleFault) → Option RuleFault
first_of [] = None
first_of (None ∷ faults) = first_of faults
first_of (Some fault ∷ faults) = Some fault

-- the least number
abbrev pub least : List ℕ → Option ℕ
least [] = None
least (n ∷ ns) = Some (fold min n ns)

module _ (rules : RuleFile) where
  abbrev pub first_star : (StarDef → Bool) → (StarDef → RuleFault) → Option RuleFault
  first_star test fault_of = option_map fault_of (find test rules.stars)

  abbrev pub first_twice : Option RuleFault
  first_twice = option_map fault.Twice
      (least (map (λ s. s.statement) (filter (is_star_twice rules) rules.stars) ++ map (λ d. d.statement) (filter (is_formula_twice rules) rules.formulas) ++ map (λ d. d.statement) (filter (is_select_twice rules) rules.selects)))

  abbrev pub not_monotone : FormulaDef → RuleFault
  not_monotone d = fault.NotMonotone d.flavour d.which (unwrap_or (first_offending d.formula) 0)

  -- the first fault that a test finds. No test finds a cycle, nor Glue below accesses
  abbrev pub first_fault : Option RuleFault
  first_fault = first_of (
      first_star (is_unknown rules) (λ s. fault.Unknown s.statement)
      ∷ first_twice
      ∷ first_star (has_wrong_arity rules) (λ s. fault.Arity s.statement)
      ∷ first_star (has_wrong_kind rules) (λ s. fault.Kind s.statement)
      ∷ option_map fault.NoRoot (find (lacks_root rules) (root.AccessRoot ∷ root.JoinRoot ∷ []))
      ∷ option_map fault.NoFormula (find (lacks_formula rules) flavours)
      ∷ option_map not_monotone (find (λ d. is_some (first_offending d.formula)) rules.formulas)
      ∷ first_star (λ s. nat_lt 16 (height_of rules s)) (λ s. fault.TooTall s.statement (height_of rules s))
      ∷ first_star (λ s. nat_lt 4096 (weight_of rules s)) (λ s. fault.TooWide s.statement (weight_of rules s))
      ∷ [])

abbrev pub HasFault : RuleFile → RuleFault → Type 0
HasFault rules fault = first_fault rules ≡ Some fault

abbrev pub HasNoFault : RuleFile → Type 0
HasNoFault rules = first_fault rules ≡ None

-- the variables in their order, from 1 to 19
abbrev pub counting : Vars
counting = record {
  cost1 = 1;
  rescan1 = 2;
  card1 = 3;
  width1 = 4;
  cost2 = 5;
  rescan2 = 6;
  card2 = 7;
  width2 = 8;
  card = 9;
  width = 10;
  rows = 11;
  pages = 12;
  preds = 13;
  cpu = 14;
  net = 15;
  distinct1 = 16;
  rows1 = 17;
  distinct2 = 18;
  rows2 = 19;
}

-- what formulas are worth, beside what they are to be worth
abbrev pub AreWorth : List (Formula × ℕ) → Type 0
AreWorth rows = map (λ row. value row.0 counting) rows ≡ map (λ row. row.1) rows

-- the formulas pass the monotone check, and no node of theirs offends
abbrev pub Pass : List (Formula × ℕ) → Type 0
Pass rows = (list_all (λ row. passes row.0) rows ≡ true) × (list_any (λ row. is_some (first_offending row.0)) rows ≡ false)

-- the formulas don't pass, and these are their first offending nodes
abbrev pub Offend : List (Formula × ℕ) → Type 0
Offend rows = (list_any (λ row. passes row.0) rows ≡ false) × (map (λ row. first_offending row.0) rows ≡ map (λ row. Some row.1) rows)

-- the vectors of operators over their inputs
abbrev pub StepsAs : Query → RuleFile → List (Op × List Props × Option Props) → Type 0
StepsAs query rules rows = map (λ row. step query (costs_of rules) row.0 row.1) rows ≡ map (λ row. row.2) rows

-- whether one vector is better than the other
abbrev pub AreBetterAs : List (Props × Props × Bool) → Type 0
AreBetterAs rows = map (λ row. is_better row.0 row.1) rows ≡ map (λ row. row.2) rows

-- whether vectors satisfy requirements
abbrev pub SatisfyAs : Query → List (Props × Require × Bool) → Type 0
SatisfyAs query rows = map (λ row. satisfies query row.0 row.1) rows ≡ map (λ row. row.2) rows

-- whether vectors have the target of a goal
abbrev pub MeetAs : Query → List (ℕ × ℕ × Props × Bool) → Type 0
MeetAs query rows = map (λ row. is_target query row.0 row.1 row.2) rows ≡ map (λ row. row.3) rows

-- whether requirements have chains
abbrev pub AreChainsAs : List (Require × List GlueOp × Bool) → Type 0
AreChainsAs rows = map (λ row. is_chain row.0 row.1) rows ≡ map (λ row. row.2) rows

-- the estimated rows of quantifiers under predicates
abbrev pub HasCards : Query → List (ℕ × ℕ × ℕ) → Type 0
HasCards query rows = map (λ row. card query row.0 row.1) rows ≡ map (λ row. row.2) rows

-- the canonical forms of orders under some predicates, within some quantifiers
abbrev pub AreCanonicalAs : Query → List (List Col × ℕ × ℕ × List Col) → Type 0
AreCanonicalAs query rows = map (λ row. canon query row.1 row.2 row.0) rows ≡ map (λ row. row.3) rows
