-- The first statement of a rule file with a case, as it is looked for: the numbers of statements needn't rise along a list.
use Rattle.std.specs.Prelude.{ℕ, min, Bool, List, map, Option, Some, None, filter, if◌then◌else◌}
use Rattle.std.specs.List.{reduce}
use Rattle.star_model.specs.Accepted.{Never, First, is_star_twice, is_formula_twice, is_select_twice}
use Rattle.star_model.specs.declared.rules.StarDef.{StarDef}
use Rattle.star_model.specs.declared.rules.FormulaDef.{FormulaDef}
use Rattle.star_model.specs.declared.rules.SelectDef.{SelectDef}
use Rattle.star_model.specs.declared.rules.RuleFile.{RuleFile}

-- it is the first with the case, or there is none
abbrev pub FirstOrNever : RuleFile → (ℕ → Type 0) → Option ℕ → Type 0
FirstOrNever rules case None = Never rules case
FirstOrNever rules case (Some k) = First rules case k

-- the least number of the STARs that pass
abbrev pub first_star : (StarDef → Bool) → List StarDef → Option ℕ
first_star test stars = reduce min (map (λ s. s.statement) (filter test stars))

-- the least number of the formulas that pass
abbrev pub first_formula : (FormulaDef → Bool) → List FormulaDef → Option ℕ
first_formula test formulas = reduce min (map (λ d. d.statement) (filter test formulas))

-- the least number of the selectivities that pass
abbrev pub first_select : (SelectDef → Bool) → List SelectDef → Option ℕ
first_select test selects = reduce min (map (λ d. d.statement) (filter test selects))

-- the earlier of these two statements
abbrev pub earlier : Option ℕ → ℕ → ℕ
earlier None k = k
earlier (Some j) k = min j k

abbrev pub earlier_of : Option ℕ → Option ℕ → Option ℕ
earlier_of one None = one
earlier_of one (Some k) = Some (earlier one k)

-- the least number of the statements that define what an earlier one defines, or have a name twice
abbrev pub first_twice : RuleFile → Option ℕ
first_twice rules =
    earlier_of
    (first_star (is_star_twice rules) rules.stars)
    (earlier_of (first_formula (is_formula_twice rules) rules.formulas) (first_select (is_select_twice rules) rules.selects))

-- the earlier of these two statements, where the second counts
abbrev pub with_statement : Option ℕ → Bool → ℕ → Option ℕ
with_statement first counts k = if counts then Some (earlier first k) else first
