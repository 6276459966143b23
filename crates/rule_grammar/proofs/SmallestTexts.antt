-- What the smallest texts spell: the smallest rule file, a catalogue of one site and one table, and a query for one column.
use Rattle.std.proofs.Common.{◌≡◌, ℕ, ◌+◌, Bool, true, ◌&&◌, nat_eq, List, [], ◌∷◌, ◌++◌, map, refl, subst, eqb-true}
use Rattle.std.proofs.lemmas.Bool.{and_parts}
use Rattle.star_model.specs.declared.rules.FormulaDef.{FormulaDef}
use Rattle.star_model.specs.declared.rules.SelectDef.{SelectDef}
use Rattle.star_model.specs.declared.rules.StarDef.{StarDef}
use Rattle.star_model.specs.Monotone.{nodes}
use Rattle.star_model.specs.FlavourWords.{is_flavour_of}
use Rattle.spelling.specs.Lexemes.{Lexeme, IsStatements}
use Rattle.cost_formula.specs.FormulaCanonical.{words_of, rank_of}
use Rattle.cost_formula.specs.Formulas.{formula_lexeme}
use Rattle.rule_grammar.specs.Values.{value_lexemes}
use Rattle.star_model.specs.WellFormedRules.{IsValue, IsPlan, names_only, is_of_cost, is_of_selectivity}
use Rattle.rule_grammar.specs.Rules as spec
use Rattle.rule_grammar.specs.Rules.{plan_lexemes, formula_def_lexemes, select_def_lexemes, SpellsFormulaDef, SpellsSelectDef, SpellsDefinitions, SpellsRules}
use Rattle.rule_grammar.specs.Tiny.{tiny_lexemes, tiny_rules}
use Rattle.cost_formula.proofs.Laws.{canonical_cost, canonical_select}

pub canonical_formula_def : (version : ℕ) (d : FormulaDef) → is_flavour_of version d.flavour ≡ true → names_only is_of_cost d.formula ≡ true
    → SpellsFormulaDef version d.statement (formula_def_lexemes d) d
canonical_formula_def version d known names = record { known = known; number = refl; formula = _; are = refl; spelled = canonical_cost d.formula names }

pub canonical_select_def : (d : SelectDef) → names_only is_of_selectivity d.num ≡ true → names_only is_of_selectivity d.den ≡ true
    → SpellsSelectDef 2 d.statement (select_def_lexemes d) d
canonical_select_def d num den = record {
  of_version = refl;
  number = refl;
  num = _;
  den = _;
  are = refl;
  spelled_num = canonical_select d.num num;
  spelled_den = canonical_select d.den den;
}

-- whether the formulas have numbers from this one on, one after the other, and can stand in a rule file of version 1
abbrev follow : ℕ → List FormulaDef → Bool
follow n [] = true
follow n (d ∷ later) = (nat_eq d.statement n && (is_flavour_of 1 d.flavour && names_only is_of_cost d.formula)) && follow (n + 1) later

abbrev number_behind : ℕ → List FormulaDef → ℕ
number_behind n [] = n
number_behind n (d ∷ later) = number_behind (n + 1) later

formulas_first : (n : ℕ) (fs : List FormulaDef) (later : List (List Lexeme)) (ss : List StarDef) → follow n fs ≡ true → SpellsDefinitions 1 (number_behind n fs) later [] [] ss
    → SpellsDefinitions 1 n (map formula_def_lexemes fs ++ later) [] fs ss
formulas_first n [] later ss are define = define
formulas_first n (d ∷ fs) later ss are define =
    let parts = and_parts (nat_eq d.statement n && (is_flavour_of 1 d.flavour && names_only is_of_cost d.formula)) (follow (n + 1) fs) are in
    let own = and_parts (nat_eq d.statement n) (is_flavour_of 1 d.flavour && names_only is_of_cost d.formula) parts.0 in
    let written = and_parts (is_flavour_of 1 d.flavour) (names_only is_of_cost d.formula) own.1 in
    let number = eqb-true d.statement n own.0 in
    spec.formula (subst (λ m. SpellsFormulaDef 1 m (formula_def_lexemes d) d) number (canonical_formula_def 1 d written.0 written.1)) (formulas_first (n + 1) fs later ss parts.1 define)

tiny_defines : SpellsDefinitions 1 1 tiny_lexemes [] tiny_rules.formulas tiny_rules.stars
unfolding tiny_lexemes tiny_rules words_of rank_of formula_lexeme value_lexemes IsValue plan_lexemes IsPlan nodes
tiny_defines =
    formulas_first 1 tiny_rules.formulas _ _ refl
    (spec.star (record {
      number = refl;
      are = refl;
      stands = record {
        name = refl;
        some_parameters = tt;
        parameters = (refl, (refl, tt));
        some_alternatives = tt;
        alternatives = (record { ranges = tt; condition = tt; body = record { known = refl; inputs = refl; count = refl; values = ((refl, refl), ((refl, refl), tt)) } }, tt);
      };
    })
    (spec.star (record {
      number = refl;
      are = refl;
      stands = record {
        name = refl;
        some_parameters = tt;
        parameters = (refl, (refl, (refl, tt)));
        some_alternatives = tt;
        alternatives = (record { ranges = tt; condition = tt; body = record { known = refl; inputs = refl; count = refl; values = ((refl, refl), ((refl, refl), tt)) } }, tt);
      };
    }) spec.none))

pub tiny_is_spelled : (text : List ℕ) → IsStatements text tiny_lexemes → SpellsRules text tiny_rules
unfolding tiny_rules
tiny_is_spelled text are = record { version = refl; statements = tiny_lexemes; are = are; define = tiny_defines }
