-- The text of the rules has the statements that define the tree's formulas and STARs, so it spells the tree.
use Rattle.std.proofs.Common.{◌≡◌, ℕ, ◌+◌, Bool, true, ◌&&◌, nat_eq, List, [], ◌∷◌, ◌++◌, None, map, refl, ap, sym, subst, eqb-true}
use Rattle.std.proofs.lemmas.Bool.{and_parts}
use Rattle.sb_text.specs.Refusal.{fault_of}
use Rattle.sb_text.specs.Tokens.{lexed, lexed_after}
use Rattle.star_model.specs.FlavourWords.{is_flavour_of}
use Rattle.star_model.specs.Monotone.{nodes}
use Rattle.star_model.specs.WellFormedRules.{IsValue, IsCondition, IsPlan, names_only, is_of_cost}
use Rattle.star_model.specs.declared.rules.FormulaDef.{FormulaDef}
use Rattle.star_model.specs.declared.rules.StarDef.{StarDef}
use Rattle.spelling.specs.Lexemes.{Lexeme, IsStatements, statements_in}
use Rattle.cost_formula.specs.FormulaCanonical.{words_of, rank_of}
use Rattle.cost_formula.specs.Formulas.{formula_lexeme}
use Rattle.rule_grammar.specs.Values.{value_lexemes, condition_lexemes}
use Rattle.rule_grammar.specs.Rules as spec
use Rattle.rule_grammar.specs.Rules.{OfFormula, OfStar, SpellsFormulaDef, SpellsStar, SpellsDefinitions, SpellsRules, formula_def_lexemes, star_lexemes, plan_lexemes}
use Rattle.rule_grammar.specs.RuleLimits.{RuleStatement, AreSpelled, SaysRules, version_said}
use Rattle.rule_grammar.proofs.Laws.{canonical_formula_def}
use Rattle.workload_gen.specs.RulesText.{rules_text}
use Rattle.workload_runs.specs.RulesTree.{formulas, access_root, join_root, both, generator_rules}

-- ---- the STARs

access_root_spelled : SpellsStar 1 23 (star_lexemes access_root) access_root
unfolding access_root value_lexemes IsValue plan_lexemes IsPlan
access_root_spelled = record {
  number = refl;
  are = refl;
  stands = record {
    name = refl;
    some_parameters = tt;
    parameters = (refl, (refl, tt));
    some_alternatives = tt;
    alternatives = (
      record { ranges = tt; condition = tt; body = record { known = refl; inputs = refl; count = refl; values = ((refl, refl), (((refl, refl), (refl, refl)), tt)) } },
      (
        record {
          ranges = (refl, (refl, refl), tt);
          condition = tt;
          body = record { known = refl; inputs = refl; count = refl; values = ((refl, refl), ((refl, refl), (((refl, refl), (refl, refl)), tt))) };
        },
        tt,
      ),
    );
  };
}

join_root_spelled : SpellsStar 1 24 (star_lexemes join_root) join_root
unfolding join_root value_lexemes IsValue plan_lexemes IsPlan
join_root_spelled = record {
  number = refl;
  are = refl;
  stands = record {
    name = refl;
    some_parameters = tt;
    parameters = (refl, (refl, (refl, tt)));
    some_alternatives = tt;
    alternatives =
        (record { ranges = tt; condition = tt; body = (refl, tt, ((refl, refl), ((refl, refl), ((refl, refl), (((refl, refl), (refl, refl)), tt))))) }, tt);
  };
}

both_spelled : SpellsStar 1 25 (star_lexemes both) both
unfolding both value_lexemes IsValue condition_lexemes IsCondition plan_lexemes IsPlan
both_spelled = record {
  number = refl;
  are = refl;
  stands = record {
    name = refl;
    some_parameters = tt;
    parameters = (refl, (refl, (refl, (refl, tt))));
    some_alternatives = tt;
    alternatives = (
      record {
        ranges = tt;
        condition = (refl, refl);
        body = (
          record { known = refl; inputs = refl; count = refl; values = (tt, tt) },
          ((refl, refl), (refl, refl)),
          ((refl, refl), ((refl, refl), (refl, refl))),
        );
      },
      (
        record {
          ranges = tt;
          condition = (refl, refl);
          body = (
            record { known = refl; inputs = refl; count = refl; values = ((refl, refl), (((refl, refl), (refl, refl)), tt)) },
            ((refl, refl), (refl, refl)),
            ((refl, refl), (refl, refl)),
          );
        },
        tt,
      ),
    );
  };
}

-- ---- the formulas

-- whether the formula has this number and can stand in a rule file of version 1
abbrev stands_at : ℕ → FormulaDef → Bool
stands_at n d = nat_eq d.statement n && (is_flavour_of 1 d.flavour && names_only is_of_cost d.formula)

-- whether the formulas have numbers from this one on, one after the other
abbrev follow : ℕ → List FormulaDef → Bool
follow n [] = true
follow n (d ∷ later) = stands_at n d && follow (n + 1) later

abbrev number_after : ℕ → List FormulaDef → ℕ
number_after n [] = n
number_after n (d ∷ later) = number_after (n + 1) later

formula_spelled : (n : ℕ) (d : FormulaDef) → stands_at n d ≡ true → SpellsFormulaDef 1 n (formula_def_lexemes d) d
formula_spelled n d stands =
    let own = and_parts (nat_eq d.statement n) (is_flavour_of 1 d.flavour && names_only is_of_cost d.formula) stands in
    let written = and_parts (is_flavour_of 1 d.flavour) (names_only is_of_cost d.formula) own.1 in
    subst (λ m. SpellsFormulaDef 1 m (formula_def_lexemes d) d) (eqb-true d.statement n own.0) (canonical_formula_def 1 d written.0 written.1)

abbrev formula_statement : FormulaDef → RuleStatement
formula_statement d = record { lexemes = formula_def_lexemes d; defines = OfFormula d }

abbrev star_statement : StarDef → RuleStatement
star_statement s = record { lexemes = star_lexemes s; defines = OfStar s }

formulas_define : (n : ℕ) (fs : List FormulaDef) (later : List (List Lexeme)) (ss : List StarDef) → follow n fs ≡ true
    → SpellsDefinitions 1 (number_after n fs) later [] [] ss → SpellsDefinitions 1 n (map formula_def_lexemes fs ++ later) [] fs ss
formulas_define n [] later ss stand define = define
formulas_define n (d ∷ fs) later ss stand define =
    let parts = and_parts (stands_at n d) (follow (n + 1) fs) stand in
    spec.formula (formula_spelled n d parts.0) (formulas_define (n + 1) fs later ss parts.1 define)

formulas_are_spelled : (n : ℕ) (fs : List FormulaDef) (later : List RuleStatement) → follow n fs ≡ true → AreSpelled 1 (number_after n fs) later
    → AreSpelled 1 n (map formula_statement fs ++ later)
formulas_are_spelled n [] later stand spelled = spelled
formulas_are_spelled n (d ∷ fs) later stand spelled =
    let parts = and_parts (stands_at n d) (follow (n + 1) fs) stand in
    (formula_spelled n d parts.0, formulas_are_spelled (n + 1) fs later parts.1 spelled)

all_stand : follow 1 formulas ≡ true
unfolding formulas nodes
all_stand = refl

after_all : number_after 1 formulas ≡ 23
unfolding formulas
after_all = refl

-- ---- the text

abbrev star_lexemes_of : List (List Lexeme)
star_lexemes_of = star_lexemes access_root ∷ star_lexemes join_root ∷ star_lexemes both ∷ []

abbrev star_statements : List RuleStatement
star_statements = star_statement access_root ∷ star_statement join_root ∷ star_statement both ∷ []

abbrev pub generator_statements : List RuleStatement
generator_statements = map formula_statement formulas ++ star_statements

pub no_text_fault : fault_of rules_text ≡ None
unfolding lexed lexed_after
no_text_fault = refl

are_statements : IsStatements rules_text (map formula_def_lexemes formulas ++ star_lexemes_of)
unfolding formulas access_root join_root both lexed lexed_after statements_in words_of rank_of formula_lexeme value_lexemes condition_lexemes plan_lexemes
are_statements = record { all_tokens = refl; are = refl }

define : SpellsDefinitions 1 1 (map formula_def_lexemes formulas ++ star_lexemes_of) [] formulas generator_rules.stars
define =
    formulas_define 1 formulas star_lexemes_of generator_rules.stars all_stand
    (subst (λ n. SpellsDefinitions 1 n star_lexemes_of [] [] generator_rules.stars) (sym after_all)
    (spec.star access_root_spelled (spec.star join_root_spelled (spec.star both_spelled spec.none))))

pub spells_rules : SpellsRules rules_text generator_rules
spells_rules = record { version = refl; statements = map formula_def_lexemes formulas ++ star_lexemes_of; are = are_statements; define = define }

lexemes_are : (fs : List FormulaDef) (later : List RuleStatement)
    → map (λ s. s.lexemes) (map formula_statement fs ++ later) ≡ map formula_def_lexemes fs ++ map (λ s. s.lexemes) later
lexemes_are [] later = refl
lexemes_are (d ∷ fs) later = ap (λ l. formula_def_lexemes d ∷ l) (lexemes_are fs later)

version_one : version_said generator_statements ≡ 1
unfolding formulas
version_one = refl

pub says_rules : SaysRules rules_text generator_statements
says_rules = record {
  are = subst (λ (l : List (List Lexeme)). IsStatements rules_text l) (sym (lexemes_are formulas star_statements)) are_statements;
  spelled =
      subst (λ n. AreSpelled n 1 generator_statements) (sym version_one)
      (formulas_are_spelled 1 formulas star_statements all_stand
      (subst (λ n. AreSpelled 1 n star_statements) (sym after_all) (access_root_spelled, (join_root_spelled, (both_spelled, tt)))));
}
