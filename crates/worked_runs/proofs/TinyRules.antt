-- The smallest rule file, read and accepted.
use Rattle.std.proofs.Common.{◌≡◌, ◌≤◌, ℕ, List, [], ◌∷◌, ◌++◌, true, None, Ok, refl, ap, sym, ◌∙◌, subst, length, map, codes, arith}
use Rattle.std.specs.List.{list_all}
use Rattle.std.proofs.lemmas.List.{length-map}
use Rattle.sb_text.specs.Refusal.{fault_of}
use Rattle.sb_text.specs.Tokens.{lexed, lexed_after}
use Rattle.star_model.specs.Monotone.{nodes}
use Rattle.spelling.specs.Firsts.{NoneHas}
use Rattle.spelling.specs.Lexemes.{Lexeme, MaybeEnded, IsStatements, ended, statements_in}
use Rattle.rule_grammar.specs.Rules.{SpellsRules}
use Rattle.rule_grammar.specs.RuleLimits.{RuleStatement, AreSpelled, SaysRules, IsBeyond}
use Rattle.star_model.specs.WellFormedRules.{nesting}
use Rattle.rule_grammar.specs.Tiny.{tiny_lexemes, tiny_rules}
use Rattle.rule_grammar.proofs.Laws.{tiny_is_spelled}
use Rattle.star_syntax.specs.Faults.{ReadsRules}
use Rattle.star_syntax.proofs.Laws.{no_fault, rules_formed, rules_fit}
use Rattle.stars_core.specs.Judging.{RulesPass}
use Rattle.worked_runs.proofs.LimitsKept.{lexemes_fit, formula_fits, star_fits, Statements, statements_of, none_beyond, version_one}
use Rattle.worked_runs.proofs.TinyAccepted.{tiny_accepted}

-- a heap access for each table, with the costs of the operators of Glue
pub tiny_text : List ℕ
tiny_text =
    codes "cost ACCESS_HEAP = 10 * pages + cpu * rows;\n" ++ codes "rescan ACCESS_HEAP = 10 * pages + cpu * rows;\n"
    ++ codes "cost SORT = cost1 + 4 * card1;\n" ++ codes "rescan SORT = rescan1 + 4 * card1;\n"
    ++ codes "cost STORE = cost1 + 2 * card1;\n" ++ codes "rescan STORE = card1;\n"
    ++ codes "cost SHIP = cost1 + net * card1 * width1;\n" ++ codes "rescan SHIP = rescan1 + net * card1 * width1;\n"
    ++ codes "star AccessRoot(A stream, J preds) = give ACCESS_HEAP(A, J);\n"
    ++ codes "star JoinRoot(A stream, B stream, J preds) = give ACCESS_HEAP(A, J);\n"

no_text_fault : fault_of tiny_text ≡ None
unfolding tiny_text lexed lexed_after
no_text_fault = refl

are_statements : IsStatements tiny_text tiny_lexemes
unfolding tiny_text lexed lexed_after statements_in tiny_lexemes
are_statements = record { all_tokens = refl; are = refl }

spells : SpellsRules tiny_text tiny_rules
spells = tiny_is_spelled tiny_text are_statements

parts_of : {A : Type 0} (x y : A) (xs ys : List A) → x ∷ xs ≡ y ∷ ys → (x ≡ y) × (xs ≡ ys)
parts_of x y xs ys e = (cc, cc)

-- the statements of a text are one list
one_list : (a b : List (List Lexeme)) → map ended a ≡ map ended b → a ≡ b
one_list [] [] e = refl
one_list [] (y ∷ b) e = cc
one_list (x ∷ a) [] e = cc
one_list (x ∷ a) (y ∷ b) e =
    let parts = parts_of (ended x) (ended y) (map ended a) (map ended b) e in
    let first : x ≡ y = ap (λ (l : MaybeEnded). l.0) parts.0 in
    (λ i. first i ∷ one_list a b parts.1 i)

are_tiny : spells.statements ≡ tiny_lexemes
unfolding tiny_rules
are_tiny = one_list spells.statements tiny_lexemes (sym spells.are.are ∙ are_statements.are)

lexemes_are_few : list_all lexemes_fit tiny_lexemes ≡ true
unfolding tiny_lexemes
lexemes_are_few = refl

formulas_are_short : list_all formula_fits tiny_rules.formulas ≡ true
unfolding tiny_rules nodes
formulas_are_short = refl

stars_are_small : list_all star_fits tiny_rules.stars ≡ true
unfolding tiny_rules nesting
stars_are_small = refl

statements : Statements 1 spells.statements
unfolding tiny_rules
statements = statements_of spells.define (subst (λ (l : List (List Lexeme)). list_all lexemes_fit l ≡ true) (sym are_tiny) lexemes_are_few) formulas_are_short stars_are_small

says : SaysRules tiny_text statements.0
unfolding tiny_rules
says = record {
  are = subst (λ (l : List (List Lexeme)). IsStatements tiny_text l) (sym statements.2) spells.are;
  spelled = subst (λ n. AreSpelled n 1 statements.0) (sym (version_one statements.0 statements.1)) statements.1;
}

ten : length tiny_lexemes ≡ 10
unfolding tiny_lexemes
ten = refl

within : NoneHas IsBeyond statements.0
within =
    let count : length statements.0 ≡ length tiny_lexemes = sym (length-map statements.0 (λ (s : RuleStatement). s.lexemes)) ∙ ap (λ (l : List (List Lexeme)). length l) (statements.2 ∙ are_tiny) in
    none_beyond [] statements.0 (omega (arith, count, ten)) statements.3

tiny_read : ReadsRules tiny_text (Ok tiny_rules)
tiny_read = record { spells = spells; formed = rules_formed tiny_text tiny_rules statements.0 spells says within; fits = rules_fit tiny_text tiny_rules statements.0 spells says within; clear = no_fault tiny_text statements.0 no_text_fault says within }

tiny_length : length tiny_text ≤ 1048576
unfolding tiny_text
tiny_length = omega arith

pub tiny_passes : RulesPass tiny_text tiny_rules
tiny_passes = record { size = tiny_length; read = tiny_read; accepted = tiny_accepted }
