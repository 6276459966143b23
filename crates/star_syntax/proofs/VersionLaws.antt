-- The statements of a text say the version that its first statement is for.
use Rattle.std.proofs.Common.{◌≡◌, ℕ, true, false, List, [], ◌∷◌, map, refl, ap, ◌∙◌}
use Rattle.std.proofs.lemmas.Bool.{both_ways}
use Rattle.spelling.specs.Lexemes.{Lexeme, ended}
use Rattle.rule_grammar.specs.Rules.{Definition, OfVersion, OfSelect, OfFormula, OfStar}
use Rattle.rule_grammar.specs.RuleLimits.{RuleStatement, SpellsNumbered, AreSpelled, version_of, version_said}
use Rattle.star_syntax.specs.Statements.{lists_of}
use Rattle.star_syntax.specs.Versions.{is_version_statement, version_by, version_in}

pub says_not : (version n : ℕ) (lexemes : List Lexeme) → is_version_statement version n lexemes ≡ false → SpellsNumbered version n lexemes OfVersion → ⊥
says_not version n lexemes h says =
    let test : is_version_statement version n lexemes ≡ true = ap (λ k. is_version_statement version k lexemes) says.0 ∙ ap (λ v. is_version_statement v 1 lexemes) says.1 ∙ ap (is_version_statement 2 1) says.2 in
    both_ways (is_version_statement version n lexemes) h test

-- what a statement is for, as the first
pub first_says : (version n : ℕ) (lexemes : List Lexeme) (d : Definition) → SpellsNumbered version n lexemes d → version_by (ended lexemes) ≡ version_of d
first_says version n lexemes OfVersion spells = ap (λ l. version_by (ended l)) spells.2
first_says version n lexemes (OfSelect d) spells = ap (λ l. version_by (ended l)) spells.are
first_says version n lexemes (OfFormula d) spells = ap (λ l. version_by (ended l)) spells.are
first_says version n lexemes (OfStar s) spells = ap (λ l. version_by (ended l)) spells.are

pub statements_say : (version n : ℕ) (statements : List RuleStatement) → AreSpelled version n statements → version_in (map ended (lists_of statements)) ≡ version_said statements
statements_say version n [] spelled = refl
statements_say version n (s ∷ later) spelled = first_says version n s.lexemes s.defines spelled.0
