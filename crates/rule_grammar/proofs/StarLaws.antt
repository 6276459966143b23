-- The lexemes of a statement are read as the STAR that they spell, and so as no other.
use Rattle.std.proofs.Common.{◌≡◌, ◌↔◌, ℕ, List, Some, sym, ◌∙◌}
use Rattle.star_model.specs.declared.rules.StarDef.{StarDef}
use Rattle.spelling.specs.Lexemes.{Lexeme}
use Rattle.rule_grammar.specs.Rules.{SpellsStar}
use Rattle.rule_grammar.specs.StarReading.{star_of}
use Rattle.rule_grammar.proofs.StarSpelled.{spelled_star}
use Rattle.rule_grammar.proofs.StarRead.{read_star}

pub star_is_read : (version n : ℕ) (lexemes : List Lexeme) (s : StarDef) → (star_of version n lexemes ≡ Some s) ↔ SpellsStar version n lexemes s
star_is_read version n lexemes s = (spelled_star version n lexemes s, read_star version n lexemes s)

pub one_star : (version n : ℕ) (lexemes : List Lexeme) (s t : StarDef) → SpellsStar version n lexemes s → SpellsStar version n lexemes t → s ≡ t
one_star version n lexemes s t p q =
    let both : Some s ≡ Some t = sym (read_star version n lexemes s p) ∙ read_star version n lexemes t q in
    cc
