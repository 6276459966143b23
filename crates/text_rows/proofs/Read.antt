-- What is read of a text is small.
use Rattle.std.proofs.Common.{◌≤◌, ◌<◌, ℕ, List, length, subst, arith}
use Rattle.std.proofs.lemmas.List.{length-map}
use Rattle.sb_text.specs.Refusal.{AreTokens}
use Rattle.sb_text.specs.Tokens.{Lexed}
use Rattle.sb_text.specs.declared.token.Token.{Token}
use Rattle.sb_text.proofs.Laws.{length-lexed}
use Rattle.star_model.specs.Monotone.{nodes}
use Rattle.star_model.specs.declared.formula.Formula.{Formula}
use Rattle.spelling.specs.Lexemes.{lexeme_of, lexemes_of}
use Rattle.spelling.specs.Cursors.{AreTokensOf}
use Rattle.cost_formula.specs.Formulas.{cost_variables, SpellsFormula}
use Rattle.spelling.proofs.Laws.{own_tokens}
use Rattle.cost_formula.proofs.Laws.{few_nodes}

pub are_tokens : (source : List ℕ) (tokens : List Token) → AreTokens source tokens → AreTokensOf source tokens
are_tokens source tokens are = subst (λ (l : Lexed). AreTokensOf source l.0) are.lexed (own_tokens source)

pub small : (source : List ℕ) (tokens : List Token) (f : Formula) → AreTokens source tokens → length source ≤ 1048576 → SpellsFormula (lexemes_of source tokens) f → length (nodes f) < 4294967296
small source tokens f are short spells =
    let few : length tokens ≤ length source = subst (λ (l : Lexed). length l.0 ≤ length source) are.lexed (length-lexed source) in
    omega (arith, few, short, few_nodes cost_variables (lexemes_of source tokens) f spells, length-map tokens (lexeme_of source))

pub ruleset reads = (are_tokens, small)
