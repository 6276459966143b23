-- A statement that is read as none of what it may be for isn't understood.
use Rattle.std.proofs.Common.{◌≡◌, ◌<◌, ◌^◌, ℕ, List, ◌∷◌, true, false, codes, length, None, ap, arith, sym, ◌∙◌, length-append}
use Rattle.std.proofs.lemmas.Option.{none-some}
use Rattle.std.proofs.lemmas.List.{length-map}
use Rattle.sb_text.specs.declared.token.Token.{Token}
use Rattle.star_model.specs.declared.rules.SelectDef.{SelectDef}
use Rattle.star_model.specs.declared.rules.FormulaDef.{FormulaDef}
use Rattle.spelling.specs.Lexemes.{Lexeme, Word, MaybeEnded, lexeme_of, lexemes_of}
use Rattle.spelling.specs.Syntax.{IsUnderstood}
use Rattle.rule_grammar.specs.Rules.{OfVersion, OfSelect, OfFormula, OfStar, SpellsSelectDef, SpellsFormulaDef}
use Rattle.rule_grammar.specs.RuleLimits.{SpellsNumbered}
use Rattle.rule_grammar.specs.StarReading.{star_of}
use Rattle.rule_grammar.proofs.Laws.{star_is_read}
use Rattle.cost_formula.specs.Formulas.{cost_variables, select_variables}
use Rattle.cost_formula.proofs.Laws.{few_nodes}
use Rattle.star_syntax.specs.declared.definition.Definition.{Definition}
use Rattle.star_syntax.specs.declared.definition.Definition.TheVariants.{Version, Select, Formula, Star}
use Rattle.star_syntax.specs.Definitions.{defined, HasFewNodes}

pub none_of : (version n : ℕ) (statement : MaybeEnded) → (SpellsNumbered version n statement.0 OfVersion → ⊥) → ((d : SelectDef) → SpellsSelectDef version n statement.0 d → ⊥)
    → ((d : FormulaDef) → SpellsFormulaDef version n statement.0 d → ⊥) → star_of version n statement.0 ≡ None → IsUnderstood (SpellsNumbered version n) statement → ⊥
none_of version n (lexemes, false) no_version no_select no_formula no_star is = is
none_of version n (lexemes, true) no_version no_select no_formula no_star (OfVersion, spells) = no_version spells
none_of version n (lexemes, true) no_version no_select no_formula no_star (OfSelect d, spells) = no_select d spells
none_of version n (lexemes, true) no_version no_select no_formula no_star (OfFormula d, spells) = no_formula d spells
none_of version n (lexemes, true) no_version no_select no_formula no_star (OfStar s, spells) = none-some _ (sym no_star ∙ (star_is_read version n lexemes s).1 spells)

-- a formula has no more nodes than its statement has lexemes
pub few_nodes_defined : (version n : ℕ) (source : List ℕ) (tokens : List Token) (definition : Definition) → SpellsNumbered version n (lexemes_of source tokens) (defined definition)
    → length tokens < 2 ^ 64 → HasFewNodes definition
few_nodes_defined version n source tokens Version spells few = tt
few_nodes_defined version n source tokens (Select d) spells few =
    let size = ap (λ (l : List Lexeme). length l) spells.are in
    let parts = length-append spells.num (Word (codes "per") ∷ spells.den) in
    let count = length-map tokens (lexeme_of source) in (
      omega (arith, few_nodes select_variables spells.num d.num spells.spelled_num, size, parts, count, few),
      omega (arith, few_nodes select_variables spells.den d.den spells.spelled_den, size, parts, count, few),
    )
few_nodes_defined version n source tokens (Formula d) spells few =
    let size = ap (λ (l : List Lexeme). length l) spells.are in
    omega (arith, few_nodes cost_variables spells.formula d.formula spells.spelled, size, length-map tokens (lexeme_of source), few)
few_nodes_defined version n source tokens (Star s) spells few = tt
