-- A statement defines a formula where its head and its formula are read.
use Rattle.std.proofs.Common.{◌≡◌, ℕ, true, List, [], ◌∷◌, drop, Some, None, refl, subst, sym, ◌∙◌}
use Rattle.std.proofs.lemmas.Option.{none-some}
use Rattle.sb_text.specs.declared.token.Token.{Token}
use Rattle.star_model.specs.declared.formula.Formula.{Formula}
use Rattle.star_model.specs.declared.rules.FormulaDef.{FormulaDef}
use Rattle.spelling.specs.Lexemes.{Lexeme, Word, lexemes_of, equals}
use Rattle.star_model.specs.FlavourWords.{which_word, flavour_word, is_flavour_of}
use Rattle.cost_formula.specs.Formulas.{SpellsFormula}
use Rattle.rule_grammar.specs.FormulaHeads.{FormulaHead, formula_head_at}
use Rattle.rule_grammar.specs.Rules.{SpellsFormulaDef}
use Rattle.rule_grammar.proofs.Laws.{formula_head_reads}

abbrev head_of : FormulaDef → FormulaHead
head_of d = record { which = d.which; flavour = d.flavour }

pub no_head : (version n : ℕ) (lexemes : List Lexeme) → formula_head_at version lexemes ≡ None → (d : FormulaDef) → SpellsFormulaDef version n lexemes d → ⊥
no_head version n lexemes none d spells = none-some _ (sym none ∙ (formula_head_reads version lexemes (head_of d) spells.formula).1 (spells.known, spells.are))

-- the lexemes of the head are three
pub head_and_formula : (version n : ℕ) (source : List ℕ) (tokens : List Token) (rest : List Lexeme) (head : FormulaHead) (f : Formula)
    → formula_head_at version (lexemes_of source tokens) ≡ Some (head, rest) → SpellsFormula (lexemes_of source (drop 3 tokens)) f
    → SpellsFormulaDef version n (lexemes_of source tokens) (record { statement = n; flavour = head.flavour; which = head.which; formula = f })
head_and_formula version n source tokens rest head f read spells =
    let stands = (formula_head_reads version (lexemes_of source tokens) head rest).0 read in
    at tokens stands.0 stands.1 spells
  where
    at : (tokens : List Token) → is_flavour_of version head.flavour ≡ true → lexemes_of source tokens ≡ Word (which_word head.which) ∷ Word (flavour_word head.flavour) ∷ equals ∷ rest → SpellsFormula (lexemes_of source (drop 3 tokens)) f
        → SpellsFormulaDef version n (lexemes_of source tokens) (record { statement = n; flavour = head.flavour; which = head.which; formula = f })
    at [] known are spells = absurd cc
    at (a ∷ []) known are spells = absurd cc
    at (a ∷ b ∷ []) known are spells = absurd cc
    at (a ∷ b ∷ c ∷ behind) known are spells =
        let same : lexemes_of source behind ≡ rest = cc in
        record { known = known; number = refl; formula = rest; are = are; spelled = subst (λ (l : List Lexeme). SpellsFormula l f) same spells }
