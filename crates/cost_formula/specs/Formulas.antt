-- Which lexemes spell a formula.
use Rattle.std.specs.Prelude.{ℕ, List, [], ◌∷◌, map, codes}
use Rattle.star_model.specs.declared.formula.Formula.{Formula}
use Rattle.star_model.specs.declared.formula.Test.TheVariants as test
use Rattle.star_model.specs.declared.formula.Var.{Var}
use Rattle.star_model.specs.declared.formula.Var.TheVariants as var
use Rattle.cost_formula.specs.declared.formula_word.FormulaWord.{FormulaWord}
use Rattle.cost_formula.specs.declared.formula_word.FormulaWord.TheVariants as w
use Rattle.spelling.specs.Lexemes.{Lexeme, Word, Number, Text, Symbol}
use Rattle.spelling.specs.Layout.{spaced}
use Rattle.spelling.specs.Names.{found_in}
use Rattle.cost_formula.specs.FormulaGrammar.{Spells, Whole}
use Rattle.cost_formula.specs.FormulaCanonical.{words_of}

abbrev pub variable_word : Var → List ℕ
variable_word var.Cost1 = codes "cost1"
variable_word var.Rescan1 = codes "rescan1"
variable_word var.Card1 = codes "card1"
variable_word var.Width1 = codes "width1"
variable_word var.Cost2 = codes "cost2"
variable_word var.Rescan2 = codes "rescan2"
variable_word var.Card2 = codes "card2"
variable_word var.Width2 = codes "width2"
variable_word var.Card = codes "card"
variable_word var.Width = codes "width"
variable_word var.Rows = codes "rows"
variable_word var.Pages = codes "pages"
variable_word var.Preds = codes "preds"
variable_word var.Cpu = codes "cpu"
variable_word var.Net = codes "net"
variable_word var.One = codes "one"
variable_word var.Distinct1 = codes "distinct1"
variable_word var.Rows1 = codes "rows1"
variable_word var.Distinct2 = codes "distinct2"
variable_word var.Rows2 = codes "rows2"

-- the variables of a cost formula
abbrev pub cost_variables : List Var
cost_variables =
    var.Cost1 ∷ var.Rescan1 ∷ var.Card1 ∷ var.Width1 ∷ var.Cost2 ∷ var.Rescan2 ∷ var.Card2 ∷ var.Width2
    ∷ var.Card ∷ var.Width ∷ var.Rows ∷ var.Pages ∷ var.Preds ∷ var.Cpu ∷ var.Net ∷ var.One ∷ []

-- the variables of a formula of a selectivity
abbrev pub select_variables : List Var
select_variables = var.Distinct1 ∷ var.Rows1 ∷ var.Distinct2 ∷ var.Rows2 ∷ []

-- the words and the symbols of formulas
abbrev pub formula_keywords : List (List ℕ × FormulaWord)
formula_keywords = (codes "if", w.If) ∷ (codes "then", w.Then) ∷ (codes "else", w.Else) ∷ (codes "min", w.Min) ∷ (codes "max", w.Max) ∷ []

abbrev pub formula_symbols : List (List ℕ × FormulaWord)
formula_symbols =
    (codes "<", w.Test test.Lt) ∷ (codes "<=", w.Test test.Le) ∷ (codes "=", w.Test test.Eq)
    ∷ (codes "+", w.Plus) ∷ (codes "-", w.Minus) ∷ (codes "*", w.Times) ∷ (codes "/", w.Over)
    ∷ (codes "(", w.Open) ∷ (codes ")", w.Close) ∷ (codes ",", w.Comma) ∷ []

abbrev pub variable_rows : List Var → List (List ℕ × FormulaWord) → List (List ℕ × FormulaWord)
variable_rows [] rows = rows
variable_rows (x ∷ xs) rows = (variable_word x, w.Variable x) ∷ variable_rows xs rows

-- what a lexeme stands for in a formula over these variables
unfoldable pub formula_word : List Var → Lexeme → FormulaWord
formula_word variables (Number n) = w.Number n
formula_word variables (Word bytes) = found_in w.Other (variable_rows variables formula_keywords) bytes
formula_word variables (Symbol bytes) = found_in w.Other formula_symbols bytes
formula_word variables (Text bytes) = w.Other

abbrev pub SpellsIn : List Var → List Lexeme → Formula → Type 0
SpellsIn variables lexemes formula = Spells Whole (map (formula_word variables) lexemes) formula

abbrev pub SpellsFormula : List Lexeme → Formula → Type 0
SpellsFormula lexemes formula = SpellsIn cost_variables lexemes formula

abbrev pub SpellsSelect : List Lexeme → Formula → Type 0
SpellsSelect lexemes formula = SpellsIn select_variables lexemes formula

-- ---- how a formula is written

-- a lexeme that stands for the word; a text for the one that stands in no formula
unfoldable pub formula_lexeme : FormulaWord → Lexeme
formula_lexeme (w.Number n) = Number n
formula_lexeme (w.Variable x) = Word (variable_word x)
formula_lexeme w.If = Word (codes "if")
formula_lexeme w.Then = Word (codes "then")
formula_lexeme w.Else = Word (codes "else")
formula_lexeme w.Min = Word (codes "min")
formula_lexeme w.Max = Word (codes "max")
formula_lexeme (w.Test test.Lt) = Symbol (codes "<")
formula_lexeme (w.Test test.Le) = Symbol (codes "<=")
formula_lexeme (w.Test test.Eq) = Symbol (codes "=")
formula_lexeme w.Plus = Symbol (codes "+")
formula_lexeme w.Minus = Symbol (codes "-")
formula_lexeme w.Times = Symbol (codes "*")
formula_lexeme w.Over = Symbol (codes "/")
formula_lexeme w.Open = Symbol (codes "(")
formula_lexeme w.Close = Symbol (codes ")")
formula_lexeme w.Comma = Symbol (codes ",")
formula_lexeme w.Other = Text []

-- the lexemes with the fewest brackets
abbrev pub formula_lexemes : Formula → List Lexeme
formula_lexemes formula = map formula_lexeme (words_of formula)

-- the canonical text, as it stands in a statement
abbrev pub canonical_formula : Formula → List ℕ
canonical_formula formula = spaced (formula_lexemes formula)
