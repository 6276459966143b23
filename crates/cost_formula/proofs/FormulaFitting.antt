-- The numbers of a formula are those of the words that spell it.
use Rattle.std.proofs.Common.{◌^◌, ◌<◌, List, [], ◌∷◌, map, codes, refl}
use Rattle.star_model.specs.declared.formula.Formula.{Formula}
use Rattle.star_model.specs.declared.formula.Formula.TheVariants as f
use Rattle.star_model.specs.declared.formula.Test.TheVariants as test
use Rattle.star_model.specs.declared.formula.Var.{Var}
use Rattle.star_model.specs.declared.formula.Var.TheVariants as var
use Rattle.star_model.specs.FormulaCases.{Add, Sub, Mul, Div, Min, Max, If}
use Rattle.cost_formula.specs.declared.formula_word.FormulaWord.{FormulaWord}
use Rattle.cost_formula.specs.declared.formula_word.FormulaWord.TheVariants as w
use Rattle.spelling.specs.Lexemes.{Lexeme, Word, Number, Text, Symbol}
use Rattle.star_model.specs.Every.{Every}
use Rattle.spelling.specs.Layout.{IsLexeme}
use Rattle.cost_formula.specs.FormulaGrammar as g
use Rattle.cost_formula.specs.FormulaGrammar.{Rank, Spells}
use Rattle.cost_formula.specs.FormulaCanonical.{words_of}
use Rattle.cost_formula.specs.Formulas.{formula_word, formula_lexeme, formula_lexemes, variable_word, SpellsIn}
use Rattle.spelling.specs.FormedLexemes.{Formed, every_both, every_front, every_back, given_word, given_symbol}
use Rattle.cost_formula.proofs.FormulaCanon.{canonical_spells}
use Rattle.cost_formula.proofs.FormulaWords.{every, word_has, symbol_has}

-- a number that a token can write
FitsWord : FormulaWord → Type 0
FitsWord (w.Number n) = n < 10 ^ 19
FitsWord _ = Unit {0}

Fits : Formula → Type 0
Fits (f.Number n) = n < 10 ^ 19
Fits (f.Variable x) = Unit {0}
Fits (Add a b) = Fits a × Fits b
Fits (Sub a b) = Fits a × Fits b
Fits (Mul a b) = Fits a × Fits b
Fits (Div a b) = Fits a × Fits b
Fits (Min a b) = Fits a × Fits b
Fits (Max a b) = Fits a × Fits b
Fits (If t x y a b) = Fits x × Fits y × Fits a × Fits b

abbrev All : List FormulaWord → Type 0
All ws = Every FitsWord ws

-- ---- from the words to the formula

fits : {r : Rank} {ws : List FormulaWord} {x : Formula} → Spells r ws x → All ws → Fits x
unfolding FitsWord Fits
fits g.number h = h.0
fits g.variable h = tt
fits (g.brackets {a} p) h = fits p (every_front FitsWord a (w.Close ∷ []) h.1)
fits (g.minimum {a} {b} p q) h = let k = every_back FitsWord a _ h.1.1 in (fits p (every_front FitsWord a _ h.1.1), fits q (every_front FitsWord b (w.Close ∷ []) k.1))
fits (g.maximum {a} {b} p q) h = let k = every_back FitsWord a _ h.1.1 in (fits p (every_front FitsWord a _ h.1.1), fits q (every_front FitsWord b (w.Close ∷ []) k.1))
fits (g.factor p) h = fits p h
fits (g.product {a} {b} p q) h = (fits p (every_front FitsWord a (w.Times ∷ b) h), fits q (every_back FitsWord a (w.Times ∷ b) h).1)
fits (g.quotient {a} {b} p q) h = (fits p (every_front FitsWord a (w.Over ∷ b) h), fits q (every_back FitsWord a (w.Over ∷ b) h).1)
fits (g.term p) h = fits p h
fits (g.sum {a} {b} p q) h = (fits p (every_front FitsWord a (w.Plus ∷ b) h), fits q (every_back FitsWord a (w.Plus ∷ b) h).1)
fits (g.difference {a} {b} p q) h = (fits p (every_front FitsWord a (w.Minus ∷ b) h), fits q (every_back FitsWord a (w.Minus ∷ b) h).1)
fits (g.whole p) h = fits p h
fits (g.conditional {a} {b} {c} {d} t p q m n) h =
    let k = (every_back FitsWord a _ h.1).1 in
    let l = (every_back FitsWord b _ k).1 in
    (fits p (every_front FitsWord a _ h.1), fits q (every_front FitsWord b _ k), fits m (every_front FitsWord c _ l), fits n (every_back FitsWord c _ l).1)

-- ---- and back

all_fit : {r : Rank} {ws : List FormulaWord} {x : Formula} → Spells r ws x → Fits x → All ws
unfolding FitsWord Fits
all_fit g.number h = (h, tt)
all_fit g.variable h = (tt, tt)
all_fit (g.brackets {a} p) h = (tt, every_both FitsWord a (w.Close ∷ []) (all_fit p h) (tt, tt))
all_fit (g.minimum {a} {b} p q) h = (tt, (tt, every_both FitsWord a _ (all_fit p h.0) (tt, every_both FitsWord b (w.Close ∷ []) (all_fit q h.1) (tt, tt))))
all_fit (g.maximum {a} {b} p q) h = (tt, (tt, every_both FitsWord a _ (all_fit p h.0) (tt, every_both FitsWord b (w.Close ∷ []) (all_fit q h.1) (tt, tt))))
all_fit (g.factor p) h = all_fit p h
all_fit (g.product {a} {b} p q) h = every_both FitsWord a (w.Times ∷ b) (all_fit p h.0) (tt, all_fit q h.1)
all_fit (g.quotient {a} {b} p q) h = every_both FitsWord a (w.Over ∷ b) (all_fit p h.0) (tt, all_fit q h.1)
all_fit (g.term p) h = all_fit p h
all_fit (g.sum {a} {b} p q) h = every_both FitsWord a (w.Plus ∷ b) (all_fit p h.0) (tt, all_fit q h.1)
all_fit (g.difference {a} {b} p q) h = every_both FitsWord a (w.Minus ∷ b) (all_fit p h.0) (tt, all_fit q h.1)
all_fit (g.whole p) h = all_fit p h
all_fit (g.conditional {a} {b} {c} {d} t p q m n) h =
    (tt, every_both FitsWord a _ (all_fit p h.0) (tt, every_both FitsWord b _ (all_fit q h.1) (tt, every_both FitsWord c (w.Else ∷ d) (all_fit m h.2) (tt, all_fit n h.3))))

-- ---- the words of lexemes, and the lexemes of words

module _ (variables : List Var) where
  word_fits : (x : Lexeme) → IsLexeme x → FitsWord (formula_word variables x)
  unfolding FitsWord formula_word
  word_fits (Word bytes) h = word_has FitsWord tt variables bytes (every (λ x. FitsWord (w.Variable x)) (λ x. tt) variables) (tt, (tt, (tt, (tt, (tt, tt)))))
  word_fits (Number n) h = h
  word_fits (Text bytes) h = tt
  word_fits (Symbol bytes) h = symbol_has FitsWord tt variables bytes (tt, (tt, (tt, (tt, (tt, (tt, (tt, (tt, (tt, (tt, tt))))))))))

  words_fit : (lexemes : List Lexeme) → Formed lexemes → All (map (formula_word variables) lexemes)
  words_fit [] h = tt
  words_fit (x ∷ lexemes) h = (word_fits x h.0, words_fit lexemes h.1)

a_variable : (x : Var) → IsLexeme (Word (variable_word x))
a_variable var.Cost1 = given_word (codes "cost1") refl
a_variable var.Rescan1 = given_word (codes "rescan1") refl
a_variable var.Card1 = given_word (codes "card1") refl
a_variable var.Width1 = given_word (codes "width1") refl
a_variable var.Cost2 = given_word (codes "cost2") refl
a_variable var.Rescan2 = given_word (codes "rescan2") refl
a_variable var.Card2 = given_word (codes "card2") refl
a_variable var.Width2 = given_word (codes "width2") refl
a_variable var.Card = given_word (codes "card") refl
a_variable var.Width = given_word (codes "width") refl
a_variable var.Rows = given_word (codes "rows") refl
a_variable var.Pages = given_word (codes "pages") refl
a_variable var.Preds = given_word (codes "preds") refl
a_variable var.Cpu = given_word (codes "cpu") refl
a_variable var.Net = given_word (codes "net") refl
a_variable var.One = given_word (codes "one") refl
a_variable var.Distinct1 = given_word (codes "distinct1") refl
a_variable var.Rows1 = given_word (codes "rows1") refl
a_variable var.Distinct2 = given_word (codes "distinct2") refl
a_variable var.Rows2 = given_word (codes "rows2") refl

a_formula_lexeme : (x : FormulaWord) → FitsWord x → IsLexeme (formula_lexeme x)
unfolding FitsWord formula_lexeme
a_formula_lexeme (w.Number n) h = h
a_formula_lexeme (w.Variable x) h = a_variable x
a_formula_lexeme w.If h = given_word (codes "if") refl
a_formula_lexeme w.Then h = given_word (codes "then") refl
a_formula_lexeme w.Else h = given_word (codes "else") refl
a_formula_lexeme w.Min h = given_word (codes "min") refl
a_formula_lexeme w.Max h = given_word (codes "max") refl
a_formula_lexeme (w.Test test.Lt) h = given_symbol (codes "<") refl refl
a_formula_lexeme (w.Test test.Le) h = given_symbol (codes "<=") refl refl
a_formula_lexeme (w.Test test.Eq) h = given_symbol (codes "=") refl refl
a_formula_lexeme w.Plus h = given_symbol (codes "+") refl refl
a_formula_lexeme w.Minus h = given_symbol (codes "-") refl refl
a_formula_lexeme w.Times h = given_symbol (codes "*") refl refl
a_formula_lexeme w.Over h = given_symbol (codes "/") refl refl
a_formula_lexeme w.Open h = given_symbol (codes "(") refl refl
a_formula_lexeme w.Close h = given_symbol (codes ")") refl refl
a_formula_lexeme w.Comma h = given_symbol (codes ",") refl refl
a_formula_lexeme w.Other h = tt

lexemes_formed : (ws : List FormulaWord) → All ws → Formed (map formula_lexeme ws)
lexemes_formed [] h = tt
lexemes_formed (x ∷ ws) h = (a_formula_lexeme x h.0, lexemes_formed ws h.1)

pub formed_formula : (variables : List Var) (lexemes : List Lexeme) (x : Formula) → SpellsIn variables lexemes x → Formed lexemes → Formed (formula_lexemes x)
formed_formula variables lexemes x p h = lexemes_formed (words_of x) (all_fit (canonical_spells x) (fits p (words_fit variables lexemes h)))
