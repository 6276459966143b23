-- The lexemes of a formula are those of its parts.
use Rattle.std.proofs.Common.{◌≡◌, ℕ, true, false, List, [], ◌∷◌, ◌++◌, map, codes, refl, sym, ap, ◌∙◌, append_assoc}
use Rattle.std.proofs.lemmas.List.{map-append}
use Rattle.star_model.specs.declared.formula.Formula.{Formula}
use Rattle.star_model.specs.declared.formula.Formula.TheVariants as made
use Rattle.star_model.specs.declared.formula.Test.{Test}
use Rattle.star_model.specs.declared.formula.Test.TheVariants as test
use Rattle.star_model.specs.declared.formula.Var.{Var}
use Rattle.cost_formula.specs.declared.formula_word.FormulaWord.{FormulaWord}
use Rattle.cost_formula.specs.declared.formula_word.FormulaWord.TheVariants as w
use Rattle.spelling.specs.Lexemes.{Lexeme, Word, Number, Symbol, bracketed, comma}
use Rattle.cost_formula.specs.FormulaGrammar.{Rank, Factor, Term, Sum}
use Rattle.cost_formula.specs.FormulaCanonical.{rank_of, stands, in_brackets, words_of, words_of-Number, words_of-Variable, words_of-Add, words_of-Sub, words_of-Mul, words_of-Div, words_of-Min, words_of-Max, words_of-If}
use Rattle.cost_formula.specs.Formulas.{variable_word, formula_lexeme, formula_lexemes}
use Rattle.spelling.proofs.Laws.{puts-none, puts-more, puts-append, written-spaced}
use Rattle.cost_formula.specs.Printing.{test_sign, operand_lexemes}

abbrev lexemes : List FormulaWord → List Lexeme
lexemes words = map formula_lexeme words

-- a word between two lists
between : (a : List FormulaWord) (x : FormulaWord) (b : List FormulaWord) → lexemes (a ++ x ∷ b) ≡ lexemes a ++ formula_lexeme x ∷ lexemes b
between a x b = map-append formula_lexeme a (x ∷ b)

-- ---- an operand

pub bare : (wanted : Rank) (x : Formula) → stands (rank_of x) wanted ≡ true → operand_lexemes wanted x ≡ formula_lexemes x
unfolding operand_lexemes
bare wanted x h = ap (λ b. lexemes (in_brackets b (words_of x))) h

pub enclosed : (wanted : Rank) (x : Formula) → stands (rank_of x) wanted ≡ false → operand_lexemes wanted x ≡ bracketed (formula_lexemes x)
unfolding operand_lexemes formula_lexeme
enclosed wanted x h = ap (λ b. lexemes (in_brackets b (words_of x))) h ∙ ap (λ later. formula_lexeme w.Open ∷ later) (between (words_of x) w.Close [])

-- ---- each kind of formula

pub lexemes-Number : (n : ℕ) → formula_lexemes (made.Number n) ≡ Number n ∷ []
unfolding formula_lexeme
lexemes-Number n = ap lexemes (words_of-Number n)

pub lexemes-Variable : (x : Var) → formula_lexemes (made.Variable x) ≡ Word (variable_word x) ∷ []
unfolding formula_lexeme
lexemes-Variable x = ap lexemes (words_of-Variable x)

-- a word between two operands
around : (r : Rank) (a : Formula) (x : FormulaWord) (s : Rank) (b : Formula)
    → lexemes (in_brackets (stands (rank_of a) r) (words_of a) ++ (x ∷ in_brackets (stands (rank_of b) s) (words_of b))) ≡ operand_lexemes r a ++ formula_lexeme x ∷ operand_lexemes s b
unfolding operand_lexemes
around r a x s b = between (in_brackets (stands (rank_of a) r) (words_of a)) x (in_brackets (stands (rank_of b) s) (words_of b))

pub lexemes-Add : (a b : Formula) → formula_lexemes (made.Add a b) ≡ operand_lexemes Sum a ++ Symbol (codes "+") ∷ operand_lexemes Term b
unfolding formula_lexeme
lexemes-Add a b = ap lexemes (words_of-Add a b) ∙ around Sum a w.Plus Term b

pub lexemes-Sub : (a b : Formula) → formula_lexemes (made.Sub a b) ≡ operand_lexemes Sum a ++ Symbol (codes "-") ∷ operand_lexemes Term b
unfolding formula_lexeme
lexemes-Sub a b = ap lexemes (words_of-Sub a b) ∙ around Sum a w.Minus Term b

pub lexemes-Mul : (a b : Formula) → formula_lexemes (made.Mul a b) ≡ operand_lexemes Term a ++ Symbol (codes "*") ∷ operand_lexemes Factor b
unfolding formula_lexeme
lexemes-Mul a b = ap lexemes (words_of-Mul a b) ∙ around Term a w.Times Factor b

pub lexemes-Div : (a b : Formula) → formula_lexemes (made.Div a b) ≡ operand_lexemes Term a ++ Symbol (codes "/") ∷ operand_lexemes Factor b
unfolding formula_lexeme
lexemes-Div a b = ap lexemes (words_of-Div a b) ∙ around Term a w.Over Factor b

-- two formulas in brackets
arguments : (a b : Formula) → lexemes (w.Open ∷ (words_of a ++ (w.Comma ∷ (words_of b ++ w.Close ∷ [])))) ≡ bracketed (formula_lexemes a ++ comma ∷ formula_lexemes b)
unfolding formula_lexeme
arguments a b =
    let close : Lexeme = formula_lexeme w.Close in
    ap (λ later. formula_lexeme w.Open ∷ later) (
    between (words_of a) w.Comma (words_of b ++ w.Close ∷ [])
    ∙ ap (λ later. formula_lexemes a ++ comma ∷ later) (between (words_of b) w.Close [])
    ∙ sym (append_assoc (formula_lexemes a) (comma ∷ formula_lexemes b) (close ∷ []))
    )

pub lexemes-Min : (a b : Formula) → formula_lexemes (made.Min a b) ≡ Word (codes "min") ∷ bracketed (formula_lexemes a ++ comma ∷ formula_lexemes b)
unfolding formula_lexeme
lexemes-Min a b = ap lexemes (words_of-Min a b) ∙ ap (λ later. formula_lexeme w.Min ∷ later) (arguments a b)

pub lexemes-Max : (a b : Formula) → formula_lexemes (made.Max a b) ≡ Word (codes "max") ∷ bracketed (formula_lexemes a ++ comma ∷ formula_lexemes b)
unfolding formula_lexeme
lexemes-Max a b = ap lexemes (words_of-Max a b) ∙ ap (λ later. formula_lexeme w.Max ∷ later) (arguments a b)

sign_lexeme : (t : Test) → formula_lexeme (w.Test t) ≡ Symbol (test_sign t)
unfolding formula_lexeme
sign_lexeme test.Lt = refl
sign_lexeme test.Le = refl
sign_lexeme test.Eq = refl

pub lexemes-If : (t : Test) (x y a b : Formula)
    → formula_lexemes (made.If t x y a b) ≡ Word (codes "if") ∷ ((operand_lexemes Sum x ++ Symbol (test_sign t) ∷ operand_lexemes Sum y) ++ Word (codes "then") ∷ (formula_lexemes a ++ Word (codes "else") ∷ formula_lexemes b))
unfolding formula_lexeme
lexemes-If t x y a b =
    let compared = in_brackets (stands (rank_of x) Sum) (words_of x) in
    let with = in_brackets (stands (rank_of y) Sum) (words_of y) in
    let branches = w.Then ∷ (words_of a ++ (w.Else ∷ words_of b)) in
    ap lexemes (words_of-If t x y a b)
    ∙ ap (λ later. Word (codes "if") ∷ later) (
    ap lexemes (sym (append_assoc compared (w.Test t ∷ with) branches))
    ∙ map-append formula_lexeme (compared ++ w.Test t ∷ with) branches
    ∙ ap (λ later. lexemes (compared ++ w.Test t ∷ with) ++ Word (codes "then") ∷ later) (between (words_of a) w.Else (words_of b))
    ∙ ap (λ test. test ++ Word (codes "then") ∷ (formula_lexemes a ++ Word (codes "else") ∷ formula_lexemes b)) (
    around Sum x (w.Test t) Sum y ∙ ap (λ sign. operand_lexemes Sum x ++ sign ∷ operand_lexemes Sum y) (sign_lexeme t)
    )
    )

pub ruleset operands = (bare, enclosed, puts-none, puts-more, puts-append)

pub ruleset parts = (lexemes-Number, lexemes-Variable, lexemes-Add, lexemes-Sub, lexemes-Mul, lexemes-Div, lexemes-Min, lexemes-Max, lexemes-If, puts-none, puts-more, puts-append)

pub ruleset texts = (written-spaced)
