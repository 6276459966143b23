-- The words that spell a formula with the fewest brackets.
use Rattle.std.specs.Prelude.{◌≡◌, refl, ℕ, Bool, true, false, List, [], ◌∷◌, ◌++◌}
use denote.Hole.Carrier.{hidden}
use Rattle.star_model.specs.declared.formula.Formula.{Formula}
use Rattle.star_model.specs.declared.formula.Formula.TheBlock.{hidden-the_row-Formula-0}
use Rattle.star_model.specs.declared.formula.Formula.TheVariants as f
use Rattle.star_model.specs.declared.formula.Test.{Test}
use Rattle.star_model.specs.declared.formula.Var.{Var}
use Rattle.cost_formula.specs.declared.formula_word.FormulaWord.{FormulaWord}
use Rattle.cost_formula.specs.declared.formula_word.FormulaWord.TheVariants as w
use Rattle.star_model.specs.FormulaCases.{Add, Sub, Mul, Div, Min, Max, If}
use Rattle.cost_formula.specs.FormulaGrammar.{Rank, Factor, Term, Sum, Whole}

-- the rule that makes a formula
unfoldable pub rank_of : Formula → Rank
rank_of (f.Number n) = Factor
rank_of (f.Variable x) = Factor
rank_of (Add a b) = Sum
rank_of (Sub a b) = Sum
rank_of (Mul a b) = Term
rank_of (Div a b) = Term
rank_of (Min a b) = Factor
rank_of (Max a b) = Factor
rank_of (If test x y a b) = Whole

-- whether a formula of the first rank may stand where the second is wanted
abbrev pub stands : Rank → Rank → Bool
stands Factor _ = true
stands Term Factor = false
stands Term _ = true
stands Sum Factor = false
stands Sum Term = false
stands Sum _ = true
stands Whole Whole = true
stands Whole _ = false

abbrev pub in_brackets : Bool → List FormulaWord → List FormulaWord
in_brackets true ws = ws
in_brackets false ws = w.Open ∷ (ws ++ w.Close ∷ [])

unfoldable pub words_of : Formula → List FormulaWord
words_of (f.Number n) = w.Number n ∷ []
words_of (f.Variable x) = w.Variable x ∷ []
words_of (Add a b) = in_brackets (stands (rank_of a) Sum) (words_of a) ++ (w.Plus ∷ in_brackets (stands (rank_of b) Term) (words_of b))
words_of (Sub a b) = in_brackets (stands (rank_of a) Sum) (words_of a) ++ (w.Minus ∷ in_brackets (stands (rank_of b) Term) (words_of b))
words_of (Mul a b) = in_brackets (stands (rank_of a) Term) (words_of a) ++ (w.Times ∷ in_brackets (stands (rank_of b) Factor) (words_of b))
words_of (Div a b) = in_brackets (stands (rank_of a) Term) (words_of a) ++ (w.Over ∷ in_brackets (stands (rank_of b) Factor) (words_of b))
words_of (Min a b) = w.Min ∷ (w.Open ∷ (words_of a ++ (w.Comma ∷ (words_of b ++ w.Close ∷ []))))
words_of (Max a b) = w.Max ∷ (w.Open ∷ (words_of a ++ (w.Comma ∷ (words_of b ++ w.Close ∷ []))))
words_of (If test x y a b) =
    w.If ∷ (in_brackets (stands (rank_of x) Sum) (words_of x) ++ (w.Test test ∷ (in_brackets (stands (rank_of y) Sum) (words_of y) ++ (w.Then ∷ (words_of a ++ (w.Else ∷ words_of b))))))

-- ---- what code makes: a lemma for each case, for proofs about code

pub rank_of-Number : (n : ℕ) → rank_of (f.Number n) ≡ Factor
unfolding rank_of
rank_of-Number n = refl

pub rank_of-Variable : (x : Var) → rank_of (f.Variable x) ≡ Factor
unfolding rank_of
rank_of-Variable x = refl

pub rank_of-Add : (a b : Formula) → rank_of (f.Add a b) ≡ Sum
unfolding rank_of hidden-the_row-Formula-0 hidden
rank_of-Add a b = refl

pub rank_of-Sub : (a b : Formula) → rank_of (f.Sub a b) ≡ Sum
unfolding rank_of hidden-the_row-Formula-0 hidden
rank_of-Sub a b = refl

pub rank_of-Mul : (a b : Formula) → rank_of (f.Mul a b) ≡ Term
unfolding rank_of hidden-the_row-Formula-0 hidden
rank_of-Mul a b = refl

pub rank_of-Div : (a b : Formula) → rank_of (f.Div a b) ≡ Term
unfolding rank_of hidden-the_row-Formula-0 hidden
rank_of-Div a b = refl

pub rank_of-Min : (a b : Formula) → rank_of (f.Min a b) ≡ Factor
unfolding rank_of hidden-the_row-Formula-0 hidden
rank_of-Min a b = refl

pub rank_of-Max : (a b : Formula) → rank_of (f.Max a b) ≡ Factor
unfolding rank_of hidden-the_row-Formula-0 hidden
rank_of-Max a b = refl

pub rank_of-If : (test : Test) (x y a b : Formula) → rank_of (f.If test x y a b) ≡ Whole
unfolding rank_of hidden-the_row-Formula-0 hidden
rank_of-If test x y a b = refl

pub ruleset rank_of_cases = (rank_of-Number, rank_of-Variable, rank_of-Add, rank_of-Sub, rank_of-Mul, rank_of-Div, rank_of-Min, rank_of-Max, rank_of-If)

pub words_of-Number : (n : ℕ) → words_of (f.Number n) ≡ w.Number n ∷ []
unfolding words_of
words_of-Number n = refl

pub words_of-Variable : (x : Var) → words_of (f.Variable x) ≡ w.Variable x ∷ []
unfolding words_of
words_of-Variable x = refl

pub words_of-Add : (a b : Formula) → words_of (f.Add a b) ≡ in_brackets (stands (rank_of a) Sum) (words_of a) ++ (w.Plus ∷ in_brackets (stands (rank_of b) Term) (words_of b))
unfolding words_of hidden-the_row-Formula-0 hidden
words_of-Add a b = refl

pub words_of-Sub : (a b : Formula) → words_of (f.Sub a b) ≡ in_brackets (stands (rank_of a) Sum) (words_of a) ++ (w.Minus ∷ in_brackets (stands (rank_of b) Term) (words_of b))
unfolding words_of hidden-the_row-Formula-0 hidden
words_of-Sub a b = refl

pub words_of-Mul : (a b : Formula) → words_of (f.Mul a b) ≡ in_brackets (stands (rank_of a) Term) (words_of a) ++ (w.Times ∷ in_brackets (stands (rank_of b) Factor) (words_of b))
unfolding words_of hidden-the_row-Formula-0 hidden
words_of-Mul a b = refl

pub words_of-Div : (a b : Formula) → words_of (f.Div a b) ≡ in_brackets (stands (rank_of a) Term) (words_of a) ++ (w.Over ∷ in_brackets (stands (rank_of b) Factor) (words_of b))
unfolding words_of hidden-the_row-Formula-0 hidden
words_of-Div a b = refl

pub words_of-Min : (a b : Formula) → words_of (f.Min a b) ≡ w.Min ∷ (w.Open ∷ (words_of a ++ (w.Comma ∷ (words_of b ++ w.Close ∷ []))))
unfolding words_of hidden-the_row-Formula-0 hidden
words_of-Min a b = refl

pub words_of-Max : (a b : Formula) → words_of (f.Max a b) ≡ w.Max ∷ (w.Open ∷ (words_of a ++ (w.Comma ∷ (words_of b ++ w.Close ∷ []))))
unfolding words_of hidden-the_row-Formula-0 hidden
words_of-Max a b = refl

pub words_of-If : (test : Test) (x y a b : Formula)
    → words_of (f.If test x y a b) ≡ w.If ∷ (in_brackets (stands (rank_of x) Sum) (words_of x) ++ (w.Test test ∷ (in_brackets (stands (rank_of y) Sum) (words_of y) ++ (w.Then ∷ (words_of a ++ (w.Else ∷ words_of b))))))
unfolding words_of hidden-the_row-Formula-0 hidden
words_of-If test x y a b = refl

pub ruleset words_of_cases = (words_of-Number, words_of-Variable, words_of-Add, words_of-Sub, words_of-Mul, words_of-Div, words_of-Min, words_of-Max, words_of-If)
