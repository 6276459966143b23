-- What the words of lexemes have, whichever variables may be named.
use Rattle.std.proofs.Common.{ℕ, Bool, true, false, if◌then◌else◌, List, [], ◌∷◌}
use Rattle.star_model.specs.Vectors.{same_numbers}
use Rattle.star_model.specs.Every.{Every}
use Rattle.star_model.specs.declared.formula.Var.{Var}
use Rattle.cost_formula.specs.declared.formula_word.FormulaWord.{FormulaWord}
use Rattle.cost_formula.specs.declared.formula_word.FormulaWord.TheVariants as w
use Rattle.spelling.specs.Lexemes.{Word, Symbol}
use Rattle.spelling.specs.Names.{found_in}
use Rattle.cost_formula.specs.Formulas.{formula_word, variable_rows, formula_keywords, formula_symbols}

pub every : {A : Type 0} (P : A → Type 0) → ((x : A) → P x) → (xs : List A) → Every P xs
every P has [] = tt
every P has (x ∷ xs) = (has x, every P has xs)

-- a property that `Other` has
module _ (P : FormulaWord → Type 0) (other : P w.Other) where
  abbrev Row : List ℕ × FormulaWord → Type 0
  Row row = P row.1

  found : (rows : List (List ℕ × FormulaWord)) (bytes : List ℕ) → Every Row rows → P (found_in w.Other rows bytes)
  found [] bytes h = other
  found (row ∷ rows) bytes h = at (same_numbers row.0 bytes) (found rows bytes h.1) where
    at : (b : Bool) → P (found_in w.Other rows bytes) → P (if b then row.1 else found_in w.Other rows bytes)
    at true later = h.0
    at false later = later

  named : (variables : List Var) → Every (λ x. P (w.Variable x)) variables → Every Row formula_keywords → Every Row (variable_rows variables formula_keywords)
  named [] h keywords = keywords
  named (x ∷ variables) h keywords = (h.0, named variables h.1 keywords)

  pub word_has : (variables : List Var) (bytes : List ℕ) → Every (λ x. P (w.Variable x)) variables → Every Row formula_keywords → P (formula_word variables (Word bytes))
  unfolding formula_word
  word_has variables bytes h keywords = found (variable_rows variables formula_keywords) bytes (named variables h keywords)

  pub symbol_has : (variables : List Var) (bytes : List ℕ) → Every Row formula_symbols → P (formula_word variables (Symbol bytes))
  unfolding formula_word
  symbol_has variables bytes symbols = found formula_symbols bytes symbols
