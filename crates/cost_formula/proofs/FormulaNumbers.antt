-- All spellings of a formula have the same numbers.
use Rattle.std.proofs.Common.{◌≡◌, ◌<◌, ◌⊎◌, inl, inr, ℕ, List, [], ◌∷◌, ◌++◌, map, sym, ◌∙◌, refl, subst, append-nil}
use Rattle.std.specs.List.{flat_map}
use Rattle.std.proofs.lemmas.Grind.{flat_map-append}
use Rattle.star_model.specs.Numbers.{top}
use Rattle.star_model.specs.declared.formula.Formula.{Formula}
use Rattle.star_model.specs.declared.formula.Var.{Var}
use Rattle.star_model.specs.declared.formula.Test.TheVariants as test
use Rattle.star_model.specs.declared.formula.Formula.TheVariants as f
use Rattle.star_model.specs.FormulaCases.{Add, Sub, Mul, Div, Min, Max, If}
use Rattle.cost_formula.specs.declared.formula_word.FormulaWord.{FormulaWord}
use Rattle.cost_formula.specs.declared.formula_word.FormulaWord.TheVariants as w
use Rattle.spelling.specs.Lexemes.{Lexeme, Word, Number, Text, Symbol}
use Rattle.spelling.specs.Limits.{HasGreatNumber}
use Rattle.cost_formula.specs.FormulaGrammar as g
use Rattle.cost_formula.specs.FormulaGrammar.{Rank, Spells}
use Rattle.cost_formula.specs.FormulaCanonical.{words_of}
use Rattle.cost_formula.specs.Formulas.{formula_word, formula_lexeme, formula_lexemes, SpellsIn}
use Rattle.cost_formula.proofs.FormulaCanon.{canonical_spells}
use Rattle.cost_formula.proofs.FormulaWords.{every, word_has, symbol_has}

-- ---- the numbers of words and of formulas

abbrev number_in : FormulaWord → List ℕ
number_in (w.Number n) = n ∷ []
number_in (w.Variable x) = []
number_in w.If = []
number_in w.Then = []
number_in w.Else = []
number_in w.Min = []
number_in w.Max = []
number_in (w.Test test) = []
number_in w.Plus = []
number_in w.Minus = []
number_in w.Times = []
number_in w.Over = []
number_in w.Open = []
number_in w.Close = []
number_in w.Comma = []
number_in w.Other = []

abbrev numbers : List FormulaWord → List ℕ
numbers words = flat_map number_in words

constants : Formula → List ℕ
constants (f.Number n) = n ∷ []
constants (f.Variable x) = []
constants (Add a b) = constants a ++ constants b
constants (Sub a b) = constants a ++ constants b
constants (Mul a b) = constants a ++ constants b
constants (Div a b) = constants a ++ constants b
constants (Min a b) = constants a ++ constants b
constants (Max a b) = constants a ++ constants b
constants (If test x y a b) = constants x ++ (constants y ++ (constants a ++ constants b))

parts : (a b : List FormulaWord) → numbers (a ++ b) ≡ numbers a ++ numbers b
parts a b = flat_map-append number_in a b

-- what stands before a closing bracket
closed : (a : List FormulaWord) → numbers (a ++ w.Close ∷ []) ≡ numbers a
closed a = parts a (w.Close ∷ []) ∙ append-nil (numbers a)

same : {r : Rank} {ws : List FormulaWord} {x : Formula} → Spells r ws x → numbers ws ≡ constants x
unfolding constants
same g.number = refl
same g.variable = refl
same (g.brackets {a = a} h) = closed a ∙ same h
same (g.minimum {a = a} {b = b} h k) = parts a (w.Comma ∷ (b ++ w.Close ∷ [])) ∙ rw (closed b, same h, same k) refl
same (g.maximum {a = a} {b = b} h k) = parts a (w.Comma ∷ (b ++ w.Close ∷ [])) ∙ rw (closed b, same h, same k) refl
same (g.factor h) = same h
same (g.product {a = a} {b = b} h k) = parts a (w.Times ∷ b) ∙ rw (same h, same k) refl
same (g.quotient {a = a} {b = b} h k) = parts a (w.Over ∷ b) ∙ rw (same h, same k) refl
same (g.term h) = same h
same (g.sum {a = a} {b = b} h k) = parts a (w.Plus ∷ b) ∙ rw (same h, same k) refl
same (g.difference {a = a} {b = b} h k) = parts a (w.Minus ∷ b) ∙ rw (same h, same k) refl
same (g.whole h) = same h
same (g.conditional {a = a} {b = b} {c = c} {d = d} test h k m n) =
    parts a (w.Test test ∷ (b ++ (w.Then ∷ (c ++ (w.Else ∷ d))))) ∙ rw (parts b (w.Then ∷ (c ++ (w.Else ∷ d))), parts c (w.Else ∷ d), same h, same k, same m, same n) refl

-- ---- great ones

abbrev HasGreat : List ℕ → Type 0
HasGreat [] = ⊥
HasGreat (n ∷ ns) = (top < n) ⊎ HasGreat ns

behind : (ms ns : List ℕ) → HasGreat ns → HasGreat (ms ++ ns)
behind [] ns great = great
behind (m ∷ ms) ns great = inr (behind ms ns great)

-- a great number among the lexemes of words is one of the words
to_words : (words : List FormulaWord) → HasGreatNumber (map formula_lexeme words) → HasGreat (numbers words)
unfolding formula_lexeme
to_words [] great = great
to_words (w.Number n ∷ later) (inl great) = inl great
to_words (w.Number n ∷ later) (inr great) = inr (to_words later great)
to_words (w.Variable x ∷ later) great = to_words later great
to_words (w.If ∷ later) great = to_words later great
to_words (w.Then ∷ later) great = to_words later great
to_words (w.Else ∷ later) great = to_words later great
to_words (w.Min ∷ later) great = to_words later great
to_words (w.Max ∷ later) great = to_words later great
to_words (w.Test test.Lt ∷ later) great = to_words later great
to_words (w.Test test.Le ∷ later) great = to_words later great
to_words (w.Test test.Eq ∷ later) great = to_words later great
to_words (w.Plus ∷ later) great = to_words later great
to_words (w.Minus ∷ later) great = to_words later great
to_words (w.Times ∷ later) great = to_words later great
to_words (w.Over ∷ later) great = to_words later great
to_words (w.Open ∷ later) great = to_words later great
to_words (w.Close ∷ later) great = to_words later great
to_words (w.Comma ∷ later) great = to_words later great
to_words (w.Other ∷ later) great = to_words later great

-- words and symbols stand for no number
NoNumber : FormulaWord → Type 0
NoNumber word = number_in word ≡ []

module _ (variables : List Var) where
  no_number_word : (bytes : List ℕ) → number_in (formula_word variables (Word bytes)) ≡ []
  unfolding NoNumber
  no_number_word bytes =
      word_has NoNumber refl variables bytes (every (λ x. NoNumber (w.Variable x)) (λ x. refl) variables) (refl, (refl, (refl, (refl, (refl, tt)))))

  no_number_symbol : (bytes : List ℕ) → number_in (formula_word variables (Symbol bytes)) ≡ []
  unfolding NoNumber
  no_number_symbol bytes = symbol_has NoNumber refl variables bytes (refl, (refl, (refl, (refl, (refl, (refl, (refl, (refl, (refl, (refl, tt))))))))))

  from_words : (lexemes : List Lexeme) → HasGreat (numbers (map (formula_word variables) lexemes)) → HasGreatNumber lexemes
  unfolding formula_word
  from_words [] great = great
  from_words (Word bytes ∷ later) great = from_words later (rw (no_number_word bytes) at great)
  from_words (Number n ∷ later) (inl great) = inl great
  from_words (Number n ∷ later) (inr great) = inr (from_words later great)
  from_words (Text bytes ∷ later) great = from_words later great
  from_words (Symbol bytes ∷ later) great = from_words later (rw (no_number_symbol bytes) at great)

-- a great number that stands among the fewest brackets stands in each spelling
pub great_numbers_stay : (variables : List Var) (lexemes : List Lexeme) (x : Formula) → SpellsIn variables lexemes x → HasGreatNumber (formula_lexemes x) → HasGreatNumber lexemes
great_numbers_stay variables lexemes x spells great =
    let canonical = to_words (words_of x) great in
    from_words variables lexemes (subst HasGreat (same (canonical_spells x) ∙ sym (same spells)) canonical)
