-- A spelled formula names only the variables that it may, and has no word of another place.
use Rattle.std.proofs.Common.{◌≡◌, Bool, true, List, [], ◌∷◌, ◌++◌, map, codes, refl, subst, ap, ◌∙◌}
use Rattle.std.specs.List.{list_all}
use Rattle.std.proofs.lemmas.List.Folds.{list_all-append}
use Rattle.star_model.specs.Every.{Every}
use Rattle.star_model.specs.Monotone.{nodes}
use Rattle.star_model.specs.WellFormedRules.{names_at_top, names_only, is_of_cost, is_of_selectivity}
use Rattle.star_model.specs.declared.formula.Formula.{Formula}
use Rattle.star_model.specs.declared.formula.Var.{Var}
use Rattle.cost_formula.specs.declared.formula_word.FormulaWord.{FormulaWord}
use Rattle.cost_formula.specs.declared.formula_word.FormulaWord.TheVariants as w
use Rattle.spelling.specs.Lexemes.{Lexeme, Word, Number, Text, Symbol}
use Rattle.spelling.specs.FormedLexemes.{every_front, every_back}
use Rattle.cost_formula.specs.FormulaGrammar as g
use Rattle.cost_formula.specs.FormulaGrammar.{Rank, Spells}
use Rattle.cost_formula.specs.Formulas.{formula_word, formula_lexemes, cost_variables, select_variables, SpellsFormula, SpellsSelect}
use Rattle.cost_formula.proofs.FormulaWords.{word_has, symbol_has}
use Rattle.cost_formula.proofs.FormulaLaws.{Stands, AllStand, all_stand, canonical_cost, canonical_select}
use Rattle.cost_formula.proofs.NamedWords.{Passes}

module _ (may : Var → Bool) where
  abbrev p : Formula → Bool
  p x = names_at_top may x

  joint : (xs ys : List Formula) → list_all p xs ≡ true → list_all p ys ≡ true → list_all p (xs ++ ys) ≡ true
  joint xs ys h k = list_all-append p xs ys ∙ rw (h, k) refl

  four : (ks ls ms ns : List Formula) → list_all p ks ≡ true → list_all p ls ≡ true → list_all p ms ≡ true → list_all p ns ≡ true → list_all p (ks ++ ls ++ ms ++ ns) ≡ true
  four ks ls ms ns h k m n = joint (ks ++ ls ++ ms) ns (joint (ks ++ ls) ms (joint ks ls h k) m) n

  abbrev All : List FormulaWord → Type 0
  All ws = Every (Passes may) ws

  -- what spells it has the names that it has
  named : {r : Rank} {ws : List FormulaWord} {x : Formula} → Spells r ws x → All ws → names_only may x ≡ true
  unfolding nodes Passes
  named g.number h = refl
  named (g.variable {x}) h = rw (h.0) refl
  named (g.brackets {a} q) h = named q (every_front (Passes may) a (w.Close ∷ []) h.1)
  named (g.minimum {a} {b} {x} {y} q r) h =
      let k = every_back (Passes may) a _ h.1.1 in
      joint (nodes x) (nodes y) (named q (every_front (Passes may) a _ h.1.1)) (named r (every_front (Passes may) b (w.Close ∷ []) k.1))
  named (g.maximum {a} {b} {x} {y} q r) h =
      let k = every_back (Passes may) a _ h.1.1 in
      joint (nodes x) (nodes y) (named q (every_front (Passes may) a _ h.1.1)) (named r (every_front (Passes may) b (w.Close ∷ []) k.1))
  named (g.factor q) h = named q h
  named (g.product {a} {b} {x} {y} q r) h = joint (nodes x) (nodes y) (named q (every_front (Passes may) a (w.Times ∷ b) h)) (named r (every_back (Passes may) a (w.Times ∷ b) h).1)
  named (g.quotient {a} {b} {x} {y} q r) h = joint (nodes x) (nodes y) (named q (every_front (Passes may) a (w.Over ∷ b) h)) (named r (every_back (Passes may) a (w.Over ∷ b) h).1)
  named (g.term q) h = named q h
  named (g.sum {a} {b} {x} {y} q r) h = joint (nodes x) (nodes y) (named q (every_front (Passes may) a (w.Plus ∷ b) h)) (named r (every_back (Passes may) a (w.Plus ∷ b) h).1)
  named (g.difference {a} {b} {x} {y} q r) h = joint (nodes x) (nodes y) (named q (every_front (Passes may) a (w.Minus ∷ b) h)) (named r (every_back (Passes may) a (w.Minus ∷ b) h).1)
  named (g.whole q) h = named q h
  named (g.conditional {a} {b} {c} {d} {x} {y} {s} {t} test q r m n) h =
      let k = (every_back (Passes may) a _ h.1).1 in
      let l = (every_back (Passes may) b _ k).1 in
      four (nodes x) (nodes y) (nodes s) (nodes t)
      (named q (every_front (Passes may) a _ h.1)) (named r (every_front (Passes may) b _ k))
      (named m (every_front (Passes may) c _ l)) (named n (every_back (Passes may) c _ l).1)

  module _ (variables : List Var) (known : Every (λ x. may x ≡ true) variables) where
    passes : (lexemes : List Lexeme) → All (map (formula_word variables) lexemes)
    unfolding Passes formula_word
    passes [] = tt
    passes (Word bytes ∷ later) = (word_has (Passes may) tt variables bytes known (tt, (tt, (tt, (tt, (tt, tt))))), passes later)
    passes (Number n ∷ later) = (tt, passes later)
    passes (Text bytes ∷ later) = (tt, passes later)
    passes (Symbol bytes ∷ later) = (symbol_has (Passes may) tt variables bytes (tt, (tt, (tt, (tt, (tt, (tt, (tt, (tt, (tt, (tt, tt)))))))))), passes later)

pub cost_names : (lexemes : List Lexeme) (x : Formula) → SpellsFormula lexemes x → names_only is_of_cost x ≡ true
cost_names lexemes x h =
    named is_of_cost h (
    passes is_of_cost cost_variables
    (refl, (refl, (refl, (refl, (refl, (refl, (refl, (refl, (refl, (refl, (refl, (refl, (refl, (refl, (refl, (refl, tt)))))))))))))))) lexemes
    )

pub select_names : (lexemes : List Lexeme) (x : Formula) → SpellsSelect lexemes x → names_only is_of_selectivity x ≡ true
select_names lexemes x h = named is_of_selectivity h (passes is_of_selectivity select_variables (refl, (refl, (refl, (refl, tt)))) lexemes)

pub cost_spelled_again : (lexemes : List Lexeme) (x : Formula) → SpellsFormula lexemes x → SpellsFormula (formula_lexemes x) x
cost_spelled_again lexemes x h = canonical_cost x (cost_names lexemes x h)

pub select_spelled_again : (lexemes : List Lexeme) (x : Formula) → SpellsSelect lexemes x → SpellsSelect (formula_lexemes x) x
select_spelled_again lexemes x h = canonical_select x (select_names lexemes x h)

-- ---- the word between two formulas

no_per : (variables : List Var) → formula_word variables (Word (codes "per")) ≡ w.Other → (lexemes : List Lexeme)
    → AllStand (map (formula_word variables) lexemes) → Every (λ l. l ≡ Word (codes "per") → ⊥) lexemes
unfolding AllStand Stands
no_per variables other [] h = tt
no_per variables other (l ∷ later) h = ((λ is. subst Stands (ap (formula_word variables) is ∙ other) h.0), no_per variables other later h.1)

no_cost_word : formula_word cost_variables (Word (codes "per")) ≡ w.Other
unfolding formula_word
no_cost_word = refl

no_select_word : formula_word select_variables (Word (codes "per")) ≡ w.Other
unfolding formula_word
no_select_word = refl

pub no_per_in_cost : (lexemes : List Lexeme) (x : Formula) → SpellsFormula lexemes x → Every (λ l. l ≡ Word (codes "per") → ⊥) lexemes
no_per_in_cost lexemes x h = no_per cost_variables no_cost_word lexemes (all_stand h)

pub no_per_in_select : (lexemes : List Lexeme) (x : Formula) → SpellsSelect lexemes x → Every (λ l. l ≡ Word (codes "per") → ⊥) lexemes
no_per_in_select lexemes x h = no_per select_variables no_select_word lexemes (all_stand h)
