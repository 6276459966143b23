-- The words that spell a formula name the variables that it names.
use Rattle.std.proofs.Common.{◌≡◌, Bool, true, List, [], ◌∷◌, ◌++◌, sym, ◌∙◌}
use Rattle.std.specs.List.{list_all}
use Rattle.std.proofs.lemmas.Bool.{and_parts}
use Rattle.std.proofs.lemmas.List.Folds.{list_all-append}
use Rattle.star_model.specs.Every.{Every}
use Rattle.star_model.specs.Monotone.{nodes}
use Rattle.star_model.specs.WellFormedRules.{names_at_top, names_only}
use Rattle.star_model.specs.declared.formula.Formula.{Formula}
use Rattle.star_model.specs.declared.formula.Var.{Var}
use Rattle.cost_formula.specs.declared.formula_word.FormulaWord.{FormulaWord}
use Rattle.cost_formula.specs.declared.formula_word.FormulaWord.TheVariants as w
use Rattle.spelling.specs.FormedLexemes.{every_both}
use Rattle.cost_formula.specs.FormulaGrammar as g
use Rattle.cost_formula.specs.FormulaGrammar.{Rank, Spells}

module _ (may : Var → Bool) where
  -- it is no variable, or one that passes
  unfoldable pub Passes : FormulaWord → Type 0
  Passes (w.Variable x) = may x ≡ true
  Passes _ = Unit {0}

  abbrev p : Formula → Bool
  p x = names_at_top may x

  parts : (xs ys : List Formula) → list_all p (xs ++ ys) ≡ true → (list_all p xs ≡ true) × (list_all p ys ≡ true)
  parts xs ys h = and_parts (list_all p xs) (list_all p ys) (sym (list_all-append p xs ys) ∙ h)

  four : (ks ls ms ns : List Formula) → list_all p (ks ++ ls ++ ms ++ ns) ≡ true
      → (list_all p ks ≡ true) × (list_all p ls ≡ true) × (list_all p ms ≡ true) × (list_all p ns ≡ true)
  four ks ls ms ns h =
      let l = parts (ks ++ ls ++ ms) ns h in
      let m = parts (ks ++ ls) ms l.0 in
      let n = parts ks ls m.0 in
      (n.0, n.1, m.1, l.1)

  -- in the words of a formula that names such variables, each passes
  pub all_pass : {r : Rank} {ws : List FormulaWord} {x : Formula} → Spells r ws x → names_only may x ≡ true → Every Passes ws
  unfolding nodes Passes
  all_pass g.number h = (tt, tt)
  all_pass (g.variable {x}) h = ((and_parts (may x) true h).0, tt)
  all_pass (g.brackets {a} q) h = (tt, every_both Passes a (w.Close ∷ []) (all_pass q h) (tt, tt))
  all_pass (g.minimum {a} {b} {x} {y} q r) h =
      let k = parts (nodes x) (nodes y) h in
      (tt, (tt, every_both Passes a _ (all_pass q k.0) (tt, every_both Passes b (w.Close ∷ []) (all_pass r k.1) (tt, tt))))
  all_pass (g.maximum {a} {b} {x} {y} q r) h =
      let k = parts (nodes x) (nodes y) h in
      (tt, (tt, every_both Passes a _ (all_pass q k.0) (tt, every_both Passes b (w.Close ∷ []) (all_pass r k.1) (tt, tt))))
  all_pass (g.factor q) h = all_pass q h
  all_pass (g.product {a} {b} {x} {y} q r) h = let k = parts (nodes x) (nodes y) h in every_both Passes a (w.Times ∷ b) (all_pass q k.0) (tt, all_pass r k.1)
  all_pass (g.quotient {a} {b} {x} {y} q r) h = let k = parts (nodes x) (nodes y) h in every_both Passes a (w.Over ∷ b) (all_pass q k.0) (tt, all_pass r k.1)
  all_pass (g.term q) h = all_pass q h
  all_pass (g.sum {a} {b} {x} {y} q r) h = let k = parts (nodes x) (nodes y) h in every_both Passes a (w.Plus ∷ b) (all_pass q k.0) (tt, all_pass r k.1)
  all_pass (g.difference {a} {b} {x} {y} q r) h = let k = parts (nodes x) (nodes y) h in every_both Passes a (w.Minus ∷ b) (all_pass q k.0) (tt, all_pass r k.1)
  all_pass (g.whole q) h = all_pass q h
  all_pass (g.conditional {a} {b} {c} {d} {x} {y} {s} {t} test q r m n) h =
      let k = four (nodes x) (nodes y) (nodes s) (nodes t) h in
      (tt, every_both Passes a _ (all_pass q k.0) (tt, every_both Passes b _ (all_pass r k.1) (tt, every_both Passes c (w.Else ∷ d) (all_pass m k.2) (tt, all_pass n k.3))))
