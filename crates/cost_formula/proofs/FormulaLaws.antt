-- The fewest brackets spell a formula.
use Rattle.std.proofs.Common.{◌≡◌, Bool, true, ◌↔◌, ◌+◌, List, [], ◌∷◌, ◌++◌, length, map, Some, refl, sym, subst}
use Rattle.star_model.specs.declared.formula.Formula.{Formula}
use Rattle.star_model.specs.declared.formula.Test.TheVariants as test
use Rattle.star_model.specs.declared.formula.Var.{Var}
use Rattle.star_model.specs.declared.formula.Var.TheVariants as var
use Rattle.star_model.specs.Every.{Every}
use Rattle.star_model.specs.WellFormedRules.{names_only, is_of_cost, is_of_selectivity}
use Rattle.cost_formula.specs.declared.formula_word.FormulaWord.{FormulaWord}
use Rattle.cost_formula.specs.declared.formula_word.FormulaWord.TheVariants as w
use Rattle.spelling.specs.Lexemes.{Lexeme, Word}
use Rattle.cost_formula.specs.FormulaGrammar as g
use Rattle.cost_formula.specs.FormulaGrammar.{Rank, Spells, Whole}
use Rattle.cost_formula.specs.FormulaCanonical.{words_of}
use Rattle.cost_formula.specs.FormulaReading.{whole_at}
use Rattle.cost_formula.specs.Formulas.{variable_word, formula_keywords, cost_variables, select_variables, formula_word, formula_lexeme, formula_lexemes, SpellsIn, SpellsFormula, SpellsSelect}
use Rattle.cost_formula.proofs.FormulaCanon.{canonical_spells}
use Rattle.cost_formula.proofs.FormulaComplete as complete
use Rattle.cost_formula.proofs.FormulaSound.{spelled}
use Rattle.cost_formula.proofs.NamedWords.{Passes, all_pass}

-- a word that can stand in a formula is what its lexeme stands for
unfoldable pub Stands : FormulaWord → Type 0
Stands w.Other = ⊥
Stands _ = Unit {0}

unfoldable pub AllStand : List FormulaWord → Type 0
AllStand [] = Unit {0}
AllStand (x ∷ xs) = Stands x × AllStand xs

both : (xs ys : List FormulaWord) → AllStand xs → AllStand ys → AllStand (xs ++ ys)
unfolding AllStand
both [] ys h k = k
both (x ∷ xs) ys h k = (h.0, both xs ys h.1 k)

module _ where
  -- what spells a formula has no other word
  pub all_stand : {r : Rank} {ws : List FormulaWord} {x : Formula} → Spells r ws x → AllStand ws
  unfolding AllStand Stands
  all_stand g.number = (tt, tt)
  all_stand g.variable = (tt, tt)
  all_stand (g.brackets {a} h) = (tt, both a (w.Close ∷ []) (all_stand h) (tt, tt))
  all_stand (g.minimum {a} {b} h k) = (tt, (tt, both a _ (all_stand h) (tt, both b (w.Close ∷ []) (all_stand k) (tt, tt))))
  all_stand (g.maximum {a} {b} h k) = (tt, (tt, both a _ (all_stand h) (tt, both b (w.Close ∷ []) (all_stand k) (tt, tt))))
  all_stand (g.factor h) = all_stand h
  all_stand (g.product {a} {b} h k) = both a (w.Times ∷ b) (all_stand h) (tt, all_stand k)
  all_stand (g.quotient {a} {b} h k) = both a (w.Over ∷ b) (all_stand h) (tt, all_stand k)
  all_stand (g.term h) = all_stand h
  all_stand (g.sum {a} {b} h k) = both a (w.Plus ∷ b) (all_stand h) (tt, all_stand k)
  all_stand (g.difference {a} {b} h k) = both a (w.Minus ∷ b) (all_stand h) (tt, all_stand k)
  all_stand (g.whole h) = all_stand h
  all_stand (g.conditional {a} {b} {c} {d} t h k l m) =
      (tt, both a _ (all_stand h) (tt, both b _ (all_stand k) (tt, both c (w.Else ∷ d) (all_stand l) (tt, all_stand m))))

-- ---- the words of what is written

-- each word stands for what it names
abbrev Keywords : List Var → Type 0
Keywords variables = Every (λ row. formula_word variables (Word row.0) ≡ row.1) formula_keywords

abbrev Names : List Var → (Var → Bool) → Type 0
Names variables may = (x : Var) → may x ≡ true → formula_word variables (Word (variable_word x)) ≡ w.Variable x

module _ (variables : List Var) (may : Var → Bool) (keywords : Keywords variables) (names : Names variables may) where
  stands_for : (x : FormulaWord) → Stands x → Passes may x → formula_word variables (formula_lexeme x) ≡ x
  unfolding Stands Passes formula_word formula_lexeme
  stands_for (w.Number n) h k = refl
  stands_for (w.Variable x) h k = names x k
  stands_for w.If h k = keywords.0
  stands_for w.Then h k = keywords.1.0
  stands_for w.Else h k = keywords.1.1.0
  stands_for w.Min h k = keywords.1.1.1.0
  stands_for w.Max h k = keywords.1.1.1.1.0
  stands_for (w.Test test.Lt) h k = refl
  stands_for (w.Test test.Le) h k = refl
  stands_for (w.Test test.Eq) h k = refl
  stands_for w.Plus h k = refl
  stands_for w.Minus h k = refl
  stands_for w.Times h k = refl
  stands_for w.Over h k = refl
  stands_for w.Open h k = refl
  stands_for w.Close h k = refl
  stands_for w.Comma h k = refl
  stands_for w.Other h k = absurd h

  back : (ws : List FormulaWord) → AllStand ws → Every (Passes may) ws → map (formula_word variables) (map formula_lexeme ws) ≡ ws
  unfolding AllStand
  back [] h k = refl
  back (x ∷ ws) h k = λ i. stands_for x h.0 k.0 i ∷ back ws h.1 k.1 i

  canonical : (x : Formula) → names_only may x ≡ true → SpellsIn variables (formula_lexemes x) x
  canonical x h =
      let spelled = canonical_spells x in
      subst (λ ws. Spells Whole ws x) (sym (back (words_of x) (all_stand spelled) (all_pass may spelled h))) spelled

cost_keywords : Keywords cost_variables
unfolding formula_word
cost_keywords = (refl, (refl, (refl, (refl, (refl, tt)))))

select_keywords : Keywords select_variables
unfolding formula_word
select_keywords = (refl, (refl, (refl, (refl, (refl, tt)))))

cost_known : Names cost_variables is_of_cost
unfolding formula_word
cost_known var.Cost1 h = refl
cost_known var.Rescan1 h = refl
cost_known var.Card1 h = refl
cost_known var.Width1 h = refl
cost_known var.Cost2 h = refl
cost_known var.Rescan2 h = refl
cost_known var.Card2 h = refl
cost_known var.Width2 h = refl
cost_known var.Card h = refl
cost_known var.Width h = refl
cost_known var.Rows h = refl
cost_known var.Pages h = refl
cost_known var.Preds h = refl
cost_known var.Cpu h = refl
cost_known var.Net h = refl
cost_known var.One h = refl
cost_known var.Distinct1 h = cc
cost_known var.Rows1 h = cc
cost_known var.Distinct2 h = cc
cost_known var.Rows2 h = cc

select_known : Names select_variables is_of_selectivity
unfolding formula_word
select_known var.Cost1 h = cc
select_known var.Rescan1 h = cc
select_known var.Card1 h = cc
select_known var.Width1 h = cc
select_known var.Cost2 h = cc
select_known var.Rescan2 h = cc
select_known var.Card2 h = cc
select_known var.Width2 h = cc
select_known var.Card h = cc
select_known var.Width h = cc
select_known var.Rows h = cc
select_known var.Pages h = cc
select_known var.Preds h = cc
select_known var.Cpu h = cc
select_known var.Net h = cc
select_known var.One h = cc
select_known var.Distinct1 h = refl
select_known var.Rows1 h = refl
select_known var.Distinct2 h = refl
select_known var.Rows2 h = refl

pub canonical_cost : (x : Formula) → names_only is_of_cost x ≡ true → SpellsFormula (formula_lexemes x) x
canonical_cost x h = canonical cost_variables is_of_cost cost_keywords cost_known x h

pub canonical_select : (x : Formula) → names_only is_of_selectivity x ≡ true → SpellsSelect (formula_lexemes x) x
canonical_select x h = canonical select_variables is_of_selectivity select_keywords select_known x h

pub one_formula : (variables : List Var) (lexemes : List Lexeme) (x y : Formula) → SpellsIn variables lexemes x → SpellsIn variables lexemes y → x ≡ y
one_formula variables lexemes x y h k = complete.one (map (formula_word variables) lexemes) x y h k

pub formula_reads : (words : List FormulaWord) (x : Formula) → (whole_at (length words + 1) words ≡ Some (x, [])) ↔ Spells Whole words x
formula_reads words x = (spelled (length words + 1) words x, complete.reads_all words x)
