-- The canonical words of a formula spell it.
use Rattle.std.proofs.Common.{List}
use Rattle.star_model.specs.declared.formula.Formula.{Formula}
use Rattle.star_model.specs.declared.formula.Formula.TheVariants as f
use Rattle.cost_formula.specs.declared.formula_word.FormulaWord.{FormulaWord}
use Rattle.star_model.specs.FormulaCases.{Add, Sub, Mul, Div, Min, Max, If}
use Rattle.cost_formula.specs.FormulaGrammar as g
use Rattle.cost_formula.specs.FormulaGrammar.{Rank, Factor, Term, Sum, Whole, Spells}
use Rattle.cost_formula.specs.FormulaCanonical.{words_of, in_brackets, stands, rank_of}

to_whole : (r : Rank) (ws : List FormulaWord) (x : Formula) → Spells r ws x → Spells Whole ws x
to_whole Factor ws x h = g.whole (g.term (g.factor h))
to_whole Term ws x h = g.whole (g.term h)
to_whole Sum ws x h = g.whole h
to_whole Whole ws x h = h

to_sum : (r : Rank) (ws : List FormulaWord) (x : Formula) → Spells r ws x → Spells Sum (in_brackets (stands r Sum) ws) x
to_sum Factor ws x h = g.term (g.factor h)
to_sum Term ws x h = g.term h
to_sum Sum ws x h = h
to_sum Whole ws x h = g.term (g.factor (g.brackets h))

to_term : (r : Rank) (ws : List FormulaWord) (x : Formula) → Spells r ws x → Spells Term (in_brackets (stands r Term) ws) x
to_term Factor ws x h = g.factor h
to_term Term ws x h = h
to_term Sum ws x h = g.factor (g.brackets (g.whole h))
to_term Whole ws x h = g.factor (g.brackets h)

to_factor : (r : Rank) (ws : List FormulaWord) (x : Formula) → Spells r ws x → Spells Factor (in_brackets (stands r Factor) ws) x
to_factor Factor ws x h = h
to_factor Term ws x h = g.brackets (g.whole (g.term h))
to_factor Sum ws x h = g.brackets (g.whole h)
to_factor Whole ws x h = g.brackets h

own : (x : Formula) → Spells (rank_of x) (words_of x) x
unfolding rank_of words_of
own (f.Number n) = g.number
own (f.Variable x) = g.variable
own (Add a b) = g.sum (to_sum (rank_of a) (words_of a) a (own a)) (to_term (rank_of b) (words_of b) b (own b))
own (Sub a b) = g.difference (to_sum (rank_of a) (words_of a) a (own a)) (to_term (rank_of b) (words_of b) b (own b))
own (Mul a b) = g.product (to_term (rank_of a) (words_of a) a (own a)) (to_factor (rank_of b) (words_of b) b (own b))
own (Div a b) = g.quotient (to_term (rank_of a) (words_of a) a (own a)) (to_factor (rank_of b) (words_of b) b (own b))
own (Min a b) = g.minimum (to_whole (rank_of a) (words_of a) a (own a)) (to_whole (rank_of b) (words_of b) b (own b))
own (Max a b) = g.maximum (to_whole (rank_of a) (words_of a) a (own a)) (to_whole (rank_of b) (words_of b) b (own b))
own (If test x y a b) = g.conditional test (to_sum (rank_of x) (words_of x) x (own x)) (to_sum (rank_of y) (words_of y) y (own y)) (to_whole (rank_of a) (words_of a) a (own a)) (to_whole (rank_of b) (words_of b) b (own b))

pub canonical_spells : (x : Formula) → Spells Whole (words_of x) x
canonical_spells x = to_whole (rank_of x) (words_of x) x (own x)
