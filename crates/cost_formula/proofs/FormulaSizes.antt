-- A formula has no more nodes than the words that spell it.
use Rattle.std.proofs.Common.{◌≡◌, ◌≤◌, ◌+◌, List, [], ◌∷◌, ◌++◌, length, arith, length-append, subst}
use Rattle.std.proofs.lemmas.List.{length-map}
use Rattle.star_model.specs.Monotone.{nodes}
use Rattle.star_model.specs.FormulaCases.{Add, Sub, Mul, Div, Min, Max, If}
use Rattle.star_model.specs.declared.formula.Formula.{Formula}
use Rattle.star_model.specs.declared.formula.Var.{Var}
use Rattle.cost_formula.specs.declared.formula_word.FormulaWord.{FormulaWord}
use Rattle.cost_formula.specs.declared.formula_word.FormulaWord.TheVariants as w
use Rattle.spelling.specs.Lexemes.{Lexeme}
use Rattle.cost_formula.specs.FormulaGrammar as g
use Rattle.cost_formula.specs.FormulaGrammar.{Rank, Spells}
use Rattle.cost_formula.specs.Formulas.{formula_word, SpellsIn}

-- two lists with a word between
between : (a b : List FormulaWord) (x : FormulaWord) → length (a ++ x ∷ b) ≡ length a + length b + 1
between a b x = omega (arith, length-append a (x ∷ b))

two_parts : (x : Formula) (a b : List Formula) → length (x ∷ (a ++ b)) ≡ length a + length b + 1
two_parts x a b = omega (arith, length-append a b)

four_parts : (x : Formula) (a b c d : List Formula) → length (x ∷ (a ++ b ++ c ++ d)) ≡ length a + length b + length c + length d + 1
four_parts x a b c d = omega (arith, length-append (a ++ b ++ c) d, length-append (a ++ b) c, length-append a b)

few : {r : Rank} {ws : List FormulaWord} {x : Formula} → Spells r ws x → length (nodes x) ≤ length ws
unfolding nodes
few g.number = omega arith
few g.variable = omega arith
few (g.brackets {a = a} h) = omega (arith, few h, between a [] w.Close)
few (g.minimum {a = a} {b = b} {x = x} {y = y} h k) = omega (arith, few h, few k, two_parts (Min x y) (nodes x) (nodes y), between a (b ++ w.Close ∷ []) w.Comma, between b [] w.Close)
few (g.maximum {a = a} {b = b} {x = x} {y = y} h k) = omega (arith, few h, few k, two_parts (Max x y) (nodes x) (nodes y), between a (b ++ w.Close ∷ []) w.Comma, between b [] w.Close)
few (g.factor h) = few h
few (g.product {a = a} {b = b} {x = x} {y = y} h k) = omega (arith, few h, few k, two_parts (Mul x y) (nodes x) (nodes y), between a b w.Times)
few (g.quotient {a = a} {b = b} {x = x} {y = y} h k) = omega (arith, few h, few k, two_parts (Div x y) (nodes x) (nodes y), between a b w.Over)
few (g.term h) = few h
few (g.sum {a = a} {b = b} {x = x} {y = y} h k) = omega (arith, few h, few k, two_parts (Add x y) (nodes x) (nodes y), between a b w.Plus)
few (g.difference {a = a} {b = b} {x = x} {y = y} h k) = omega (arith, few h, few k, two_parts (Sub x y) (nodes x) (nodes y), between a b w.Minus)
few (g.whole h) = few h
few (g.conditional {a = a} {b = b} {c = c} {d = d} {x = x} {y = y} {s = s} {t = t} test h k m n) =
    omega (
      arith,
      few h,
      few k,
      few m,
      few n,
      four_parts (If test x y s t) (nodes x) (nodes y) (nodes s) (nodes t),
      between a (b ++ (w.Then ∷ (c ++ (w.Else ∷ d)))) (w.Test test),
      between b (c ++ (w.Else ∷ d)) w.Then,
      between c d w.Else,
    )

pub few_nodes : (variables : List Var) (lexemes : List Lexeme) (x : Formula) → SpellsIn variables lexemes x → length (nodes x) ≤ length lexemes
few_nodes variables lexemes x h = subst (λ n. length (nodes x) ≤ n) (length-map lexemes (formula_word variables)) (few h)
