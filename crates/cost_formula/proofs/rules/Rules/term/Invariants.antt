use Rattle.std.proofs.Common.{◌≡◌, ◌-◌}
use Rattle.cost_formula.specs.FormulaReading.{term_at, factor_at, whole_at, goes_on, product_sign_of}
use Rattle.cost_formula.proofs.rules.Rules.term.Given as goal

abbrev pub invariant-turns : goal.invariant-turns
invariant-turns g l = term_at (whole_at l.self.depth) l.fn.words.left.now ≡ goes_on product_sign_of (factor_at (whole_at l.self.depth)) (l._turn-end - l._turn) l.left l.words.left.now
