use Rattle.std.proofs.Common.{◌≡◌, ◌-◌}
use Rattle.cost_formula.specs.FormulaReading.{sum_at, term_at, whole_at, goes_on, sum_sign_of}
use Rattle.cost_formula.proofs.rules.Rules.sum.Given as goal

abbrev pub invariant-turns : goal.invariant-turns
invariant-turns g l = sum_at (whole_at l.self.depth) l.fn.words.left.now ≡ goes_on sum_sign_of (term_at (whole_at l.self.depth)) (l._turn-end - l._turn) l.left l.words.left.now
