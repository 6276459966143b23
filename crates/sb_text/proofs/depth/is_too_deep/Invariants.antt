use Rattle.std.proofs.Common.{drop, nat_lt, ◌≡◌, ◌≤◌}
use Rattle.sb_text.specs.Depth.{greatest_depth}
use Rattle.sb_text.proofs.depth.is_too_deep.Given as goal

abbrev pub invariant-loop-token : goal.invariant-loop-token
invariant-loop-token l = (nat_lt 32 (greatest_depth l.depth (drop l.token-index l.tokens)) ≡ nat_lt 32 (greatest_depth 0 l.tokens)) × (l.depth ≤ 32)
