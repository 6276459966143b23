use Rattle.std.proofs.Common.{◌≡◌, take}
use Rattle.std.specs.List.{flat_map}
use Rattle.stars_core.specs.Frontier.{frontier_line}
use Rattle.stars_core.proofs.frontier.lines.Given as goal

abbrev pub invariant-loop-props : goal.invariant-loop-props
invariant-loop-props l = l.text.items ≡ flat_map (frontier_line l.query) (take l.props-index l.vectors)
