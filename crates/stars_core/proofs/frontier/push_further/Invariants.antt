use Rattle.std.proofs.Common.{◌≡◌, ◌++◌, take}
use Rattle.stars_core.specs.Frontier.{further_columns}
use Rattle.stars_core.proofs.frontier.push_further.Given as goal

abbrev pub invariant-loop-column : goal.invariant-loop-column
invariant-loop-column l = l.text.items ≡ l.initial.text.items ++ further_columns l.query (take l.column-index l.columns)
