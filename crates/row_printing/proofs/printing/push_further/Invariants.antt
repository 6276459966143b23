use Rattle.std.proofs.Common.{◌≡◌, ◌∷◌, ◌++◌, map, take}
use Rattle.std.specs.List.{flat_map}
use Rattle.listed_rows.specs.Environments.{key}
use Rattle.row_steps.specs.LoadedTables.{data_of}
use Rattle.row_printing.specs.RowLines.{value_text}
use Rattle.row_printing.proofs.printing.push_further.Given as goal

abbrev pub invariant-loop-column : goal.invariant-loop-column
invariant-loop-column l =
    l.text.items ≡ l.initial.text.items ++ flat_map (λ other. 44 ∷ other) (map value_text (key l.query (data_of l.tables) (take l.column-index l.columns) l.env))
