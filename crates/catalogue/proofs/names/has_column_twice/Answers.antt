use Rattle.std.proofs.Common.{ap, not}
use Rattle.catalogue.proofs.DefinedLaws.{names_of_columns}
use Rattle.catalogue.proofs.names.has_column_twice.Goals as goal

pub returns-in_ok-differ-in-Table : goal.returns-in_ok-differ-in-Table
returns-in_ok-differ-in-Table c =
    rw (c.in-Table.is, names_of_columns c.in-Table.table.columns) (ap not (rw c.as_slice.ensures at c.in_ok-differ-in-Table.ensures))
