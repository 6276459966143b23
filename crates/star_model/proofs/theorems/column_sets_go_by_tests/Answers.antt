use Rattle.star_model.proofs.Laws.{empty_columns, with_column-where, union-where, same_columns}
use Rattle.star_model.proofs.theorems.column_sets_go_by_tests.Goals as goal

pub returns : goal.returns
returns c = record { empty = empty_columns; insert = with_column-where; union = union-where; same = same_columns }
