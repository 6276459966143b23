use Rattle.star_model.proofs.Laws.{has_column-empty, has_column-with, has_column-union, has_column-where, within-columns}
use Rattle.star_model.proofs.theorems.column_sets_go_by_columns.Goals as goal

pub returns : goal.returns
returns c = record { empty = has_column-empty; insert = has_column-with; union = has_column-union; passing = has_column-where; within = within-columns }
