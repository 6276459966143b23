-- What a cell stands for.
use Rattle.star_model.specs.declared.catalogue.Value.{Value}
use Rattle.star_model.specs.declared.catalogue.Value.TheVariants as constant
use Rattle.row_store.specs.declared.table.Cell.{Cell}
use Rattle.row_store.specs.declared.table.Cell.TheVariants.{Int, Text}

abbrev pub value_of_cell : Cell → Value
value_of_cell (Int n) = constant.Int n
value_of_cell (Text bytes) = constant.Text bytes.now
