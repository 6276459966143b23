use Rattle.std.proofs.Common.{ℕ, List}
use Rattle.star_model.specs.declared.catalogue.TableDef.{TableDef}
use Rattle.catalogue.proofs.Resolved.{found_some, found_none}
use Rattle.catalogue.proofs.resolve.table_named.Goals as goal

abbrev name_of : TableDef → List ℕ
name_of d = d.name

pub returns : goal.returns
returns c = found_some name_of c.args.name.now c.args.tables.now c.in-Some.place c.in-Some.ensures

pub unreachable-requires : goal.unreachable-requires
unreachable-requires c = found_none name_of c.args.name.now c.args.tables.now c.place_of_table.result c.place_of_table.ensures c.in-None.is c.requires.known
