use Rattle.std.proofs.Common.{length, refl}
use Rattle.std.proofs.lemmas.Option.{slice_get_read}
use Rattle.star_model.specs.WellFormed.{WellFormedTable}
use Rattle.table_taking.proofs.TextNames.{each_at}
use Rattle.table_taking.proofs.names.table_of.Goals as goal

pub returns-clause-is : goal.returns-clause-is
returns-clause-is c = slice_get_read c.args.query.now.catalogue.tables _ c.args.number _ refl
    c.requires.number (rw c.as_slice.ensures at c.index-as_slice-number.is)

pub returns-clause-formed : goal.returns-clause-formed
returns-clause-formed c =
    each_at (WellFormedTable (length c.args.query.now.catalogue.sites))
    c.args.query.now.catalogue.tables c.args.number _ c.requires.number
    (rw c.as_slice.ensures at c.index-as_slice-number.is)
    c.requires.query.catalogue.tables
