use Rattle.std.proofs.Common.{◌-◌, refl, arith, length}
use Rattle.std.proofs.lemmas.Iterator.{items_from_collect, YieldsList-from_range}
use Rattle.row_store.proofs.CellLaws.{row_count_is, have_types}
use Rattle.row_store.proofs.table.Table.row_numbers.Goals as goal

pub returns-clause-numbers : goal.returns-clause-numbers
returns-clause-numbers c = items_from_collect _ c.collect.ensures.ran (YieldsList-from_range 0 (c.len-count.result - 1) (length c.args.self.now) refl
    (omega (arith, row_count_is c.self.inside.columns.items c.self.inside.raw c.args.self.now c.self.view_is)))

pub returns-clause-types : goal.returns-clause-types
returns-clause-types c = have_types c.self.inside.columns.items c.self.inside.raw c.args.self.now c.self.view_is
