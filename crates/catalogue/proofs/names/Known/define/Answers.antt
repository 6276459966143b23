use Rattle.std.proofs.Common.{◌∙◌, refl}
use Rattle.catalogue.proofs.KnownLaws.{knows_site, knows_table, knows_index}
use Rattle.catalogue.proofs.names.Known.define.Goals as goal

pub returns-in_ok-insert-in-Site : goal.returns-in_ok-insert-in-Site
returns-in_ok-insert-in-Site c = λ earlier knows. rw c.in-Site.is (knows_site _ earlier c.in-Site.site _ (rw c.as_slice.ensures at c.in_ok-insert-in-Site.ensures.ok) knows)

pub returns-in_ok-define_columns-in-Table : goal.returns-in_ok-define_columns-in-Table
returns-in_ok-define_columns-in-Table c = λ earlier knows.
    rw c.in-Table.is
    (knows_table c.args.self.now c.define_columns.new.self earlier c.in-Table.table
    (c.in_ok-define_columns-in-Table.ensures ∙ rw (c.in_ok-insert-in-Table.ensures.ok, c.as_slice-in-Table.ensures, c.as_slice-in-Table-2.ensures, c.as_slice-in-Table-3.ensures) refl) knows)

pub returns-in-Index : goal.returns-in-Index
returns-in-Index c = λ earlier knows. rw c.in-Index.is (knows_index _ earlier c.in-Index.field-0 knows)
