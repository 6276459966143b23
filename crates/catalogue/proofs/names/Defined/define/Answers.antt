use Rattle.catalogue.proofs.KnownLaws.{defines_site, defines_table, defines_index}
use Rattle.catalogue.proofs.names.Defined.define.Goals as goal

pub returns-in_ok-new-in-Site-clause-defined : goal.returns-in_ok-new-in-Site-clause-defined
returns-in_ok-new-in-Site-clause-defined c = λ earlier all.
    rw c.in-Site.is (defines_site _ earlier c.in-Site.site _ (rw c.as_slice.ensures at c.in_ok-new-in-Site.ensures.ok) all)

pub returns-in_ok-new-in-Table-clause-defined : goal.returns-in_ok-new-in-Table-clause-defined
returns-in_ok-new-in-Table-clause-defined c = λ earlier all.
    rw c.in-Table.is (defines_table _ earlier c.in-Table.table _ (rw c.as_slice-in-Table.ensures at c.in_ok-new-in-Table.ensures.ok) all)

pub returns-in_ok-new-in-Index-clause-defined : goal.returns-in_ok-new-in-Index-clause-defined
returns-in_ok-new-in-Index-clause-defined c = λ earlier all.
    rw c.in-Index.is (defines_index _ earlier c.in-Index.index _ (rw c.as_slice-in-Index.ensures at c.in_ok-new-in-Index.ensures.ok) all)
