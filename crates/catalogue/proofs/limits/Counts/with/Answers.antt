use Rattle.catalogue.specs.Words.{site_of, table_of, index_of}
use Rattle.catalogue.proofs.LimitLaws.{counted_site, counted_table, counted_index}
use Rattle.catalogue.proofs.limits.Counts.with.Goals as goal

pub returns-in-Site : goal.returns-in-Site
returns-in-Site c = λ earlier counted. rw c.in-Site.is (counted_site c.args.self earlier (site_of c.in-Site.field-0) counted)

pub returns-in-Table : goal.returns-in-Table
returns-in-Table c = λ earlier counted. rw c.in-Table.is (counted_table c.args.self earlier (table_of c.in-Table.field-0) counted)

pub returns-in-Index : goal.returns-in-Index
returns-in-Index c = λ earlier counted. rw c.in-Index.is (counted_index c.args.self earlier (index_of c.in-Index.field-0) counted)
