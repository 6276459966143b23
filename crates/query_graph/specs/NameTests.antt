-- The tests by which the names of a statement are found to be wrong.
use Rattle.std.specs.Prelude.{ℕ, Bool, true, ◌&&◌, List, Option, None, Some, if◌then◌else◌}
use Rattle.std.specs.List.{list_all}
use Rattle.star_model.specs.declared.catalogue.Catalogue.{Catalogue}
use Rattle.star_model.specs.Vectors.{same_numbers}
use Rattle.star_model.specs.WellFormed.{differ}
use Rattle.query_graph.specs.Queries.{QueryStatement}
use Rattle.query_graph.specs.declared.fault.QueryFault.{QueryFault}
use Rattle.query_graph.specs.declared.fault.QueryFault.TheVariants as fault
use Rattle.query_graph.specs.Faults.{is_table, is_site, is_column, columns_named, quantifier_names}

abbrev pub is_site_if_any : Catalogue → Option (List ℕ) → Bool
is_site_if_any c None = true
is_site_if_any c (Some name) = is_site c name

-- all names of the statement are defined
abbrev pub are_known : Catalogue → QueryStatement → Bool
are_known c q = list_all (λ i. is_table c i.table) q.items && list_all (is_column c q.items) (columns_named q) && is_site_if_any c q.site

abbrev pub quantifiers_differ : QueryStatement → Bool
quantifiers_differ q = differ same_numbers (quantifier_names q.items)

-- the first of the two faults that names can have
abbrev pub name_fault : Catalogue → QueryStatement → Option QueryFault
name_fault c q =
    if are_known c q then (if quantifiers_differ q then None else Some (fault.Twice 1)) else Some (fault.Unknown 1)
