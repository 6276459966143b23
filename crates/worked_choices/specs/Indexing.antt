-- A query of a table with two indexes, by rules that read the table, or the rows that one index gives, or those that both give.
use Rattle.std.specs.Prelude.{[], ◌∷◌, None, codes}
use Rattle.star_model.specs.DerivCases as d
use Rattle.star_model.specs.declared.derivations.Deriv.{Deriv}
use Rattle.star_model.specs.declared.derivations.Deriv.TheVariants as derivation
use Rattle.star_model.specs.declared.query.Query.{Query}
use Rattle.star_model.specs.declared.rules.Flavour.TheVariants as flavour
use Rattle.star_model.specs.declared.rules.RuleFile.{RuleFile}
use Rattle.worked_plans.specs.Queries as queries
use Rattle.worked_plans.specs.RuleFiles as files

abbrev pub query : Query
query = queries.two_indexes

abbrev pub rules : RuleFile
rules = files.intersect

-- the rows that the second index gives are read
abbrev pub by_one_index : Deriv
by_one_index =
    d.Glue
    []
    (d.Goal
    (record { tables = 1; pushed = 0 })
    None
    (d.Reference (codes "AccessRoot") 1 [] (d.Reference (codes "Paths") 2 (2 ∷ []) (d.Unary flavour.Get (derivation.Leaf flavour.AccessIndex)))))
