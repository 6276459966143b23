-- What is required of a vector.
use Rattle.std.specs.Prelude.{Bool, true, not, ◌&&◌, ◌||◌, nat_eq, Option, Some, None}
use Rattle.star_model.specs.Vectors.{begins}
use Rattle.star_model.specs.Canon.{canon}
use Rattle.star_model.specs.declared.columns.Site.{Site}
use Rattle.star_model.specs.declared.query.Query.{Query}
use Rattle.star_model.specs.declared.plans.Props.{Props}
use Rattle.star_model.specs.declared.plans.Require.{Require}

abbrev pub is_at : Option Site → Site → Bool
is_at None s = true
is_at (Some wanted) s = nat_eq wanted.0 s.0

-- whether the vector has what is required; the order in the form that it has under the vector's predicates
unfoldable pub satisfies : Query → Props → Require → Bool
satisfies q v r = begins (canon q v.preds v.tables r.order) v.order && is_at r.site v.site && (not r.temp || v.temp) && begins r.path v.path
