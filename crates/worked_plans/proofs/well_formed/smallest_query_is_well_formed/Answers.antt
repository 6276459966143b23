use Rattle.std.proofs.Common.{refl}
use Rattle.worked_plans.specs.Catalogues as catalogue
use Rattle.worked_plans.specs.Queries as query
use Rattle.worked_plans.proofs.Tests as test
use Rattle.worked_plans.proofs.well_formed.smallest_query_is_well_formed.Goals as goal

pub returns : goal.returns
returns c = test.query query.t (test.catalogue catalogue.t refl refl refl refl refl) refl refl refl
