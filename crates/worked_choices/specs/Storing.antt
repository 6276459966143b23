-- A query of one table, by rules that read the table, and store it too, or twice.
use Rattle.std.specs.Prelude.{[], ◌∷◌, true, false}
use Rattle.star_model.specs.declared.plans.Props.{Props}
use Rattle.star_model.specs.declared.query.Query.{Query}
use Rattle.star_model.specs.declared.rules.RuleFile.{RuleFile}
use Rattle.worked_plans.specs.Queries as queries
use Rattle.worked_plans.specs.RuleFiles as files

abbrev pub query : Query
query = queries.t_filled

abbrev pub rules : RuleFile
rules = files.storing

-- the vectors of its three plans

abbrev pub read_alone : Props
read_alone = record {
  tables = 1;
  cols = (1 ∷ 0 ∷ 0 ∷ 0 ∷ 0 ∷ 0 ∷ 0 ∷ 0 ∷ 0 ∷ 0 ∷ 0 ∷ 0 ∷ []);
  preds = 0;
  order = [];
  site = record { 0 = 0 };
  temp = false;
  path = [];
  card = 1000;
  cost = 1500;
  rescan = 1500;
}

abbrev pub and_stored : Props
and_stored = record read_alone { temp = true; cost = 3500; rescan = 1000 }

abbrev pub stored_again : Props
stored_again = record and_stored { cost = 5500 }
