use Rattle.std.proofs.Common.{◌≡◌, fold, take}
use Rattle.std.specs.List.{flat_map}
use Rattle.star_model.specs.Predicates.{columns_of}
use Rattle.query_facts.specs.UsedColumns.{adding}
use Rattle.query_facts.proofs.sets.add_sides.Given as goal

abbrev pub invariant-loop-pred : goal.invariant-loop-pred
invariant-loop-pred l = l.found ≡ fold (adding l.tables) l.fn.found (flat_map columns_of (take l.pred-index l.preds))
