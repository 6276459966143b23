use Rattle.std.proofs.Common.{◌≡◌, ℕ, List, map, take, true}
use Rattle.std.specs.List.{list_any}
use Rattle.star_model.specs.Vectors.{same_numbers}
use Rattle.star_model.specs.WellFormed.{differ}
use Rattle.query_graph.specs.Words.{said_item}
use Rattle.query_graph.specs.Faults.{quantifier_names}
use Rattle.query_graph.proofs.names.have_one_name.Given as goal

abbrev pub invariant-loop-item : goal.invariant-loop-item
invariant-loop-item l =
    let before = quantifier_names (map said_item (take l.item-index l.items)) in record {
      held : (name : List ℕ) → list_any (λ k. same_numbers name k.now) l.names.keys ≡ list_any (same_numbers name) before;
      differ : differ same_numbers before ≡ true;
    }
