use Rattle.std.proofs.Common.{◌≡◌, ◌≤◌, ◌++◌, length}
use Rattle.star_model.specs.Meaning.{keys_of}
use Rattle.query_facts.proofs.KeyWalks.{keys_from}
use Rattle.query_facts.proofs.join_keys.keys.Given as goal

abbrev pub invariant-loop-n : goal.invariant-loop-n
invariant-loop-n l = record { short : length l.found ≤ l.n; left : l.found ++ keys_from l.preds l.tables l.query.preds l.n ≡ keys_of l.query l.preds l.tables }
