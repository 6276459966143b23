use Rattle.std.proofs.Common.{[], ◌∷◌, ◌<◌, length, sym, subst}
use Rattle.std.proofs.lemmas.Result.{on_ok_weaker}
use Rattle.sb_outside.specs.Records.{Records}
use Rattle.workload_gen.proofs.RecordLaws.{field_added, pair_added, some_record}
use Rattle.workload_gen.proofs.records.add_pair.Goals as goal

pub add-requires-2 : goal.add-requires-2
add-requires-2 c =
    subst (λ (t : Records). 0 < length t) (sym (field_added c.args.table.now c.begin.new.self c.add.new.self c.args.first.now c.in_ok-begin.ensures.added c.in_ok-add.ensures.added))
    (some_record c.args.table.now (c.args.first.now ∷ []))

pub returns : goal.returns
returns c =
    on_ok_weaker c.add-2.result (pair_added c.args.table.now c.begin.new.self c.add.new.self c.add-2.new.self c.args.first.now c.args.second.now c.in_ok-begin.ensures.added c.in_ok-add.ensures.added)
    c.add-2.ensures.added
