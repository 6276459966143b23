use Rattle.std.proofs.Common.{◌∙◌, ap}
use Rattle.std.specs.Map.{remove_entry}
use Rattle.table_set_memo.specs.Memos.{plans_at, same_goal}
use Rattle.table_set_memo.proofs.MemoLaws.{plans_at-lookup, removed_others}
use Rattle.table_set_memo.proofs.memo.Memo.remove.Goals as goal

pub returns-clause-set : goal.returns-clause-set
returns-clause-set c = c.shift_remove.ensures.value ∙ plans_at-lookup c.args.goal.now c.self.inside.sets.entries ∙ ap (λ memo. plans_at memo c.args.goal.now) c.self.view_is

pub returns-clause-others : goal.returns-clause-others
returns-clause-others c =
    c.shift_remove.ensures.entries ∙ ap (remove_entry (same_goal c.args.goal.now)) c.self.view_is ∙ removed_others c.args.goal.now c.args.self.now c.each_once.ensures
