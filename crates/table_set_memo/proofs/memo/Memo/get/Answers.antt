use Rattle.std.proofs.Common.{◌∙◌, ap}
use Rattle.table_set_memo.specs.Memos.{plans_at}
use Rattle.table_set_memo.proofs.MemoLaws.{plans_at-lookup}
use Rattle.table_set_memo.proofs.memo.Memo.get.Goals as goal

pub returns : goal.returns
returns c = c.get.ensures.value ∙ plans_at-lookup c.args.goal.now c.self.inside.sets.entries ∙ ap (λ memo. plans_at memo c.args.goal.now) c.self.view_is
