use Rattle.std.proofs.Common.{rules}
use Rattle.std.specs.Ordering.{is_lt}
use Rattle.std.proofs.lemmas.Fn.{always_returns_same}
use Rattle.std.proofs.lemmas.List.Sorted.{ranks_by}
use Rattle.star_model.specs.declared.plans.Props.{Props}
use Rattle.plan_choice.specs.LineOrder.{line_cmp}
use Rattle.plan_choice.proofs.LineOrderLaws.{line_total}
use Rattle.plan_choice.proofs.SortedLines.{listed}
use Rattle.plan_choice.proofs.listing.listed_frontier.Goals as goal

pub returns : goal.returns
returns c =
    listed c.args.plans.now c.in_ok-vectors.vectors.items c.sort_unstable_by.new.self.items c.as_list.result c.in_ok-vectors.ensures c.sort_unstable_by.ensures.permutation
    (c.sort_unstable_by.ensures.sorted (λ v w. is_lt (line_cmp v w)) (ranks_by line_total (λ (v : Props). v)) (always_returns_same _ _ _ (λ a r g h. search rules))) c.as_list.ensures
