use Rattle.std.proofs.Common.{rules, tests}
use Rattle.std.proofs.lemmas.Iterator.Consumers.{YieldsList-from_first}
use Rattle.std.proofs.lemmas.Iterator.Search.{any_from_yields_List}
use Rattle.dominance_prune.specs.Iterating.{plan_iter_rest}
use Rattle.plan_offers.proofs.coverage.is_covered.Goals as goal

pub returns : goal.returns
returns c = any_from_yields_List _ c.any.new.self _ _ c.any.ensures.ran (YieldsList-from_first (λ x. x.now) plan_iter_rest _ c.iter.ensures) (λ x b q k. search (rules, tests))
