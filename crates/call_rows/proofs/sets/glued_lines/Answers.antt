use Rattle.std.proofs.Common.{List, sym, subst}
use Rattle.star_model.specs.declared.costs.CostEntry.{CostEntry}
use Rattle.lolepop.specs.Derived.{AllFit}
use Rattle.exchange.proofs.Laws.{best_fit}
use Rattle.call_rows.proofs.sets.glued_lines.Goals as goal

pub glue-requires-clause-fits : goal.glue-requires-clause-fits
glue-requires-clause-fits c =
    subst (λ (costs : List CostEntry). AllFit c.args.query.now costs c.args.plans.now) (sym c.costs.ensures)
    (best_fit _ c.args.rules.now _ _ c.requires.plans)
