use Rattle.star_model.specs.Expected.{Call}
use Rattle.exchange.specs.Places.{IsBestOf}
use Rattle.search_places.proofs.Laws.{references_kept}
use Rattle.star_search.proofs.Sharing.{lent_so}
use Rattle.star_search.proofs.arms.keep_plans.Goals as goal

pub returns : goal.returns
returns c =
    let s = c.args.search.now in
    let P = IsBestOf s.query.now s.rules.now (Call c.args.star.now c.args.env.now) in
    let copied = lent_so c.args.plans.now P c.in_ok-clone.field-0 c.in_ok-clone.ensures.cases c.requires.best in
    record {
      references = references_kept s.query.now s.rules.now c.args.tables.now.references c.keep_shared.new.self c.args.star.now c.args.env.now c.in_ok-clone.field-0 c.requires.shared.references copied
          c.in_ok-keep_shared.ensures.kept;
      glued = c.requires.shared.glued;
    }
