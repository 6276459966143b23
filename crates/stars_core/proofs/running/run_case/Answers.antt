use Rattle.row_steps.specs.LoadedTables.{data_of}
use Rattle.stars_core.proofs.RunEnds.{done_run}
use Rattle.stars_core.proofs.running.run_case.Goals as goal

pub returns-clause-ran : goal.returns-clause-ran
returns-clause-ran g c =
    let found = rw c.in-Some.is at c.in_ok-plan.ensures in
    let taken = c.in_ok-tables.ensures.taken in (
      taken.0,
      done_run c.args.case.now.rules c.args.case.now.query (g.S.Shelf.state c.args.shelf.now) c.requires c.in-Some.plan found
          c.in_ok-text.text.items c.in_ok-rows.rows.items c.in_ok-text.ensures (data_of c.in_ok-tables.tables) taken.2 c.in_ok-rows.ensures,
    )
