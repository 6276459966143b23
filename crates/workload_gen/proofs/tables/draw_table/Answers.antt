use Rattle.workload_gen.proofs.TableLaws.{table_drawn, state_drawn}
use Rattle.workload_gen.proofs.tables.draw_table.Goals as goal

pub returns-clause-table : goal.returns-clause-table
returns-clause-table c =
    let rows = c.draw-rows in
    let pages = c.draw-pages in
    let index = c.draw-is_indexed in
    table_drawn c.args.before c.args.draws.now.state rows.new.self.state pages.new.self.state index.new.self.state rows.result pages.result index.result c.unwrap_or.result c.in_ok-prevs.prevs
    rows.ensures.value rows.ensures.state pages.ensures.value pages.ensures.state index.ensures.value index.ensures.state c.in_ok-prevs.ensures.prevs c.unwrap_or.ensures

pub returns-clause-state : goal.returns-clause-state
returns-clause-state c =
    let rows = c.draw-rows in
    let pages = c.draw-pages in
    let index = c.draw-is_indexed in
    state_drawn c.args.before c.args.draws.now.state rows.new.self.state pages.new.self.state index.new.self.state rows.result pages.result index.result c.unwrap_or.result c.in_ok-prevs.prevs
    rows.ensures.value rows.ensures.state pages.ensures.value pages.ensures.state index.ensures.value index.ensures.state c.draw_prevs.new.draws.state c.in_ok-prevs.ensures.state
