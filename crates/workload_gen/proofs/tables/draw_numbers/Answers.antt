use Rattle.workload_gen.specs.Draws.{state_after, numbers_from}
use Rattle.workload_gen.proofs.DrawLaws.{number_next}
use Rattle.workload_gen.proofs.tables.draw_numbers.Goals as goal

pub loop-number-preserved : goal.loop-number-preserved
loop-number-preserved c =
    let l = c.loop-number in
    number_next l.numbers c.push.new.self c.args.count l._number c.args.choices c.draw.result l.draws.state c.draw.new.self.state
    (numbers_from c.args.count c.args.choices c.args.draws.now.state) (state_after c.args.count c.args.draws.now.state)
    c.loop-number-test.true l.invariant c.draw.ensures.value c.draw.ensures.state c.in_ok-push.ensures.ok
