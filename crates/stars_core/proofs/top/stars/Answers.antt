use Rattle.std.proofs.Common.{refl}
use Rattle.stars_core.specs.declared.status.Status.TheVariants.{Done, NoPlan, WriteFault}
use Rattle.stars_core.specs.declared.status.Ending.TheVariants as endings
use Rattle.stars_core.specs.CommandLine.{bytes_of, command_of}
use Rattle.stars_core.specs.Lines.{status_of}
use Rattle.stars_core.proofs.Derived.{complete, refused_exactly}
use Rattle.stars_core.proofs.GenEnds.{gen_complete}
use Rattle.stars_core.proofs.Counted.{puts_few, one_put, run_calls}
use Rattle.stars_core.proofs.TablesExactly.{table_refused_exactly}
use Rattle.stars_core.proofs.Causes.{answered_at, output_at, part_at, shelf_kept}
use Rattle.stars_core.proofs.Failing.{usage_at, pieces_quiet, read_fault_at}
use Rattle.stars_core.proofs.top.stars.Goals as goal

pub returns-in-Done-clause-answer : goal.returns-in-Done-clause-answer
returns-in-Done-clause-answer g c =
    output_at endings.Done (bytes_of c.args.words.now) (command_of (bytes_of c.args.words.now)) _ _ _ _ _ c.in-Ok.pieces refl c.in-Ok.ensures c.in-Done.is
    c.in-Ok-emit.ensures.puts c.in-Ok-emit.ensures.added c.in-Ok-emit.ensures.no_fault

pub returns-in-Done-clause-complete : goal.returns-in-Done-clause-complete
returns-in-Done-clause-complete g c =
    complete Done (bytes_of c.args.words.now) _ _ (g.O.Sink.state c.args.out.now) (g.O.Sink.state c.emit.new.out) (g.E.Sink.state c.args.err.now) (g.E.Sink.state c.args.err.now) (returns-in-Done-clause-answer g c)

pub returns-in-Done-clause-generated : goal.returns-in-Done-clause-generated
returns-in-Done-clause-generated g c =
    gen_complete Done (bytes_of c.args.words.now) _ _ (g.O.Sink.state c.args.out.now) (g.O.Sink.state c.emit.new.out) (g.E.Sink.state c.args.err.now) (g.E.Sink.state c.args.err.now) (returns-in-Done-clause-answer g c)

pub returns-in-Done-clause-refused : goal.returns-in-Done-clause-refused
returns-in-Done-clause-refused g c =
    refused_exactly Done (bytes_of c.args.words.now) _ _ (g.O.Sink.state c.args.out.now) (g.O.Sink.state c.emit.new.out) (g.E.Sink.state c.args.err.now) (g.E.Sink.state c.args.err.now) (returns-in-Done-clause-answer g c)

pub returns-in-Done-clause-table_refused : goal.returns-in-Done-clause-table_refused
returns-in-Done-clause-table_refused g c =
    table_refused_exactly Done (bytes_of c.args.words.now) _ _ (g.O.Sink.state c.args.out.now) (g.O.Sink.state c.emit.new.out) (g.E.Sink.state c.args.err.now) (g.E.Sink.state c.args.err.now) (returns-in-Done-clause-answer g c)

pub returns-in-Done-clause-puts : goal.returns-in-Done-clause-puts
returns-in-Done-clause-puts g c =
    puts_few Done (bytes_of c.args.words.now) _ _ (g.O.Sink.state c.args.out.now) (g.O.Sink.state c.emit.new.out) (g.E.Sink.state c.args.err.now) (g.E.Sink.state c.args.err.now) (returns-in-Done-clause-answer g c)

pub returns-in-Done-clause-run_puts : goal.returns-in-Done-clause-run_puts
returns-in-Done-clause-run_puts g c =
    one_put Done (bytes_of c.args.words.now) _ _ (g.O.Sink.state c.args.out.now) (g.O.Sink.state c.emit.new.out) (g.E.Sink.state c.args.err.now) (g.E.Sink.state c.args.err.now) (returns-in-Done-clause-answer g c)

pub returns-in-Done-clause-run_calls : goal.returns-in-Done-clause-run_calls
returns-in-Done-clause-run_calls g c = run_calls (bytes_of c.args.words.now) (command_of (bytes_of c.args.words.now)) _ _ _ refl c.in-Ok.ensures

pub returns-in-Done-clause-shelf : goal.returns-in-Done-clause-shelf
returns-in-Done-clause-shelf g c = shelf_kept (bytes_of c.args.words.now) (command_of (bytes_of c.args.words.now)) _ _ _ c.in-Ok.ensures

pub returns-in-Ok-emit-clause-answer : goal.returns-in-Ok-emit-clause-answer
returns-in-Ok-emit-clause-answer g c =
    output_at endings.NoPlan (bytes_of c.args.words.now) (command_of (bytes_of c.args.words.now)) _ _ _ _ _ c.in-Ok.pieces refl c.in-Ok.ensures c.in-NoPlan.is
    c.in-Ok-emit.ensures.puts c.in-Ok-emit.ensures.added c.in-Ok-emit.ensures.no_fault

pub returns-in-Ok-emit-clause-complete : goal.returns-in-Ok-emit-clause-complete
returns-in-Ok-emit-clause-complete g c =
    complete NoPlan (bytes_of c.args.words.now) _ _ (g.O.Sink.state c.args.out.now) (g.O.Sink.state c.emit.new.out) (g.E.Sink.state c.args.err.now) (g.E.Sink.state c.args.err.now) (returns-in-Ok-emit-clause-answer g c)

pub returns-in-Ok-emit-clause-generated : goal.returns-in-Ok-emit-clause-generated
returns-in-Ok-emit-clause-generated g c =
    gen_complete NoPlan (bytes_of c.args.words.now) _ _ (g.O.Sink.state c.args.out.now) (g.O.Sink.state c.emit.new.out) (g.E.Sink.state c.args.err.now) (g.E.Sink.state c.args.err.now) (returns-in-Ok-emit-clause-answer g c)

pub returns-in-Ok-emit-clause-refused : goal.returns-in-Ok-emit-clause-refused
returns-in-Ok-emit-clause-refused g c =
    refused_exactly NoPlan (bytes_of c.args.words.now) _ _ (g.O.Sink.state c.args.out.now) (g.O.Sink.state c.emit.new.out) (g.E.Sink.state c.args.err.now) (g.E.Sink.state c.args.err.now) (returns-in-Ok-emit-clause-answer g c)

pub returns-in-Ok-emit-clause-table_refused : goal.returns-in-Ok-emit-clause-table_refused
returns-in-Ok-emit-clause-table_refused g c =
    table_refused_exactly NoPlan (bytes_of c.args.words.now) _ _ (g.O.Sink.state c.args.out.now) (g.O.Sink.state c.emit.new.out) (g.E.Sink.state c.args.err.now) (g.E.Sink.state c.args.err.now) (returns-in-Ok-emit-clause-answer g c)

pub returns-in-Ok-emit-clause-puts : goal.returns-in-Ok-emit-clause-puts
returns-in-Ok-emit-clause-puts g c =
    puts_few NoPlan (bytes_of c.args.words.now) _ _ (g.O.Sink.state c.args.out.now) (g.O.Sink.state c.emit.new.out) (g.E.Sink.state c.args.err.now) (g.E.Sink.state c.args.err.now) (returns-in-Ok-emit-clause-answer g c)

pub returns-in-Ok-emit-clause-run_puts : goal.returns-in-Ok-emit-clause-run_puts
returns-in-Ok-emit-clause-run_puts g c =
    one_put NoPlan (bytes_of c.args.words.now) _ _ (g.O.Sink.state c.args.out.now) (g.O.Sink.state c.emit.new.out) (g.E.Sink.state c.args.err.now) (g.E.Sink.state c.args.err.now) (returns-in-Ok-emit-clause-answer g c)

pub returns-in-Ok-emit-clause-run_calls : goal.returns-in-Ok-emit-clause-run_calls
returns-in-Ok-emit-clause-run_calls g c = run_calls (bytes_of c.args.words.now) (command_of (bytes_of c.args.words.now)) _ _ _ refl c.in-Ok.ensures

pub returns-in-Ok-emit-clause-shelf : goal.returns-in-Ok-emit-clause-shelf
returns-in-Ok-emit-clause-shelf g c = shelf_kept (bytes_of c.args.words.now) (command_of (bytes_of c.args.words.now)) _ _ _ c.in-Ok.ensures

pub returns-in-Ok-clause-answer : goal.returns-in-Ok-clause-answer
returns-in-Ok-clause-answer g c =
    part_at (bytes_of c.args.words.now) (command_of (bytes_of c.args.words.now)) _ _ _ _ _ _ c.in-Ok.pieces refl c.in-Ok.ensures
    c.in-Err-Failed.ensures.puts c.in-Err-Failed.ensures.part c.in-Err-Failed.ensures.failed c.tell.ensures.told

pub returns-in-Ok-clause-complete : goal.returns-in-Ok-clause-complete
returns-in-Ok-clause-complete g c =
    complete WriteFault (bytes_of c.args.words.now) _ _ (g.O.Sink.state c.args.out.now) (g.O.Sink.state c.emit.new.out) (g.E.Sink.state c.args.err.now) (g.E.Sink.state c.tell.new.err) (returns-in-Ok-clause-answer g c)

pub returns-in-Ok-clause-generated : goal.returns-in-Ok-clause-generated
returns-in-Ok-clause-generated g c =
    gen_complete WriteFault (bytes_of c.args.words.now) _ _ (g.O.Sink.state c.args.out.now) (g.O.Sink.state c.emit.new.out) (g.E.Sink.state c.args.err.now) (g.E.Sink.state c.tell.new.err) (returns-in-Ok-clause-answer g c)

pub returns-in-Ok-clause-refused : goal.returns-in-Ok-clause-refused
returns-in-Ok-clause-refused g c =
    refused_exactly WriteFault (bytes_of c.args.words.now) _ _ (g.O.Sink.state c.args.out.now) (g.O.Sink.state c.emit.new.out) (g.E.Sink.state c.args.err.now) (g.E.Sink.state c.tell.new.err) (returns-in-Ok-clause-answer g c)

pub returns-in-Ok-clause-table_refused : goal.returns-in-Ok-clause-table_refused
returns-in-Ok-clause-table_refused g c =
    table_refused_exactly WriteFault (bytes_of c.args.words.now) _ _ (g.O.Sink.state c.args.out.now) (g.O.Sink.state c.emit.new.out) (g.E.Sink.state c.args.err.now) (g.E.Sink.state c.tell.new.err) (returns-in-Ok-clause-answer g c)

pub returns-in-Ok-clause-puts : goal.returns-in-Ok-clause-puts
returns-in-Ok-clause-puts g c =
    puts_few WriteFault (bytes_of c.args.words.now) _ _ (g.O.Sink.state c.args.out.now) (g.O.Sink.state c.emit.new.out) (g.E.Sink.state c.args.err.now) (g.E.Sink.state c.tell.new.err) (returns-in-Ok-clause-answer g c)

pub returns-in-Ok-clause-run_puts : goal.returns-in-Ok-clause-run_puts
returns-in-Ok-clause-run_puts g c =
    one_put WriteFault (bytes_of c.args.words.now) _ _ (g.O.Sink.state c.args.out.now) (g.O.Sink.state c.emit.new.out) (g.E.Sink.state c.args.err.now) (g.E.Sink.state c.tell.new.err) (returns-in-Ok-clause-answer g c)

pub returns-in-Ok-clause-run_calls : goal.returns-in-Ok-clause-run_calls
returns-in-Ok-clause-run_calls g c = run_calls (bytes_of c.args.words.now) (command_of (bytes_of c.args.words.now)) _ _ _ refl c.in-Ok.ensures

pub returns-in-Ok-clause-shelf : goal.returns-in-Ok-clause-shelf
returns-in-Ok-clause-shelf g c = shelf_kept (bytes_of c.args.words.now) (command_of (bytes_of c.args.words.now)) _ _ _ c.in-Ok.ensures

pub returns-clause-answer : goal.returns-clause-answer
returns-clause-answer g c =
    rw c.status.ensures
    (answered_at (bytes_of c.args.words.now) c.in-Err.refusal (command_of (bytes_of c.args.words.now)) _ _ (g.O.Sink.state c.args.out.now) _ _ refl c.in-Err.ensures
    (rw c.line.ensures at c.tell-in-Err.ensures.told))

pub returns-clause-complete : goal.returns-clause-complete
returns-clause-complete g c =
    let answered =
    answered_at (bytes_of c.args.words.now) c.in-Err.refusal (command_of (bytes_of c.args.words.now)) _ _ (g.O.Sink.state c.args.out.now) _ _ refl c.in-Err.ensures
    (rw c.line.ensures at c.tell-in-Err.ensures.told)
    in
    rw c.status.ensures
    (complete (status_of c.in-Err.refusal) (bytes_of c.args.words.now) _ _ (g.O.Sink.state c.args.out.now) (g.O.Sink.state c.args.out.now) _ _ answered)

pub returns-clause-generated : goal.returns-clause-generated
returns-clause-generated g c =
    let answered =
    answered_at (bytes_of c.args.words.now) c.in-Err.refusal (command_of (bytes_of c.args.words.now)) _ _ (g.O.Sink.state c.args.out.now) _ _ refl c.in-Err.ensures
    (rw c.line.ensures at c.tell-in-Err.ensures.told)
    in
    rw c.status.ensures
    (gen_complete (status_of c.in-Err.refusal) (bytes_of c.args.words.now) _ _ (g.O.Sink.state c.args.out.now) (g.O.Sink.state c.args.out.now) _ _ answered)

pub returns-clause-refused : goal.returns-clause-refused
returns-clause-refused g c =
    let answered =
    answered_at (bytes_of c.args.words.now) c.in-Err.refusal (command_of (bytes_of c.args.words.now)) _ _ (g.O.Sink.state c.args.out.now) _ _ refl c.in-Err.ensures
    (rw c.line.ensures at c.tell-in-Err.ensures.told)
    in
    rw c.status.ensures
    (refused_exactly (status_of c.in-Err.refusal) (bytes_of c.args.words.now) _ _ (g.O.Sink.state c.args.out.now) (g.O.Sink.state c.args.out.now) _ _ answered)

pub returns-clause-table_refused : goal.returns-clause-table_refused
returns-clause-table_refused g c =
    let answered =
    answered_at (bytes_of c.args.words.now) c.in-Err.refusal (command_of (bytes_of c.args.words.now)) _ _ (g.O.Sink.state c.args.out.now) _ _ refl c.in-Err.ensures
    (rw c.line.ensures at c.tell-in-Err.ensures.told)
    in
    rw c.status.ensures
    (table_refused_exactly (status_of c.in-Err.refusal) (bytes_of c.args.words.now) _ _ (g.O.Sink.state c.args.out.now) (g.O.Sink.state c.args.out.now) _ _ answered)

pub returns-clause-puts : goal.returns-clause-puts
returns-clause-puts g c =
    puts_few (status_of c.in-Err.refusal) (bytes_of c.args.words.now) _ _ (g.O.Sink.state c.args.out.now) (g.O.Sink.state c.args.out.now) _ _
    (answered_at (bytes_of c.args.words.now) c.in-Err.refusal (command_of (bytes_of c.args.words.now)) _ _ (g.O.Sink.state c.args.out.now) _ _ refl c.in-Err.ensures
    (rw c.line.ensures at c.tell-in-Err.ensures.told))

pub returns-clause-run_puts : goal.returns-clause-run_puts
returns-clause-run_puts g c =
    one_put (status_of c.in-Err.refusal) (bytes_of c.args.words.now) _ _ (g.O.Sink.state c.args.out.now) (g.O.Sink.state c.args.out.now) _ _
    (answered_at (bytes_of c.args.words.now) c.in-Err.refusal (command_of (bytes_of c.args.words.now)) _ _ (g.O.Sink.state c.args.out.now) _ _ refl c.in-Err.ensures
    (rw c.line.ensures at c.tell-in-Err.ensures.told))

pub returns-clause-run_calls : goal.returns-clause-run_calls
returns-clause-run_calls g c = run_calls (bytes_of c.args.words.now) (command_of (bytes_of c.args.words.now)) _ _ _ refl c.in-Err.ensures

pub returns-clause-shelf : goal.returns-clause-shelf
returns-clause-shelf g c = shelf_kept (bytes_of c.args.words.now) (command_of (bytes_of c.args.words.now)) _ _ _ c.in-Err.ensures

pub returns-in-Done-clause-read_faults : goal.returns-in-Done-clause-read_faults
returns-in-Done-clause-read_faults g c = pieces_quiet (bytes_of c.args.words.now) (command_of (bytes_of c.args.words.now)) _ _ c.in-Ok.pieces c.in-Ok.ensures

pub returns-in-Ok-emit-clause-read_faults : goal.returns-in-Ok-emit-clause-read_faults
returns-in-Ok-emit-clause-read_faults g c = pieces_quiet (bytes_of c.args.words.now) (command_of (bytes_of c.args.words.now)) _ _ c.in-Ok.pieces c.in-Ok.ensures

pub returns-clause-usage : goal.returns-clause-usage
returns-clause-usage g c =
    rw c.status.ensures (usage_at (bytes_of c.args.words.now) c.in-Err.refusal (command_of (bytes_of c.args.words.now)) _ _ refl c.in-Err.ensures)

pub returns-clause-read_faults : goal.returns-clause-read_faults
returns-clause-read_faults g c =
    rw c.status.ensures (read_fault_at (bytes_of c.args.words.now) c.in-Err.refusal (command_of (bytes_of c.args.words.now)) _ _ c.in-Err.ensures)
