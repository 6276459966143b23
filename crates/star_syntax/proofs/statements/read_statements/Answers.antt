use Rattle.std.proofs.Common.{[], ap, ◌∙◌}
use Rattle.sb_text.specs.Statements.{part_of, parts_of_iter}
use Rattle.star_syntax.proofs.ReadLaws.{nothing_read, one_read, strange_here}
use Rattle.star_syntax.proofs.statements.read_statements.Goals as goal

pub loop-statement-init : goal.loop-statement-init
loop-statement-init c =
    let same = ap parts_of_iter c.into_iter-statement-iterator.ensures.into_iter_gives ∙ c.statements-statement-items.ensures in
    ([], rw (same, c.said_version.ensures, c.new.ensures, c.new-2.ensures, c.new-3.ensures) (nothing_read c.args.source.now c.args.tokens.now c.requires.tokens c.requires.size))

pub loop-statement-preserved : goal.loop-statement-preserved
loop-statement-preserved c =
    let l = c.loop-statement in
    one_read c.args.source.now l.invariant.0 (part_of c.in-Some.statement) (parts_of_iter l.statement-iterator) (parts_of_iter c.next.new.self) l.read c.read_statement.new.self l.number
    l.invariant.1 c.in-Some.ensures.steps c.in-Ok.ensures

pub returns-in-Err-Strange : goal.returns-in-Err-Strange
returns-in-Err-Strange c =
    let l = c.loop-statement in
    strange_here c.args.source.now l.invariant.0 (part_of c.in-Some.statement) (parts_of_iter l.statement-iterator) (parts_of_iter c.next.new.self) l.read l.number
    l.invariant.1 c.in-Some.ensures.steps (rw c.in-Err-Strange.field-0-is at c.in-Err-Strange.ensures)
