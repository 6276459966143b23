use Rattle.std.proofs.Common.{ap, ◌∙◌, arith}
use Rattle.sb_text.specs.Statements.{part_of, parts_of_iter}
use Rattle.spelling.proofs.Laws.{parts_said, parts_hold, parts_few}
use Rattle.catalogue.proofs.Understood.{strange_at}
use Rattle.catalogue.proofs.statements.read_statements.Goals as goal

pub loop-statement-init : goal.loop-statement-init
loop-statement-init c =
    let same = ap parts_of_iter c.into_iter-statement-iterator.ensures.into_iter_gives ∙ c.statements-statement-items.ensures in
    let source = c.args.source.now in
    let tokens = c.args.tokens.now in
    rw (c.new-list.ensures, same) (record {
      read = parts_said source tokens c.requires.tokens;
      columns = tt;
      tokens = parts_hold source tokens c.requires.tokens;
      number = omega arith;
      few = omega (arith, parts_few source tokens c.requires.tokens, c.requires.size);
    })

pub returns-in-Err-Strange : goal.returns-in-Err-Strange
returns-in-Err-Strange c =
    let l = c.loop-statement in
    strange_at c.args.source.now l.list (part_of c.in-Some.statement) (parts_of_iter l.statement-iterator) (parts_of_iter c.next.new.self) l.number
    l.invariant.read c.in-Some.ensures.steps l.invariant.columns l.invariant.number (rw c.in-Err-Strange.field-0-is at c.in-Err-Strange.ensures)
