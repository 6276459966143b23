use Rattle.std.proofs.Common.{Err, ◌∙◌, sym, ap, subst, rules}
use Rattle.std.proofs.lemmas.Result.{err_from_is_err_and}
use Rattle.catalogue.specs.Reading.{statement_at}
use Rattle.spelling.specs.Answers.{Answers}
use Rattle.sb_text.specs.Statements.{part_of}
use Rattle.spelling.specs.Cursors.{part_said}
use Rattle.catalogue.proofs.Understood.{all_read, not_ended, error_told, more_left}
use Rattle.catalogue.proofs.statement.read_statement.Goals as goal

pub returns-then-not-statement : goal.returns-then-not-statement
returns-then-not-statement c = not_ended (part_said c.args.source.now (part_of c.args.statement.now)) (search rules)

pub returns-in_err-words : goal.returns-in_err-words
returns-in_err-words c =
    let p = err_from_is_err_and c.from_residual.result c.from_residual.ensures.1 in
    let error = c.in_err-words.field-0.0 in
    rw (p.1, p.2) (error_told (part_said c.args.source.now (part_of c.args.statement.now)) c.front.new.cursor error
    (subst (λ l. Answers (statement_at l) (Err error) c.front.new.cursor) c.new-cursor.ensures c.in_err-words.ensures))

pub returns-then-is_done : goal.returns-then-is_done
returns-then-is_done c =
    all_read (part_said c.args.source.now (part_of c.args.statement.now)) c.front.new.cursor c.in_ok-words.words (search rules) (ap statement_at (sym c.new-cursor.ensures) ∙ c.in_ok-words.ensures) (c.is_done.ensures.0 (search rules))

pub returns-else-is_done : goal.returns-else-is_done
returns-else-is_done c =
    more_left (part_said c.args.source.now (part_of c.args.statement.now)) c.front.new.cursor c.in_ok-words.words (ap statement_at (sym c.new-cursor.ensures) ∙ c.in_ok-words.ensures)
    (λ none. let done = c.is_done.ensures.1 none in let not_done = c.if-is_done.false in search rules)
