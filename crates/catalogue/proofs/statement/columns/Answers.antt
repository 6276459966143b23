use Rattle.std.proofs.lemmas.Result.{err_from_is_err_and}
use Rattle.spelling.specs.Lexemes.{comma}
use Rattle.spelling.specs.SeriesReadingCases.{begun}
use Rattle.spelling.specs.SeriesLoopCases.{ends, goes, falls}
use Rattle.spelling.proofs.Laws.{the_symbol_reads}
use Rattle.catalogue.specs.Reading.{items_at}
use Rattle.catalogue.proofs.Loops.{stops}
use Rattle.catalogue.proofs.Spelled.{spelled_column, column_spelled}
use Rattle.catalogue.proofs.statement.columns.Goals as goal

pub loop-columns-init : goal.loop-columns-init
loop-columns-init c = rw c.new-columns.ensures (begun _ _ c.args.cursor.now)

pub returns-in_err-column : goal.returns-in_err-column
unfolding items_at
returns-in_err-column c =
    let p = err_from_is_err_and c.from_residual.result c.from_residual.ensures.1 in
    rw (p.1, p.2) (stops _ _ _ _ _ _ _ _ c.loop-columns.invariant c.in_err-column.ensures)

pub returns-then-is_none : goal.returns-then-is_none
unfolding items_at
returns-then-is_none c =
    ends _ _ _ _ _ _ _ _ _ _ c.loop-columns.invariant c.in_ok-column.ensures c.in_ok-push.ensures.ok c.the_symbol.ensures.reads c.the_symbol.ensures.stays c.if-is_none.ensures

pub loop-columns-smaller : goal.loop-columns-smaller
loop-columns-smaller c =
    falls _ _ spelled_column _ comma column_spelled (the_symbol_reads _) _ c.in_ok-column.column c.column.new.cursor _ _ c.in_ok-column.ensures c.the_symbol.ensures.reads c.if-is_none.ensures

pub loop-columns-preserved : goal.loop-columns-preserved
loop-columns-preserved c =
    goes _ _ spelled_column _ comma column_spelled (the_symbol_reads _) _ _ _ _ _ _ _ _ c.loop-columns.invariant c.in_ok-column.ensures c.in_ok-push.ensures.ok c.the_symbol.ensures.reads c.if-is_none.ensures
