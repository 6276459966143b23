use Rattle.std.proofs.lemmas.Result.{err_from_is_err_and}
use Rattle.spelling.specs.Lexemes.{comma}
use Rattle.query_graph.specs.Queries.{column_lexemes}
use Rattle.spelling.specs.SeriesLoopCases.{ends, goes, falls}
use Rattle.spelling.proofs.Laws.{the_symbol_reads}
use Rattle.query_graph.specs.StatementReading.{columns_at}
use Rattle.query_graph.specs.Words.{said_column}
use Rattle.query_graph.proofs.Loops.{stops, pushed}
use Rattle.query_graph.proofs.PartsSpelled.{column_spelled}
use Rattle.query_graph.proofs.columns.columns.Goals as goal

pub returns-in_err-column : goal.returns-in_err-column
unfolding columns_at
returns-in_err-column c =
    let p = err_from_is_err_and c.from_residual.result c.from_residual.ensures.1 in
    rw (p.1, p.2) (stops said_column _ _ _ _ _ _ _ _ c.loop-columns.invariant c.in_err-column.ensures)

pub returns-then-is_none : goal.returns-then-is_none
unfolding columns_at
returns-then-is_none c =
    ends _ _ _ _ _ _ _ _ _ _ c.loop-columns.invariant c.in_ok-column.ensures (pushed said_column _ _ _ c.in_ok-push.ensures.ok) c.the_symbol.ensures.reads c.the_symbol.ensures.stays c.if-is_none.ensures

pub loop-columns-smaller : goal.loop-columns-smaller
loop-columns-smaller c = falls _ _ column_lexemes _ comma column_spelled (the_symbol_reads _) _ _ _ _ _ c.in_ok-column.ensures c.the_symbol.ensures.reads c.if-is_none.ensures

pub loop-columns-preserved : goal.loop-columns-preserved
loop-columns-preserved c =
    goes _ _ column_lexemes _ comma column_spelled (the_symbol_reads _) _ _ _ _ _ _ _ _ c.loop-columns.invariant c.in_ok-column.ensures (pushed said_column _ _ _ c.in_ok-push.ensures.ok) c.the_symbol.ensures.reads c.if-is_none.ensures
