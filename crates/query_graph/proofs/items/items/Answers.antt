use Rattle.std.proofs.lemmas.Result.{err_from_is_err_and}
use Rattle.spelling.specs.Lexemes.{comma}
use Rattle.query_graph.specs.Queries.{item_lexemes}
use Rattle.spelling.specs.SeriesLoopCases.{ends, goes, falls}
use Rattle.spelling.proofs.Laws.{the_symbol_reads}
use Rattle.query_graph.specs.StatementReading.{items_at}
use Rattle.query_graph.specs.Words.{said_item}
use Rattle.query_graph.proofs.Loops.{stops, pushed}
use Rattle.query_graph.proofs.PartsSpelled.{item_spelled}
use Rattle.query_graph.proofs.items.items.Goals as goal

pub returns-in_err-item : goal.returns-in_err-item
unfolding items_at
returns-in_err-item c =
    let p = err_from_is_err_and c.from_residual.result c.from_residual.ensures.1 in
    rw (p.1, p.2) (stops said_item _ _ _ _ _ _ _ _ c.loop-items.invariant c.in_err-item.ensures)

pub returns-then-is_none : goal.returns-then-is_none
unfolding items_at
returns-then-is_none c =
    ends _ _ _ _ _ _ _ _ _ _ c.loop-items.invariant c.in_ok-item.ensures (pushed said_item _ _ _ c.in_ok-push.ensures.ok) c.the_symbol.ensures.reads c.the_symbol.ensures.stays c.if-is_none.ensures

pub loop-items-smaller : goal.loop-items-smaller
loop-items-smaller c = falls _ _ item_lexemes _ comma item_spelled (the_symbol_reads _) _ _ _ _ _ c.in_ok-item.ensures c.the_symbol.ensures.reads c.if-is_none.ensures

pub loop-items-preserved : goal.loop-items-preserved
loop-items-preserved c =
    goes _ _ item_lexemes _ comma item_spelled (the_symbol_reads _) _ _ _ _ _ _ _ _ c.loop-items.invariant c.in_ok-item.ensures (pushed said_item _ _ _ c.in_ok-push.ensures.ok) c.the_symbol.ensures.reads c.if-is_none.ensures
