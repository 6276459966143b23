use Rattle.std.proofs.Common.{codes}
use Rattle.std.proofs.lemmas.Result.{err_from_is_err_and}
use Rattle.spelling.specs.Lexemes.{Word}
use Rattle.query_graph.specs.Queries.{comparison_lexemes}
use Rattle.spelling.specs.SeriesLoopCases.{ends, goes, falls}
use Rattle.spelling.proofs.Laws.{the_word_reads}
use Rattle.query_graph.specs.StatementReading.{comparisons_at}
use Rattle.query_graph.specs.Words.{said_comparison}
use Rattle.query_graph.proofs.Loops.{stops, pushed}
use Rattle.query_graph.proofs.PartsSpelled.{comparison_spelled}
use Rattle.query_graph.proofs.comparisons.comparisons.Goals as goal

pub returns-in_err-comparison : goal.returns-in_err-comparison
unfolding comparisons_at
returns-in_err-comparison c =
    let p = err_from_is_err_and c.from_residual.result c.from_residual.ensures.1 in
    rw (p.1, p.2) (stops said_comparison _ _ _ _ _ _ _ _ c.loop-comparisons.invariant c.in_err-comparison.ensures)

pub returns-then-is_none : goal.returns-then-is_none
unfolding comparisons_at
returns-then-is_none c =
    ends _ _ _ _ _ _ _ _ _ _ c.loop-comparisons.invariant c.in_ok-comparison.ensures (pushed said_comparison _ _ _ c.in_ok-push.ensures.ok) c.the_word.ensures.reads c.the_word.ensures.stays c.if-is_none.ensures

pub loop-comparisons-smaller : goal.loop-comparisons-smaller
loop-comparisons-smaller c = falls _ _ comparison_lexemes _ (Word (codes "and")) comparison_spelled (the_word_reads _) _ _ _ _ _ c.in_ok-comparison.ensures c.the_word.ensures.reads c.if-is_none.ensures

pub loop-comparisons-preserved : goal.loop-comparisons-preserved
loop-comparisons-preserved c =
    goes _ _ comparison_lexemes _ (Word (codes "and")) comparison_spelled (the_word_reads _) _ _ _ _ _ _ _ _ c.loop-comparisons.invariant c.in_ok-comparison.ensures (pushed said_comparison _ _ _ c.in_ok-push.ensures.ok) c.the_word.ensures.reads c.if-is_none.ensures
