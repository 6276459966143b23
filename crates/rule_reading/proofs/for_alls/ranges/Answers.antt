use Rattle.std.proofs.Common.{List, ap, sym, ◌∙◌}
use Rattle.std.proofs.lemmas.Result.{err_from_is_err_and}
use Rattle.star_model.specs.declared.rules.ForAll.{ForAll}
use Rattle.rule_grammar.specs.StarReading.{with_ranges, names_of}
use Rattle.rule_reading.proofs.ForAlls.{ends, stops, goes, falls}
use Rattle.rule_reading.proofs.for_alls.ranges.Goals as goal

pub returns-in_err-range : goal.returns-in_err-range
returns-in_err-range c =
    let p = err_from_is_err_and c.from_residual.result c.from_residual.ensures.1 in
    rw (p.1, p.2) (
    stops _ _ _ _ _ c.clauses.invariant _ _ _ _ _ _ c.the_word.ensures.reads (sym c.clauses-test.ensures)
    (c.new-scope.ensures ∙ ap (λ (fs : List ForAll). with_ranges (names_of c.args.version c.args.params.now) fs) c.as_slice.ensures) c.in_err-range.ensures)

pub clauses-smaller : goal.clauses-smaller
clauses-smaller c = falls _ _ _ _ c.in_ok-range.range _ _ c.the_word.ensures.reads (sym c.clauses-test.ensures) c.in_ok-range.ensures

pub clauses-preserved : goal.clauses-preserved
clauses-preserved c =
    goes _ _ _ _ _ c.clauses.invariant _ _ _ _ _ _ c.the_word.ensures.reads (sym c.clauses-test.ensures)
    (c.new-scope.ensures ∙ ap (λ (fs : List ForAll). with_ranges (names_of c.args.version c.args.params.now) fs) c.as_slice.ensures) c.in_ok-range.ensures c.in_ok-push.ensures.ok

pub returns : goal.returns
returns c = ends _ _ _ _ _ c.clauses.invariant _ _ c.the_word.ensures.reads c.the_word.ensures.stays (sym c.clauses-test.ensures)
