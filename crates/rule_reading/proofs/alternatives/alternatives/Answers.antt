use Rattle.std.proofs.lemmas.Result.{err_from_is_err_and}
use Rattle.spelling.specs.Lexemes.{bar}
use Rattle.rule_grammar.specs.Rules.{alternative_lexemes}
use Rattle.star_model.specs.WellFormedRules.{IsAlternative}
use Rattle.rule_grammar.specs.StarReading.{alternatives_at}
use Rattle.spelling.specs.SeriesLoopCases.{ends, goes, falls}
use Rattle.rule_reading.proofs.Loops.{stops}
use Rattle.rule_reading.proofs.Parts.{alternative_is, bars}
use Rattle.rule_reading.proofs.alternatives.alternatives.Goals as goal

pub returns-in_err-alternative : goal.returns-in_err-alternative
unfolding alternatives_at
returns-in_err-alternative c =
    let p = err_from_is_err_and c.from_residual.result c.from_residual.ensures.1 in
    rw (p.1, p.2) (stops _ _ _ _ _ _ _ _ c.loop-alternatives.invariant c.in_err-alternative.ensures)

pub returns-then-is_none : goal.returns-then-is_none
unfolding alternatives_at
returns-then-is_none c =
    ends _ _ _ _ _ _ _ _ _ _ c.loop-alternatives.invariant c.in_ok-alternative.ensures c.in_ok-push.ensures.ok c.the_symbol.ensures.reads c.the_symbol.ensures.stays c.if-is_none.ensures

pub loop-alternatives-smaller : goal.loop-alternatives-smaller
loop-alternatives-smaller c =
    falls _ _ alternative_lexemes (IsAlternative _) bar (alternative_is _ _) bars _ c.in_ok-alternative.alternative c.alternative.new.cursor _ _ c.in_ok-alternative.ensures c.the_symbol.ensures.reads c.if-is_none.ensures

pub loop-alternatives-preserved : goal.loop-alternatives-preserved
loop-alternatives-preserved c =
    goes _ _ alternative_lexemes (IsAlternative _) bar (alternative_is _ _) bars _ _ _ _ _ _ _ _ c.loop-alternatives.invariant c.in_ok-alternative.ensures c.in_ok-push.ensures.ok c.the_symbol.ensures.reads c.if-is_none.ensures
