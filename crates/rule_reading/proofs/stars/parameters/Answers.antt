use Rattle.std.proofs.lemmas.Result.{err_from_is_err_and}
use Rattle.spelling.specs.Lexemes.{comma}
use Rattle.star_model.specs.WellFormedRules.{IsName}
use Rattle.rule_grammar.specs.Rules.{parameter_lexemes}
use Rattle.rule_grammar.specs.StarReading.{parameters_at}
use Rattle.spelling.specs.SeriesLoopCases.{ends, goes, falls}
use Rattle.rule_reading.proofs.Loops.{stops}
use Rattle.rule_reading.proofs.Parts.{parameter_is, commas}
use Rattle.rule_reading.proofs.stars.parameters.Goals as goal

pub returns-in_err-parameter : goal.returns-in_err-parameter
unfolding parameters_at
returns-in_err-parameter c =
    let p = err_from_is_err_and c.from_residual.result c.from_residual.ensures.1 in
    rw (p.1, p.2) (stops _ _ _ _ _ _ _ _ c.loop-parameters.invariant c.in_err-parameter.ensures)

pub returns-then-is_none : goal.returns-then-is_none
unfolding parameters_at
returns-then-is_none c =
    ends _ _ _ _ _ _ _ _ _ _ c.loop-parameters.invariant c.in_ok-parameter.ensures c.in_ok-push.ensures.ok c.the_symbol.ensures.reads c.the_symbol.ensures.stays c.if-is_none.ensures

pub loop-parameters-smaller : goal.loop-parameters-smaller
loop-parameters-smaller c =
    falls _ _ parameter_lexemes (λ p. IsName c.args.version p.name) comma (parameter_is c.args.version) commas _ c.in_ok-parameter.parameter c.parameter.new.cursor _ _ c.in_ok-parameter.ensures c.the_symbol.ensures.reads c.if-is_none.ensures

pub loop-parameters-preserved : goal.loop-parameters-preserved
loop-parameters-preserved c =
    goes _ _ parameter_lexemes (λ p. IsName c.args.version p.name) comma (parameter_is c.args.version) commas _ _ _ _ _ _ _ _ c.loop-parameters.invariant c.in_ok-parameter.ensures c.in_ok-push.ensures.ok c.the_symbol.ensures.reads c.if-is_none.ensures
