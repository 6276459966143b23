use Rattle.std.proofs.lemmas.Result.{err_from_is_err_and}
use Rattle.std.proofs.Common.{[]}
use Rattle.stars_core.specs.declared.command.Command.TheVariants.{Check}
use Rattle.stars_core.proofs.FaultLaws.{rules_pass}
use Rattle.stars_core.proofs.Says.{says_rules}
use Rattle.stars_core.proofs.Cases.{rules_not}
use Rattle.stars_core.proofs.texts.check_text.Goals as goal

pub returns-in_err-rules : goal.returns-in_err-rules
returns-in_err-rules c =
    let p = err_from_is_err_and c.from_residual.result c.from_residual.ensures.1 in
    rw (p.1, p.2) (rules_not Check c.args.rules.now [] _ c.in_err-rules.ensures)

pub returns : goal.returns
returns c = (
  (rules_pass c.args.rules.now c.in_ok-rules.rules c.in_ok-rules.ensures [], tt),
  record { saying = c.in_ok-rules.rules; says = says_rules c.args.rules.now c.in_ok-rules.rules c.in_ok-rules.ensures; answer = c.in_ok-answer.ensures },
)
