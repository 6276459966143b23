use Rattle.std.proofs.lemmas.Result.{err_from_is_err_and}
use Rattle.std.proofs.Common.{[]}
use Rattle.stars_core.specs.declared.command.Command.TheVariants.{Plan}
use Rattle.stars_core.proofs.Says.{spelled_plan}
use Rattle.stars_core.proofs.texts.plan_texts.Goals as goal

pub returns-in_err-case : goal.returns-in_err-case
returns-in_err-case c =
    let p = err_from_is_err_and c.from_residual.result c.from_residual.ensures.1 in rw (p.1, p.2) (c.in_err-case.ensures Plan [])

pub plan_query-requires : goal.plan_query-requires
plan_query-requires c = c.in_ok-case.ensures.1.formed

pub returns : goal.returns
returns c =
    let t = c.in_ok-case.ensures in
    (t.0, record { saying = (c.in_ok-case.case.rules, c.in_ok-case.case.query); says = t.1; answer = spelled_plan c.args.rules.now c.in_ok-case.case.rules c.in_ok-case.case.query t.1.of_rules _ _ c.in_ok-answer.ensures })
