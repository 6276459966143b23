use Rattle.std.proofs.lemmas.Result.{err_from_is_err_and}
use Rattle.std.proofs.Common.{[]}
use Rattle.stars_core.specs.declared.command.Command.TheVariants.{Frontier}
use Rattle.stars_core.proofs.texts.frontier_texts.Goals as goal

pub returns-in_err-case : goal.returns-in_err-case
returns-in_err-case c =
    let p = err_from_is_err_and c.from_residual.result c.from_residual.ensures.1 in rw (p.1, p.2) (c.in_err-case.ensures Frontier [])

pub frontier_query-requires : goal.frontier_query-requires
frontier_query-requires c = c.in_ok-case.ensures.1.formed

pub returns : goal.returns
returns c =
    let t = c.in_ok-case.ensures in
    (t.0, record { saying = (c.in_ok-case.case.rules, c.in_ok-case.case.query); says = t.1; answer = c.in_ok-answer.ensures })
