use Rattle.std.proofs.lemmas.Result.{err_from_is_err_and}
use Rattle.std.proofs.Common.{[], refl}
use Rattle.stars_core.specs.declared.command.Command.TheVariants.{Frontier}
use Rattle.stars_core.specs.Saying.{three}
use Rattle.stars_core.proofs.compose.frontier.Goals as goal

pub returns-in_err-case-clause-ran : goal.returns-in_err-case-clause-ran
returns-in_err-case-clause-ran g c =
    let p = err_from_is_err_and c.from_residual.result c.from_residual.ensures.1 in rw (p.1, p.2) (c.in_err-case.ensures.taken Frontier [])

pub frontier_query-requires : goal.frontier_query-requires
frontier_query-requires g c = c.in_ok-case.ensures.taken.4.formed

pub returns-clause-ran : goal.returns-clause-ran
returns-clause-ran g c =
    let t = c.in_ok-case.ensures.taken in
    rw c.of.ensures.ending (
      t.3.quiet,
      (
        three t.0 t.1 t.2,
        t.3.held,
        t.3.accepted,
        record {
          text = c.in_ok-answer.answer.text.items;
          answer = record { saying = (c.in_ok-case.case.rules, c.in_ok-case.case.query); says = t.4; answer = c.in_ok-answer.ensures };
          more = [];
          further = refl;
          are = c.of.ensures.pieces;
        },
      ),
    )
