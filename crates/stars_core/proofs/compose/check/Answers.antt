use Rattle.std.proofs.lemmas.Result.{err_from_is_err_and}
use Rattle.std.proofs.Common.{[], ◌∷◌, refl}
use Rattle.stars_core.specs.declared.command.Command.TheVariants.{Check}
use Rattle.stars_core.specs.declared.refusal.TextKind.TheVariants.{Rules}
use Rattle.stars_core.proofs.FaultLaws.{rules_pass}
use Rattle.stars_core.proofs.Says.{says_rules}
use Rattle.stars_core.proofs.Cases.{rules_stop}
use Rattle.stars_core.proofs.compose.check.Goals as goal

pub returns-in_err-rules-clause-ran : goal.returns-in_err-rules-clause-ran
returns-in_err-rules-clause-ran g c =
    let p = err_from_is_err_and c.from_residual.result c.from_residual.ensures.1 in
    rw (p.1, p.2) (rules_stop (g.S.Shelf.state c.args.shelf.now) Check (g.S.Shelf.state c.take_rules.new.shelf) c.args.rules.now [] _
    c.in_err-rules.ensures.goes c.in_err-rules.ensures.taken)

pub returns-clause-ran : goal.returns-clause-ran
returns-clause-ran g c =
    let r = c.in_ok-rules.ensures.taken in
    rw c.of.ensures.ending (
      r.0,
      (
        (Rules, r.1) ∷ [],
        (refl, r.2, tt),
        (rules_pass r.1 c.in_ok-rules.rules r.3 [], tt),
        record {
          text = c.in_ok-answer.answer.text.items;
          answer = record { saying = c.in_ok-rules.rules; says = says_rules r.1 c.in_ok-rules.rules r.3; answer = c.in_ok-answer.ensures };
          more = [];
          further = refl;
          are = c.of.ensures.pieces;
        },
      ),
    )
