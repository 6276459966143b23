use Rattle.star_check.proofs.WrongKinds.{right_kinds}
use Rattle.star_check.proofs.wrong_kinds.has_wrong_kind.Goals as goal

pub returns-else-not-is_kinded : goal.returns-else-not-is_kinded
returns-else-not-is_kinded c =
    right_kinds c.args.rules.now c.args.star.now c.in_ok-is_kinded.is_kinded c.is_wrong_root.result c.in_ok-is_kinded.ensures c.if-not-is_kinded.false c.is_wrong_root.ensures
