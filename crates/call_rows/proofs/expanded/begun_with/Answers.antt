use Rattle.std.proofs.Common.{◌≡◌, Option, Some, None, IsSome, Bor, true, not, sym, ◌∙◌, ap}
use Rattle.std.specs.Prelude.{is_some}
use Rattle.std.specs.Option.{option_copied}
use Rattle.std.proofs.lemmas.Bool.{true≢false}
use Rattle.star_check.proofs.Laws.{asked_goals_are_goals}
use Rattle.star_expand.proofs.Laws.{own_goal, frontiers_none, closed_none}
use Rattle.call_rows.proofs.expanded.begun_with.Goals as goal

copied_some : {X : Type 0} (r : Option (Bor X)) (o : Option X) → is_some r ≡ true → option_copied r ≡ o → IsSome o
copied_some None o some is = absurd (true≢false (sym some))
copied_some (Some x) o some is = ap is_some (sym is)

pub expand_twice-requires-clause-goal : goal.expand_twice-requires-clause-goal
expand_twice-requires-clause-goal c =
    let held = copied_some c.get.result _ (c.is_none.ensures ∙ ap not c.if-is_none.false) c.get.ensures in
    asked_goals_are_goals _ c.args.rules.now c.stands.ensures.accepted c.requires.query _ _ ((c.requires.goals c.args.first).0 held)

pub expand_twice-requires-clause-frontiers : goal.expand_twice-requires-clause-frontiers
expand_twice-requires-clause-frontiers c = frontiers_none _ _ _ c.new-memo.ensures

pub expand_twice-requires-clause-closed : goal.expand_twice-requires-clause-closed
expand_twice-requires-clause-closed c = closed_none _ _ _ c.new-memo.ensures

pub expand_twice-requires-2-clause-goal : goal.expand_twice-requires-2-clause-goal
expand_twice-requires-2-clause-goal c = own_goal _ c.args.rules.now _ c.requires.query c.stands.ensures.accepted c.own_goal.ensures
