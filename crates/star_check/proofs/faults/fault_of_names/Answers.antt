use Rattle.std.proofs.Common.{sym, ◌∙◌}
use Rattle.std.specs.Prelude.{Some, None}
use Rattle.star_model.specs.Accepted.{is_unknown, has_wrong_arity, has_wrong_kind}
use Rattle.star_check.proofs.Orders.{star_case, twice_case, passed_1, passed_2, passed_3}
use Rattle.star_check.proofs.faults.fault_of_names.Goals as goal

pub returns-in-Some : goal.returns-in-Some
returns-in-Some c = star_case c.args.rules.now (is_unknown c.args.rules.now) (Some c.in-Some.statement) (sym c.in-Some.is ∙ c.first_unknown.ensures)

pub returns-in-Some-first_twice : goal.returns-in-Some-first_twice
returns-in-Some-first_twice c =
    let known = star_case c.args.rules.now (is_unknown c.args.rules.now) None (sym c.in_default.is ∙ c.first_unknown.ensures) in
    (passed_1 c.args.rules.now known, twice_case c.args.rules.now (Some c.in-Some-first_twice.statement) (sym c.in-Some-first_twice.is ∙ c.first_twice.ensures))

pub returns-in-Some-first_wrong_arity : goal.returns-in-Some-first_wrong_arity
returns-in-Some-first_wrong_arity c =
    let known = star_case c.args.rules.now (is_unknown c.args.rules.now) None (sym c.in_default.is ∙ c.first_unknown.ensures) in
    let once = twice_case c.args.rules.now None (sym c.in_default-first_twice.is ∙ c.first_twice.ensures) in (
      passed_2 c.args.rules.now known once,
      star_case
          c.args.rules.now
          (has_wrong_arity c.args.rules.now)
          (Some c.in-Some-first_wrong_arity.statement)
          (sym c.in-Some-first_wrong_arity.is ∙ c.first_wrong_arity.ensures),
    )

pub returns-in-Some-2 : goal.returns-in-Some-2
returns-in-Some-2 c =
    let known = star_case c.args.rules.now (is_unknown c.args.rules.now) None (sym c.in_default.is ∙ c.first_unknown.ensures) in
    let once = twice_case c.args.rules.now None (sym c.in_default-first_twice.is ∙ c.first_twice.ensures) in
    let arity = star_case c.args.rules.now (has_wrong_arity c.args.rules.now) None (sym c.in_default-first_wrong_arity.is ∙ c.first_wrong_arity.ensures) in (
      passed_3 c.args.rules.now known once arity,
      star_case c.args.rules.now (has_wrong_kind c.args.rules.now) (Some c.in-Some-2.statement) (sym c.in-Some-2.is ∙ c.in_ok-statement.ensures),
    )

pub returns-in-None : goal.returns-in-None
returns-in-None c = record {
  known = star_case c.args.rules.now (is_unknown c.args.rules.now) None (sym c.in_default.is ∙ c.first_unknown.ensures);
  once = twice_case c.args.rules.now None (sym c.in_default-first_twice.is ∙ c.first_twice.ensures);
  arity = star_case c.args.rules.now (has_wrong_arity c.args.rules.now) None (sym c.in_default-first_wrong_arity.is ∙ c.first_wrong_arity.ensures);
  kinds = star_case c.args.rules.now (has_wrong_kind c.args.rules.now) None (sym c.in-None.is ∙ c.in_ok-statement.ensures);
}
