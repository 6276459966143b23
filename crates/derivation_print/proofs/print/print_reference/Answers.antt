use Rattle.std.proofs.Common.{◌≡◌, ap, ◌∙◌, subst, OnOk, rules}
use Rattle.spelling.specs.Lexemes.{Number}
use Rattle.derivation_reading.specs.Derivations.{Reference, statement_of}
use Rattle.spelling.specs.Writing.{put, puts, ended}
use Rattle.derivation_print.proofs.Runs.{item_written, all_written}
use Rattle.derivation_print.proofs.print.print_reference.Goals as goal

pub loop-value-preserved : goal.loop-value-preserved
loop-value-preserved c =
    item_written Number c.loop-value.out c.number-in-loop-value.new.self (puts c.args.out.now (statement_of (Reference c.args.star.now c.args.alternative c.args.values.now))) c.args.values.now c.loop-value.value-index 0
    c.loop-value-test.true c.loop-value.invariant (c.in_ok-number-2.ensures ∙ ap (λ n. put c.loop-value.out (Number n)) (search rules))

pub returns : goal.returns
returns c =
    let all = puts c.args.out.now (statement_of (Reference c.args.star.now c.args.alternative c.args.values.now)) in
    let is : c.loop-value.out ≡ all = all_written Number c.loop-value.out all c.args.values.now c.loop-value.value-index c.loop-value-test.false c.loop-value.invariant in
    subst (λ w. OnOk c.end_statement.result (c.end_statement.new.self ≡ ended w)) is c.end_statement.ensures
