use Rattle.std.proofs.Common.{◌≡◌, ap, ◌∙◌, subst, OnOk}
use Rattle.spelling.specs.Lexemes.{Word}
use Rattle.derivation_reading.specs.Derivations.{Glue, glue_word, statement_of}
use Rattle.spelling.specs.Writing.{put, puts, ended}
use Rattle.derivation_print.proofs.Runs.{item_written, all_written}
use Rattle.derivation_print.proofs.print.print_glue.Goals as goal

pub loop-operator-preserved : goal.loop-operator-preserved
loop-operator-preserved c =
    item_written (λ o. Word (glue_word o)) c.loop-operator.out c.word-in-loop-operator.new.self (puts c.args.out.now (statement_of (Glue c.args.chain.now))) c.args.chain.now c.loop-operator.operator-index _
    c.loop-operator-test.true c.loop-operator.invariant (c.in_ok-word-2.ensures ∙ ap (λ word. put c.loop-operator.out (Word word)) c.glue_word.ensures)

pub returns : goal.returns
returns c =
    let all = puts c.args.out.now (statement_of (Glue c.args.chain.now)) in
    let is : c.loop-operator.out ≡ all =
    all_written (λ o. Word (glue_word o)) c.loop-operator.out all c.args.chain.now c.loop-operator.operator-index c.loop-operator-test.false c.loop-operator.invariant in
    subst (λ w. OnOk c.end_statement.result (c.end_statement.new.self ≡ ended w)) is c.end_statement.ensures
