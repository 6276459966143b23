use Rattle.std.proofs.Common.{◌≡◌, ◌∙◌, subst, OnOk}
use Rattle.spelling.specs.Lexemes.{right_brace}
use Rattle.derivation_reading.specs.Derivations.{set_lexemes}
use Rattle.spelling.specs.Writing.{put, puts}
use Rattle.derivation_print.proofs.Sets.{left_first, left_member, left_other, left_none}
use Rattle.derivation_print.proofs.print.print_set.Goals as goal
use Rattle.derivation_print.proofs.print.print_set.Goals.{then-has+in_ok-print_member, else-has}

pub loop-n-init : goal.loop-n-init
loop-n-init g c = left_first c.symbol.new.self (g.S.Members.number c.args.set)

pub loop-n-preserved : goal.loop-n-preserved
loop-n-preserved g c =
    let l = c.loop-n in
    let j = c.if-has in
    let s = g.S.Members.number c.args.set in
    elim j.branch [
      | then-has+in_ok-print_member w ↦
          left_member l.out j.out c.symbol.new.self l.is_first j.is_first s l.n c.loop-n-test.true w.if-has.ensures l.invariant (w.out-is ∙ w.in_ok-print_member.ensures) w.is_first-is
      | else-has w ↦ left_other l.out j.out c.symbol.new.self l.is_first j.is_first s l.n c.loop-n-test.true w.if-has.ensures l.invariant w.out-is w.is_first-is
    ]

pub returns : goal.returns
returns g c =
    let l = c.loop-n in
    let s = g.S.Members.number c.args.set in
    let is : put l.out right_brace ≡ puts c.args.out.now (set_lexemes s) =
    left_none l.out c.args.out.now c.symbol.new.self l.is_first s l.n c.loop-n-test.false c.in_ok-symbol.ensures l.invariant in
    subst (λ w. OnOk c.symbol-2.result (c.symbol-2.new.self ≡ w)) is c.symbol-2.ensures
