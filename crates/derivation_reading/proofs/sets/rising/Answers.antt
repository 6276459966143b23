use Rattle.std.proofs.Common.{◌≡◌, None, Some, List, codes, ◌∙◌, sym, subst}
use Rattle.spelling.specs.Lexemes.{Lexeme}
use Rattle.spelling.specs.Reading.{the_symbol}
use Rattle.derivation_reading.proofs.Loops.{no_number, no_member, last_member, no_comma, one_more, too_many, is_there, is_absent, stays_there}
use Rattle.derivation_reading.proofs.sets.rising.Goals as goal

pub returns-in_err-number : goal.returns-in_err-number
returns-in_err-number g c =
    let l = c.loop-turn in
    rw c.from_residual.ensures (l.invariant ∙ no_number l.turn l.least (g.S.Members.number l.set) l.cursor c.loop-turn-test.true c.in_err-number.ensures.reads)

pub returns-in_err-member : goal.returns-in_err-member
returns-in_err-member g c =
    let l = c.loop-turn in
    rw c.from_residual-in_err-member.ensures (l.invariant ∙ no_member l.turn l.least (g.S.Members.number l.set) _ l.cursor _ c.loop-turn-test.true c.in_ok-number.ensures.reads (sym c.in_err-member.ensures))

pub returns-then-is_some : goal.returns-then-is_some
returns-then-is_some g c =
    let l = c.loop-turn in
    l.invariant ∙ last_member l.turn l.least (g.S.Members.number l.set) _ _ _ l.cursor _ _ c.loop-turn-test.true c.in_ok-number.ensures.reads (sym c.in_ok-member.ensures) (is_there _ _ _ c.the_symbol.ensures.reads c.if-is_some.ensures).1 c.with-set.ensures

pub returns-in_err-the_symbol : goal.returns-in_err-the_symbol
returns-in_err-the_symbol g c =
    let l = c.loop-turn in
    let open_ = is_absent _ _ _ c.the_symbol.ensures.reads c.if-is_some.ensures in
    let same = stays_there _ _ _ c.the_symbol.ensures.stays c.if-is_some.ensures in
    let none = subst (λ (rest : List Lexeme). the_symbol (codes ",") rest ≡ None) same c.in_err-the_symbol.ensures.reads in
    rw c.from_residual-in_err-the_symbol.ensures (l.invariant ∙ no_comma l.turn l.least (g.S.Members.number l.set) _ _ l.cursor _ c.loop-turn-test.true c.in_ok-number.ensures.reads (sym c.in_ok-member.ensures) open_ none)

pub loop-turn-preserved : goal.loop-turn-preserved
loop-turn-preserved g c =
    let l = c.loop-turn in
    let open_ = is_absent _ _ _ c.the_symbol.ensures.reads c.if-is_some.ensures in
    let same = stays_there _ _ _ c.the_symbol.ensures.stays c.if-is_some.ensures in
    let comma = subst (λ (rest : List Lexeme). the_symbol (codes ",") rest ≡ Some (tt, c.the_symbol-in-loop-turn.new.self)) same c.in_ok-the_symbol.ensures.reads in
    l.invariant ∙ one_more l.turn l.least (g.S.Members.number l.set) _ _ _ l.cursor _ _ c.loop-turn-test.true c.in_ok-number.ensures.reads (sym c.in_ok-member.ensures) open_ comma c.with-set.ensures

pub returns : goal.returns
returns g c =
    let l = c.loop-turn in
    l.invariant ∙ too_many l.turn l.least (g.S.Members.number l.set) l.cursor c.loop-turn-test.false
