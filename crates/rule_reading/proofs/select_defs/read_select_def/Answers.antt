use Rattle.std.proofs.Common.{◌∙◌, sym, ap}
use Rattle.std.proofs.lemmas.List.{take_rest}
use Rattle.spelling.specs.Lexemes.{lexemes_of}
use Rattle.rule_grammar.specs.SelectHeads.{select_head_at}
use Rattle.rule_reading.proofs.SelectDefLaws.{no_head, no_parts, no_num, no_den, head_and_formulas}
use Rattle.rule_reading.proofs.select_defs.read_select_def.Goals as goal

pub returns-in_default-head-clause-none : goal.returns-in_default-head-clause-none
returns-in_default-head-clause-none c = no_head c.args.number (lexemes_of c.args.source.now c.args.tokens.now) (ap select_head_at (sym c.new.ensures) ∙ c.in_default-head.ensures)

pub returns-in_default-parted_at_per-clause-none : goal.returns-in_default-parted_at_per-clause-none
returns-in_default-parted_at_per-clause-none c =
    no_parts c.args.number c.args.source.now c.args.tokens.now (sym (rw (take_rest c.args.tokens.now 3) at c.in_default-parted_at_per.ensures.parts))

pub returns-in_default-2-clause-none : goal.returns-in_default-2-clause-none
returns-in_default-2-clause-none c =
    no_num c.args.number c.args.source.now c.args.tokens.now _ _ (sym (rw (take_rest c.args.tokens.now 3) at c.in-Some-parted_at_per.ensures.parts))
    (rw c.in_default-2.is at c.in_ok-num.ensures.none)

pub returns-in_default-3-clause-none : goal.returns-in_default-3-clause-none
returns-in_default-3-clause-none c =
    no_den c.args.number c.args.source.now c.args.tokens.now _ _ (sym (rw (take_rest c.args.tokens.now 3) at c.in-Some-parted_at_per.ensures.parts))
    (rw c.in_default-3.is at c.in_ok-den.ensures.none)

pub returns-clause-some : goal.returns-clause-some
returns-clause-some c =
    head_and_formulas c.args.number c.args.source.now c.args.tokens.now _ _ (sym (rw (take_rest c.args.tokens.now 3) at c.in-Some-parted_at_per.ensures.parts))
    c.in-Some.class c.head.new.cursor c.in-Some-2.num c.in-Some-3.den (ap select_head_at (sym c.new.ensures) ∙ c.in-Some.ensures)
    (rw c.in-Some-2.is at c.in_ok-num.ensures.some) (rw c.in-Some-3.is at c.in_ok-den.ensures.some)
