use Rattle.std.proofs.Common.{◌∙◌, sym, ap, rules}
use Rattle.std.proofs.lemmas.List.{take_rest}
use Rattle.spelling.specs.Lexemes.{lexemes_of}
use Rattle.rule_grammar.specs.FormulaHeads.{formula_head_at}
use Rattle.rule_reading.proofs.FormulaDefLaws.{no_head, head_and_formula}
use Rattle.rule_reading.proofs.formula_defs.read_formula_def.Goals as goal

pub returns-in_default-head-clause-none : goal.returns-in_default-head-clause-none
returns-in_default-head-clause-none c = no_head c.args.version c.args.number (lexemes_of c.args.source.now c.args.tokens.now) (ap (formula_head_at c.args.version) (sym c.new.ensures) ∙ c.in_default-head.ensures)

pub returns-in-Some-2-clause-some : goal.returns-in-Some-2-clause-some
returns-in-Some-2-clause-some c =
    head_and_formula c.args.version c.args.number c.args.source.now c.args.tokens.now c.head.new.cursor (record { which = c.in-Some.which; flavour = c.in-Some.flavour }) c.in-Some-2.formula
    (ap (formula_head_at c.args.version) (sym c.new.ensures) ∙ search rules) (rw (take_rest c.args.tokens.now 3, c.in-Some-2.is) at c.in_ok-formula.ensures.some)
