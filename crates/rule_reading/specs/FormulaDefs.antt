-- What the head of a formula's statement answers.
use Rattle.std.specs.Prelude.{Option, option_map}
use Rattle.star_model.specs.declared.rules.Which.{Which}
use Rattle.star_model.specs.declared.rules.Flavour.{Flavour}
use Rattle.rule_grammar.specs.FormulaHeads.{FormulaHead}

abbrev pub head_of : Option (Which × Flavour) → Option FormulaHead
head_of found = option_map (λ pair. record { which = pair.0; flavour = pair.1 }) found
