-- What is looked for in a whole file: a missing root, a missing formula, a formula that isn't monotone.
use Rattle.std.specs.Prelude.{◌≡◌, true, false, Option, Some, None, Bool, [], ◌∷◌}
use Rattle.std.specs.List.{list_any}
use Rattle.star_model.specs.Costs.{same_flavour}
use Rattle.star_model.specs.Accepted.{lacks_root, lacks_formula, FirstFlavour}
use Rattle.star_model.specs.declared.faults.Root.{Root}
use Rattle.star_model.specs.declared.faults.Root.TheVariants as root
use Rattle.star_model.specs.declared.rules.Flavour.{Flavour}
use Rattle.star_model.specs.declared.rules.Flavour.TheVariants as flavour
use Rattle.star_model.specs.declared.rules.RuleFile.{RuleFile}

-- the first root that is missing, if one is
abbrev pub IsMissingRoot : RuleFile → Option Root → Type 0
IsMissingRoot rules None = (r : Root) → lacks_root rules r ≡ false
IsMissingRoot rules (Some root.AccessRoot) = lacks_root rules root.AccessRoot ≡ true
IsMissingRoot rules (Some root.JoinRoot) = (lacks_root rules root.AccessRoot ≡ false) × (lacks_root rules root.JoinRoot ≡ true)

-- the first operator, in the order of the operators' table, that is used and lacks a formula, if there is one
abbrev pub IsMissingFormula : RuleFile → Option Flavour → Type 0
IsMissingFormula rules None = (f : Flavour) → lacks_formula rules f ≡ false
IsMissingFormula rules (Some f) = FirstFlavour rules (lacks_formula rules) f

-- whether Glue may use the operator
abbrev pub is_of_glue : Flavour → Bool
is_of_glue f = list_any (same_flavour f) (flavour.Sort ∷ flavour.Store ∷ flavour.Ship ∷ [])
