-- The cases that a file has passed, in the order of the refusals.
use Rattle.std.specs.Prelude.{◌≡◌, false, Option, Some, None}
use Rattle.star_model.specs.Accepted.{Never, Unknown, Twice, WrongArity, WrongKind, InCycle, GlueInAccess, NotMonotone, lacks_root, lacks_formula, IsRefusedBy}
use Rattle.star_model.specs.declared.faults.Root.{Root}
use Rattle.star_model.specs.declared.faults.RuleFault.{RuleFault}
use Rattle.star_model.specs.declared.rules.Flavour.{Flavour}
use Rattle.star_model.specs.declared.rules.RuleFile.{RuleFile}

-- each name is known, defined once, and used with the right count of values of the right kinds
pub record NamesPass (rules : RuleFile) : Type 0 where
  pub known : Never rules (Unknown rules)
  pub once : Never rules (Twice rules)
  pub arity : Never rules (WrongArity rules)
  pub kinds : Never rules (WrongKind rules)

-- no STAR reaches itself, and none of accesses calls Glue
pub record ReferencesPass (rules : RuleFile) : Type 0 where
  pub no_cycle : Never rules (InCycle rules)
  pub no_glue_in_access : Never rules (GlueInAccess rules)

-- the roots and the formulas are there, and each formula is monotone
pub record FormulasPass (rules : RuleFile) : Type 0 where
  pub roots : (r : Root) → lacks_root rules r ≡ false
  pub formulas : (f : Flavour) → lacks_formula rules f ≡ false
  pub monotone : Never rules (NotMonotone rules)

-- it passes these cases, or is refused by a fault
abbrev pub PassesOr : RuleFile → Type 0 → Option RuleFault → Type 0
PassesOr rules Passes None = Passes
PassesOr rules Passes (Some refusal) = IsRefusedBy rules refusal
