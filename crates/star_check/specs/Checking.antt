-- What the check of a rule file answers.
use Rattle.std.specs.Prelude.{◌≡◌, Result, Ok, Err, Option, Some, None}
use Rattle.star_model.specs.Accepted.{IsAccepted, IsRefusedBy}
use Rattle.star_model.specs.declared.faults.RuleFault.{RuleFault}
use Rattle.star_model.specs.declared.faults.RuleFault.TheVariants as fault
use Rattle.star_model.specs.declared.rules.RuleFile.{RuleFile}

-- The file itself, which is accepted, or the fault by which it is refused; want of memory may come at any file.
abbrev pub Checks : RuleFile → Result RuleFile RuleFault → Type 0
Checks rules (Ok checked) = (checked ≡ rules) × IsAccepted rules
Checks rules (Err fault.Memory) = Unit {0}
Checks rules (Err refusal) = IsRefusedBy rules refusal

-- the file is refused by this fault; or it is accepted
abbrev pub IsFirstFault : RuleFile → Option RuleFault → Type 0
IsFirstFault rules None = IsAccepted rules
IsFirstFault rules (Some refusal) = IsRefusedBy rules refusal
