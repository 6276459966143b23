-- The faults that any text may have, as faults of a derivation.
use Rattle.sb_text.specs.declared.token.TextFault.{TextFault}
use Rattle.sb_text.specs.declared.token.TextFault.TheVariants as token_fault
use Rattle.derivation_reading.specs.declared.fault.DerivFault.{DerivFault}
use Rattle.derivation_reading.specs.declared.fault.DerivFault.TheVariants as fault

abbrev pub of_text : TextFault → DerivFault
of_text (token_fault.Lexical offset) = fault.Lexical offset
of_text (token_fault.TooDeep statement) = fault.TooDeep statement
of_text token_fault.Memory = fault.Memory
