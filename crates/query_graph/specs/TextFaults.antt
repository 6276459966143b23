-- The faults that any text may have, as faults of a query.
use Rattle.sb_text.specs.declared.token.TextFault.{TextFault}
use Rattle.sb_text.specs.declared.token.TextFault.TheVariants as token_fault
use Rattle.query_graph.specs.declared.fault.QueryFault.{QueryFault}
use Rattle.query_graph.specs.declared.fault.QueryFault.TheVariants as fault

abbrev pub of_text : TextFault → QueryFault
of_text (token_fault.Lexical offset) = fault.Lexical offset
of_text (token_fault.TooDeep statement) = fault.TooDeep statement
of_text token_fault.Memory = fault.Memory
