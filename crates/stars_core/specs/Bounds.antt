-- How often a run calls the shelf, and puts to the first sink.
use Rattle.std.specs.Prelude.{◌+◌, ℕ, length, Option, None, Some}
use Rattle.stars_core.specs.declared.command.Command.{Command}
use Rattle.stars_core.specs.declared.command.Command.TheVariants.{Check, Plan, Run, Frontier, Verify, Gen}
use Rattle.stars_core.specs.CommandLine.{CommandLine, requests_of}

-- how many tables a command asks for at most, behind its files
abbrev pub tables_by : Command → ℕ
tables_by Check = 0
tables_by Plan = 0
tables_by Run = 12
tables_by Frontier = 0
tables_by Verify = 0
tables_by (Gen seed size) = 0

-- how many files a command asks for at most, tables among them
abbrev pub most_calls : Command → CommandLine → ℕ
most_calls command words = length (requests_of command words) + tables_by command

abbrev pub calls_of : CommandLine → Option Command → ℕ
calls_of words None = 0
calls_of words (Some command) = most_calls command words

-- how many pieces a command puts at most
abbrev pub most_puts : Command → ℕ
most_puts Check = 1
most_puts Plan = 1
most_puts Run = 2
most_puts Frontier = 1
most_puts Verify = 1
most_puts (Gen seed size) = 1

-- where the words are no command, nothing is put
abbrev pub puts_of : Option Command → ℕ
puts_of None = 0
puts_of (Some command) = most_puts command
