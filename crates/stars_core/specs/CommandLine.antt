-- The listed forms of a command line, and the files that each command asks for.
use Rattle.std.specs.Prelude.{ℕ, ◌-◌, ◌^◌, nat_lt, nat_le, Bool, false, ◌==◌, ◌&&◌, List, [], ◌∷◌, ◌++◌, length, map, Option, None, Some, option_and_then, slice_index_or, if◌then◌else◌, codes, String, string_bytes}
use Rattle.std.specs.List.{list_any, list_all}
use Rattle.std.specs.Option.{option_map}
use Rattle.std.specs.Char.{is_ascii_digit}
use Rattle.std.specs.Str.{bytes_eq}
use Rattle.std.specs.Str.Parse.{digits_value}
use Rattle.std.specs.declared.alloc.Global.{Global}
use Rattle.stars_core.specs.declared.command.Command.{Command}
use Rattle.stars_core.specs.declared.command.Command.TheVariants.{Check, Plan, Run, Frontier, Verify, Gen}
use Rattle.star_model.specs.WellFormed.{is_between}
use Rattle.workload_gen.specs.Workloads.{IsSize}
use Rattle.stars_core.specs.declared.refusal.TextKind.{TextKind}
use Rattle.stars_core.specs.declared.refusal.TextKind.TheVariants.{Rules, Catalogue, Query, Derivation}

-- the words behind the program's name
abbrev pub CommandLine : Type 0
CommandLine = List (List ℕ)

abbrev pub bytes_of : List (String Global) → CommandLine
bytes_of words = map string_bytes words

abbrev pub begins_dash : List ℕ → Bool
begins_dash [] = false
begins_dash (b ∷ bytes) = b == 45

-- the command of this name, of those that ask for files
abbrev pub named : List ℕ → Option Command
named word =
    if bytes_eq word (codes "check") then Some Check
    else if bytes_eq word (codes "plan") then Some Plan
    else if bytes_eq word (codes "run") then Some Run
    else if bytes_eq word (codes "frontier") then Some Frontier
    else if bytes_eq word (codes "verify") then Some Verify
    else None

-- how many words stand behind a command's name
abbrev pub words_of : Command → ℕ
words_of Check = 1
words_of Plan = 3
words_of Run = 3
words_of Frontier = 3
words_of Verify = 4
words_of (Gen seed size) = 2

-- the command, where so many words stand behind its name
abbrev pub asking : Option Command → ℕ → Option Command
asking None words = None
asking (Some command) words = if words == words_of command then Some command else None

-- ---- a workload's seed and size

-- 1 to 20 digits, of a number below 2^64
abbrev pub is_seed : List ℕ → Bool
is_seed word = nat_lt 0 (length word) && nat_le (length word) 20 && list_all is_ascii_digit word && nat_lt (digits_value 10 word) (2 ^ 64)

abbrev pub seed_of : List ℕ → Option ℕ
seed_of word = if is_seed word then Some (digits_value 10 word) else None

-- one digit from 1 to 8
abbrev pub size_of : List ℕ → Option ℕ
size_of (digit ∷ []) = if is_between 49 56 digit then Some (digit - 48) else None
size_of word = None

-- the command that runs the workload of a seed and a size
abbrev pub generating : List (List ℕ) → Option Command
generating (seed ∷ size ∷ []) = option_and_then (λ s. option_map (λ n. Gen s n) (size_of size)) (seed_of seed)
generating words = None

-- where a command is one for a workload, there is one of its size
abbrev pub HasSize : Command → Type 0
HasSize (Gen seed size) = IsSize size
HasSize command = Unit {0}

-- ---- a command line

-- a command's name, and its words
abbrev pub listed : CommandLine → Option Command
listed [] = None
listed (word ∷ words) = if bytes_eq word (codes "gen") then generating words else asking (named word) (length words)

-- no word begins with a dash, and the words are a command's name and its words
abbrev pub command_of : CommandLine → Option Command
command_of words = if list_any begins_dash words then None else listed words

-- a file that is asked for: what its text is to be, and its name
abbrev pub Request : Type 0
Request = TextKind × List ℕ

abbrev pub word_at : CommandLine → ℕ → List ℕ
word_at words place = slice_index_or words place []

abbrev pub three_requests : List ℕ → List ℕ → List ℕ → List Request
three_requests rules catalogue query = (Rules, rules) ∷ (Catalogue, catalogue) ∷ (Query, query) ∷ []

abbrev pub four_requests : List ℕ → List ℕ → List ℕ → List ℕ → List Request
four_requests rules catalogue query derivation = three_requests rules catalogue query ++ (Derivation, derivation) ∷ []

-- the files that a command asks for, in order
abbrev pub requests_of : Command → CommandLine → List Request
requests_of Check words = (Rules, word_at words 1) ∷ []
requests_of Plan words = three_requests (word_at words 1) (word_at words 2) (word_at words 3)
requests_of Run words = three_requests (word_at words 1) (word_at words 2) (word_at words 3)
requests_of Frontier words = three_requests (word_at words 1) (word_at words 2) (word_at words 3)
requests_of Verify words = four_requests (word_at words 1) (word_at words 2) (word_at words 3) (word_at words 4)
requests_of (Gen seed size) words = []
