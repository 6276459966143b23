-- The lines that tell why a table isn't taken.
use Rattle.std.specs.Prelude.{ℕ, List, [], ◌∷◌, ◌++◌, codes, Option, None, Some}
use Rattle.std.specs.Fmt.{decimal}
use Rattle.row_store.specs.declared.fault.TableFault.{TableFault}
use Rattle.row_store.specs.declared.fault.TableFault.TheVariants.{BadHeader, TooManyRows, BadRow, BadField, Memory}

-- what is said of the table of this name
abbrev pub said_of : List ℕ → List ℕ → List ℕ
said_of name said = codes "table " ++ name ++ codes ": " ++ said ++ 10 ∷ []

abbrev pub bad_row : ℕ → List ℕ
bad_row row = codes "row " ++ decimal row ++ codes " has another length"

abbrev pub bad_field : ℕ → ℕ → List ℕ
bad_field row column =
    codes "row " ++ decimal row ++ codes " column " ++ decimal column ++ codes " is no integer"

-- the line of a fault of its records; want of memory is none of these
abbrev pub fault_line : List ℕ → TableFault → Option (List ℕ)
fault_line name BadHeader = Some (said_of name (codes "bad header"))
fault_line name TooManyRows = Some (said_of name (codes "more than 200000 rows"))
fault_line name (BadRow row) = Some (said_of name (bad_row row))
fault_line name (BadField row column) = Some (said_of name (bad_field row column))
fault_line name Memory = None

-- the line of a file of too many bytes
abbrev pub long_line : List ℕ → List ℕ
long_line name = said_of name (codes "longer than 67108864 bytes")

-- the line of a file of this name that the shelf failed to give
abbrev pub cannot_read : List ℕ → List ℕ
cannot_read file = codes "cannot read " ++ file ++ 10 ∷ []
