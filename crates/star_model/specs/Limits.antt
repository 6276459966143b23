-- The greatest sizes of what is accepted.
use Rattle.std.specs.Prelude.{ℕ}

-- the bytes of a name, and of the name of a file
abbrev pub most_name_bytes : ℕ
most_name_bytes = 64

abbrev pub most_file_bytes : ℕ
most_file_bytes = 255

-- of a catalogue: its sites, tables and indexes, and the columns of a table and of an index
abbrev pub most_sites : ℕ
most_sites = 8

abbrev pub most_tables : ℕ
most_tables = 32

abbrev pub most_indexes : ℕ
most_indexes = 64

abbrev pub most_columns : ℕ
most_columns = 32

abbrev pub most_index_columns : ℕ
most_index_columns = 8

-- the rows of a table
abbrev pub most_rows : ℕ
most_rows = 200000

-- of a query: its quantifiers, predicates, selected columns and columns of its order
abbrev pub most_quantifiers : ℕ
most_quantifiers = 12

abbrev pub most_predicates : ℕ
most_predicates = 16

abbrev pub most_selected : ℕ
most_selected = 64

abbrev pub most_in_order : ℕ
most_in_order = 16

-- integers have 64 bits: the greatest, and the least without its sign
abbrev pub greatest_integer : ℕ
greatest_integer = 9223372036854775807

abbrev pub least_integer_size : ℕ
least_integer_size = 9223372036854775808

-- of a rule file: its STARs, the parameters and alternatives of a STAR, the for-all clauses of an alternative, how deep its body nests,
-- and the nodes of a formula
abbrev pub most_stars : ℕ
most_stars = 64

abbrev pub most_parameters : ℕ
most_parameters = 8

abbrev pub most_alternatives : ℕ
most_alternatives = 16

abbrev pub most_ranges : ℕ
most_ranges = 2

abbrev pub most_nesting : ℕ
most_nesting = 8

abbrev pub most_nodes : ℕ
most_nodes = 256

-- the names that an alternative may bind: parameters and for-all names
abbrev pub most_bindings : ℕ
most_bindings = 10

-- the place of a name that nothing binds
abbrev pub no_place : ℕ
no_place = 255

-- the height and the weight of a STAR
abbrev pub most_height : ℕ
most_height = 16

abbrev pub most_weight : ℕ
most_weight = 4096
