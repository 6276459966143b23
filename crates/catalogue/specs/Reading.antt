-- How the statements of a catalogue are read, from the front of a list of lexemes.
use Rattle.std.specs.Prelude.{ℕ, List, Option, Some, None, codes, if◌then◌else◌}
use Rattle.star_model.specs.declared.catalogue.ColType.{ColType}
use Rattle.star_model.specs.declared.catalogue.ColType.TheVariants as type
use Rattle.star_model.specs.Vectors.{same_numbers}
use Rattle.spelling.specs.Reading.{Reader, ◌>>=◌, ◌>>◌, pure, given, the_word, the_symbol, a_word, a_number, a_text}
use Rattle.spelling.specs.SeriesReading.{series}
use Rattle.catalogue.specs.declared.words.SiteWords.{SiteWords}
use Rattle.catalogue.specs.declared.words.ColumnWords.{ColumnWords}
use Rattle.catalogue.specs.declared.words.TableWords.{TableWords}
use Rattle.catalogue.specs.declared.words.IndexWords.{IndexWords}
use Rattle.catalogue.specs.declared.words.StatementWords.{StatementWords}
use Rattle.catalogue.specs.declared.words.StatementWords.TheVariants.{Site, Table, Index}

-- one or more items, with a comma between two
unfoldable pub items_at : {A : Type 0} → Reader A → Reader (List A)
items_at item = series item (the_symbol (codes ","))

-- ---- the three statements, behind their first words

unfoldable pub site_at : Reader SiteWords
site_at = do
  name ← a_word
  the_word (codes "cpu")
  cpu ← a_number
  the_word (codes "net")
  net ← a_number
  pure (record { name = name; cpu = cpu; net = net })

-- the type that a word names
abbrev pub type_named : List ℕ → Option ColType
type_named word =
    if same_numbers word (codes "int") then Some type.Int else if same_numbers word (codes "text") then Some type.Text else None

unfoldable pub column_at : Reader ColumnWords
column_at = do
  name ← a_word
  word ← a_word
  kind ← given (type_named word)
  the_word (codes "width")
  width ← a_number
  the_word (codes "distinct")
  distinct ← a_number
  pure (record { name = name; kind = kind; width = width; distinct = distinct })

unfoldable pub table_at : Reader TableWords
table_at = do
  name ← a_word
  the_word (codes "at")
  site ← a_word
  the_word (codes "rows")
  rows ← a_number
  the_word (codes "pages")
  pages ← a_number
  the_word (codes "file")
  file ← a_text
  the_symbol (codes "(")
  columns ← items_at column_at
  the_symbol (codes ")")
  pure (record { name = name; site = site; rows = rows; pages = pages; file = file; columns = columns })

unfoldable pub index_at : Reader IndexWords
index_at = do
  name ← a_word
  the_word (codes "on")
  table ← a_word
  the_symbol (codes "(")
  columns ← items_at a_word
  the_symbol (codes ")")
  the_word (codes "pages")
  pages ← a_number
  pure (record { name = name; table = table; columns = columns; pages = pages })

-- ---- a statement

-- what follows the first word of a statement
abbrev pub behind : List ℕ → Reader StatementWords
behind word =
    if same_numbers word (codes "site") then site_at >>= (λ s. pure (Site s))
    else if same_numbers word (codes "table") then table_at >>= (λ t. pure (Table t))
    else if same_numbers word (codes "index") then index_at >>= (λ i. pure (Index i))
    else (λ lexemes. None)

unfoldable pub statement_at : Reader StatementWords
statement_at = do
  word ← a_word
  behind word
