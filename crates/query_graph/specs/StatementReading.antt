-- How the statement of a query is read from the front of its lexemes.
use Rattle.std.specs.Prelude.{◌≡◌, ℕ, true, false, List, [], Option, Some, None, codes, if◌then◌else◌, Result, Ok, Err}
use Rattle.star_model.specs.declared.query.Cmp.{Cmp}
use Rattle.star_model.specs.declared.query.Cmp.TheVariants as cmp
use Rattle.spelling.specs.Lexemes.{Lexeme, MaybeEnded}
use Rattle.star_model.specs.Names.{is_among}
use Rattle.query_graph.specs.Queries.{ColumnName, Item, Whole, Negative, Quoted, Side, OfColumn, OfConstant, Comparison, QueryStatement, reserved_in_queries}
use Rattle.spelling.specs.Reading.{Reader, ◌>>=◌, ◌>>◌, pure, the_word, the_symbol, a_word, a_number, a_text, either, only}
use Rattle.spelling.specs.SeriesReading.{series}
use Rattle.spelling.specs.declared.unread.Unread.{Unread}
use Rattle.query_graph.specs.Words.{said}
use Rattle.query_graph.specs.declared.words.QueryWords.{QueryWords}
use Rattle.spelling.specs.declared.unread.Unread.TheVariants.{Strange, Memory}

-- ---- the parts of a query

abbrev pub free : List ℕ → Reader (List ℕ)
free name lexemes = if is_among reserved_in_queries name then None else Some (name, lexemes)

-- a word that isn't reserved
unfoldable pub free_word : Reader (List ℕ)
free_word = a_word >>= free

unfoldable pub column_at : Reader ColumnName
column_at = do
  quantifier ← free_word
  the_symbol (codes ".")
  column ← a_word
  pure (record { quantifier = quantifier; column = column })

unfoldable pub own_name_at : Reader (Option (List ℕ))
own_name_at = either free_word (λ name. pure (Some name)) (pure None)

unfoldable pub item_at : Reader Item
item_at = do
  table ← free_word
  name ← own_name_at
  pure (record { table = table; name = name })

unfoldable pub cmp_at : Reader Cmp
cmp_at =
    either (the_symbol (codes "=")) (λ _. pure cmp.Eq) (
    either (the_symbol (codes "<>")) (λ _. pure cmp.Ne) (
    either (the_symbol (codes "<")) (λ _. pure cmp.Lt) (
    either (the_symbol (codes "<=")) (λ _. pure cmp.Le) (
    either (the_symbol (codes ">")) (λ _. pure cmp.Gt) (
    either (the_symbol (codes ">=")) (λ _. pure cmp.Ge) (λ _. None))))))

unfoldable pub negative_at : Reader Side
negative_at = do
  n ← a_number
  pure (OfConstant (Negative n))

unfoldable pub column_side_at : Reader Side
column_side_at = do
  c ← column_at
  pure (OfColumn c)

unfoldable pub side_at : Reader Side
side_at =
    either (the_symbol (codes "-")) (λ _. negative_at) (
    either a_number (λ n. pure (OfConstant (Whole n))) (
    either a_text (λ bytes. pure (OfConstant (Quoted bytes))) column_side_at))

unfoldable pub comparison_at : Reader Comparison
comparison_at = do
  left ← column_at
  cmp ← cmp_at
  right ← side_at
  pure (record { left = left; cmp = cmp; right = right })

unfoldable pub columns_at : Reader (List ColumnName)
columns_at = series column_at (the_symbol (codes ","))

unfoldable pub items_at : Reader (List Item)
items_at = series item_at (the_symbol (codes ","))

unfoldable pub comparisons_at : Reader (List Comparison)
comparisons_at = series comparison_at (the_word (codes "and"))

unfoldable pub where_at : Reader (List Comparison)
where_at = either (the_word (codes "where")) (λ _. comparisons_at) (pure [])

unfoldable pub order_at : Reader (List ColumnName)
order_at = either (the_word (codes "order")) (λ _. the_word (codes "by") >> columns_at) (pure [])

unfoldable pub site_at : Reader (Option (List ℕ))
site_at = either (the_word (codes "at")) (λ _. free_word >>= λ name. pure (Some name)) (pure None)

unfoldable pub query_at : Reader QueryStatement
query_at = do
  the_word (codes "select")
  select ← columns_at
  the_word (codes "from")
  items ← items_at
  comparisons ← where_at
  order ← order_at
  site ← site_at
  pure (record { select = select; items = items; comparisons = comparisons; order = order; site = site })

-- the query that a statement is, where nothing is left behind it
unfoldable pub statement_at : MaybeEnded → Option QueryStatement
statement_at (lexemes, true) = only (query_at lexemes)
statement_at (lexemes, false) = None

-- ---- what the functions that read answer

-- what was read, where it is there; want of memory may come at any lexemes
abbrev pub Answers : {A W : Type 0} → (W → A) → Option (A × List Lexeme) → Result W Unread → List Lexeme → Type 0
Answers says read (Ok words) rest = read ≡ Some (says words, rest)
Answers says read (Err Strange) rest = read ≡ None
Answers says read (Err Memory) rest = Unit {0}

-- what a function answers that reads all of a statement
abbrev pub Understands : Option QueryStatement → Result QueryWords Unread → Type 0
Understands read (Ok words) = read ≡ Some (said words)
Understands read (Err Strange) = read ≡ None
Understands read (Err Memory) = Unit {0}
