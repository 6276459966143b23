-- Which text spells a query over a catalogue.
use Rattle.std.specs.Prelude.{◌≡◌, ℕ, false, List, [], ◌∷◌, ◌++◌, map, Option, Some, None, option_map, codes, pos, neg_ℤ, slice_get, unwrap_or}
use Rattle.star_model.specs.declared.catalogue.Catalogue.{Catalogue}
use Rattle.star_model.specs.declared.catalogue.Value.{Value}
use Rattle.star_model.specs.declared.catalogue.Value.TheVariants as value
use Rattle.star_model.specs.declared.columns.Col.{Col}
use Rattle.star_model.specs.declared.columns.Site as site
use Rattle.star_model.specs.declared.query.Query.{Query}
use Rattle.star_model.specs.declared.query.QuantDef.{QuantDef}
use Rattle.star_model.specs.declared.query.Pred.{Pred}
use Rattle.star_model.specs.declared.query.Cmp.{Cmp}
use Rattle.star_model.specs.declared.query.Cmp.TheVariants as cmp
use Rattle.star_model.specs.declared.query.Operand as model
use Rattle.star_model.specs.declared.query.Operand.TheVariants as operand
use Rattle.spelling.specs.Lexemes.{Lexeme, Word, Number, Text, Symbol, IsStatements, comma, dot, joined_by}
use Rattle.star_model.specs.Every.{HasItem, Every}
use Rattle.star_model.specs.Names.{place_of, is_among}
use Rattle.star_model.specs.Selectivity.{weighed}
use Rattle.spelling.specs.Names.{all_of, ◌>>=◌}

-- ---- the grammar

-- a column of a quantifier, by their names
pub record ColumnName : Type 0 where
  pub quantifier : List ℕ
  pub column : List ℕ

-- a quantifier: its table, and its own name where it has one
pub record Item : Type 0 where
  pub table : List ℕ
  pub name : Option (List ℕ)

-- a number, a number behind a minus sign, or a text
pub data Constant : Type 0 where
  Whole : ℕ → Constant
  Negative : ℕ → Constant
  Quoted : List ℕ → Constant

pub data Side : Type 0 where
  OfColumn : ColumnName → Side
  OfConstant : Constant → Side

pub record Comparison : Type 0 where
  pub left : ColumnName
  pub cmp : Cmp
  pub right : Side

pub record QueryStatement : Type 0 where
  pub select : List ColumnName
  pub items : List Item
  pub comparisons : List Comparison
  pub order : List ColumnName
  pub site : Option (List ℕ)

abbrev pub column_lexemes : ColumnName → List Lexeme
column_lexemes c = Word c.quantifier ∷ dot ∷ Word c.column ∷ []

abbrev pub own_name : Option (List ℕ) → List Lexeme
own_name None = []
own_name (Some name) = Word name ∷ []

abbrev pub item_lexemes : Item → List Lexeme
item_lexemes i = Word i.table ∷ own_name i.name

abbrev pub cmp_lexeme : Cmp → Lexeme
cmp_lexeme cmp.Eq = Symbol (codes "=")
cmp_lexeme cmp.Ne = Symbol (codes "<>")
cmp_lexeme cmp.Lt = Symbol (codes "<")
cmp_lexeme cmp.Le = Symbol (codes "<=")
cmp_lexeme cmp.Gt = Symbol (codes ">")
cmp_lexeme cmp.Ge = Symbol (codes ">=")

abbrev pub constant_lexemes : Constant → List Lexeme
constant_lexemes (Whole n) = Number n ∷ []
constant_lexemes (Negative n) = Symbol (codes "-") ∷ Number n ∷ []
constant_lexemes (Quoted bytes) = Text bytes ∷ []

abbrev pub side_lexemes : Side → List Lexeme
side_lexemes (OfColumn c) = column_lexemes c
side_lexemes (OfConstant c) = constant_lexemes c

abbrev pub comparison_lexemes : Comparison → List Lexeme
comparison_lexemes p = column_lexemes p.left ++ cmp_lexeme p.cmp ∷ side_lexemes p.right

abbrev pub columns_lexemes : List ColumnName → List Lexeme
columns_lexemes columns = joined_by comma (map column_lexemes columns)

abbrev pub where_lexemes : List Comparison → List Lexeme
where_lexemes [] = []
where_lexemes (p ∷ ps) = Word (codes "where") ∷ joined_by (Word (codes "and")) (map comparison_lexemes (p ∷ ps))

abbrev pub order_lexemes : List ColumnName → List Lexeme
order_lexemes [] = []
order_lexemes (c ∷ cs) = Word (codes "order") ∷ Word (codes "by") ∷ columns_lexemes (c ∷ cs)

abbrev pub at_lexemes : Option (List ℕ) → List Lexeme
at_lexemes None = []
at_lexemes (Some name) = Word (codes "at") ∷ Word name ∷ []

abbrev pub query_lexemes : QueryStatement → List Lexeme
query_lexemes q =
    Word (codes "select") ∷ (columns_lexemes q.select
    ++ Word (codes "from") ∷ (joined_by comma (map item_lexemes q.items)
    ++ (where_lexemes q.comparisons ++ (order_lexemes q.order ++ at_lexemes q.site))))

-- a column of a table that is its own quantifier
abbrev pub only_column : List ℕ → List ℕ → QueryStatement
only_column table column = record {
  select = record { quantifier = table; column = column } ∷ [];
  items = record { table = table; name = None } ∷ [];
  comparisons = [];
  order = [];
  site = None;
}

-- no table, quantifier or site has such a name
abbrev pub reserved_in_queries : List (List ℕ)
reserved_in_queries =
    codes "select" ∷ codes "from" ∷ codes "where" ∷ codes "and" ∷ codes "order" ∷ codes "by" ∷ codes "at" ∷ []

abbrev pub IsFree : List ℕ → Type 0
IsFree name = is_among reserved_in_queries name ≡ false

abbrev pub IsFreeIfAny : Option (List ℕ) → Type 0
IsFreeIfAny None = Unit {0}
IsFreeIfAny (Some name) = IsFree name

abbrev pub HasFreeQuantifier : ColumnName → Type 0
HasFreeQuantifier c = IsFree c.quantifier

abbrev pub HasFreeNames : Item → Type 0
HasFreeNames i = IsFree i.table × IsFreeIfAny i.name

abbrev pub IsFreeSide : Side → Type 0
IsFreeSide (OfColumn c) = HasFreeQuantifier c
IsFreeSide (OfConstant c) = Unit {0}

abbrev pub ComparesFree : Comparison → Type 0
ComparesFree p = HasFreeQuantifier p.left × IsFreeSide p.right

-- what a query must have, and may name
pub record IsQueryStatement (q : QueryStatement) : Type 0 where
  pub some_columns : HasItem q.select
  pub some_items : HasItem q.items
  pub select : Every HasFreeQuantifier q.select
  pub items : Every HasFreeNames q.items
  pub comparisons : Every ComparesFree q.comparisons
  pub order : Every HasFreeQuantifier q.order
  pub site : IsFreeIfAny q.site

pub record SpellsQueryStatement (lexemes : List Lexeme) (q : QueryStatement) : Type 0 where
  pub are : lexemes ≡ query_lexemes q
  pub stands : IsQueryStatement q

-- ---- what the names stand for

-- an item without a name is named like its table
abbrev pub quantifier_name : Item → List ℕ
quantifier_name i = unwrap_or i.name i.table

abbrev pub value_of : Constant → Value
value_of (Whole n) = value.Int (pos n)
value_of (Negative n) = value.Int (neg_ℤ (pos n))
value_of (Quoted bytes) = value.Text bytes

module _ (catalogue : Catalogue) where
  abbrev pub quantifier_of : Item → Option QuantDef
  quantifier_of i = do
    table ← place_of i.table (map (λ t. t.name) catalogue.tables)
    Some (record { name = quantifier_name i; table = table })

  abbrev pub site_of : Option (List ℕ) → Option (Option site.Site)
  site_of None = Some None
  site_of (Some name) = do
    place ← place_of name (map (λ s. s.name) catalogue.sites)
    Some (Some (record { 0 = place }))

  module _ (quantifiers : List QuantDef) where
    abbrev pub column_of : ColumnName → Option Col
    column_of c = do
      quantifier ← place_of c.quantifier (map (λ d. d.name) quantifiers)
      d ← slice_get quantifiers quantifier
      table ← slice_get catalogue.tables d.table
      column ← place_of c.column (map (λ d. d.name) table.columns)
      Some (record { quant = record { 0 = quantifier }; column = column })

    abbrev pub columns_of : List ColumnName → Option (List Col)
    columns_of columns = all_of (map column_of columns)

    abbrev pub operand_of : Side → Option model.Operand
    operand_of (OfColumn c) = option_map (λ column. operand.Column column) (column_of c)
    operand_of (OfConstant c) = Some (operand.Constant (value_of c))

    -- without a selectivity of its own yet: each row makes it true
    abbrev pub predicate_of : Comparison → Option Pred
    predicate_of p = do
      left ← column_of p.left
      right ← operand_of p.right
      Some (record { left = left; cmp = p.cmp; right = right; num = 1; den = 1 })

  -- the query, each predicate with the usual selectivity; none where it names what isn't defined
  unfoldable pub query_of : QueryStatement → Option Query
  query_of q = do
    quantifiers ← all_of (map quantifier_of q.items)
    select ← columns_of quantifiers q.select
    predicates ← all_of (map (predicate_of quantifiers) q.comparisons)
    order ← columns_of quantifiers q.order
    site ← site_of q.site
    Some (weighed [] (record { catalogue = catalogue; quants = quantifiers; select = select; preds = predicates; order = order; site = site }))

-- ---- the relation

pub record SpellsQuery (catalogue : Catalogue) (text : List ℕ) (query : Query) : Type 0 where
  pub statement : QueryStatement
  pub are : IsStatements text (query_lexemes statement ∷ [])
  pub stands : IsQueryStatement statement
  pub means : query_of catalogue statement ≡ Some query
