-- The faults that a query's text may have over a catalogue.
use Rattle.std.specs.Prelude.{◌≡◌, ℕ, ◌<◌, ◌≤◌, ◌⊎◌, Bool, false, ◌&&◌, List, [], ◌∷◌, ◌++◌, length, map, Some, Result, Ok, Err}
use Rattle.std.specs.List.{list_any, list_all, flat_map}
use Rattle.star_model.specs.Limits.{greatest_integer, least_integer_size, most_in_order, most_predicates, most_quantifiers, most_selected}
use Rattle.sb_text.specs.Refusal.{fault_of}
use Rattle.sb_text.specs.declared.token.TextFault.TheVariants as token_fault
use Rattle.star_model.specs.declared.catalogue.Catalogue.{Catalogue}
use Rattle.star_model.specs.declared.catalogue.TableDef.{TableDef}
use Rattle.star_model.specs.declared.catalogue.ColType.{ColType}
use Rattle.star_model.specs.declared.faults.LimitKind.{LimitKind}
use Rattle.star_model.specs.declared.faults.LimitKind.TheVariants as limit
use Rattle.star_model.specs.declared.query.Query.{Query}
use Rattle.star_model.specs.declared.query.Pred.{Pred}
use Rattle.star_model.specs.Vectors.{same_numbers}
use Rattle.star_model.specs.WellFormed.{differ, type_of, type_of_operand, WellFormedQuery}
use Rattle.spelling.specs.Lexemes.{IsStatements}
use Rattle.star_model.specs.Names.{is_among}
use Rattle.spelling.specs.Firsts.{FirstAt}
use Rattle.spelling.specs.Limits.{HasLongWord, IsFirstBeyond}
use Rattle.query_graph.specs.Queries.{ColumnName, Item, Constant, Whole, Negative, Quoted, Side, OfColumn, OfConstant, Comparison, QueryStatement, query_lexemes, IsQueryStatement, quantifier_name, SpellsQuery}
use Rattle.query_graph.specs.declared.fault.QueryFault.{QueryFault}
use Rattle.query_graph.specs.declared.fault.QueryFault.TheVariants as fault
use Rattle.query_graph.specs.Syntax.{IsStrangeQueryAt}

-- ---- names

abbrev pub side_columns : Side → List ColumnName
side_columns (OfColumn c) = c ∷ []
side_columns (OfConstant k) = []

abbrev pub comparison_columns : Comparison → List ColumnName
comparison_columns p = p.left ∷ side_columns p.right

-- all columns that the statement names
abbrev pub columns_named : QueryStatement → List ColumnName
columns_named q = q.select ++ (flat_map comparison_columns q.comparisons ++ q.order)

abbrev pub quantifier_names : List Item → List (List ℕ)
quantifier_names items = map quantifier_name items

abbrev pub column_names : TableDef → List (List ℕ)
column_names t = map (λ d. d.name) t.columns

module _ (c : Catalogue) where
  abbrev pub is_table : List ℕ → Bool
  is_table name = is_among (map (λ t. t.name) c.tables) name

  abbrev pub is_site : List ℕ → Bool
  is_site name = is_among (map (λ s. s.name) c.sites) name

  -- the item has the quantifier's name, and its table has the column
  abbrev pub has_column : ColumnName → Item → Bool
  has_column n i =
      same_numbers n.quantifier (quantifier_name i)
      && list_any (λ t. same_numbers i.table t.name && is_among (column_names t) n.column) c.tables

  -- of several quantifiers of one name any may have it
  abbrev pub is_column : List Item → ColumnName → Bool
  is_column items n = list_any (has_column n) items

  -- the statement names a table, a column or a site that isn't defined
  pub data NamesUnknown (q : QueryStatement) : Type 0 where
    table : list_all (λ i. is_table i.table) q.items ≡ false → NamesUnknown q
    column : list_all (is_column q.items) (columns_named q) ≡ false → NamesUnknown q
    site : (name : List ℕ) → q.site ≡ Some name → is_site name ≡ false → NamesUnknown q

-- two quantifiers have one name
abbrev pub DefinesTwice : QueryStatement → Type 0
DefinesTwice q = differ same_numbers (quantifier_names q.items) ≡ false

-- ---- limits

-- outside 64 bits with a sign
abbrev pub IsGreat : Constant → Type 0
IsGreat (Whole n) = greatest_integer < n
IsGreat (Negative n) = least_integer_size < n
IsGreat (Quoted bytes) = ⊥

abbrev pub IsGreatSide : Side → Type 0
IsGreatSide (OfColumn c) = ⊥
IsGreatSide (OfConstant k) = IsGreat k

abbrev pub HasGreatConstant : List Comparison → Type 0
HasGreatConstant [] = ⊥
HasGreatConstant (p ∷ ps) = IsGreatSide p.right ⊎ HasGreatConstant ps

-- the statement goes beyond this limit
abbrev pub Beyond : QueryStatement → LimitKind → Type 0
Beyond q limit.Number = HasGreatConstant q.comparisons
Beyond q limit.Name = HasLongWord (query_lexemes q)
Beyond q limit.Quantifiers = most_quantifiers < length q.items
Beyond q limit.Predicates = most_predicates < length q.comparisons
Beyond q limit.Select = most_selected < length q.select
Beyond q limit.OrderBy = most_in_order < length q.order
Beyond q _ = ⊥

-- ---- types

-- the predicate compares a column with what has another type
pub record HasTwoTypes (query : Query) (p : Pred) : Type 0 where
  pub left : ColType
  pub right : ColType
  pub left_is : type_of query p.left ≡ Some left
  pub right_is : type_of_operand query p.right ≡ Some right
  pub two : left ≡ right → ⊥

-- ---- the faults of a text

-- the text is one statement, this query
pub record Says (text : List ℕ) (q : QueryStatement) : Type 0 where
  pub are : IsStatements text (query_lexemes q ∷ [])
  pub stands : IsQueryStatement q

-- the text has this fault, whether or not it has others
abbrev pub HasFault : Catalogue → List ℕ → QueryFault → Type 0
HasFault c text (fault.Lexical offset) = fault_of text ≡ Some (token_fault.Lexical offset)
HasFault c text (fault.TooDeep k) = fault_of text ≡ Some (token_fault.TooDeep k)
HasFault c text (fault.Syntax k) = IsStrangeQueryAt text k
HasFault c text (fault.Unknown k) = (k ≡ 1) × (q : QueryStatement) × Says text q × NamesUnknown c q
HasFault c text (fault.Twice k) = (k ≡ 1) × (q : QueryStatement) × Says text q × DefinesTwice q
HasFault c text (fault.Limit k what) = (k ≡ 1) × (q : QueryStatement) × Says text q × IsFirstBeyond (Beyond q) what
HasFault c text (fault.TypeClash k) = (query : Query) × SpellsQuery c text query × FirstAt (λ before p. HasTwoTypes query p) query.preds k
HasFault c text fault.Memory = ⊥

-- the order in which the faults are judged
abbrev pub fault_rank : QueryFault → ℕ
fault_rank (fault.Lexical offset) = 0
fault_rank (fault.TooDeep k) = 1
fault_rank (fault.Syntax k) = 2
fault_rank (fault.Unknown k) = 3
fault_rank (fault.Twice k) = 4
fault_rank (fault.Limit k what) = 5
fault_rank (fault.TypeClash k) = 6
fault_rank fault.Memory = 7

pub record IsFirstFault (c : Catalogue) (text : List ℕ) (fault : QueryFault) : Type 0 where
  pub has : HasFault c text fault
  pub first : (other : QueryFault) → HasFault c text other → fault_rank fault ≤ fault_rank other

pub record IsAccepted (c : Catalogue) (text : List ℕ) (query : Query) : Type 0 where
  pub spells : SpellsQuery c text query
  pub formed : WellFormedQuery query
  pub clear : (fault : QueryFault) → HasFault c text fault → ⊥

-- what the reader answers. Want of memory may come at any text
abbrev pub ReadsQuery : Catalogue → List ℕ → Result Query QueryFault → Type 0
ReadsQuery c text (Ok query) = IsAccepted c text query
ReadsQuery c text (Err fault.Memory) = Unit {0}
ReadsQuery c text (Err fault) = IsFirstFault c text fault
