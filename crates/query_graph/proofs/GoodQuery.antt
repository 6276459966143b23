-- A statement that means a well-formed query names what is defined, once, within the limits, and compares one type with itself.
use Rattle.std.proofs.Common.{◌≡◌, ℕ, ◌≤◌, Bool, true, false, not, ◌&&◌, nat_lt, nat_le, List, [], ◌∷◌, ◌++◌, length, map, slice_get, Option, Some, None, is_some, unwrap_or, codes, refl, sym, ap, ◌∙◌, subst, inl, inr, arith}
use Prim.Native.Nat.{zero, suc}
use Rattle.std.specs.List.{list_any, list_all, flat_map}
use Rattle.std.specs.Option.{option_map}
use Rattle.std.proofs.lemmas.Bool.{and_parts, and_from, both_ways, not-true, ltb-false, leb-true}
use Rattle.std.proofs.lemmas.List.Folds.{list_all-append}
use Rattle.std.proofs.lemmas.Map.Keys.{any_passes_from_place}
use Rattle.star_model.specs.declared.catalogue.SiteDef.{SiteDef}
use Rattle.star_model.specs.declared.catalogue.TableDef.{TableDef}
use Rattle.star_model.specs.declared.catalogue.ColumnDef.{ColumnDef}
use Rattle.star_model.specs.declared.catalogue.ColType.{ColType}
use Rattle.star_model.specs.declared.catalogue.ColType.TheVariants as type
use Rattle.star_model.specs.declared.columns.Col.{Col}
use Rattle.star_model.specs.declared.columns.Site as site
use Rattle.star_model.specs.declared.faults.LimitKind.{LimitKind}
use Rattle.star_model.specs.declared.faults.LimitKind.TheVariants as limit
use Rattle.star_model.specs.declared.query.Query.{Query}
use Rattle.star_model.specs.declared.query.QuantDef.{QuantDef}
use Rattle.star_model.specs.declared.query.Pred.{Pred}
use Rattle.star_model.specs.declared.query.Operand as model
use Rattle.star_model.specs.declared.query.Operand.TheVariants as operand
use Rattle.star_model.specs.Vectors.{same_numbers}
use Rattle.star_model.specs.WellFormed.{WellFormedQuery, differ, is_number, is_word, is_name, is_site, is_column, is_operand, same_type, type_of, type_of_operand}
use Rattle.spelling.specs.Lexemes.{Lexeme, Word, Number, Text, Symbol, comma, joined_by}
use Rattle.star_model.specs.Every.{Every}
use Rattle.spelling.specs.Firsts.{NoneFrom, NoneHas}
use Rattle.spelling.specs.Limits.{HasLongWord}
use Rattle.star_model.specs.Names.{place_of, is_among}
use Rattle.spelling.specs.Names.{all_of}
use Rattle.query_graph.specs.Queries.{ColumnName, Item, Side, OfColumn, OfConstant, Whole, Negative, Quoted, Constant, Comparison, QueryStatement, quantifier_name, quantifier_of, column_of, columns_of, operand_of, site_of, value_of, own_name, column_lexemes, item_lexemes, cmp_lexeme, side_lexemes, comparison_lexemes, columns_lexemes, where_lexemes, order_lexemes, at_lexemes, query_lexemes}
use Rattle.star_model.specs.declared.query.Cmp.{Cmp}
use Rattle.star_model.specs.declared.query.Cmp.TheVariants as cmp
use Rattle.query_graph.specs.Faults.{column_names, quantifier_names, is_table, side_columns, comparison_columns, columns_named, has_column, NamesUnknown, DefinesTwice, Beyond, IsGreatSide, HasGreatConstant, HasTwoTypes}
use Rattle.query_graph.specs.Faults as faults
use Rattle.query_graph.proofs.Lists.{is_some-place_of, list_all-flat_map}
use Rattle.query_graph.proofs.Formed.{formed_table}
use Rattle.query_graph.proofs.Found.{then_some, some_same, all_at, get_map, place_within, all_parts, all_length}
use Rattle.query_graph.proofs.Meaning.{table_names, quantifier_parts, names_of_quantifiers}
use Rattle.query_graph.proofs.FormedQuery.{Parts, weighed_of, predicate_parts}
use Rattle.star_model.proofs.Laws.{same_self}

-- ---- lists of options, read backwards

all_from : {A B : Type 0} (f : A → Option B) (test : A → Bool) → ((x : A) (y : B) → f x ≡ Some y → test x ≡ true) → (xs : List A) (ys : List B) → all_of (map f xs) ≡ Some ys → list_all test xs ≡ true
all_from f test each [] ys is = refl
all_from f test each (x ∷ xs) ys is =
    let parts = all_parts f x xs ys is in
    and_from (test x) (list_all test xs) (each x parts.0 parts.2) (all_from f test each xs parts.1 parts.3)

every_from : {A B : Type 0} (f : A → Option B) (Holds : A → Type 0) → ((x : A) (y : B) → f x ≡ Some y → Holds x) → (xs : List A) (ys : List B) → all_of (map f xs) ≡ Some ys → Every Holds xs
every_from f Holds each [] ys is = tt
every_from f Holds each (x ∷ xs) ys is =
    let parts = all_parts f x xs ys is in
    (each x parts.0 parts.2, every_from f Holds each xs parts.1 parts.3)

get_back : {A B : Type 0} (f : A → Option B) (xs : List A) (ys : List B) (n : ℕ) (y : B) → all_of (map f xs) ≡ Some ys → slice_get ys n ≡ Some y → (x : A) × (slice_get xs n ≡ Some x) × (f x ≡ Some y)
get_back f [] ys n y is at = let none : None ≡ Some y = ap (λ l. slice_get l n) (some_same [] ys is) ∙ at in absurd cc
get_back f (x ∷ xs) ys zero y is at =
    let parts = all_parts f x xs ys is in
    (x, refl, parts.2 ∙ sym (ap (λ (l : List _). slice_get l 0) parts.4) ∙ at)
get_back f (x ∷ xs) ys (suc n) y is at =
    let parts = all_parts f x xs ys is in
    get_back f xs parts.1 n y parts.3 (sym (ap (λ (l : List _). slice_get l (suc n)) parts.4) ∙ at)

equal : (a b : List ℕ) → a ≡ b → same_numbers a b ≡ true
equal a b same = subst (λ (l : List ℕ). same_numbers a l ≡ true) same (same_self a)

-- the name at a place of named things is that of the thing there
name_there : {A : Type 0} (name : A → List ℕ) (xs : List A) (wanted : List ℕ) (n : ℕ) (x : A) → place_of wanted (map name xs) ≡ Some n → slice_get xs n ≡ Some x → wanted ≡ name x
name_there name xs wanted n x place at =
    let found = (place_within (map name xs) wanted n place).1 in
    found.2 ∙ some_same found.0 (name x) (sym found.1 ∙ get_map name xs n x at)

among_from : (wanted : List ℕ) (names : List (List ℕ)) (n : ℕ) → place_of wanted names ≡ Some n → is_among names wanted ≡ true
among_from wanted names n place = sym (is_some-place_of wanted names) ∙ ap is_some place

-- ---- names

-- the quantifier, its table and the column that a name stands for
record Named (x : Query) (n : ColumnName) : Type 0 where
  place : ℕ
  quantifier : QuantDef
  table : TableDef
  column : ℕ
  quantifier_is : slice_get x.quants place ≡ Some quantifier
  table_is : slice_get x.catalogue.tables quantifier.table ≡ Some table
  quantifier_named : n.quantifier ≡ quantifier.name
  column_is : place_of n.column (column_names table) ≡ Some column

named : (x : Query) (n : ColumnName) (col : Col) → column_of x.catalogue x.quants n ≡ Some col → Named x n
named x n col is =
    let quant = then_some (place_of n.quantifier (map (λ d. d.name) x.quants)) _ col is in
    let d = then_some (slice_get x.quants quant.0) _ col quant.2 in
    let t = then_some (slice_get x.catalogue.tables d.0.table) _ col d.2 in
    let column = then_some (place_of n.column (column_names t.0)) _ col t.2 in
    record {
      place = quant.0;
      quantifier = d.0;
      table = t.0;
      column = column.0;
      quantifier_is = d.1;
      table_is = t.1;
      quantifier_named = name_there (λ (e : QuantDef). e.name) x.quants n.quantifier quant.0 d.0 quant.1 d.1;
      column_is = column.1;
    }

module _ (q : QueryStatement) (x : Query) (parts : Parts q x) where
  column_known : (n : ColumnName) (col : Col) → column_of x.catalogue x.quants n ≡ Some col → faults.is_column x.catalogue q.items n ≡ true
  column_known n col is =
      let found = named x n col is in
      let item = get_back (quantifier_of x.catalogue) q.items x.quants found.place found.quantifier parts.quants found.quantifier_is in
      let own = quantifier_parts x.catalogue item.0 found.quantifier item.2 in
      let table = name_there (λ (t : TableDef). t.name) x.catalogue.tables item.0.table found.quantifier.table found.table own.0 found.table_is in
      any_passes_from_place (has_column x.catalogue n) q.items found.place item.0 item.1
      (and_from (same_numbers n.quantifier (quantifier_name item.0)) (list_any (λ t. same_numbers item.0.table t.name && is_among (column_names t) n.column) x.catalogue.tables)
      (equal n.quantifier (quantifier_name item.0) (found.quantifier_named ∙ own.1))
      (any_passes_from_place (λ t. same_numbers item.0.table t.name && is_among (column_names t) n.column) x.catalogue.tables found.quantifier.table found.table found.table_is
      (and_from (same_numbers item.0.table found.table.name) (is_among (column_names found.table) n.column) (equal item.0.table found.table.name table)
      (among_from n.column (column_names found.table) found.column found.column_is))))

  side_known : (s : Side) (o : model.Operand) → operand_of x.catalogue x.quants s ≡ Some o → list_all (faults.is_column x.catalogue q.items) (side_columns s) ≡ true
  side_known (OfConstant k) o is = refl
  side_known (OfColumn n) o is = by (column_of x.catalogue x.quants n) refl is
    where
      by : (found : Option Col) → column_of x.catalogue x.quants n ≡ found → option_map (λ column. operand.Column column) found ≡ Some o → (faults.is_column x.catalogue q.items n && true) ≡ true
      by None e same = absurd cc
      by (Some col) e same = and_from (faults.is_column x.catalogue q.items n) true (column_known n col e) refl

  comparison_known : (p : Comparison) (made : Pred) → weighed_of x p ≡ Some made → list_all (faults.is_column x.catalogue q.items) (comparison_columns p) ≡ true
  comparison_known p made is =
      let own = predicate_parts x p made is in
      and_from (faults.is_column x.catalogue q.items p.left) (list_all (faults.is_column x.catalogue q.items) (side_columns p.right)) (column_known p.left made.left own.0) (side_known p.right made.right own.1)

  columns_known : list_all (faults.is_column x.catalogue q.items) (columns_named q) ≡ true
  columns_known =
      let test = faults.is_column x.catalogue q.items in
      let select = all_from (column_of x.catalogue x.quants) (faults.is_column x.catalogue q.items) column_known q.select x.select parts.select in
      let comparisons = all_from (weighed_of x) (λ p. list_all (faults.is_column x.catalogue q.items) (comparison_columns p)) comparison_known q.comparisons x.preds parts.preds in
      let order = all_from (column_of x.catalogue x.quants) (faults.is_column x.catalogue q.items) column_known q.order x.order parts.order in
      list_all-append test q.select (flat_map comparison_columns q.comparisons ++ q.order)
      ∙ and_from (list_all test q.select) (list_all test (flat_map comparison_columns q.comparisons ++ q.order)) select
      (list_all-append test (flat_map comparison_columns q.comparisons) q.order
      ∙ and_from (list_all test (flat_map comparison_columns q.comparisons)) (list_all test q.order) (list_all-flat_map test comparison_columns q.comparisons ∙ comparisons) order)

  item_known : (i : Item) (d : QuantDef) → quantifier_of x.catalogue i ≡ Some d → is_table x.catalogue i.table ≡ true
  item_known i d is = among_from i.table (table_names x.catalogue) d.table (quantifier_parts x.catalogue i d is).0

  site_known : (name : List ℕ) (s : Option site.Site) → site_of x.catalogue (Some name) ≡ Some s → faults.is_site x.catalogue name ≡ true
  site_known name s is =
      let place = then_some (place_of name (map (λ y. y.name) x.catalogue.sites)) _ s is in
      among_from name (map (λ y. y.name) x.catalogue.sites) place.0 place.1

  pub all_known : NamesUnknown x.catalogue q → ⊥
  all_known (faults.table none) = both_ways (list_all (λ i. is_table x.catalogue i.table) q.items) none (all_from (quantifier_of x.catalogue) (λ i. is_table x.catalogue i.table) item_known q.items x.quants parts.quants)
  all_known (faults.column none) = both_ways (list_all (faults.is_column x.catalogue q.items) (columns_named q)) none columns_known
  all_known (faults.site name is none) = both_ways (faults.is_site x.catalogue name) none (site_known name x.site (ap (site_of x.catalogue) (sym is) ∙ parts.site))

-- ---- constants

great_is_no_operand : (k : Constant) → faults.IsGreat k → is_operand (operand.Constant (value_of k)) ≡ true → ⊥
great_is_no_operand (Whole n) great fits =
    let kept = ltb-false 9223372036854775807 n (not-true (nat_lt 9223372036854775807 n) (and_parts true (not (nat_lt 9223372036854775807 n)) fits).1) in
    omega (arith, kept, great)
great_is_no_operand (Negative zero) great fits = omega (arith, great)
great_is_no_operand (Negative (suc n)) great fits =
    let kept = ltb-false 9223372036854775807 n (not-true (nat_lt 9223372036854775807 n) (and_parts (not (nat_lt 9223372036854775807 n)) true fits).0) in
    omega (arith, kept, great)
great_is_no_operand (Quoted bytes) great fits = great

great_side : (x : Query) (s : Side) (o : model.Operand) → operand_of x.catalogue x.quants s ≡ Some o → IsGreatSide s → is_operand o ≡ true → ⊥
great_side x (OfColumn n) o is great fits = great
great_side x (OfConstant k) o is great fits = great_is_no_operand k great (ap is_operand (some_same (operand.Constant (value_of k)) o is) ∙ fits)

none_great : (x : Query) (ps : List Comparison) (made : List Pred) → all_of (map (weighed_of x) ps) ≡ Some made → list_all (λ p. is_operand p.right) made ≡ true → HasGreatConstant ps → ⊥
none_great x [] made is fits great = great
none_great x (p ∷ ps) made is fits great =
    let parts = all_parts (weighed_of x) p ps made is in
    let both = and_parts (is_operand parts.0.right) (list_all (λ r. is_operand r.right) parts.1) (sym (ap (list_all (λ (r : Pred). is_operand r.right)) parts.4) ∙ fits) in
    elim great [
      | inl here ↦ great_side x p.right parts.0.right (predicate_parts x p parts.0 parts.2).1 here both.0
      | inr there ↦ none_great x ps parts.1 parts.3 both.1 there
    ]

-- ---- long names

abbrev IsShort : List Lexeme → Type 0
IsShort lexemes = HasLongWord lexemes → ⊥

short_append : (front later : List Lexeme) → IsShort front → IsShort later → IsShort (front ++ later)
short_append [] later a b long = b long
short_append (Word bytes ∷ front) later a b (inl here) = a (inl here)
short_append (Word bytes ∷ front) later a b (inr there) = short_append front later (λ long. a (inr long)) b there
short_append (Number n ∷ front) later a b long = short_append front later a b long
short_append (Text bytes ∷ front) later a b long = short_append front later a b long
short_append (Symbol bytes ∷ front) later a b long = short_append front later a b long

short_joined : {A : Type 0} (between : Lexeme) (write : A → List Lexeme) (xs : List A) → IsShort (between ∷ []) → Every (λ x. IsShort (write x)) xs → IsShort (joined_by between (map write xs))
short_joined between write [] short each long = long
short_joined between write (x ∷ []) short each long = each.0 long
short_joined between write (x ∷ y ∷ xs) short each long =
    short_append (write x) (between ∷ joined_by between (map write (y ∷ xs))) each.0
    (short_append (between ∷ []) (joined_by between (map write (y ∷ xs))) short (short_joined between write (y ∷ xs) short each.1)) long

short_word : (bytes : List ℕ) (rest : List Lexeme) → length bytes ≤ 64 → IsShort rest → IsShort (Word bytes ∷ rest)
short_word bytes rest few short (inl long) = omega (arith, few, long)
short_word bytes rest few short (inr long) = short long

name_is_short : (bytes : List ℕ) → is_name bytes ≡ true → length bytes ≤ 64
name_is_short bytes name = leb-true (length bytes) 64 (and_parts (is_word bytes) (nat_le (length bytes) 64) name).1

cmp_is_short : (c : Cmp) (rest : List Lexeme) → IsShort rest → IsShort (cmp_lexeme c ∷ rest)
cmp_is_short cmp.Eq rest short = short
cmp_is_short cmp.Ne rest short = short
cmp_is_short cmp.Lt rest short = short
cmp_is_short cmp.Le rest short = short
cmp_is_short cmp.Gt rest short = short
cmp_is_short cmp.Ge rest short = short

get_from : {A : Type 0} (f : A → List ℕ) (xs : List A) (n : ℕ) (y : List ℕ) → slice_get (map f xs) n ≡ Some y → (x : A) × (slice_get xs n ≡ Some x) × (f x ≡ y)
get_from f [] n y is = absurd cc
get_from f (x ∷ xs) zero y is = (x, refl, some_same (f x) y is)
get_from f (x ∷ xs) (suc n) y is = get_from f xs n y is

column_name : (e : ColumnDef) → is_column e ≡ true → is_name e.name ≡ true
column_name e is = (and_parts (is_name e.name) (is_number e.width) (and_parts (is_name e.name && is_number e.width) (is_number e.distinct) is).0).0

site_name : (s : SiteDef) → is_site s ≡ true → is_name s.name ≡ true
site_name s is = (and_parts (is_name s.name) (is_number s.cpu) (and_parts (is_name s.name && is_number s.cpu) (is_number s.net) is).0).0

every_with : {A B : Type 0} (f : A → Option B) (test : B → Bool) (Holds : A → Type 0) → ((x : A) (y : B) → f x ≡ Some y → test y ≡ true → Holds x)
    → (xs : List A) (ys : List B) → all_of (map f xs) ≡ Some ys → list_all test ys ≡ true → Every Holds xs
every_with f test Holds each [] ys is all = tt
every_with f test Holds each (x ∷ xs) ys is all =
    let parts = all_parts f x xs ys is in
    let both = and_parts (test parts.0) (list_all test parts.1) (sym (ap (list_all test) parts.4) ∙ all) in
    (each x parts.0 parts.2 both.0, every_with f test Holds each xs parts.1 parts.3 both.1)

own_is_short : (table : List ℕ) (name : Option (List ℕ)) → length (unwrap_or name table) ≤ 64 → IsShort (own_name name)
own_is_short table None short = λ long. long
own_is_short table (Some name) short = short_word name [] short (λ long. long)

module _ (q : QueryStatement) (x : Query) (parts : Parts q x) (formed : WellFormedQuery x) where
  quantifier_is_short : (n : ℕ) (d : QuantDef) → slice_get x.quants n ≡ Some d → length d.name ≤ 64
  quantifier_is_short n d is = name_is_short d.name (all_at (λ (e : QuantDef). is_name e.name) x.quants n d formed.names is)

  column_is_short : (n : ColumnName) (col : Col) → column_of x.catalogue x.quants n ≡ Some col → IsShort (column_lexemes n)
  column_is_short n col is =
      let found = named x n col is in
      let quantifier : length n.quantifier ≤ 64 = subst (λ (l : List ℕ). length l ≤ 64) (sym found.quantifier_named) (quantifier_is_short found.place found.quantifier found.quantifier_is) in
      let at = (place_within (column_names found.table) n.column found.column found.column_is).1 in
      let definition = get_from (λ (e : ColumnDef). e.name) found.table.columns found.column at.0 at.1 in
      let table = formed_table x.catalogue found.quantifier.table found.table formed.catalogue found.table_is in
      let name = all_at is_column found.table.columns found.column definition.0 table.columns definition.1 in
      let short : length definition.0.name ≤ 64 = name_is_short definition.0.name (column_name definition.0 name) in
      let column : length n.column ≤ 64 = subst (λ (l : List ℕ). length l ≤ 64) (sym (at.2 ∙ sym definition.2)) short in
      short_word n.quantifier (Symbol (codes ".") ∷ Word n.column ∷ []) quantifier (short_word n.column [] column (λ long. long))

  side_is_short : (s : Side) (o : model.Operand) → operand_of x.catalogue x.quants s ≡ Some o → IsShort (side_lexemes s)
  side_is_short (OfConstant (Whole n)) o is = λ long. long
  side_is_short (OfConstant (Negative n)) o is = λ long. long
  side_is_short (OfConstant (Quoted bytes)) o is = λ long. long
  side_is_short (OfColumn n) o is = by (column_of x.catalogue x.quants n) refl is
    where
      by : (found : Option Col) → column_of x.catalogue x.quants n ≡ found → option_map (λ column. operand.Column column) found ≡ Some o → IsShort (column_lexemes n)
      by None e same = absurd cc
      by (Some col) e same = column_is_short n col e

  comparison_is_short : (p : Comparison) (made : Pred) → weighed_of x p ≡ Some made → IsShort (comparison_lexemes p)
  comparison_is_short p made is =
      let own = predicate_parts x p made is in
      short_append (column_lexemes p.left) (cmp_lexeme p.cmp ∷ side_lexemes p.right) (column_is_short p.left made.left own.0)
      (cmp_is_short p.cmp (side_lexemes p.right) (side_is_short p.right made.right own.1))

  item_is_short : (i : Item) (d : QuantDef) → quantifier_of x.catalogue i ≡ Some d → is_name d.name ≡ true → IsShort (item_lexemes i)
  item_is_short i d is called =
      let own = quantifier_parts x.catalogue i d is in
      let at = (place_within (table_names x.catalogue) i.table d.table own.0).1 in
      let t = get_from (λ (e : TableDef). e.name) x.catalogue.tables d.table at.0 at.1 in
      let named = name_is_short t.0.name (formed_table x.catalogue d.table t.0 formed.catalogue t.1).name in
      let table : length i.table ≤ 64 = subst (λ (l : List ℕ). length l ≤ 64) (sym (at.2 ∙ sym t.2)) named in
      let name : length (quantifier_name i) ≤ 64 = subst (λ (l : List ℕ). length l ≤ 64) own.1 (name_is_short d.name called) in
      short_word i.table (own_name i.name) table (own_is_short i.table i.name name)

  columns_are_short : (ns : List ColumnName) (cols : List Col) → columns_of x.catalogue x.quants ns ≡ Some cols → IsShort (columns_lexemes ns)
  columns_are_short ns cols is =
      short_joined comma column_lexemes ns (λ long. long) (every_from (column_of x.catalogue x.quants) (λ n. IsShort (column_lexemes n)) column_is_short ns cols is)

  where_is_short : (ps : List Comparison) (made : List Pred) → all_of (map (weighed_of x) ps) ≡ Some made → IsShort (where_lexemes ps)
  where_is_short [] made is = λ long. long
  where_is_short (p ∷ ps) made is =
      short_word (codes "where") (joined_by (Word (codes "and")) (map comparison_lexemes (p ∷ ps))) (omega arith)
      (short_joined (Word (codes "and")) comparison_lexemes (p ∷ ps) (short_word (codes "and") [] (omega arith) (λ long. long))
      (every_from (weighed_of x) (λ r. IsShort (comparison_lexemes r)) comparison_is_short (p ∷ ps) made is))

  order_is_short : (ns : List ColumnName) (cols : List Col) → columns_of x.catalogue x.quants ns ≡ Some cols → IsShort (order_lexemes ns)
  order_is_short [] cols is = λ long. long
  order_is_short (n ∷ ns) cols is =
      short_word (codes "order") (Word (codes "by") ∷ columns_lexemes (n ∷ ns)) (omega arith)
      (short_word (codes "by") (columns_lexemes (n ∷ ns)) (omega arith) (columns_are_short (n ∷ ns) cols is))

  at_is_short : (name : Option (List ℕ)) (s : Option site.Site) → site_of x.catalogue name ≡ Some s → IsShort (at_lexemes name)
  at_is_short None s is = λ long. long
  at_is_short (Some name) s is =
      let place = then_some (place_of name (map (λ y. y.name) x.catalogue.sites)) _ s is in
      let at = (place_within (map (λ y. y.name) x.catalogue.sites) name place.0 place.1).1 in
      let definition = get_from (λ (y : SiteDef). y.name) x.catalogue.sites place.0 at.0 at.1 in
      let named = name_is_short definition.0.name (site_name definition.0 (all_at is_site x.catalogue.sites place.0 definition.0 formed.catalogue.sites definition.1)) in
      short_word (codes "at") (Word name ∷ []) (omega arith) (short_word name [] (subst (λ (l : List ℕ). length l ≤ 64) (sym (at.2 ∙ sym definition.2)) named) (λ long. long))

  query_is_short : IsShort (query_lexemes q)
  query_is_short =
      short_word (codes "select") (columns ++ Word (codes "from") ∷ (items ++ (wheres ++ (order ++ at)))) (omega arith)
      (short_append columns (Word (codes "from") ∷ (items ++ (wheres ++ (order ++ at)))) (columns_are_short q.select x.select parts.select)
      (short_word (codes "from") (items ++ (wheres ++ (order ++ at))) (omega arith)
      (short_append items (wheres ++ (order ++ at))
      (short_joined comma item_lexemes q.items (λ long. long)
      (every_with (quantifier_of x.catalogue) (λ d. is_name d.name) (λ i. IsShort (item_lexemes i)) item_is_short q.items x.quants parts.quants formed.names))
      (short_append wheres (order ++ at) (where_is_short q.comparisons x.preds parts.preds)
      (short_append order at (order_is_short q.order x.order parts.order) (at_is_short q.site x.site parts.site))))))
    where
      columns : List Lexeme
      columns = columns_lexemes q.select

      items : List Lexeme
      items = joined_by comma (map item_lexemes q.items)

      wheres : List Lexeme
      wheres = where_lexemes q.comparisons

      order : List Lexeme
      order = order_lexemes q.order

      at : List Lexeme
      at = at_lexemes q.site

  -- ---- the whole

  pub keeps_limits : (what : LimitKind) → Beyond q what → ⊥
  keeps_limits limit.Number beyond = none_great x q.comparisons x.preds parts.preds formed.constants beyond
  keeps_limits limit.Name beyond = query_is_short beyond
  keeps_limits limit.Quantifiers beyond = omega (arith, beyond, all_length (quantifier_of x.catalogue) q.items x.quants parts.quants, formed.some_quantifiers.1)
  keeps_limits limit.Predicates beyond = omega (arith, beyond, all_length (weighed_of x) q.comparisons x.preds parts.preds, formed.few_predicates)
  keeps_limits limit.Select beyond = omega (arith, beyond, all_length (column_of x.catalogue x.quants) q.select x.select parts.select, formed.some_columns.1)
  keeps_limits limit.OrderBy beyond = omega (arith, beyond, all_length (column_of x.catalogue x.quants) q.order x.order parts.order, formed.few_in_order)
  keeps_limits _ beyond = beyond

  pub names_differ : DefinesTwice q → ⊥
  names_differ twice =
      both_ways (differ same_numbers (quantifier_names q.items)) twice (sym (ap (differ same_numbers) (names_of_quantifiers x.catalogue q.items x.quants parts.quants)) ∙ formed.quantifiers_differ)

same_type_once : (a b : Option ColType) (left right : ColType) → same_type a b ≡ true → a ≡ Some left → b ≡ Some right → left ≡ right
same_type_once a b type.Int type.Int same is are = refl
same_type_once a b type.Text type.Text same is are = refl
same_type_once a b type.Int type.Text same is are = let two : same_type a b ≡ false = λ i. same_type (is i) (are i) in absurd (both_ways (same_type a b) two same)
same_type_once a b type.Text type.Int same is are = let two : same_type a b ≡ false = λ i. same_type (is i) (are i) in absurd (both_ways (same_type a b) two same)

none_clash : (x : Query) (before ps : List Pred) → list_all (λ p. same_type (type_of x p.left) (type_of_operand x p.right)) ps ≡ true → NoneFrom (λ _ p. HasTwoTypes x p) before ps
none_clash x before [] all = tt
none_clash x before (p ∷ ps) all =
    let both = and_parts (same_type (type_of x p.left) (type_of_operand x p.right)) (list_all (λ r. same_type (type_of x r.left) (type_of_operand x r.right)) ps) all in (
      (λ has. has.two (same_type_once (type_of x p.left) (type_of_operand x p.right) has.left has.right both.0 has.left_is has.right_is)),
      none_clash x (before ++ p ∷ []) ps both.1,
    )

pub one_type : (x : Query) → WellFormedQuery x → NoneHas (λ _ p. HasTwoTypes x p) x.preds
one_type x formed = none_clash x [] x.preds formed.one_type
