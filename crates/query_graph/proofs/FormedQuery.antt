-- A query that a statement within its limits means, with each predicate of one type, is well formed.
use Rattle.std.proofs.Common.{◌≡◌, ℕ, ◌<◌, ◌≤◌, true, not, ◌&&◌, nat_lt, nat_le, List, [], ◌∷◌, ◌++◌, length, map, slice_get, Option, Some, None, unwrap_or, codes, refl, sym, ap, ◌∙◌, subst, inl, inr, arith}
use Prim.Native.Nat.{zero, suc}
use Rattle.std.specs.List.{list_all}
use Rattle.std.specs.Option.{option_map, option_map_or}
use Rattle.std.proofs.lemmas.Bool.{and_parts, and_from, true_from_ne_false, lt-ltb, le-ltb, le-leb, cases_lt}
use Rattle.std.proofs.lemmas.List.{length-map}
use Rattle.star_model.specs.declared.catalogue.Catalogue.{Catalogue}
use Rattle.star_model.specs.declared.catalogue.TableDef.{TableDef}
use Rattle.star_model.specs.declared.catalogue.ColumnDef.{ColumnDef}
use Rattle.star_model.specs.declared.catalogue.ColType.{ColType}
use Rattle.star_model.specs.declared.catalogue.ColType.TheVariants as type
use Rattle.star_model.specs.declared.columns.Col.{Col}
use Rattle.star_model.specs.declared.columns.Site as site
use Rattle.star_model.specs.declared.faults.LimitKind.{LimitKind}
use Rattle.star_model.specs.declared.faults.LimitKind.TheVariants as limit
use Rattle.star_model.specs.declared.query.Query.{Query}
use Rattle.star_model.specs.declared.query.QuantDef.{QuantDef}
use Rattle.star_model.specs.declared.query.Pred.{Pred}
use Rattle.star_model.specs.declared.query.Operand as model
use Rattle.star_model.specs.declared.query.Operand.TheVariants as operand
use Rattle.star_model.specs.Predicates as predicates
use Rattle.star_model.specs.Selectivity.{weighed_pred, weighed}
use Rattle.star_model.specs.Vectors.{same_numbers}
use Rattle.star_model.specs.WellFormed.{differ, WellFormedCatalogue, WellFormedQuery, type_of, type_of_operand, type_of_value, is_there, is_operand, is_word, is_name, same_type}
use Rattle.spelling.specs.Lexemes.{Lexeme, Word, Number, Text, Symbol, comma, joined_by}
use Rattle.star_model.specs.Every.{Every, HasItem}
use Rattle.spelling.specs.Firsts.{NoneFrom, NoneHas}
use Rattle.spelling.specs.Limits.{HasLongWord}
use Rattle.star_model.specs.Names.{place_of}
use Rattle.spelling.specs.Names.{all_of}
use Rattle.query_graph.specs.Queries.{ColumnName, Item, Side, OfColumn, OfConstant, Whole, Negative, Quoted, Constant, Comparison, QueryStatement, quantifier_name, quantifier_of, column_of, columns_of, operand_of, predicate_of, site_of, value_of, query_of, own_name, item_lexemes, columns_lexemes, where_lexemes, order_lexemes, at_lexemes, query_lexemes}
use Rattle.query_graph.specs.Faults.{quantifier_names, DefinesTwice, Says, Beyond, IsGreat, IsGreatSide, HasGreatConstant, HasTwoTypes}
use Rattle.query_graph.proofs.Found.{there, then_some, some_same, place_within, all_length, all_have, all_with, mapped_some, all_mapped}
use Rattle.query_graph.proofs.Meaning.{table_names, quantifier_parts, names_of_quantifiers}
use Rattle.query_graph.proofs.NameWords.{quantifier_words}

-- ---- the parts of a query

-- the predicate that a comparison means, with its selectivity
abbrev pub weighed_of : Query → Comparison → Option Pred
weighed_of x p = option_map (weighed_pred [] x) (predicate_of x.catalogue x.quants p)

pub record Parts (q : QueryStatement) (x : Query) : Type 0 where
  pub catalogue : WellFormedCatalogue x.catalogue
  pub quants : all_of (map (quantifier_of x.catalogue) q.items) ≡ Some x.quants
  pub select : columns_of x.catalogue x.quants q.select ≡ Some x.select
  pub preds : all_of (map (weighed_of x) q.comparisons) ≡ Some x.preds
  pub order : columns_of x.catalogue x.quants q.order ≡ Some x.order
  pub site : site_of x.catalogue q.site ≡ Some x.site

moved : (q : QueryStatement) (made x : Query) → made ≡ x → Parts q made → Parts q x
moved q made x same parts = subst (λ (y : Query). Parts q y) same parts

pub parts_of : (c : Catalogue) (q : QueryStatement) (x : Query) → WellFormedCatalogue c → query_of c q ≡ Some x → Parts q x
unfolding query_of weighed
parts_of c q x formed is =
    let quants = then_some (all_of (map (quantifier_of c) q.items)) _ x is in
    let select = then_some (columns_of c quants.0 q.select) _ x quants.2 in
    let preds = then_some (all_of (map (predicate_of c quants.0) q.comparisons)) _ x select.2 in
    let order = then_some (columns_of c quants.0 q.order) _ x preds.2 in
    let at = then_some (site_of c q.site) _ x order.2 in
    let made : Query = weighed [] (record { catalogue = c; quants = quants.0; select = select.0; preds = preds.0; order = order.0; site = at.0 }) in
    let parts : Parts q made = record { catalogue = formed; quants = quants.1; select = select.1; preds = all_mapped (predicate_of c quants.0) (weighed_pred [] made) q.comparisons preds.0 preds.1; order = order.1; site = at.1 } in
    moved q made x (some_same made x at.2) parts

-- ---- columns

get_back : {A B : Type 0} (f : A → B) (xs : List A) (n : ℕ) (y : B) → slice_get (map f xs) n ≡ Some y → (x : A) × (slice_get xs n ≡ Some x)
get_back f [] n y is = absurd cc
get_back f (x ∷ xs) zero y is = (x, refl)
get_back f (x ∷ xs) (suc n) y is = get_back f xs n y is

type_is : (x : Query) (quant column : ℕ) (d : QuantDef) (t : TableDef) (definition : ColumnDef) → slice_get x.quants quant ≡ Some d → slice_get x.catalogue.tables d.table ≡ Some t → slice_get t.columns column ≡ Some definition
    → is_there x (record { quant = record { 0 = quant }; column = column }) ≡ true
type_is x quant column d t definition e1 e2 e3 = rw (e1, e2, e3) refl

column_is_there : (x : Query) (n : ColumnName) (col : Col) → column_of x.catalogue x.quants n ≡ Some col → is_there x col ≡ true
column_is_there x n col is =
    let quant = then_some (place_of n.quantifier (map (λ d. d.name) x.quants)) _ col is in
    let d = then_some (slice_get x.quants quant.0) _ col quant.2 in
    let t = then_some (slice_get x.catalogue.tables d.0.table) _ col d.2 in
    let column = then_some (place_of n.column (map (λ e. e.name) t.0.columns)) _ col t.2 in
    let named = (place_within (map (λ e. e.name) t.0.columns) n.column column.0 column.1).1 in
    let definition = get_back (λ e. e.name) t.0.columns column.0 named.0 named.1 in
    subst (λ (y : Col). is_there x y ≡ true) (some_same (record { quant = record { 0 = quant.0 }; column = column.0 }) col column.2)
    (type_is x quant.0 column.0 d.0 t.0 definition.0 d.1 t.1 definition.1)

always : {A : Type 0} (xs : List A) → Every (λ (x : A). Unit {0}) xs
always [] = tt
always (x ∷ xs) = (tt, always xs)

columns_are_there : (x : Query) (ns : List ColumnName) (cols : List Col) → columns_of x.catalogue x.quants ns ≡ Some cols → list_all (is_there x) cols ≡ true
columns_are_there x ns cols is = all_have (column_of x.catalogue x.quants) (λ n. Unit {0}) (is_there x) (λ n col _ one. column_is_there x n col one) ns cols (always ns) is

operand_is_there : (x : Query) (s : Side) (o : model.Operand) → operand_of x.catalogue x.quants s ≡ Some o → list_all (is_there x) (predicates.columns_of_operand o) ≡ true
operand_is_there x (OfColumn n) o is = by (column_of x.catalogue x.quants n) refl is
  where
    by : (found : Option Col) → column_of x.catalogue x.quants n ≡ found → option_map (λ column. operand.Column column) found ≡ Some o → list_all (is_there x) (predicates.columns_of_operand o) ≡ true
    by None e same = absurd cc
    by (Some col) e same =
        subst (λ (y : model.Operand). list_all (is_there x) (predicates.columns_of_operand y) ≡ true) (some_same (operand.Column col) o same)
        (and_from (is_there x col) true (column_is_there x n col e) refl)
operand_is_there x (OfConstant k) o is =
    subst (λ (y : model.Operand). list_all (is_there x) (predicates.columns_of_operand y) ≡ true) (some_same (operand.Constant (value_of k)) o is) refl

pub predicate_parts : (x : Query) (p : Comparison) (made : Pred) → weighed_of x p ≡ Some made
    → (column_of x.catalogue x.quants p.left ≡ Some made.left) × (operand_of x.catalogue x.quants p.right ≡ Some made.right)
predicate_parts x p made is =
    let plain = mapped_some (weighed_pred [] x) (predicate_of x.catalogue x.quants p) made is in
    let left = then_some (column_of x.catalogue x.quants p.left) _ plain.0 plain.1 in
    let right = then_some (operand_of x.catalogue x.quants p.right) _ plain.0 left.2 in
    let same = some_same (record { left = left.0; cmp = p.cmp; right = right.0; num = 1; den = 1 }) plain.0 right.2 in (
      left.1 ∙ ap (λ (y : Pred). Some y.left) same ∙ ap (λ (y : Pred). Some y.left) plain.2,
      right.1 ∙ ap (λ (y : Pred). Some y.right) same ∙ ap (λ (y : Pred). Some y.right) plain.2,
    )

predicate_is_there : (x : Query) (p : Comparison) (made : Pred) → weighed_of x p ≡ Some made → list_all (is_there x) (predicates.columns_of made) ≡ true
predicate_is_there x p made is =
    let parts = predicate_parts x p made is in
    and_from (is_there x made.left) (list_all (is_there x) (predicates.columns_of_operand made.right)) (column_is_there x p.left made.left parts.0) (operand_is_there x p.right made.right parts.1)

-- ---- constants

small_constant : (k : Constant) → (IsGreat k → ⊥) → is_operand (operand.Constant (value_of k)) ≡ true
small_constant (Whole n) small =
    ap (λ b. true && not b) (le-ltb 9223372036854775807 n (elim (cases_lt 9223372036854775807 n) [ inl great ↦ absurd (small great) | inr less ↦ less ]))
small_constant (Negative zero) small = refl
small_constant (Negative (suc n)) small =
    ap (λ b. not b && true) (le-ltb 9223372036854775807 n (elim (cases_lt 9223372036854775808 (suc n)) [ inl great ↦ absurd (small great) | inr less ↦ omega arith ]))
small_constant (Quoted bytes) small = refl

small_operand : (x : Query) (s : Side) (o : model.Operand) → (IsGreatSide s → ⊥) → operand_of x.catalogue x.quants s ≡ Some o → is_operand o ≡ true
small_operand x (OfColumn n) o small is = by (column_of x.catalogue x.quants n) is
  where
    by : (found : Option Col) → option_map (λ column. operand.Column column) found ≡ Some o → is_operand o ≡ true
    by None same = absurd cc
    by (Some col) same = subst (λ (y : model.Operand). is_operand y ≡ true) (some_same (operand.Column col) o same) refl
small_operand x (OfConstant k) o small is =
    subst (λ (y : model.Operand). is_operand y ≡ true) (some_same (operand.Constant (value_of k)) o is) (small_constant k small)

none_great : (ps : List Comparison) → (HasGreatConstant ps → ⊥) → Every (λ p. IsGreatSide p.right → ⊥) ps
none_great [] small = tt
none_great (p ∷ ps) small = ((λ great. small (inl great)), none_great ps (λ great. small (inr great)))

-- ---- types

operand_has_type : (x : Query) (o : model.Operand) → list_all (is_there x) (predicates.columns_of_operand o) ≡ true → (t : ColType) × (type_of_operand x o ≡ Some t)
operand_has_type x (operand.Column c) all = there (type_of x c) (and_parts (is_there x c) true all).0
operand_has_type x (operand.Constant v) all = (type_of_value v, refl)

same_types : (a b : Option ColType) (left right : ColType) → a ≡ Some left → b ≡ Some right → ((left ≡ right → ⊥) → ⊥) → same_type a b ≡ true
same_types a b type.Int type.Int is are one = λ i. same_type (is i) (are i)
same_types a b type.Text type.Text is are one = λ i. same_type (is i) (are i)
same_types a b type.Int type.Text is are one = absurd (one (λ same. cc))
same_types a b type.Text type.Int is are one = absurd (one (λ same. cc))

has_one_type : (x : Query) (p : Pred) → list_all (is_there x) (predicates.columns_of p) ≡ true → (HasTwoTypes x p → ⊥) → same_type (type_of x p.left) (type_of_operand x p.right) ≡ true
has_one_type x p all one =
    let parts = and_parts (is_there x p.left) (list_all (is_there x) (predicates.columns_of_operand p.right)) all in
    let left = there (type_of x p.left) parts.0 in
    let right = operand_has_type x p.right parts.1 in
    same_types (type_of x p.left) (type_of_operand x p.right) left.0 right.0 left.1 right.1
    (λ differ. one (record { left = left.0; right = right.0; left_is = left.1; right_is = right.1; two = differ }))

none_has : {A : Type 0} (Has : A → Type 0) (before xs : List A) → NoneFrom (λ _ x. Has x) before xs → Every (λ x. Has x → ⊥) xs
none_has Has before [] none = tt
none_has Has before (x ∷ xs) none = (none.0, none_has Has (before ++ x ∷ []) xs none.1)

-- ---- names

long_left : (front later : List Lexeme) → HasLongWord front → HasLongWord (front ++ later)
long_left [] later long = absurd long
long_left (Word bytes ∷ front) later (inl here) = inl here
long_left (Word bytes ∷ front) later (inr there) = inr (long_left front later there)
long_left (Number n ∷ front) later long = long_left front later long
long_left (Text bytes ∷ front) later long = long_left front later long
long_left (Symbol bytes ∷ front) later long = long_left front later long

long_right : (front later : List Lexeme) → HasLongWord later → HasLongWord (front ++ later)
long_right [] later long = long
long_right (Word bytes ∷ front) later long = inr (long_right front later long)
long_right (Number n ∷ front) later long = long_right front later long
long_right (Text bytes ∷ front) later long = long_right front later long
long_right (Symbol bytes ∷ front) later long = long_right front later long

not_long : (bytes : List ℕ) → (64 < length bytes → ⊥) → length bytes ≤ 64
not_long bytes short = elim (cases_lt 64 (length bytes)) [ inl long ↦ absurd (short long) | inr less ↦ less ]

short_name : (table : List ℕ) (name : Option (List ℕ)) → (HasLongWord (Word table ∷ own_name name) → ⊥) → length (unwrap_or name table) ≤ 64
short_name table None short = not_long table (λ long. short (inl long))
short_name table (Some name) short = not_long name (λ long. short (inr (inl long)))

short_names : (items : List Item) → (HasLongWord (joined_by comma (map item_lexemes items)) → ⊥) → Every (λ i. length (quantifier_name i) ≤ 64) items
short_names [] short = tt
short_names (i ∷ []) short = (short_name i.table i.name short, tt)
short_names (i ∷ j ∷ items) short = (
  short_name i.table i.name (λ long. short (long_left (item_lexemes i) (comma ∷ joined_by comma (map item_lexemes (j ∷ items))) long)),
  short_names (j ∷ items) (λ long. short (long_right (item_lexemes i) (comma ∷ joined_by comma (map item_lexemes (j ∷ items))) long)),
)

items_in_query : (q : QueryStatement) → HasLongWord (joined_by comma (map item_lexemes q.items)) → HasLongWord (query_lexemes q)
items_in_query q long =
    inr (long_right (columns_lexemes q.select) (Word (codes "from") ∷ (joined_by comma (map item_lexemes q.items) ++ (where_lexemes q.comparisons ++ (order_lexemes q.order ++ at_lexemes q.site))))
    (inr (long_left (joined_by comma (map item_lexemes q.items)) (where_lexemes q.comparisons ++ (order_lexemes q.order ++ at_lexemes q.site)) long)))

-- ---- the whole

some_items : {A B : Type 0} (xs : List A) (ys : List B) → HasItem xs → length ys ≡ length xs → 0 < length ys
some_items [] ys has is = absurd has
some_items (x ∷ xs) ys has is = omega (arith, is)

within : (limit n : ℕ) → (limit < n → ⊥) → n ≤ limit
within limit n keeps = elim (cases_lt limit n) [ inl beyond ↦ absurd (keeps beyond) | inr less ↦ less ]

site_is_there : (x : Query) (named : Option (List ℕ)) (s : Option site.Site) → site_of x.catalogue named ≡ Some s → option_map_or (λ y. nat_lt y.0 (length x.catalogue.sites)) s true ≡ true
site_is_there x None s is = subst (λ (y : Option site.Site). option_map_or (λ z. nat_lt z.0 (length x.catalogue.sites)) y true ≡ true) (some_same None s is) refl
site_is_there x (Some name) s is =
    let place = then_some (place_of name (map (λ y. y.name) x.catalogue.sites)) _ s is in
    let below : place.0 < length x.catalogue.sites = subst (λ n. place.0 < n) (length-map x.catalogue.sites (λ y. y.name)) (place_within (map (λ y. y.name) x.catalogue.sites) name place.0 place.1).0 in
    subst (λ (y : Option site.Site). option_map_or (λ z. nat_lt z.0 (length x.catalogue.sites)) y true ≡ true) (some_same (Some (record { 0 = place.0 })) s place.2)
    (lt-ltb place.0 (length x.catalogue.sites) below)

table_is_there : (x : Query) (i : Item) (d : QuantDef) → Unit {0} → quantifier_of x.catalogue i ≡ Some d → nat_lt d.table (length x.catalogue.tables) ≡ true
table_is_there x i d _ is =
    let below : d.table < length x.catalogue.tables = subst (λ n. d.table < n) (length-map x.catalogue.tables (λ t. t.name)) (place_within (table_names x.catalogue) i.table d.table (quantifier_parts x.catalogue i d is).0).0 in
    lt-ltb d.table (length x.catalogue.tables) below

names : (items : List Item) → Every (λ i. length (quantifier_name i) ≤ 64) items → Every (λ i. is_word (quantifier_name i) ≡ true) items → Every (λ i. is_name (quantifier_name i) ≡ true) items
names [] short words = tt
names (i ∷ items) short words = (
  and_from (is_word (quantifier_name i)) (nat_le (length (quantifier_name i)) 64) words.0 (le-leb (length (quantifier_name i)) 64 short.0),
  names items short.1 words.1,
)

pub formed_query : (c : Catalogue) (text : List ℕ) (q : QueryStatement) (x : Query) → WellFormedCatalogue c → Says text q → (DefinesTwice q → ⊥) → ((what : LimitKind) → Beyond q what → ⊥)
    → query_of c q ≡ Some x → NoneHas (λ _ p. HasTwoTypes x p) x.preds → WellFormedQuery x
formed_query c text q x formed says once keeps is one =
    let parts = parts_of c q x formed is in
    let quants = all_length (quantifier_of x.catalogue) q.items x.quants parts.quants in
    let select = all_length (column_of x.catalogue x.quants) q.select x.select parts.select in
    let preds = all_length (weighed_of x) q.comparisons x.preds parts.preds in
    let order = all_length (column_of x.catalogue x.quants) q.order x.order parts.order in
    let columns = all_have (weighed_of x) (λ p. Unit {0}) (λ p. list_all (is_there x) (predicates.columns_of p)) (λ p made _ made_is. predicate_is_there x p made made_is) q.comparisons x.preds (always q.comparisons) parts.preds in
    record {
      catalogue = parts.catalogue;
      some_quantifiers = (some_items q.items x.quants says.stands.some_items quants, subst (λ n. n ≤ 12) (sym quants) (within 12 (length q.items) (keeps limit.Quantifiers)));
      some_columns = (some_items q.select x.select says.stands.some_columns select, subst (λ n. n ≤ 64) (sym select) (within 64 (length q.select) (keeps limit.Select)));
      few_predicates = subst (λ n. n ≤ 16) (sym preds) (within 16 (length q.comparisons) (keeps limit.Predicates));
      few_in_order = subst (λ n. n ≤ 16) (sym order) (within 16 (length q.order) (keeps limit.OrderBy));
      tables = all_have (quantifier_of x.catalogue) (λ i. Unit {0}) (λ d. nat_lt d.table (length x.catalogue.tables)) (table_is_there x) q.items x.quants (always q.items) parts.quants;
      names = all_have (quantifier_of x.catalogue) (λ i. is_name (quantifier_name i) ≡ true) (λ d. is_name d.name)
          (λ i d named d_is. ap is_name (quantifier_parts x.catalogue i d d_is).1 ∙ named)
          q.items x.quants (names q.items (short_names q.items (λ long. keeps limit.Name (items_in_query q long))) (quantifier_words text q says)) parts.quants;
      quantifiers_differ = ap (differ same_numbers) (names_of_quantifiers x.catalogue q.items x.quants parts.quants) ∙ true_from_ne_false (differ same_numbers (quantifier_names q.items)) once;
      select = columns_are_there x q.select x.select parts.select;
      order = columns_are_there x q.order x.order parts.order;
      columns = columns;
      constants = all_have (weighed_of x) (λ p. IsGreatSide p.right → ⊥) (λ p. is_operand p.right)
          (λ p made small made_is. small_operand x p.right made.right small (predicate_parts x p made made_is).1)
          q.comparisons x.preds (none_great q.comparisons (keeps limit.Number)) parts.preds;
      one_type = all_with (λ p. list_all (is_there x) (predicates.columns_of p)) (λ p. HasTwoTypes x p → ⊥) (λ p. same_type (type_of x p.left) (type_of_operand x p.right)) (has_one_type x)
          x.preds columns (none_has (HasTwoTypes x) [] x.preds one);
      site = site_is_there x q.site x.site parts.site;
    }

pub few_predicates : (c : Catalogue) (q : QueryStatement) (x : Query) → WellFormedCatalogue c → ((what : LimitKind) → Beyond q what → ⊥) → query_of c q ≡ Some x → length x.preds ≤ 16
few_predicates c q x formed keeps is =
    let preds = all_length (weighed_of x) q.comparisons x.preds (parts_of c q x formed is).preds in
    subst (λ n. n ≤ 16) (sym preds) (within 16 (length q.comparisons) (keeps limit.Predicates))

pub catalogue_is : (c : Catalogue) (q : QueryStatement) (x : Query) → query_of c q ≡ Some x → x.catalogue ≡ c
unfolding query_of weighed
catalogue_is c q x is =
    let quants = then_some (all_of (map (quantifier_of c) q.items)) _ x is in
    let select = then_some (columns_of c quants.0 q.select) _ x quants.2 in
    let preds = then_some (all_of (map (predicate_of c quants.0) q.comparisons)) _ x select.2 in
    let order = then_some (columns_of c quants.0 q.order) _ x preds.2 in
    let at = then_some (site_of c q.site) _ x order.2 in
    sym (ap (λ (y : Query). y.catalogue) (some_same (weighed [] (record { catalogue = c; quants = quants.0; select = select.0; preds = preds.0; order = order.0; site = at.0 })) x at.2))
