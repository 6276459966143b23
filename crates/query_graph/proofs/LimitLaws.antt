-- The tests of the limits find the first that a statement goes beyond.
use Rattle.std.proofs.Common.{◌≡◌, ℕ, ◌<◌, ◌≤◌, Bool, cond, true, false, ◌||◌, nat_lt, List, [], ◌∷◌, ◌++◌, length, map, Option, Some, None, codes, MatchOption, refl, sym, ap, ◌∙◌, subst, inl, inr, arith}
use Rattle.std.proofs.lemmas.Bool.{or_cases, or_left, or_right, ltb-true, lt-ltb, both_ways, cases_lt}
use Rattle.std.proofs.lemmas.List.{length-map}
use Rattle.std.proofs.lemmas.List.Folds.{list_any-append}
use Rattle.std.specs.List.{list_any}
use Rattle.star_model.specs.declared.faults.LimitKind.{LimitKind}
use Rattle.star_model.specs.declared.faults.LimitKind.TheVariants as limit
use Rattle.spelling.specs.Lexemes.{Lexeme, Word, Number, Text, Symbol, comma, joined_by}
use Rattle.spelling.specs.Limits.{HasLongWord, IsFirstBeyond, limit_rank}
use Rattle.query_graph.specs.Queries.{QueryStatement, column_lexemes, item_lexemes, own_name, side_lexemes, comparison_lexemes, cmp_lexeme, columns_lexemes, where_lexemes, order_lexemes, at_lexemes, query_lexemes}
use Rattle.star_model.specs.declared.query.Cmp.{Cmp}
use Rattle.star_model.specs.declared.query.Cmp.TheVariants as cmp
use Rattle.query_graph.specs.declared.words.ColumnWords.{ColumnWords}
use Rattle.query_graph.specs.declared.words.ItemWords.{ItemWords}
use Rattle.query_graph.specs.declared.words.ConstantWords.TheVariants as constant
use Rattle.query_graph.specs.declared.words.SideWords.{SideWords}
use Rattle.query_graph.specs.declared.words.SideWords.TheVariants as side
use Rattle.query_graph.specs.declared.words.ComparisonWords.{ComparisonWords}
use Rattle.query_graph.specs.declared.words.QueryWords.{QueryWords}
use Rattle.query_graph.specs.Words.{said_column, said_item, said_side, said_comparison, said}
use Rattle.query_graph.specs.Faults.{Beyond, HasGreatConstant, IsGreatSide}
use Rattle.query_graph.specs.Fitting.{Fits}
use Rattle.query_graph.specs.LimitTests.{is_great_side, is_long, is_long_if_any, has_long_column, has_long_item, has_long_side, has_long_comparison, has_long_name, first_count, first_limit}

-- ---- constants

great_side : (s : SideWords) → is_great_side s ≡ true → IsGreatSide (said_side s)
great_side (side.Column c) great = cc
great_side (side.Constant (constant.Whole n)) great = ltb-true 9223372036854775807 n great
great_side (side.Constant (constant.Negative n)) great = ltb-true 9223372036854775808 n great
great_side (side.Constant (constant.Quoted bytes)) great = cc

small_side : (s : SideWords) → IsGreatSide (said_side s) → is_great_side s ≡ true
small_side (side.Column c) great = absurd great
small_side (side.Constant (constant.Whole n)) great = lt-ltb 9223372036854775807 n great
small_side (side.Constant (constant.Negative n)) great = lt-ltb 9223372036854775808 n great
small_side (side.Constant (constant.Quoted bytes)) great = absurd great

great : (ps : List ComparisonWords) → list_any (λ p. is_great_side p.right) ps ≡ true → HasGreatConstant (map said_comparison ps)
great [] found = cc
great (p ∷ ps) found = elim (or_cases (is_great_side p.right) (list_any (λ p. is_great_side p.right) ps) found) [ inl here ↦ inl (great_side p.right here) | inr there ↦ inr (great ps there) ]

great_found : (ps : List ComparisonWords) → HasGreatConstant (map said_comparison ps) → list_any (λ p. is_great_side p.right) ps ≡ true
great_found [] has = absurd has
great_found (p ∷ ps) (inl here) = or_left (is_great_side p.right) (list_any (λ p. is_great_side p.right) ps) (small_side p.right here)
great_found (p ∷ ps) (inr there) = or_right (is_great_side p.right) (list_any (λ p. is_great_side p.right) ps) (great_found ps there)

-- ---- names

is_long_lexeme : Lexeme → Bool
is_long_lexeme (Word bytes) = is_long bytes
is_long_lexeme (Number n) = false
is_long_lexeme (Text bytes) = false
is_long_lexeme (Symbol bytes) = false

has_long : List Lexeme → Bool
has_long lexemes = list_any is_long_lexeme lexemes

has_long_word : (lexemes : List Lexeme) → has_long lexemes ≡ true → HasLongWord lexemes
unfolding has_long is_long_lexeme
has_long_word [] found = cc
has_long_word (Word bytes ∷ rest) found = elim (or_cases (is_long bytes) (has_long rest) found) [ inl here ↦ inl (ltb-true 64 (length bytes) here) | inr there ↦ inr (has_long_word rest there) ]
has_long_word (Number n ∷ rest) found = has_long_word rest found
has_long_word (Text bytes ∷ rest) found = has_long_word rest found
has_long_word (Symbol bytes ∷ rest) found = has_long_word rest found

long_word_found : (lexemes : List Lexeme) → HasLongWord lexemes → has_long lexemes ≡ true
unfolding has_long is_long_lexeme
long_word_found [] has = absurd has
long_word_found (Word bytes ∷ rest) (inl here) = or_left (is_long bytes) (has_long rest) (lt-ltb 64 (length bytes) here)
long_word_found (Word bytes ∷ rest) (inr there) = or_right (is_long bytes) (has_long rest) (long_word_found rest there)
long_word_found (Number n ∷ rest) has = long_word_found rest has
long_word_found (Text bytes ∷ rest) has = long_word_found rest has
long_word_found (Symbol bytes ∷ rest) has = long_word_found rest has

or-none : (b : Bool) → (b || false) ≡ b
or-none true = refl
or-none false = refl

-- items that are written with a short lexeme between two
joined-long : {A B : Type 0} (between : Lexeme) (write : B → List Lexeme) (view : A → B) (test : A → Bool) → is_long_lexeme between ≡ false → ((x : A) → has_long (write (view x)) ≡ test x)
    → (xs : List A) → has_long (joined_by between (map write (map view xs))) ≡ list_any test xs
unfolding has_long is_long_lexeme
joined-long between write view test short each [] = refl
joined-long between write view test short each (x ∷ []) = each x ∙ sym (or-none (test x))
joined-long between write view test short each (x ∷ y ∷ xs) =
    list_any-append is_long_lexeme (write (view x)) (between ∷ joined_by between (map write (map view (y ∷ xs))))
    ∙ (λ i. each x i || (short i || has_long (joined_by between (map write (map view (y ∷ xs))))))
    ∙ ap (λ b. test x || b) (joined-long between write view test short each (y ∷ xs))

column-long : (c : ColumnWords) → has_long (column_lexemes (said_column c)) ≡ has_long_column c
unfolding has_long is_long_lexeme
column-long c = ap (λ b. is_long c.quantifier || b) (or-none (is_long c.column))

item-long : (i : ItemWords) → has_long (item_lexemes (said_item i)) ≡ has_long_item i
unfolding has_long is_long_lexeme
item-long i = ap (λ b. is_long i.table || b) (own i.name)
  where
    own : (name : Option (List ℕ)) → has_long (own_name name) ≡ is_long_if_any name
    own None = refl
    own (Some name) = or-none (is_long name)

cmp-short : (x : Cmp) → is_long_lexeme (cmp_lexeme x) ≡ false
unfolding is_long_lexeme
cmp-short cmp.Eq = refl
cmp-short cmp.Ne = refl
cmp-short cmp.Lt = refl
cmp-short cmp.Le = refl
cmp-short cmp.Gt = refl
cmp-short cmp.Ge = refl

side-long : (s : SideWords) → has_long (side_lexemes (said_side s)) ≡ has_long_side s
unfolding has_long is_long_lexeme
side-long (side.Column c) = column-long c
side-long (side.Constant (constant.Whole n)) = refl
side-long (side.Constant (constant.Negative n)) = refl
side-long (side.Constant (constant.Quoted bytes)) = refl

comparison-long : (p : ComparisonWords) → has_long (comparison_lexemes (said_comparison p)) ≡ has_long_comparison p
unfolding has_long is_long_lexeme
comparison-long p =
    list_any-append is_long_lexeme (column_lexemes (said_column p.left)) (cmp_lexeme p.cmp ∷ side_lexemes (said_side p.right))
    ∙ (λ i. column-long p.left i || (cmp-short p.cmp i || side-long p.right i))

columns-long : (cs : List ColumnWords) → has_long (columns_lexemes (map said_column cs)) ≡ list_any has_long_column cs
unfolding is_long_lexeme
columns-long cs = joined-long comma column_lexemes said_column has_long_column refl column-long cs

where-long : (ps : List ComparisonWords) → has_long (where_lexemes (map said_comparison ps)) ≡ list_any has_long_comparison ps
unfolding has_long is_long_lexeme
where-long [] = refl
where-long (p ∷ ps) = joined-long (Word (codes "and")) comparison_lexemes said_comparison has_long_comparison refl comparison-long (p ∷ ps)

order-long : (cs : List ColumnWords) → has_long (order_lexemes (map said_column cs)) ≡ list_any has_long_column cs
unfolding has_long is_long_lexeme
order-long [] = refl
order-long (c ∷ cs) = columns-long (c ∷ cs)

at-long : (site : Option (List ℕ)) → has_long (at_lexemes site) ≡ is_long_if_any site
unfolding has_long is_long_lexeme
at-long None = refl
at-long (Some name) = or-none (is_long name)

append-long : (xs ys : List Lexeme) → has_long (xs ++ ys) ≡ (has_long xs || has_long ys)
unfolding has_long
append-long xs ys = list_any-append is_long_lexeme xs ys

or-right : (a b c d e : Bool) → (a || (b || (c || (d || e)))) ≡ (a || b || c || d || e)
or-right true b c d e = refl
or-right false true c d e = refl
or-right false false true d e = refl
or-right false false false d e = refl

query-long : (q : QueryWords) → has_long (query_lexemes (said q)) ≡ has_long_name q
unfolding has_long is_long_lexeme
query-long q =
    append-long columns (Word (codes "from") ∷ (items ++ (wheres ++ (order ++ site))))
    ∙ ap (λ b. has_long columns || b) (append-long items (wheres ++ (order ++ site)))
    ∙ ap (λ b. has_long columns || (has_long items || b)) (append-long wheres (order ++ site))
    ∙ ap (λ b. has_long columns || (has_long items || (has_long wheres || b))) (append-long order site)
    ∙ (λ i. columns-long q.select i || (joined-long comma item_lexemes said_item has_long_item refl item-long q.items i || (where-long q.comparisons i || (order-long q.order i || at-long q.site i))))
    ∙ or-right (list_any has_long_column q.select) (list_any has_long_item q.items) (list_any has_long_comparison q.comparisons) (list_any has_long_column q.order) (is_long_if_any q.site)
  where
    columns : List Lexeme
    columns = columns_lexemes (map said_column q.select)

    items : List Lexeme
    items = joined_by comma (map item_lexemes (map said_item q.items))

    wheres : List Lexeme
    wheres = where_lexemes (map said_comparison q.comparisons)

    order : List Lexeme
    order = order_lexemes (map said_column q.order)

    site : List Lexeme
    site = at_lexemes q.site

pub long_name : (q : QueryWords) → has_long_name q ≡ true → HasLongWord (query_lexemes (said q))
long_name q found = has_long_word (query_lexemes (said q)) (query-long q ∙ found)

pub no_long_name : (q : QueryWords) → has_long_name q ≡ false → HasLongWord (query_lexemes (said q)) → ⊥
no_long_name q none has = both_ways (has_long_name q) none (sym (query-long q) ∙ long_word_found (query_lexemes (said q)) has)

pub no_great : (q : QueryWords) → list_any (λ p. is_great_side p.right) q.comparisons ≡ false → HasGreatConstant (map said_comparison q.comparisons) → ⊥
no_great q none has = both_ways (list_any (λ p. is_great_side p.right) q.comparisons) none (great_found q.comparisons has)

-- ---- the first limit

-- no limit of a lower rank, from those of them that a query has
none_below : (q : QueryStatement) (n : ℕ) → (0 < n → Beyond q limit.Number → ⊥) → (1 < n → Beyond q limit.Name → ⊥) → (14 < n → Beyond q limit.Quantifiers → ⊥)
    → (15 < n → Beyond q limit.Predicates → ⊥) → (16 < n → Beyond q limit.Select → ⊥) → (17 < n → Beyond q limit.OrderBy → ⊥)
    → (other : LimitKind) → Beyond q other → limit_rank other < n → ⊥
none_below q n number name quantifiers predicates select order limit.Number beyond lower = number lower beyond
none_below q n number name quantifiers predicates select order limit.Name beyond lower = name lower beyond
none_below q n number name quantifiers predicates select order limit.Quantifiers beyond lower = quantifiers lower beyond
none_below q n number name quantifiers predicates select order limit.Predicates beyond lower = predicates lower beyond
none_below q n number name quantifiers predicates select order limit.Select beyond lower = select lower beyond
none_below q n number name quantifiers predicates select order limit.OrderBy beyond lower = order lower beyond
none_below q n number name quantifiers predicates select order _ beyond lower = beyond

first_beyond : (q : QueryStatement) (what : LimitKind) → Beyond q what → ((other : LimitKind) → Beyond q other → limit_rank other < limit_rank what → ⊥) → IsFirstBeyond (Beyond q) what
first_beyond q what beyond lower = record { beyond = beyond; first = λ other has. elim (cases_lt (limit_rank other) (limit_rank what)) [ inl less ↦ absurd (lower other has less) | inr more ↦ more ] }

-- what is answered, by the six tests in turn
abbrev Finds : QueryStatement → Option LimitKind → Type 0
Finds q found = MatchOption found ((what : LimitKind) → Beyond q what → ⊥) (IsFirstBeyond (Beyond q))

rank_below_all : (x : LimitKind) → limit_rank x < 18
rank_below_all limit.Number = omega arith
rank_below_all limit.Name = omega arith
rank_below_all limit.File = omega arith
rank_below_all limit.Params = omega arith
rank_below_all limit.Alternatives = omega arith
rank_below_all limit.ForAlls = omega arith
rank_below_all limit.Stars = omega arith
rank_below_all limit.Depth = omega arith
rank_below_all limit.Formula = omega arith
rank_below_all limit.Sites = omega arith
rank_below_all limit.Tables = omega arith
rank_below_all limit.Columns = omega arith
rank_below_all limit.Indexes = omega arith
rank_below_all limit.IndexColumns = omega arith
rank_below_all limit.Quantifiers = omega arith
rank_below_all limit.Predicates = omega arith
rank_below_all limit.Select = omega arith
rank_below_all limit.OrderBy = omega arith

-- a list that isn't above its limit isn't beyond it
not_above : (limit n : ℕ) → nat_lt limit n ≡ false → limit < n → ⊥
not_above limit n test above = both_ways (nat_lt limit n) test (lt-ltb limit n above)

module _ (q : QueryStatement) (no_number : Beyond q limit.Number → ⊥) (no_name : Beyond q limit.Name → ⊥) where
  order_limit : (b : Bool) → nat_lt 16 (length q.order) ≡ b → (Beyond q limit.Quantifiers → ⊥) → (Beyond q limit.Predicates → ⊥) → (Beyond q limit.Select → ⊥) → Finds q (cond b (Some limit.OrderBy) None)
  order_limit true e quantifiers predicates select =
      first_beyond q limit.OrderBy (ltb-true 16 (length q.order) e)
      (none_below q 17 (λ l. no_number) (λ l. no_name) (λ l. quantifiers) (λ l. predicates) (λ l. select) (λ l. absurd (omega arith)))
  order_limit false e quantifiers predicates select =
      λ what beyond.
      none_below q 18 (λ l. no_number) (λ l. no_name) (λ l. quantifiers) (λ l. predicates) (λ l. select) (λ l. not_above 16 (length q.order) e) what beyond (rank_below_all what)

  select_limit : (b : Bool) → nat_lt 64 (length q.select) ≡ b → (Beyond q limit.Quantifiers → ⊥) → (Beyond q limit.Predicates → ⊥)
      → Finds q (cond b (Some limit.Select) (cond (nat_lt 16 (length q.order)) (Some limit.OrderBy) None))
  select_limit true e quantifiers predicates =
      first_beyond q limit.Select (ltb-true 64 (length q.select) e)
      (none_below q 16 (λ l. no_number) (λ l. no_name) (λ l. quantifiers) (λ l. predicates) (λ l. absurd (omega arith)) (λ l. absurd (omega arith)))
  select_limit false e quantifiers predicates = order_limit (nat_lt 16 (length q.order)) refl quantifiers predicates (not_above 64 (length q.select) e)

  predicate_limit : (b : Bool) → nat_lt 16 (length q.comparisons) ≡ b → (Beyond q limit.Quantifiers → ⊥)
      → Finds q (cond b (Some limit.Predicates) (cond (nat_lt 64 (length q.select)) (Some limit.Select) (cond (nat_lt 16 (length q.order)) (Some limit.OrderBy) None)))
  predicate_limit true e quantifiers =
      first_beyond q limit.Predicates (ltb-true 16 (length q.comparisons) e)
      (none_below q 15 (λ l. no_number) (λ l. no_name) (λ l. quantifiers) (λ l. absurd (omega arith)) (λ l. absurd (omega arith)) (λ l. absurd (omega arith)))
  predicate_limit false e quantifiers = select_limit (nat_lt 64 (length q.select)) refl quantifiers (not_above 16 (length q.comparisons) e)

  quantifier_limit : (b : Bool) → nat_lt 12 (length q.items) ≡ b
      → Finds q (cond b (Some limit.Quantifiers) (cond (nat_lt 16 (length q.comparisons)) (Some limit.Predicates) (cond (nat_lt 64 (length q.select)) (Some limit.Select) (cond (nat_lt 16 (length q.order)) (Some limit.OrderBy) None))))
  quantifier_limit true e =
      first_beyond q limit.Quantifiers (ltb-true 12 (length q.items) e)
      (none_below q 14 (λ l. no_number) (λ l. no_name) (λ l. absurd (omega arith)) (λ l. absurd (omega arith)) (λ l. absurd (omega arith)) (λ l. absurd (omega arith)))
  quantifier_limit false e = predicate_limit (nat_lt 16 (length q.comparisons)) refl (not_above 12 (length q.items) e)

counts : (q : QueryWords) → (Beyond (said q) limit.Number → ⊥) → (Beyond (said q) limit.Name → ⊥) → Finds (said q) (first_count q)
counts q no_number no_name =
    subst (λ found. Finds (said q) found) lengths (quantifier_limit (said q) no_number no_name (nat_lt 12 (length (said q).items)) refl)
  where
    lengths : cond (nat_lt 12 (length (said q).items)) (Some limit.Quantifiers) (cond (nat_lt 16 (length (said q).comparisons)) (Some limit.Predicates) (cond (nat_lt 64 (length (said q).select)) (Some limit.Select) (cond (nat_lt 16 (length (said q).order)) (Some limit.OrderBy) None)))
        ≡ first_count q
    lengths = λ i.
        cond (nat_lt 12 (length-map q.items said_item i)) (Some limit.Quantifiers)
        (cond (nat_lt 16 (length-map q.comparisons said_comparison i)) (Some limit.Predicates)
        (cond (nat_lt 64 (length-map q.select said_column i)) (Some limit.Select)
        (cond (nat_lt 16 (length-map q.order said_column i)) (Some limit.OrderBy) None)))

name_limit : (q : QueryWords) → (Beyond (said q) limit.Number → ⊥) → (b : Bool) → has_long_name q ≡ b → Finds (said q) (cond b (Some limit.Name) (first_count q))
name_limit q no_number true e =
    first_beyond (said q) limit.Name (long_name q e)
    (none_below (said q) 1 (λ l. no_number) (λ l. absurd (omega arith)) (λ l. absurd (omega arith)) (λ l. absurd (omega arith)) (λ l. absurd (omega arith)) (λ l. absurd (omega arith)))
name_limit q no_number false e = counts q no_number (no_long_name q e)

number_limit : (q : QueryWords) (b : Bool) → list_any (λ p. is_great_side p.right) q.comparisons ≡ b → Finds (said q) (cond b (Some limit.Number) (cond (has_long_name q) (Some limit.Name) (first_count q)))
number_limit q true e = first_beyond (said q) limit.Number (great q.comparisons e) (λ other beyond lower. absurd (omega arith))
number_limit q false e = name_limit q (no_great q e) (has_long_name q) refl

pub first_limit_is : (q : QueryWords) → MatchOption (first_limit q) ((what : LimitKind) → Beyond (said q) what → ⊥) (IsFirstBeyond (Beyond (said q)))
first_limit_is q = number_limit q (list_any (λ p. is_great_side p.right) q.comparisons) refl

pub limit_found : (q : QueryWords) (what : LimitKind) → Some what ≡ first_limit q → IsFirstBeyond (Beyond (said q)) what
limit_found q what is = subst (λ found. Finds (said q) found) (sym is) (first_limit_is q)

pub limits_kept : (q : QueryWords) → None ≡ first_limit q → (what : LimitKind) → Beyond (said q) what → ⊥
limits_kept q is = subst (λ found. Finds (said q) found) (sym is) (first_limit_is q)

at_most : (limit n m : ℕ) → m ≡ n → (limit < m → ⊥) → n ≤ limit
at_most limit n m same keeps = elim (cases_lt limit n) [ inl beyond ↦ absurd (keeps (omega (arith, same, beyond))) | inr less ↦ less ]

pub fits : (q : QueryWords) → ((what : LimitKind) → Beyond (said q) what → ⊥) → Fits q
fits q keeps = record {
  quantifiers = at_most 12 (length q.items) (length (said q).items) (length-map q.items said_item) (keeps limit.Quantifiers);
  predicates = at_most 16 (length q.comparisons) (length (said q).comparisons) (length-map q.comparisons said_comparison) (keeps limit.Predicates);
  order = at_most 16 (length q.order) (length (said q).order) (length-map q.order said_column) (keeps limit.OrderBy);
  constants = keeps limit.Number;
}
