-- Sums over the members of a set from a number on.
use Rattle.std.proofs.Common.{◌≡◌, ℕ, ◌+◌, ◌-◌, ◌<◌, ◌≤◌, Bool, true, false, List, [], ◌∷◌, length, zero, suc, map, filter, refl, ap, sym, ◌∙◌, subst, arith, zero-add, if◌then◌else◌}
use Rattle.std.specs.Prelude.{sum_by, slice_index, slice_get, Option, Some, None}
use Rattle.std.specs.Option.{option_map, option_map_or}
use Rattle.std.specs.List.{range_with_len, flat_map}
use Rattle.std.proofs.lemmas.List.Sums.{sum_by-append, sum_by-cons}
use Rattle.star_model.specs.Cardinality.{table_of}
use Rattle.star_model.specs.Columns.{Columns}
use Rattle.star_model.specs.Numbers.{cut, cut_sum}
use Rattle.star_model.specs.Operators.{width_at, width_of}
use Rattle.star_model.specs.Sets.{has, members}
use Rattle.star_model.specs.declared.catalogue.ColumnDef.{ColumnDef}
use Rattle.star_model.specs.declared.catalogue.TableDef.{TableDef}
use Rattle.star_model.specs.declared.columns.Col.{Col}
use Rattle.star_model.specs.declared.query.Query.{Query}
use Rattle.star_model.specs.declared.query.QuantDef.{QuantDef}
use Rattle.query_facts.specs.Widths.{width_in}
use Rattle.query_facts.proofs.MemberWalks.{range_step, members_from, members_first, members_none, members_has, members_lacks}

-- a sum that is cut on the way is the cut sum
pub cut_on : (a b c : ℕ) → cut (cut_sum a (cut b) + c) ≡ cut (a + (b + c))
cut_on a b c = omega arith

-- ---- the columns of a table

pub width_there : (columns : List ColumnDef) (k w : ℕ) → option_map (λ d. d.width) (slice_get columns k) ≡ Some w → width_in columns k ≡ w
unfolding width_in
width_there columns k w h = there (slice_get columns k) w h
  where
    there : (o : Option ColumnDef) (w : ℕ) → option_map (λ d. d.width) o ≡ Some w → option_map_or (λ d. d.width) o 0 ≡ w
    there (Some d) w h = cc
    there None w h = cc

nowhere : (o : Option ColumnDef) → option_map (λ d. d.width) o ≡ None → o ≡ None
nowhere (Some d) h = cc
nowhere None h = refl

width_missing : (columns : List ColumnDef) (k : ℕ) → slice_get columns k ≡ None → width_in columns k ≡ 0
unfolding width_in
width_missing columns k h = ap (λ o. option_map_or (λ d. d.width) o 0) h

pub width_from : List ColumnDef → ℕ → ℕ → ℕ
width_from columns set k = sum_by (width_in columns) (members_from set k)

pub width_first : (columns : List ColumnDef) (set : ℕ) → width_from columns set 0 ≡ sum_by (width_in columns) (members set)
unfolding width_from
width_first columns set = ap (sum_by (width_in columns)) (members_first set)

pub width_none : (columns : List ColumnDef) (set k : ℕ) → 32 ≤ k → width_from columns set k ≡ 0
unfolding width_from
width_none columns set k h = ap (sum_by (width_in columns)) (members_none set k h)

pub width_has : (columns : List ColumnDef) (set k : ℕ) → k < 32 → has set k ≡ true → width_from columns set k ≡ width_in columns k + width_from columns set (k + 1)
unfolding width_from
width_has columns set k h t = ap (sum_by (width_in columns)) (members_has set k h t) ∙ sum_by-cons (width_in columns) k (members_from set (k + 1))

pub width_lacks : (columns : List ColumnDef) (set k : ℕ) → k < 32 → has set k ≡ false → width_from columns set k ≡ width_from columns set (k + 1)
unfolding width_from
width_lacks columns set k h t = ap (sum_by (width_in columns)) (members_lacks set k h t)

none_suc : (columns : List ColumnDef) (k : ℕ) → slice_get columns k ≡ None → slice_get columns (suc k) ≡ None
none_suc [] k h = refl
none_suc (c ∷ columns) zero h = cc
none_suc (c ∷ columns) (suc k) h = none_suc columns k h

none_later : (columns : List ColumnDef) (k : ℕ) → slice_get columns k ≡ None → slice_get columns (k + 1) ≡ None
none_later columns k h = let e : suc k ≡ k + 1 = omega arith in subst (λ i. slice_get columns i ≡ None) e (none_suc columns k h)

one_none : (columns : List ColumnDef) (k : ℕ) (t : Bool) (rest : List ℕ) → slice_get columns k ≡ None → sum_by (width_in columns) rest ≡ 0
    → sum_by (width_in columns) (if t then k ∷ rest else rest) ≡ 0
one_none columns k true rest h r =
    sum_by-cons (width_in columns) k rest
    ∙ ap (λ w. w + sum_by (width_in columns) rest) (width_missing columns k h)
    ∙ zero-add (sum_by (width_in columns) rest) ∙ r
one_none columns k false rest h r = r

all_none : (columns : List ColumnDef) (set k n : ℕ) → slice_get columns k ≡ None → sum_by (width_in columns) (filter (has set) (range_with_len k n)) ≡ 0
all_none columns set k zero h = refl
all_none columns set k (suc n) h =
    one_none columns k (has set k) (filter (has set) (range_with_len (k + 1) n)) h (all_none columns set (k + 1) n (none_later columns k h))

-- the table has no more columns
pub width_beyond : (columns : List ColumnDef) (set k : ℕ) → option_map (λ d. d.width) (slice_get columns k) ≡ None → width_from columns set k ≡ 0
unfolding width_from members_from
width_beyond columns set k h = all_none columns set k (32 - k) (nowhere (slice_get columns k) h)

-- ---- the columns of a quantifier

abbrev pub column_of : ℕ → ℕ → Col
column_of quant c = record { quant = record { 0 = quant }; column = c }

abbrev pub sum_of : Query → ℕ → List ℕ → ℕ
sum_of q quant columns = sum_by (λ c. width_at q (column_of quant c)) columns

pub table_width : (q : Query) (quant : ℕ) (t : TableDef) (columns : List ℕ) → table_of q quant ≡ Some t → sum_of q quant columns ≡ sum_by (width_in t.columns) columns
unfolding width_in
table_width q quant t columns h = ap (λ o. sum_by (λ c. option_map_or (λ t. option_map_or (λ d. d.width) (slice_get t.columns c) 0) o 0) columns) h

no_sum : (columns : List ℕ) → sum_by (λ c. 0) columns ≡ 0
no_sum [] = refl
no_sum (c ∷ columns) = sum_by-cons (λ c. 0) c columns ∙ zero-add (sum_by (λ c. 0) columns) ∙ no_sum columns

pub no_table_width : (q : Query) (quant : ℕ) (columns : List ℕ) → table_of q quant ≡ None → sum_of q quant columns ≡ 0
no_table_width q quant columns h =
    ap (λ o. sum_by (λ c. option_map_or (λ t. option_map_or (λ d. d.width) (slice_get t.columns c) 0) o 0) columns) h ∙ no_sum columns

-- ---- the quantifiers

abbrev columns_from : Columns → ℕ → List Col
columns_from cols n = flat_map (λ quant. map (column_of quant) (members (slice_index cols quant))) (range_with_len n (12 - n))

pub widths_from : Query → Columns → ℕ → ℕ
widths_from q cols n = sum_by (width_at q) (columns_from cols n)

pub widths_first : (q : Query) (cols : Columns) → cut (cut 0 + widths_from q cols 0) ≡ width_of q cols
unfolding widths_from width_of
widths_first q cols = let e : cut 0 + widths_from q cols 0 ≡ widths_from q cols 0 = omega arith in ap cut e

pub widths_none : (q : Query) (cols : Columns) (n : ℕ) → 12 ≤ n → widths_from q cols n ≡ 0
unfolding widths_from
widths_none q cols n h =
    let e : 12 - n ≡ zero = omega (arith, h) in
    ap (λ m. sum_by (width_at q) (flat_map (λ quant. map (column_of quant) (members (slice_index cols quant))) (range_with_len n m))) e

of_quantifier : (q : Query) (quant : ℕ) (set : List ℕ) → sum_by (width_at q) (map (column_of quant) set) ≡ sum_of q quant set
of_quantifier q quant [] = refl
of_quantifier q quant (c ∷ set) =
    sum_by-cons (width_at q) (column_of quant c) (map (column_of quant) set)
    ∙ ap (λ n. width_at q (column_of quant c) + n) (of_quantifier q quant set)
    ∙ sym (sum_by-cons (λ n. width_at q (column_of quant n)) c set)

pub widths_step : (q : Query) (cols : Columns) (n : ℕ) → n < 12
    → widths_from q cols n ≡ sum_of q n (members (slice_index cols n)) + widths_from q cols (n + 1)
unfolding widths_from
widths_step q cols n h =
    ap (λ l. sum_by (width_at q) (flat_map (λ quant. map (column_of quant) (members (slice_index cols quant))) l)) (range_step 12 n h)
    ∙ sum_by-append (width_at q) (map (column_of n) (members (slice_index cols n))) (columns_from cols (n + 1))
    ∙ ap (λ m. m + widths_from q cols (n + 1)) (of_quantifier q n (members (slice_index cols n)))

none_there : (l : List QuantDef) (n : ℕ) → length l ≤ n → slice_get l n ≡ None
none_there [] n h = refl
none_there (d ∷ l) zero h = absurd (omega (arith, h))
none_there (d ∷ l) (suc n) h = let k : length l ≤ n = omega (arith, h) in none_there l n k

no_quantifier : (q : Query) (n : ℕ) → length q.quants ≤ n → table_of q n ≡ None
no_quantifier q n h = ap (λ o. option_map_or (λ d. slice_get q.catalogue.tables d.table) o None) (none_there q.quants n h)

none_from : (q : Query) (cols : Columns) (n m : ℕ) → length q.quants ≤ n
    → sum_by (width_at q) (flat_map (λ quant. map (column_of quant) (members (slice_index cols quant))) (range_with_len n m)) ≡ 0
none_from q cols n zero h = refl
none_from q cols n (suc m) h =
    sum_by-append (width_at q) (map (column_of n) (members (slice_index cols n))) (flat_map (λ quant. map (column_of quant) (members (slice_index cols quant))) (range_with_len (n + 1) m))
    ∙ ap (λ k. k + sum_by (width_at q) (flat_map (λ quant. map (column_of quant) (members (slice_index cols quant))) (range_with_len (n + 1) m)))
    (of_quantifier q n (members (slice_index cols n)) ∙ no_table_width q n (members (slice_index cols n)) (no_quantifier q n h))
    ∙ zero-add _ ∙ none_from q cols (n + 1) m (omega (arith, h))

-- the query has no more quantifiers
pub widths_beyond : (q : Query) (cols : Columns) (n : ℕ) → length q.quants ≤ n → widths_from q cols n ≡ 0
unfolding widths_from
widths_beyond q cols n h = none_from q cols n (12 - n) h

pub ruleset column_rules = (width_first, width_none, width_there, width_has, width_lacks, width_beyond)

pub ruleset quantifier_rules = (widths_first, widths_none, widths_beyond, widths_step, cut_on)
