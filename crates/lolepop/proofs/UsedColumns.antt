-- The columns of a list that a query uses, found one after another.
use Rattle.std.proofs.Common.{◌≡◌, ℕ, ◌+◌, ◌<◌, ◌≤◌, Bool, true, false, ◌&&◌, ◌||◌, List, [], length, take, replicate, refl, ap, sym, ◌∙◌, nat_eq, arith, get_or}
use Rattle.std.specs.Prelude.{slice_index}
use Rattle.std.specs.List.{list_any}
use Rattle.std.proofs.lemmas.Bool.{eqb-true}
use Rattle.std.proofs.lemmas.List.{get_or_past}
use Rattle.std.proofs.lemmas.List.Folds.{list_any_more}
use Rattle.std.proofs.lemmas.List.FromFn.{get_or-map-range_with_len, length-map-range_with_len}
use Rattle.star_model.specs.Sets.{has, set_of}
use Rattle.star_model.specs.Columns.{Columns, columns_where, is_column_at, with_column, has_column}
use Rattle.star_model.specs.Predicates.{named_columns, used}
use Rattle.star_model.specs.Vectors.{same_column}
use Rattle.star_model.specs.declared.columns.Col.{Col}
use Rattle.star_model.specs.declared.query.Query.{Query}
use Rattle.star_model.proofs.Laws.{has-zero, has-above, set_of-lt, with_column-where, same_columns, empty_columns}
use Rattle.lolepop.specs.UsedColumns.{used_among}

-- ---- used columns are in range

outside : (p : ℕ → ℕ → Bool) (c : Col) → 12 ≤ c.quant.0 → has_column (columns_where p) c ≡ false
outside p c h =
    let past : length (columns_where p) ≤ c.quant.0 = omega (arith, h, length-map-range_with_len (λ n. set_of (p n)) 0 12) in
    ap (λ s. has s c.column) (get_or_past (columns_where p) c.quant.0 0 past) ∙ has-zero c.column

quant_of : (p : ℕ → ℕ → Bool) (c : Col) → has_column (columns_where p) c ≡ true → c.quant.0 < 12
quant_of p c h =
    let no : 12 ≤ c.quant.0 → ⊥ = λ l. let e : false ≡ true = sym (outside p c l) ∙ h in cc in
    omega (arith, no)

above : (p : ℕ → ℕ → Bool) (c : Col) → c.quant.0 < 12 → 32 ≤ c.column → has_column (columns_where p) c ≡ false
above p c l h =
    ap (λ s. has s c.column) (get_or-map-range_with_len (λ n. set_of (p n)) 0 12 c.quant.0 c.quant.0 0 l (omega arith))
    ∙ has-above (set_of (p c.quant.0)) c.column (set_of-lt (p c.quant.0)) h

column_of : (p : ℕ → ℕ → Bool) (c : Col) → has_column (columns_where p) c ≡ true → c.column < 32
column_of p c h =
    let no : 32 ≤ c.column → ⊥ = λ l. let e : false ≡ true = sym (above p c (quant_of p c h) l) ∙ h in cc in
    omega (arith, no)

pub used_quant : (q : Query) (s : ℕ) (c : Col) → has_column (used q s) c ≡ true → c.quant.0 < 12
unfolding used
used_quant q s c h = quant_of (λ quant column. has s quant && list_any (is_column_at quant column) (named_columns q)) c h

pub used_column : (q : Query) (s : ℕ) (c : Col) → has_column (used q s) c ≡ true → c.column < 32
unfolding used
used_column q s c h = column_of (λ quant column. has s quant && list_any (is_column_at quant column) (named_columns q)) c h

-- ---- one after another

abbrev column_at : ℕ → ℕ → Col
column_at n m = record { quant = record { 0 = n }; column = m }

-- whether the column at these positions is a member, and in the list
abbrev is_kept : Columns → List Col → ℕ → ℕ → Bool
is_kept s list n m = has_column s (column_at n m) && list_any (same_column (column_at n m)) list

never : (b : Bool) → false ≡ (b && false)
never true = refl
never false = refl

pub among_none : (q : Query) (s : ℕ) → replicate 12 0 ≡ used_among q s []
unfolding used_among
among_none q s = sym empty_columns ∙ same_columns (λ n m. false) (is_kept (used q s) []) (λ n m _ _. never (has_column (used q s) (column_at n m)))

kept_more : (s a b : Bool) → (b ≡ true → s ≡ true) → ((s && a) || b) ≡ (s && (a || b))
kept_more true a b h = refl
kept_more false a true h = sym (h refl)
kept_more false a false h = refl

kept_same : (s a b : Bool) → (b ≡ true → s ≡ false) → (s && a) ≡ (s && (a || b))
kept_same true true b h = refl
kept_same true false true h = sym (h refl)
kept_same true false false h = refl
kept_same false a b h = refl

both_true : (a b : Bool) → (a && b) ≡ true → (a ≡ true) × (b ≡ true)
both_true true b h = (refl, h)
both_true false b h = cc

same_place : (n m : ℕ) (c : Col) → is_column_at n m c ≡ same_column (column_at n m) c
same_place n m c = grind arith

member_there : (s : Columns) (n m : ℕ) (c : Col) → same_column (column_at n m) c ≡ true → has_column s (column_at n m) ≡ has_column s c
member_there s n m c h =
    let both = both_true (nat_eq n c.quant.0) (nat_eq m c.column) h in
    (λ i. has (slice_index s (eqb-true n c.quant.0 both.0 i)) (eqb-true m c.column both.1 i))

pub among_more : (q : Query) (s : ℕ) (list : List Col) (k : ℕ) (d : Col) → k < length list → has_column (used q s) (get_or list k d) ≡ true
    → with_column (used_among q s (take k list)) (get_or list k d) ≡ used_among q s (take (k + 1) list)
unfolding used_among
among_more q s list k d l h =
    with_column-where (is_kept (used q s) (take k list)) c ∙ same_columns _ (is_kept (used q s) (take (k + 1) list)) at
  where
    c : Col
    c = get_or list k d

    at : (n m : ℕ) → n < 12 → m < 32 → (is_kept (used q s) (take k list) n m || is_column_at n m c) ≡ is_kept (used q s) (take (k + 1) list) n m
    at n m _ _ =
        ap (λ b. is_kept (used q s) (take k list) n m || b) (same_place n m c)
        ∙ kept_more _ (list_any (same_column (column_at n m)) (take k list)) _ (λ t. member_there (used q s) n m c t ∙ h)
        ∙ ap (λ b. has_column (used q s) (column_at n m) && b) (sym (list_any_more (same_column (column_at n m)) list k d l))

pub among_same : (q : Query) (s : ℕ) (list : List Col) (k : ℕ) (d : Col) → k < length list → has_column (used q s) (get_or list k d) ≡ false
    → used_among q s (take k list) ≡ used_among q s (take (k + 1) list)
unfolding used_among
among_same q s list k d l h = same_columns (is_kept (used q s) (take k list)) (is_kept (used q s) (take (k + 1) list)) at
  where
    at : (n m : ℕ) → n < 12 → m < 32 → is_kept (used q s) (take k list) n m ≡ is_kept (used q s) (take (k + 1) list) n m
    at n m _ _ =
        kept_same (has_column (used q s) (column_at n m)) (list_any (same_column (column_at n m)) (take k list)) (same_column (column_at n m) (get_or list k d))
        (λ t. member_there (used q s) n m (get_or list k d) t ∙ h)
        ∙ ap (λ b. has_column (used q s) (column_at n m) && b) (sym (list_any_more (same_column (column_at n m)) list k d l))

pub ruleset used_rules = (used_quant, used_column, among_none, among_more, among_same)
