-- The columns that a query names are in range, and added one after another they are those that it uses.
use Rattle.std.proofs.Common.{◌≡◌, ℕ, ◌<◌, Bool, true, false, ◌&&◌, ◌||◌, List, [], ◌∷◌, ◌++◌, zero, suc, length, refl, ap, sym, ◌∙◌, subst, nat_lt, arith, fold, replicate, if◌then◌else◌}
use Rattle.std.specs.Prelude.{Option, Some, None, slice_get, is_some, option_and_then}
use Rattle.std.specs.Option.{option_map_or}
use Rattle.std.specs.List.{list_all, list_any, flat_map}
use Rattle.star_model.specs.Sets.{has}
use Rattle.star_model.specs.Columns.{Columns, columns_where, is_column_at, with_column}
use Rattle.star_model.specs.Predicates.{columns_of, named_columns, used}
use Rattle.star_model.specs.Cardinality.{table_of}
use Rattle.star_model.specs.WellFormed.{WellFormedQuery, WellFormedTable, Each, none, more, is_there}
use Rattle.star_model.specs.declared.catalogue.TableDef.{TableDef}
use Rattle.star_model.specs.declared.columns.Col.{Col}
use Rattle.star_model.specs.declared.query.Query.{Query}
use Rattle.star_model.specs.declared.query.QuantDef.{QuantDef}
use Rattle.star_model.specs.declared.catalogue.ColumnDef.{ColumnDef}
use Rattle.star_model.specs.declared.catalogue.ColType.{ColType}
use Rattle.std.proofs.lemmas.Bool.{eqb-true}
use Rattle.std.proofs.lemmas.Bool.Decides.{nat_tests}
use Rattle.std.proofs.lemmas.List.Sums.{fold-append}
use Rattle.star_model.proofs.Laws.{empty_columns, with_column-where, same_columns}
use Rattle.query_facts.specs.UsedColumns.{has_place, adding}

-- ---- named columns are in range

got_below : {A : Type 0} (xs : List A) (n : ℕ) (x : A) → slice_get xs n ≡ Some x → n < length xs
got_below [] n x e = cc
got_below (y ∷ ys) zero x e = omega arith
got_below (y ∷ ys) (suc n) x e = let r : n < length ys = got_below ys n x e in omega (arith, r)

each_at : {A : Type 0} (P : A → Type 0) (xs : List A) → Each P xs → (n : ℕ) (x : A) → slice_get xs n ≡ Some x → P x
each_at P [] none n x e = cc
each_at P (y ∷ ys) (more _ _ p ps) zero x e = let same : y ≡ x = cc in subst P same p
each_at P (y ∷ ys) (more _ _ p ps) (suc n) x e = each_at P ys ps n x e

both_so : (a b c d : Bool) → (a ≡ true → c ≡ true) → (b ≡ true → d ≡ true) → (a && b) ≡ true → (c && d) ≡ true
both_so true b c d f g e = ap (λ x. x && d) (f refl) ∙ g e
both_so false b c d f g e = cc

all_so : {A : Type 0} (p r : A → Bool) (xs : List A) → ((x : A) → p x ≡ true → r x ≡ true) → list_all p xs ≡ true → list_all r xs ≡ true
all_so p r [] h e = refl
all_so p r (x ∷ xs) h e = both_so (p x) (list_all p xs) (r x) (list_all r xs) (h x) (all_so p r xs h) e

table_there : (f : TableDef → Option ColType) (t : Option TableDef) → is_some (option_and_then f t) ≡ true → (u : TableDef) × (t ≡ Some u) × (is_some (f u) ≡ true)
table_there f None h = cc
table_there f (Some u) h = (u, refl, h)

quantifier_there : (g : QuantDef → Option TableDef) (d : Option QuantDef) (u : TableDef) → option_map_or g d None ≡ Some u → (e : QuantDef) × (d ≡ Some e) × (g e ≡ Some u)
quantifier_there g None u h = cc
quantifier_there g (Some e) u h = (e, refl, h)

column_there : (d : Option ColumnDef) → is_some (option_map_or (λ e. Some e.kind) d None) ≡ true → (e : ColumnDef) × (d ≡ Some e)
column_there None h = cc
column_there (Some e) h = (e, refl)

below_both : (n m : ℕ) → n < 12 → m < 32 → (nat_lt n 12 && nat_lt m 32) ≡ true
below_both n m h k = grind (arith, nat_tests)

there_in_range : (q : Query) → WellFormedQuery q → (c : Col) → is_there q c ≡ true → has_place c ≡ true
there_in_range q formed c h =
    let t = table_there (λ u. option_map_or (λ e. Some e.kind) (slice_get u.columns c.column) None) (table_of q c.quant.0) h in
    let d = quantifier_there (λ e. slice_get q.catalogue.tables e.table) (slice_get q.quants c.quant.0) t.0 t.1 in
    let e = column_there (slice_get t.0.columns c.column) t.2 in
    let quant : c.quant.0 < length q.quants = got_below q.quants c.quant.0 d.0 d.1 in
    let column : c.column < length t.0.columns = got_below t.0.columns c.column e.0 e.1 in
    let table : WellFormedTable (length q.catalogue.sites) t.0 = each_at (WellFormedTable (length q.catalogue.sites)) q.catalogue.tables formed.catalogue.tables d.0.table t.0 d.2 in
    below_both c.quant.0 c.column (omega (arith, formed.some_quantifiers.1)) (omega (arith, table.some_columns.1))

pub select_in_range : (q : Query) → WellFormedQuery q → list_all has_place q.select ≡ true
select_in_range q formed = all_so (is_there q) has_place q.select (there_in_range q formed) formed.select

pub order_in_range : (q : Query) → WellFormedQuery q → list_all has_place q.order ≡ true
order_in_range q formed = all_so (is_there q) has_place q.order (there_in_range q formed) formed.order

pub sides_in_range : (q : Query) → WellFormedQuery q → list_all (λ p. list_all has_place (columns_of p)) q.preds ≡ true
sides_in_range q formed =
    all_so (λ p. list_all (is_there q) (columns_of p)) (λ p. list_all has_place (columns_of p)) q.preds
    (λ p. all_so (is_there q) has_place (columns_of p) (there_in_range q formed)) formed.columns

-- ---- columns added one after another

no_more : (a b : Bool) → a ≡ (a || (b && false))
no_more true b = refl
no_more false true = refl
no_more false false = refl

one_more : (a b c d : Bool) → ((a || (b && c)) || (b && d)) ≡ (a || (b && (c || d)))
one_more true b c d = refl
one_more false true c d = refl
one_more false false c d = refl

implied : (a b : Bool) → (b ≡ true → a ≡ true) → b ≡ (a && b)
implied true b h = refl
implied false true h = sym (h refl)
implied false false h = refl

excluded : (a b c : Bool) → (c ≡ true → b ≡ false) → a ≡ (a || (b && c))
excluded true b c h = refl
excluded false true true h = sym (h refl)
excluded false true false h = refl
excluded false false c h = refl

first_true : (a b : Bool) → (a && b) ≡ true → a ≡ true
first_true true b h = refl
first_true false b h = h

added_column : (s : ℕ) (p : ℕ → ℕ → Bool) (c : Col) → adding s (columns_where p) c ≡ columns_where (λ n m. p n m || (has s n && is_column_at n m c))
added_column s p c = by_case (has s c.quant.0) refl
  where
    same_quant : (n m : ℕ) → is_column_at n m c ≡ true → has s n ≡ has s c.quant.0
    same_quant n m h = ap (has s) (sym (eqb-true c.quant.0 n (first_true _ _ h)))

    by_case : (b : Bool) → has s c.quant.0 ≡ b → (if b then with_column (columns_where p) c else columns_where p) ≡ columns_where (λ n m. p n m || (has s n && is_column_at n m c))
    by_case true e =
        with_column-where p c
        ∙ same_columns (λ n m. p n m || is_column_at n m c) (λ n m. p n m || (has s n && is_column_at n m c))
        (λ n m _ _. ap (λ b. p n m || b) (implied (has s n) (is_column_at n m c) (λ h. same_quant n m h ∙ e)))
    by_case false e = same_columns p (λ n m. p n m || (has s n && is_column_at n m c)) (λ n m _ _. excluded (p n m) (has s n) (is_column_at n m c) (λ h. same_quant n m h ∙ e))

added_columns : (s : ℕ) (cols : List Col) (p : ℕ → ℕ → Bool)
    → fold (adding s) (columns_where p) cols ≡ columns_where (λ n m. p n m || (has s n && list_any (is_column_at n m) cols))
added_columns s [] p = same_columns p (λ n m. p n m || (has s n && false)) (λ n m _ _. no_more (p n m) (has s n))
added_columns s (c ∷ cols) p =
    ap (λ (x : Columns). fold (adding s) x cols) (added_column s p c)
    ∙ added_columns s cols (λ n m. p n m || (has s n && is_column_at n m c))
    ∙ same_columns (λ n m. (p n m || (has s n && is_column_at n m c)) || (has s n && list_any (is_column_at n m) cols))
    (λ n m. p n m || (has s n && list_any (is_column_at n m) (c ∷ cols)))
    (λ n m _ _. one_more (p n m) (has s n) (is_column_at n m c) (list_any (is_column_at n m) cols))

pub added_all : (q : Query) (s : ℕ) → fold (adding s) (fold (adding s) (fold (adding s) (replicate 12 0) q.select) q.order) (flat_map columns_of q.preds) ≡ used q s
unfolding used
added_all q s =
    ap (λ (x : Columns). fold (adding s) (fold (adding s) (fold (adding s) x q.select) q.order) (flat_map columns_of q.preds)) (sym empty_columns)
    ∙ sym (fold-append (adding s) none_yet (q.select ++ q.order) sides ∙ ap (λ (x : Columns). fold (adding s) x sides) (fold-append (adding s) none_yet q.select q.order))
    ∙ added_columns s (named_columns q) (λ n m. false)
  where
    none_yet : Columns
    none_yet = columns_where (λ n m. false)

    sides : List Col
    sides = flat_map columns_of q.preds

pub ruleset used_rules = (select_in_range, order_in_range, sides_in_range, added_all)
