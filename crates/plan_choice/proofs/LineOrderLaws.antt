-- The order of the lines is total, and vectors of one relation with one number of rows that it finds equal are one.
use Rattle.std.proofs.Common.{◌≡◌, ℕ, ◌<◌, Bool, true, false, List, [], ◌∷◌, refl, subst}
use Rattle.std.specs.Cmp.{IsTotalOrder, bool_cmp_total}
use Rattle.std.specs.Cmp.Lexicographic.{slice_cmp}
use Rattle.std.specs.Ordering.{nat_cmp, bool_cmp, ordering_then, MatchOrdering}
use Rattle.std.specs.declared.cmp.Ordering.{Ordering}
use Rattle.std.specs.declared.cmp.Ordering.TheVariants.{Less, Equal, Greater}
use Rattle.std.proofs.lemmas.Cmp.{nat_cmp_total, on_total, then_total, lists_total, ranked}
use Rattle.star_model.specs.declared.columns.Col.{Col}
use Rattle.star_model.specs.declared.plans.Props.{Props}
use Rattle.plan_choice.specs.LineOrder.{col_cmp, line_cmp}

-- ---- total

col_total : IsTotalOrder col_cmp
col_total = then_total (on_total (λ (c : Col). c.quant.0) nat_cmp_total) (on_total (λ (c : Col). c.column) nat_cmp_total)

lists_of_columns : IsTotalOrder (slice_cmp col_cmp)
lists_of_columns = lists_total col_total

pub line_total : IsTotalOrder line_cmp
line_total =
    then_total (on_total (λ (v : Props). v.cost) nat_cmp_total) (then_total (on_total (λ (v : Props). v.rescan) nat_cmp_total) (then_total (on_total (λ (v : Props). v.site.0) nat_cmp_total)
    (then_total (on_total (λ (v : Props). v.temp) bool_cmp_total) (then_total (on_total (λ (v : Props). v.order) lists_of_columns) (on_total (λ (v : Props). v.path) lists_of_columns)))))

-- ---- equal

both_equal : (a b : Ordering) → ordering_then a b ≡ Equal → (a ≡ Equal) × (b ≡ Equal)
both_equal Less b h = absurd cc
both_equal Equal b h = (refl, h)
both_equal Greater b h = absurd cc

nat_equal : (m n : ℕ) → nat_cmp m n ≡ Equal → m ≡ n
nat_equal m n h = subst (λ o. MatchOrdering o (m < n) (m ≡ n) (n < m)) h (ranked m n (nat_cmp m n) refl)

bool_equal : (s t : Bool) → bool_cmp s t ≡ Equal → s ≡ t
bool_equal false false h = refl
bool_equal false true h = absurd cc
bool_equal true false h = absurd cc
bool_equal true true h = refl

columns_equal : (xs ys : List Col) → slice_cmp col_cmp xs ys ≡ Equal → xs ≡ ys
columns_equal [] [] h = refl
columns_equal [] (y ∷ ys) h = absurd cc
columns_equal (x ∷ xs) [] h = absurd cc
columns_equal (x ∷ xs) (y ∷ ys) h =
    let both = both_equal (col_cmp x y) (slice_cmp col_cmp xs ys) h in
    let parts = both_equal (nat_cmp x.quant.0 y.quant.0) (nat_cmp x.column y.column) both.0 in
    let quant = nat_equal x.quant.0 y.quant.0 parts.0 in
    let column = nat_equal x.column y.column parts.1 in
    let rest = columns_equal xs ys both.1 in
    (λ i. record { quant = record { 0 = quant i }; column = column i } ∷ rest i)

pub equal_line : (v w : Props) → v.tables ≡ w.tables → v.cols ≡ w.cols → v.preds ≡ w.preds → v.card ≡ w.card → line_cmp v w ≡ Equal → v ≡ w
equal_line v w tables cols preds card equal =
    let costs = both_equal (nat_cmp v.cost w.cost) _ equal in
    let rescans = both_equal (nat_cmp v.rescan w.rescan) _ costs.1 in
    let sites = both_equal (nat_cmp v.site.0 w.site.0) _ rescans.1 in
    let temps = both_equal (bool_cmp v.temp w.temp) _ sites.1 in
    let lists = both_equal (slice_cmp col_cmp v.order w.order) (slice_cmp col_cmp v.path w.path) temps.1 in
    let cost = nat_equal v.cost w.cost costs.0 in
    let rescan = nat_equal v.rescan w.rescan rescans.0 in
    let site = nat_equal v.site.0 w.site.0 sites.0 in
    let temp = bool_equal v.temp w.temp temps.0 in
    let order = columns_equal v.order w.order lists.0 in
    let path = columns_equal v.path w.path lists.1 in
    (λ i.
    record {
      tables = tables i;
      cols = cols i;
      preds = preds i;
      order = order i;
      site = record { 0 = site i };
      temp = temp i;
      path = path i;
      card = card i;
      cost = cost i;
      rescan = rescan i;
    })
