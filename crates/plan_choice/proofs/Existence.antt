-- A chain of the query's requirement serves over each vector with the columns of the query's goal: SORT where the query names an
-- order, and then SHIP where it names another site. So a root derivation exists where the goal has a vector.
use Prim.Native.Nat.{zero, suc}
use Rattle.std.proofs.Common.{◌≡◌, ℕ, ◌+◌, ◌<◌, Bool, true, false, not, ◌&&◌, ◌||◌, nat_eq, List, [], ◌∷◌, ◌++◌, length, get_or, Option, Some, None, is_some, is_none, ◌⊎◌, inl, inr, refl, sym, ap, subst, ◌∙◌, arith, if◌then◌else◌}
use Rattle.std.specs.Prelude.{slice_get, option_and_then}
use Rattle.std.specs.Option.{option_map_or}
use Rattle.std.specs.List.{list_any, list_all, flat_map}
use Rattle.std.proofs.lemmas.Bool.{false≢true, eq-eqb, eqb-true, cases_Bool}
use Rattle.std.proofs.lemmas.List.Folds.{list_any-append, list_any_at}
use Rattle.std.proofs.lemmas.List.Sums.{AllPass-from_list_all, list_all-from_AllPass}
use Rattle.std.proofs.lemmas.Option.{slice_get_within}
use Rattle.star_model.specs.Accepted.{IsAccepted, is_used}
use Rattle.star_model.specs.Canon.{canon}
use Rattle.star_model.specs.Cardinality.{table_of}
use Rattle.star_model.specs.Columns.{has_column, is_column_at, all_columns_in}
use Rattle.star_model.specs.Costs.{costs_of, formula_of}
use Rattle.star_model.specs.Derivations.{HasVector, IsRoot}
use Rattle.star_model.specs.Expected.{ForQuery, query_goal, root_requirement}
use Rattle.star_model.specs.Formulas.{value}
use Rattle.star_model.specs.Operators.{step, applied, flavour_of, may_apply, each_touches, tables_after, unpriced, vars_of, price, is_empty_list, same_site}
use Rattle.star_model.specs.Plans.{is_chain, chain_vector, site_wanted}
use Rattle.star_model.specs.Predicates.{used, all_quants, named_columns, columns_of, preds_in, those_in, touches}
use Rattle.star_model.specs.Requirements.{satisfies, is_at}
use Rattle.star_model.specs.Sets.{has, union}
use Rattle.star_model.specs.Vectors.{begins}
use Rattle.star_model.specs.WellFormed.{WellFormedQuery, WellFormedTable, Each, is_there}
use Rattle.star_model.specs.declared.catalogue.TableDef.{TableDef}
use Rattle.star_model.specs.declared.columns.Col.{Col}
use Rattle.star_model.specs.declared.columns.Site.{Site}
use Rattle.star_model.specs.declared.derivations.Deriv.{Deriv}
use Rattle.star_model.specs.declared.formula.Formula.{Formula}
use Rattle.star_model.specs.declared.plans.GlueOp.{GlueOp}
use Rattle.star_model.specs.declared.plans.GlueOp.TheVariants as word
use Rattle.star_model.specs.declared.plans.Op.{Op}
use Rattle.star_model.specs.declared.plans.Op.TheVariants as op
use Rattle.star_model.specs.declared.plans.Props.{Props}
use Rattle.star_model.specs.declared.query.Pred.{Pred}
use Rattle.star_model.specs.declared.query.Query.{Query}
use Rattle.star_model.specs.declared.rules.Flavour.{Flavour}
use Rattle.star_model.specs.declared.rules.RuleFile.{RuleFile}
use Rattle.star_model.specs.declared.rules.Which.TheVariants as which
use Rattle.star_model.proofs.Laws.{has-zero, has-union, has-set_of, has_column-where, canon_again, judges_valid, judges_vector}
use Rattle.dominance_prune.specs.GatheringCases.{nothing_in}
use Rattle.lolepop.specs.Derived.{DerivedPlan, vector_of, under_glue}
use Rattle.exchange.proofs.Laws.{plan_of_vector, has_vector, chained_some, glue_ways, root_vector}
use Rattle.plan_choice.specs.FrontierLists.{IsFrontierList}
use Rattle.plan_choice.proofs.Targets.{has_target, relation}

-- ---- tests and options

or_true : (b : Bool) → (b || true) ≡ true
or_true true = refl
or_true false = refl

neither : (a b : Bool) → (a || b) ≡ false → (a ≡ false) × (b ≡ false)
neither true b h = absurd (false≢true (sym h))
neither false b h = (refl, h)

module _ {A : Type 0} where
  some_of : (o : Option A) → is_some o ≡ true → (a : A) × (o ≡ Some a)
  some_of None h = absurd (false≢true h)
  some_of (Some a) h = (a, refl)

  not_none : (o : Option A) → is_none o ≡ false → (a : A) × (o ≡ Some a)
  not_none None h = absurd (false≢true (sym h))
  not_none (Some a) h = (a, refl)

  here_of : {B : Type 0} (f : A → Option B) (o : Option A) → is_some (option_and_then f o) ≡ true → (a : A) × (o ≡ Some a) × (is_some (f a) ≡ true)
  here_of f None h = absurd (false≢true h)
  here_of f (Some a) h = (a, refl, h)

  mapped_of : {B : Type 0} (f : A → Option B) (o : Option A) → is_some (option_map_or f o None) ≡ true → (a : A) × (o ≡ Some a) × (is_some (f a) ≡ true)
  mapped_of f None h = absurd (false≢true h)
  mapped_of f (Some a) h = (a, refl, h)

each_at : {A : Type 0} (P : A → Type 0) (xs : List A) → Each P xs → (n : ℕ) (x : A) → slice_get xs n ≡ Some x → P x
each_at P [] Each.none n x h = absurd cc
each_at P (y ∷ ys) (Each.more _ _ p rest) zero x h = let same : y ≡ x = cc in subst P same p
each_at P (y ∷ ys) (Each.more _ _ p rest) (suc n) x h = each_at P ys rest n x h

-- ---- the columns of the query's order

module _ (q : Query) (formed : WellFormedQuery q) where
  -- the quantifier of a column that is there, and the column's table
  record Stands (c : Col) : Type 0 where
    quantifier : c.quant.0 < 12
    column : c.column < 32
    member : has (all_quants q) c.quant.0 ≡ true

  stands : (c : Col) → is_there q c ≡ true → Stands c
  stands c is =
      let table = here_of (λ (t : TableDef). option_map_or (λ d. Some d.kind) (slice_get t.columns c.column) None) (table_of q c.quant.0) is in
      let column = mapped_of (λ d. Some d.kind) (slice_get table.0.columns c.column) table.2 in
      let quantifier = mapped_of (λ d. slice_get q.catalogue.tables d.table) (slice_get q.quants c.quant.0) (ap is_some table.1) in
      let at : slice_get q.catalogue.tables quantifier.0.table ≡ Some table.0 =
      ap (λ o. option_map_or (λ d. slice_get q.catalogue.tables d.table) o None) (sym quantifier.1) ∙ table.1 in
      let known = each_at (WellFormedTable (length q.catalogue.sites)) q.catalogue.tables formed.catalogue.tables quantifier.0.table table.0 at in
      let few = formed.some_quantifiers.1 in
      let within = slice_get_within q.quants c.quant.0 quantifier.0 quantifier.1 in
      let below : c.quant.0 < 12 = omega (arith, few, within) in
      let narrow = known.some_columns.1 in
      let inside = slice_get_within table.0.columns c.column column.0 column.1 in
      record {
        quantifier = below;
        column = omega (arith, narrow, inside);
        member = has-set_of (λ n. option_map_or (λ d. true) (slice_get q.quants n) false) c.quant.0 (omega (arith, below)) ∙ ap (λ o. option_map_or (λ d. true) o false) quantifier.1;
      }

  used_column : (c : Col) → is_there q c ≡ true → list_any (is_column_at c.quant.0 c.column) (named_columns q) ≡ true → has_column (used q (all_quants q)) c ≡ true
  unfolding used
  used_column c is named =
      let at = stands c is in
      let below = at.quantifier in
      has_column-where (λ quant column. has (all_quants q) quant && list_any (is_column_at quant column) (named_columns q)) c (omega (arith, below)) at.column
      ∙ (λ i. at.member i && named i)

  -- a column of the order is one that the query names
  order_named : (n : ℕ) (d : Col) → n < length q.order → list_any (is_column_at (get_or q.order n d).quant.0 (get_or q.order n d).column) (named_columns q) ≡ true
  order_named n d below =
      let c = get_or q.order n d in
      let test = is_column_at c.quant.0 c.column in
      let itself : test c ≡ true = (λ i. eq-eqb c.quant.0 c.quant.0 refl i && eq-eqb c.column c.column refl i) in
      let ordered : list_any test q.order ≡ true = list_any_at test q.order n d below itself in
      list_any-append test (q.select ++ q.order) (flat_map columns_of q.preds)
      ∙ ap (λ b. b || list_any test (flat_map columns_of q.preds)) (list_any-append test q.select q.order ∙ ap (λ b. list_any test q.select || b) ordered ∙ or_true (list_any test q.select))

  order_used : all_columns_in (used q (all_quants q)) q.order ≡ true
  order_used = list_all-from_AllPass (has_column (used q (all_quants q))) q.order (λ n d below. used_column (get_or q.order n d) (AllPass-from_list_all (is_there q) q.order formed.order n d below) (order_named n d below))

-- ---- the vector of SORT and of SHIP

module _ (q : Query) (rules : RuleFile) (accepted : IsAccepted rules) where
  formula_there : (f : Flavour) → is_used rules f ≡ true
      → (cost : Formula) × (rescan : Formula) × (formula_of (costs_of rules) f which.Cost ≡ Some cost) × (formula_of (costs_of rules) f which.Rescan ≡ Some rescan)
  formula_there f used_ =
      let parts = neither (is_none (formula_of (costs_of rules) f which.Cost)) (is_none (formula_of (costs_of rules) f which.Rescan))
      (ap (λ b. b && (is_none (formula_of (costs_of rules) f which.Cost) || is_none (formula_of (costs_of rules) f which.Rescan))) (sym used_) ∙ accepted.formulas f) in
      let cost = not_none (formula_of (costs_of rules) f which.Cost) parts.0 in
      let rescan = not_none (formula_of (costs_of rules) f which.Rescan) parts.1 in
      (cost.0, rescan.0, cost.1, rescan.1)

  none_among : (n : ℕ) (xs : List Pred) → those_in 0 n xs ≡ []
  none_among n [] = refl
  none_among n (x ∷ xs) = ap (λ b. if b then x ∷ those_in 0 (n + 1) xs else those_in 0 (n + 1) xs) (has-zero n) ∙ none_among (n + 1) xs

  -- an operator of Glue that is applicable to the vector, and applies no predicates, has a vector there
  gives : (o : Op) (v : Props) → applied o ≡ 0 → is_used rules (flavour_of o) ≡ true → may_apply q o (v ∷ []) ≡ true
      → (cost : ℕ) × (rescan : ℕ) × (step q (costs_of rules) o (v ∷ []) ≡ Some (record (unpriced q o (v ∷ [])) { cost = cost; rescan = rescan }))
  unfolding step
  gives o v no_preds used_ may =
      let f = formula_there (flavour_of o) used_ in
      let vars = vars_of q o (v ∷ []) (unpriced q o (v ∷ [])) in
      let touching : each_touches q o (v ∷ []) ≡ true =
      ap (λ p. list_all (touches (tables_after o (v ∷ []))) (preds_in q p)) no_preds ∙ ap (list_all (touches (tables_after o (v ∷ [])))) (none_among 0 q.preds) in
      let r = unpriced q o (v ∷ []) in (
        value f.0 vars,
        value f.1 vars,
        (λ i. if may i && touching i then price (costs_of rules) o vars r else None)
            ∙ ap (option_and_then (λ cost. option_and_then (λ rescan. Some (record r { cost = value cost vars; rescan = value rescan vars })) (formula_of (costs_of rules) (flavour_of o) which.Rescan))) f.2
            ∙ ap (option_and_then (λ rescan. Some (record r { cost = value f.0 vars; rescan = value rescan vars }))) f.3,
      )

-- ---- vectors that satisfy the query

begins_itself : (xs : List Col) → begins xs xs ≡ true
unfolding begins
begins_itself [] = refl
begins_itself (x ∷ xs) = (λ i. eq-eqb x.quant.0 x.quant.0 refl i && eq-eqb x.column x.column refl i && begins_itself xs i)

-- no order is required
no_order : (q : Query) (preds s : ℕ) (cols order : List Col) → is_empty_list cols ≡ true → begins (canon q preds s cols) order ≡ true
unfolding begins canon
no_order q preds s [] order empty = refl
no_order q preds s (c ∷ cols) order empty = absurd (none (length cols) empty)
  where
    none : (n : ℕ) → nat_eq (suc n) 0 ≡ true → ⊥
    none n h = omega (arith, eqb-true (suc n) 0 h)

module _ (q : Query) where
  abbrev order_met : Props → Type 0
  order_met w = begins (canon q w.preds w.tables q.order) w.order ≡ true

  satisfied : (w : Props) → order_met w → is_at q.site w.site ≡ true → satisfies q w (root_requirement q) ≡ true
  unfolding satisfies begins
  satisfied w order site = (λ i. order i && site i && true && true)

  -- SHIP keeps an order
  shipped_order : (s : Site) (v : Props) → ((preds t : ℕ) → ((n : ℕ) → has v.preds n ≡ true → has preds n ≡ true) → ((n : ℕ) → has v.tables n ≡ true → has t n ≡ true)
      → begins (canon q preds t q.order) (canon q preds t v.order) ≡ true)
      → (cost rescan : ℕ) → order_met (record (unpriced q (op.Ship s) (v ∷ [])) { cost = cost; rescan = rescan })
  shipped_order s v kept cost rescan = kept (union 0 v.preds) (union 0 v.tables) (wider v.preds) (wider v.tables)
    where
      wider : (s n : ℕ) → has s n ≡ true → has (union 0 s) n ≡ true
      wider s n h = has-union 0 s n ∙ ap (λ b. has 0 n || b) h ∙ or_true (has 0 n)

  -- where the wanted site is another
  site_there : (s : Option Site) → is_some s ≡ true → is_at s (site_wanted s) ≡ true
  site_there None h = absurd (false≢true h)
  site_there (Some s) h = eq-eqb s.0 s.0 refl

  site_here : (s : Option Site) (v : Site) → (s ≡ None) ⊎ (same_site (site_wanted s) v ≡ true) → is_at s v ≡ true
  site_here None v h = refl
  site_here (Some s) v (inl none) = absurd cc
  site_here (Some s) v (inr same) = same

  module _ (rules : RuleFile) (formed : WellFormedQuery q) (accepted : IsAccepted rules) where
    -- a chain over the vector that satisfies the query
    abbrev Serves : Props → Type 0
    Serves v = (chain : List GlueOp) × (w : Props) × (is_chain (root_requirement q) chain ≡ true) × (chain_vector q (costs_of rules) (root_requirement q) chain v ≡ Some w)
        × (satisfies q w (root_requirement q) ≡ true)

    abbrev Stays : Site → Type 0
    Stays s = (q.site ≡ None) ⊎ (same_site (site_wanted q.site) s ≡ true)

    abbrev Moves : Site → Type 0
    Moves s = (is_some q.site ≡ true) × (same_site (site_wanted q.site) s ≡ false)

    stays_or_moves : (site : Option Site) (s : Site) → ((site ≡ None) ⊎ (same_site (site_wanted site) s ≡ true)) ⊎ ((is_some site ≡ true) × (same_site (site_wanted site) s ≡ false))
    stays_or_moves None s = inl (inl refl)
    stays_or_moves (Some t) s = elim (cases_Bool (same_site t s)) [ inl same ↦ inl (inr same) | inr other ↦ inr (refl, other) ]

    unsorted : (v : Props) → is_empty_list q.order ≡ true → Stays v.site ⊎ Moves v.site → Serves v
    unfolding is_chain
    unsorted v empty (inl stays) = ([], v, refl, refl, satisfied v (no_order q v.preds v.tables q.order v.order empty) (site_here q.site v.site stays))
    unsorted v empty (inr moves) =
        let ship = op.Ship (site_wanted q.site) in
        let made = gives q rules accepted ship v refl refl (ap (λ b. not b) moves.1) in
        let w : Props = record (unpriced q ship (v ∷ [])) { cost = made.0; rescan = made.1 } in
        (word.Ship ∷ [], w, (λ i. moves.0 i && true && true), ap (option_and_then (λ u. Some u)) made.2, satisfied w (no_order q w.preds w.tables q.order w.order empty) (site_there q.site moves.0))

    sorted : (v : Props) → v.cols ≡ used q (all_quants q) → is_empty_list q.order ≡ false → Stays v.site ⊎ Moves v.site → Serves v
    unfolding is_chain
    sorted v cols some goes =
        let sort = op.Sort q.order in
        let may : may_apply q sort (v ∷ []) ≡ true = (λ i. not (some i) && all_columns_in (cols i) q.order) ∙ order_used q formed in
        let made = gives q rules accepted sort v refl refl may in
        let after : Props = record (unpriced q sort (v ∷ [])) { cost = made.0; rescan = made.1 } in
        elim goes as (λ _. Serves v) [
          | inl stays ↦ (
            word.Sort ∷ [],
            after,
            (λ i. not (some i) && true && true),
            ap (option_and_then (λ u. Some u)) made.2,
            satisfied after (begins_itself (canon q after.preds after.tables q.order)) (site_here q.site v.site stays),
          )
          | inr moves ↦ (
              let ship = op.Ship (site_wanted q.site) in
              let more = gives q rules accepted ship after refl refl (ap (λ b. not b) moves.1) in
              let w : Props = record (unpriced q ship (after ∷ [])) { cost = more.0; rescan = more.1 } in
              let kept = shipped_order (site_wanted q.site) after (λ preds t p k.
              let again : canon q preds t after.order ≡ canon q preds t q.order = canon_again q after.preds preds after.tables t p k q.order in
              ap (begins (canon q preds t q.order)) again ∙ begins_itself (canon q preds t q.order)) more.0 more.1 in (
                word.Sort ∷ word.Ship ∷ [],
                w,
                (λ i. not (some i) && true && (moves.0 i && true && true)),
                ap (option_and_then (chain_vector q (costs_of rules) (root_requirement q) (word.Ship ∷ []))) made.2 ∙ ap (option_and_then (λ u. Some u)) more.2,
                satisfied w kept (site_there q.site moves.0),
              ))
        ]

    serves : (v : Props) → v.cols ≡ used q (all_quants q) → Serves v
    serves v cols = elim (cases_Bool (is_empty_list q.order)) [
      | inl empty ↦ unsorted v empty (stays_or_moves q.site v.site)
      | inr some ↦ sorted v cols some (stays_or_moves q.site v.site)
    ]

-- ---- root derivations

pub root_derivations_exist : (q : Query) (rules : RuleFile) → WellFormedQuery q → IsAccepted rules → (d : Deriv) (v : Props) → HasVector q rules d (query_goal q) v
    → (tree : Deriv) × (w : Props) × IsRoot q rules tree w
root_derivations_exist q rules formed accepted d v h =
    let e = plan_of_vector q rules (query_goal q) d v h in
    let cols = (relation q (all_quants q) 0 (vector_of e.0) (has_target q rules (all_quants q) 0 e.0 e.1)).cols in
    let s = serves q rules formed accepted (vector_of e.0) cols in
    let m = chained_some q (costs_of rules) (root_requirement q) s.0 e.0 s.1 s.3 in
    let enough : satisfies q (vector_of m.0) (root_requirement q) ≡ true = ap (λ w. satisfies q w (root_requirement q)) m.2 ∙ s.4 in
    let x : DerivedPlan = under_glue s.0 m.0 in
    let derived = (glue_ways q rules ForQuery (query_goal q) (root_requirement q) refl x).1 (e.0, e.1, (s.0, m.0, s.2, m.1, enough, refl)) in
    (x.deriv, vector_of x, (root_vector q rules x.deriv (vector_of x)).1 (has_vector q rules ForQuery x derived))

-- the list of a frontier is empty exactly where there is no root derivation
pub none_listed : (q : Query) (rules : RuleFile) → IsFrontierList q rules [] → (d : Deriv) (v : Props) → IsRoot q rules d v → ⊥
none_listed q rules list d v root =
    let judged = (judges_valid q rules root.goal_node (query_goal q) 1).0 root.valid in
    let has_one = (judges_vector q rules root.goal_node (query_goal q) 1 judged.0).0 judged.1 in
    let above = list.above judged.0 (root.goal_node, has_one) in
    nothing_in above.1 (above.0, above.2, above.3)

pub some_listed : (q : Query) (rules : RuleFile) → WellFormedQuery q → IsAccepted rules → (list : List Props) → IsFrontierList q rules list → (list ≡ [] → ⊥)
    → (tree : Deriv) × (w : Props) × IsRoot q rules tree w
some_listed q rules formed accepted [] listed some = absurd (some refl)
some_listed q rules formed accepted (v ∷ vs) listed some =
    let on = (listed.vectors v).0 (0, omega arith, refl) in
    root_derivations_exist q rules formed accepted on.of_goal.0 v on.of_goal.1
