-- A root derivation can be written.
use Rattle.std.proofs.Common.{◌≡◌, ℕ, zero, suc, ◌+◌, ◌-◌, ◌≤◌, ◌<◌, ◌^◌, Bool, true, false, not, ◌&&◌, ◌||◌, nat_eq, nat_le, cond, if◌then◌else◌, List, [], ◌∷◌, ◌++◌, length, Option, Some, None, option_and_then, slice_get, slice_index_or, codes, refl, sym, ap, ◌∙◌, subst, arith, append_assoc, append-nil, eqb-true, eq-eqb}
use Rattle.std.proofs.lemmas.Option.{option_and_then_some}
use Rattle.std.proofs.lemmas.Bool.{and_parts}
use Rattle.std.proofs.lemmas.Nat.{and_le_r}
use Rattle.std.specs.Int.Bits.{or_add_and}
use Rattle.std.specs.List.{list_any, find, range_with_len, AllPass}
use Rattle.std.specs.Option.{option_map_or}
use Rattle.std.specs.Cmp.Lexicographic.{same_text}
use Rattle.sb_text.specs.Forms.{IsWord}
use Rattle.star_model.proofs.Laws.{set_of-lt, kept_below, members_below}
use Rattle.derivation_reading.proofs.Laws.{commented_derivation}
use Rattle.star_model.specs.Sets.{members, union, meet, minus}
use Rattle.star_model.specs.Costs.{row_of, same_flavour, costs_of}
use Rattle.star_model.specs.Vectors.{same_numbers}
use Rattle.star_model.specs.Predicates.{crossing}
use Rattle.star_model.specs.Plans.{vector, rank, is_chain, differs}
use Rattle.star_model.specs.Meaning.{meaning, numbers_of, member_at, as_stream, is_index_on, on_sets}
use Rattle.star_model.specs.Stars.{numbered, star_named, alternative_of}
use Rattle.star_model.specs.Expected.{Expected, ForQuery, ForGoal, Call, Expression, values_of, glue_of, as_glue, query_goal, may_split, root_call, goal_body, bound, meets, body_of, as_call, reference_body, leaf_of, unary_of, binary_of, as_leaf, as_unary, as_binary}
use Rattle.star_model.specs.Derivations.{plan_of, is_valid, IsRoot}
use Rattle.star_model.specs.WellFormed.{WellFormedQuery}
use Rattle.star_model.specs.DerivCases as d
use Rattle.star_model.specs.PlanExprCases as expr
use Rattle.star_model.specs.ValueCases.{WithOrder, WithSite, WithTemp, WithPath, Tables, Inside, Crossing, Between, Equalities, Indexable, Columns, Keys, Home, Union, Minus, Meet}
use Rattle.star_model.specs.declared.query.Query.{Query}
use Rattle.star_model.specs.declared.plans.Goal as model
use Rattle.star_model.specs.declared.plans.GlueOp.{GlueOp}
use Rattle.star_model.specs.declared.plans.GlueOp.TheVariants as glue
use Rattle.star_model.specs.declared.plans.Op.{Op}
use Rattle.star_model.specs.declared.plans.Props.{Props}
use Rattle.star_model.specs.declared.plans.Require.{Require}
use Rattle.star_model.specs.declared.rules.Flavour.{Flavour}
use Rattle.star_model.specs.declared.rules.Flavour.TheVariants as flavour
use Rattle.star_model.specs.declared.rules.ValueExpr.{ValueExpr}
use Rattle.star_model.specs.declared.rules.ValueExpr.TheVariants as value
use Rattle.star_model.specs.declared.rules.Range.{Range}
use Rattle.star_model.specs.declared.rules.Range.TheVariants as range
use Rattle.star_model.specs.declared.rules.PlanExpr.{PlanExpr}
use Rattle.star_model.specs.declared.rules.PlanExpr.TheVariants as plan
use Rattle.star_model.specs.declared.rules.ForAll.{ForAll}
use Rattle.star_model.specs.declared.rules.Alternative.{Alternative}
use Rattle.star_model.specs.declared.rules.RuleFile.{RuleFile}
use Rattle.star_model.specs.declared.values.RuleValue.{RuleValue}
use Rattle.star_model.specs.declared.values.RuleValue.TheVariants as is
use Rattle.star_model.specs.declared.derivations.Deriv.{Deriv}
use Rattle.star_model.specs.declared.derivations.Deriv.TheVariants as made
use Rattle.star_model.specs.Every.{Every}
use Rattle.star_model.specs.Kinds.{inputs_of}
use Rattle.derivation_reading.specs.Derivations.{Step, Goal, Reference, IsMask, IsCounted, AreMasks, IsStep, NamesWord, steps, InOrder, HasInputs, IsWritable, canonical, SpellsDerivation}
use Rattle.sb_text.specs.Front.{in_comment}
use Rattle.spelling.specs.Layout.{commented}
use Rattle.rule_grammar.specs.Rules.{SpellsRules, KeepsCounts}
use Rattle.spelling.specs.FormedLexemes.{every_both, given_word}
use Rattle.derivation_print.proofs.RuleBodies.{BodyOk, AlternativeOk, StarOk, spelled_stars}

-- ---- inversions

fits_some : {A P : Type 0} (o : Option A) (test : A → Bool) → option_map_or test o false ≡ true → ((x : A) → o ≡ Some x → test x ≡ true → P) → P
fits_some None test e k = cc
fits_some (Some x) test e k = k x refl e

chosen : {A P : Type 0} (b : Bool) (x y : A) → (if b then Some x else None) ≡ Some y → (b ≡ true → x ≡ y → P) → P
chosen true x y e k = let same : x ≡ y = cc in k refl same
chosen false x y e k = cc

some_is : {A : Type 0} (x y : A) → Some x ≡ Some y → x ≡ y
some_is x y e = cc

taken : {A : Type 0} (b : Bool) (o : Option A) (y : A) → (if b then o else None) ≡ Some y → (b ≡ true) × (o ≡ Some y)
taken true o y e = (refl, e)
taken false o y e = cc

-- ---- chains are short

pigeon : (x y z w : ℕ) → x < 3 → y < 3 → z < 3 → w < 3 → (x ≡ y → ⊥) → (x ≡ z → ⊥) → (x ≡ w → ⊥) → (y ≡ z → ⊥) → (y ≡ w → ⊥) → (z ≡ w → ⊥) → ⊥
pigeon x y z w a b c e xy xz xw yz yw zw = grind arith

rank-lt : (o : GlueOp) → rank o < 3
rank-lt glue.Sort = omega arith
rank-lt glue.Ship = omega arith
rank-lt glue.Store = omega arith

apart : (o p : GlueOp) → differs o p ≡ true → rank o ≡ rank p → ⊥
apart o p e same = at (nat_eq (rank o) (rank p)) refl e where
  at : (b : Bool) → nat_eq (rank o) (rank p) ≡ b → not b ≡ true → ⊥
  at true is h = cc
  at false is h = let yes_ : nat_eq (rank o) (rank p) ≡ true = eq-eqb (rank o) (rank p) same in let bad : true ≡ false = sym yes_ ∙ is in cc

short_chain : (r : Require) (chain : List GlueOp) → is_chain r chain ≡ true → length chain ≤ 3
unfolding is_chain
short_chain r [] h = omega arith
short_chain r (a ∷ []) h = omega arith
short_chain r (a ∷ b ∷ []) h = omega arith
short_chain r (a ∷ b ∷ c ∷ []) h = omega arith
short_chain r (a ∷ b ∷ c ∷ e ∷ later) h =
    let pa = and_parts _ _ h in
    let aa = and_parts _ _ (and_parts _ _ pa.0).1 in
    let ab = and_parts _ _ aa.1 in
    let ac = and_parts _ _ ab.1 in
    let pb = and_parts _ _ pa.1 in
    let bb = and_parts _ _ (and_parts _ _ pb.0).1 in
    let bc = and_parts _ _ bb.1 in
    let pc = and_parts _ _ pb.1 in
    let cc_ = and_parts _ _ (and_parts _ _ pc.0).1 in
    absurd (pigeon (rank a) (rank b) (rank c) (rank e) (rank-lt a) (rank-lt b) (rank-lt c) (rank-lt e) (apart a b aa.0) (apart a c ab.0) (apart a e ac.0) (apart b c bb.0) (apart b e bc.0) (apart c e cc_.0))

-- ---- flavours

inputs_by_row : ℕ → ℕ
inputs_by_row n = if nat_le n 1 then 0 else if nat_le n 7 then 1 else 2

inputs_at : (f : Flavour) → inputs_of f ≡ inputs_by_row (row_of f)
unfolding inputs_by_row
inputs_at flavour.AccessHeap = refl
inputs_at flavour.AccessIndex = refl
inputs_at flavour.Get = refl
inputs_at flavour.Filter = refl
inputs_at flavour.Sort = refl
inputs_at flavour.Store = refl
inputs_at flavour.Ship = refl
inputs_at flavour.Probe = refl
inputs_at flavour.JoinNl = refl
inputs_at flavour.JoinMerge = refl
inputs_at flavour.JoinHash = refl
inputs_at flavour.Intersect = refl

same_inputs : (f g : Flavour) → same_flavour f g ≡ true → inputs_of f ≡ inputs_of g
same_inputs f g e = inputs_at f ∙ ap inputs_by_row (eqb-true (row_of f) (row_of g) e) ∙ sym (inputs_at g)

-- ---- values

ValueOk : RuleValue → Type 0
ValueOk (is.Stream t) = IsMask t.tables
ValueOk _ = Unit {0}

abbrev BindingsOk : List RuleValue → Type 0
BindingsOk b = Every ValueOk b

at_place : (b : List RuleValue) (place : ℕ) → BindingsOk b → ValueOk (slice_index_or b place (is.Quants 0))
unfolding ValueOk
at_place [] zero h = tt
at_place [] (suc place) h = tt
at_place (x ∷ b) zero h = h.0
at_place (x ∷ b) (suc place) h = at_place b place h.1

sets_ok : (v w : RuleValue) (f : ℕ → ℕ → ℕ) → ValueOk (on_sets f v w)
unfolding ValueOk
sets_ok (is.Preds s) w f = tt
sets_ok (is.Stream t) w f = tt
sets_ok (is.Quants s) w f = tt
sets_ok (is.Cols c) w f = tt
sets_ok (is.Site s) w f = tt
sets_ok (is.Index n) w f = tt

stream_ok : (v : RuleValue) → ValueOk v → IsMask (as_stream v).tables
unfolding ValueOk
stream_ok (is.Stream t) h = h
stream_ok (is.Quants s) h = omega arith
stream_ok (is.Preds s) h = omega arith
stream_ok (is.Cols c) h = omega arith
stream_ok (is.Site s) h = omega arith
stream_ok (is.Index n) h = omega arith

range_below : (bound k n : ℕ) → k + n ≤ bound → Every (λ m. m < bound) (range_with_len k n)
range_below bound k zero low = tt
range_below bound k (suc n) low = (omega arith, range_below bound (k + 1) n (omega arith))

weaker : (ns : List ℕ) → Every (λ m. m < 32) ns → Every (λ m. m < 64) ns
weaker [] h = tt
weaker (n ∷ ns) h = (omega (arith, h.0), weaker ns h.1)

any_below : (most k : ℕ) (ns : List ℕ) → Every (λ m. m < most) ns → list_any (nat_eq k) ns ≡ true → k < most
any_below most k [] h e = cc
any_below most k (n ∷ ns) h e = at (nat_eq k n) refl e (any_below most k ns h.1) where
  at : (b : Bool) → nat_eq k n ≡ b → (b || list_any (nat_eq k) ns) ≡ true → (list_any (nat_eq k) ns ≡ true → k < most) → k < most
  at true is f later = let same = eqb-true k n is in omega (arith, same, h.0)
  at false is f later = later f

module _ (q : Query) where
  value_ok : (b : List RuleValue) (e : ValueExpr) → BindingsOk b → ValueOk (meaning q b e)
  unfolding meaning ValueOk
  value_ok b (value.Variable name place) h = at_place b place h
  value_ok b (WithOrder t c) h = stream_ok (meaning q b t) (value_ok b t h)
  value_ok b (WithSite t c) h = stream_ok (meaning q b t) (value_ok b t h)
  value_ok b (WithTemp t) h = stream_ok (meaning q b t) (value_ok b t h)
  value_ok b (WithPath t c) h = stream_ok (meaning q b t) (value_ok b t h)
  value_ok b (Tables t) h = tt
  value_ok b value.All h = tt
  value_ok b value.NoPreds h = tt
  value_ok b (Inside s) h = tt
  value_ok b (Crossing s) h = tt
  value_ok b (Between s t) h = tt
  value_ok b (Equalities p) h = tt
  value_ok b (Indexable t x p) h = tt
  value_ok b value.NoCols h = tt
  value_ok b value.OrderBy h = tt
  value_ok b (Columns t x) h = tt
  value_ok b (Keys p s) h = tt
  value_ok b (Home t) h = tt
  value_ok b value.QuerySite h = tt
  value_ok b (Union v w) h = sets_ok (meaning q b v) (meaning q b w) union
  value_ok b (Minus v w) h = sets_ok (meaning q b v) (meaning q b w) minus
  value_ok b (Meet v w) h = sets_ok (meaning q b v) (meaning q b w) meet

  values_ok : (b : List RuleValue) (args : List ValueExpr) → BindingsOk b → BindingsOk (values_of q b args)
  values_ok b [] h = tt
  values_ok b (e ∷ args) h = (value_ok b e h, values_ok b args h)

  member_ok : (r : Range) (n : ℕ) → ValueOk (member_at r n)
  unfolding ValueOk
  member_ok (range.Indexes t) n = tt
  member_ok range.Sites n = tt
  member_ok (range.Members v) n = tt
  member_ok (range.Each v) n = tt

  -- ---- numbers of members

  few_indexes : WellFormedQuery q → length q.catalogue.indexes ≤ 64
  few_indexes w = w.catalogue.few_indexes

  few_sites : WellFormedQuery q → length q.catalogue.sites ≤ 8
  few_sites w = w.catalogue.few_sites

  numbers_below : WellFormedQuery q → (b : List RuleValue) (r : Range) → Every (λ m. m < 64) (numbers_of q b r)
  numbers_below w b (range.Indexes t) = kept_below (is_index_on q (as_stream (meaning q b t)).tables) 64 0 (length q.catalogue.indexes) (omega (arith, few_indexes w))
  numbers_below w b range.Sites = range_below 64 0 (length q.catalogue.sites) (omega (arith, few_sites w))
  numbers_below w b (range.Members v) = weaker (members _) (members_below _)
  numbers_below w b (range.Each v) = weaker (members _) (members_below _)

  -- the bindings of a reference, its for-all values, and their number
  record BoundOk (fs : List ForAll) (picks : List ℕ) (c : List RuleValue) : Type 0 where
    count : length picks ≡ length fs
    counted : Every IsCounted picks
    bindings : BindingsOk c

  not_zero : (n : ℕ) → not (nat_eq n 0) ≡ true → 1 ≤ n
  not_zero zero e = cc
  not_zero (suc n) e = omega arith

  bound_ok : WellFormedQuery q → (fs : List ForAll) (picks : List ℕ) (b c : List RuleValue) → BindingsOk b → bound q fs picks b ≡ Some c → BoundOk fs picks c
  bound_ok w [] [] b c h e = let same : b ≡ c = cc in record { count = refl; counted = tt; bindings = subst BindingsOk same h }
  bound_ok w [] (n ∷ ns) b c h e = cc
  bound_ok w (f ∷ fs) [] b c h e = cc
  bound_ok w (f ∷ fs) (n ∷ ns) b c h e =
      let t = taken (not (nat_eq n 0) && list_any (nat_eq (n - 1)) (numbers_of q b f.range)) (bound q fs ns (b ++ member_at f.range (n - 1) ∷ [])) c e in
      let p = and_parts _ _ t.0 in
      let low = not_zero n p.0 in
      let high = any_below 64 (n - 1) (numbers_of q b f.range) (numbers_below w b f.range) p.1 in
      let more = bound_ok w fs ns (b ++ member_at f.range (n - 1) ∷ []) c (every_both ValueOk b (member_at f.range (n - 1) ∷ []) h (member_ok f.range (n - 1), tt)) t.1 in
      record { count = ap suc more.count; counted = ((low, omega (arith, high)), more.counted); bindings = more.bindings }

-- ---- what a node stands against

Ok : Expected → Type 0
Ok ForQuery = Unit {0}
Ok (ForGoal s j) = IsMask s × IsMask j
Ok (Call star b) = IsWord star × BindingsOk b
Ok (Expression e b) = BodyOk e × BindingsOk b

due_of : Expected → Bool
due_of (ForGoal s j) = true
due_of _ = false

-- a tree that stands against x can be written there
record Fine (tree : Deriv) (x : Expected) : Type 0 where
  each : Every IsStep (steps tree)
  named : Every NamesWord (steps tree)
  inputs : HasInputs tree
  order : (later : List Step) → InOrder false later → InOrder (due_of x) (steps tree ++ later)

crossing_below : (q : Query) (s : ℕ) → crossing q s < 2 ^ 32
unfolding crossing
crossing_below q s = set_of-lt _

meet_below : (s t : ℕ) → t < 2 ^ 32 → meet s t < 2 ^ 32
unfolding meet
meet_below s t low = omega (arith, and_le_r s t)

parts_below : (a b s : ℕ) → union a b ≡ s → meet a b ≡ 0 → s < 2 ^ 32 → IsMask a × IsMask b
unfolding union meet
parts_below a b s h k low = let sum = or_add_and a b in (omega (arith, sum, h, k), omega (arith, sum, h, k))

-- ---- the form of each node against x

-- a Glue: against the query, or a Glue expression
record GlueFits (x : Expected) (g : Require × Expected) : Type 0 where
  due : due_of x ≡ false
  below : Ok g.1
  goal : due_of g.1 ≡ true

glue_fits : (q : Query) (x : Expected) (g : Require × Expected) → Ok x → glue_of q x ≡ Some g → GlueFits x g
unfolding Ok due_of BodyOk
glue_fits q ForQuery g h e =
    let same = some_is _ _ e in
    subst (GlueFits ForQuery) same (record { due = refl; below = (set_of-lt _, omega arith); goal = refl })
glue_fits q (ForGoal s j) g h e = cc
glue_fits q (Call star b) g h e = cc
glue_fits q (Expression (plan.Glue t p) b) g h e =
    let same = some_is _ _ e in
    subst (GlueFits (Expression (plan.Glue t p) b)) same (record { due = refl; below = (stream_ok (meaning q b t) (value_ok q b t h.1), meet_below _ _ (crossing_below q _)); goal = refl })
glue_fits q (Expression (plan.Reference star args) b) g h e = cc
glue_fits q (Expression (plan.Leaf f args) b) g h e = cc
glue_fits q (Expression (plan.Unary' f args _ _) b) g h e = cc
glue_fits q (Expression (plan.Binary' f args _ _ _ _) b) g h e = cc

-- a goal node: against its goal
record GoalFits (g : model.Goal) (split : Option (ℕ × ℕ)) (x y : Expected) : Type 0 where
  due : due_of x ≡ true
  step : IsStep (Goal g split)
  below : Ok y
  body : due_of y ≡ false

root_ok : (s j : ℕ) (split : Option (ℕ × ℕ)) → IsMask s → may_split s split ≡ true → AreMasks split × Ok (root_call s j split) × (due_of (root_call s j split) ≡ false)
unfolding Ok due_of ValueOk
root_ok s j None low m = (tt, (given_word (codes "AccessRoot") refl, (low, (tt, tt))), refl)
root_ok s j (Some p) low m =
    let c = and_parts _ _ (and_parts _ _ (and_parts _ _ m).0).0 in
    let b = and_parts _ _ c.0 in
    let parts = parts_below p.0 p.1 s (eqb-true _ _ b.1) (eqb-true _ _ c.1) low in
    (parts, (given_word (codes "JoinRoot") refl, (parts.0, (parts.1, (tt, tt)))), refl)

goal_fits : (g : model.Goal) (split : Option (ℕ × ℕ)) (x y : Expected) → Ok x → goal_body g split x ≡ Some y → GoalFits g split x y
unfolding Ok due_of
goal_fits g split (ForGoal s j) y h e =
    let t = taken (nat_eq g.tables s && nat_eq g.pushed j && may_split s split) (Some (root_call s j split)) y e in
    let p = and_parts _ _ t.0 in
    let r = and_parts _ _ p.0 in
    let tables = eqb-true g.tables s r.0 in
    let pushed = eqb-true g.pushed j r.1 in
    let root = root_ok s j split h.0 p.1 in
    let same = some_is _ _ t.1 in
    record { due = refl; step = (omega (arith, tables, h.0), omega (arith, pushed, h.1), root.0); below = subst Ok same root.1; body = ap due_of (sym same) ∙ root.2 }
goal_fits g split ForQuery y h e = cc
goal_fits g split (Call star b) y h e = cc
goal_fits g split (Expression e0 b) y h e = cc

-- a reference: against a call, or a reference expression
call_fits : (q : Query) (x : Expected) (call : List ℕ × List RuleValue) → Ok x → as_call q x ≡ Some call → (due_of x ≡ false) × IsWord call.0 × BindingsOk call.1
unfolding Ok due_of BodyOk
call_fits q (Call star b) call h e = let same = some_is _ _ e in (refl, subst (λ (c : List ℕ × List RuleValue). IsWord c.0) same h.0, subst (λ (c : List ℕ × List RuleValue). BindingsOk c.1) same h.1)
call_fits q (Expression (plan.Reference star args) b) call h e =
    let same = some_is _ _ e in (refl, subst (λ (c : List ℕ × List RuleValue). IsWord c.0) same h.0, subst (λ (c : List ℕ × List RuleValue). BindingsOk c.1) same (values_ok q b args h.1))
call_fits q ForQuery call h e = cc
call_fits q (ForGoal s j) call h e = cc
call_fits q (Expression (plan.Glue t p) b) call h e = cc
call_fits q (Expression (plan.Leaf f args) b) call h e = cc
call_fits q (Expression (plan.Unary' f args _ _) b) call h e = cc
call_fits q (Expression (plan.Binary' f args _ _ _ _) b) call h e = cc

found_ok : {A : Type 0} (P : A → Type 0) (test : A → Bool) (xs : List A) (x : A) → Every P xs → find test xs ≡ Some x → P x
found_ok P test [] x h e = cc
found_ok {A} P test (y ∷ xs) x h e = at (test y) e (found_ok P test xs x h.1) where
  at : (b : Bool) → cond b (Some y) (find test xs) ≡ Some x → (find test xs ≡ Some x → P x) → P x
  at true f later = subst P (some_is _ _ f) h.0
  at false f later = later f

at_number : {A : Type 0} (P : A → Type 0) (xs : List A) (n : ℕ) (x : A) → Every P xs → slice_get xs n ≡ Some x → P x × (n < length xs)
at_number P [] n x h e = cc
at_number P (y ∷ xs) zero x h e = (subst P (some_is _ _ e) h.0, omega arith)
at_number P (y ∷ xs) (suc n) x h e = let later = at_number P xs n x h.1 e in (later.0, omega (arith, later.1))

above_zero : (n : ℕ) → nat_eq n 0 ≡ false → 1 ≤ n
above_zero zero e = cc
above_zero (suc n) e = omega arith

numbered_ok : {A : Type 0} (P : A → Type 0) (xs : List A) (n : ℕ) (x : A) → Every P xs → numbered xs n ≡ Some x → P x × (1 ≤ n) × (n ≤ length xs)
numbered_ok {A} P xs n x h e = at (nat_eq n 0) refl e where
  at : (b : Bool) → nat_eq n 0 ≡ b → (if b then None else slice_get xs (n - 1)) ≡ Some x → P x × (1 ≤ n) × (n ≤ length xs)
  at true is f = cc
  at false is f =
      let low = above_zero n is in
      let found = at_number P xs (n - 1) x h f in
      (found.0, low, omega (arith, found.1, low))

alternative_ok : (rules : RuleFile) (star : List ℕ) (k : ℕ) (a : Alternative) → Every StarOk rules.stars → alternative_of rules star k ≡ Some a → AlternativeOk a × IsCounted k
alternative_ok rules star k a ok e =
    option_and_then_some (λ s. numbered s.alternatives k) (star_named rules star) a e (λ s found f.
    let star_ = found_ok StarOk (λ s. same_numbers s.name star) rules.stars s ok found in
    let n = numbered_ok AlternativeOk s.alternatives k a star_.alternatives f in
    (n.0, (n.1, omega (arith, n.2, star_.few))))

record ReferenceFits (star : List ℕ) (k : ℕ) (picks : List ℕ) (x y : Expected) : Type 0 where
  due : due_of x ≡ false
  step : IsStep (Reference star k picks)
  word : IsWord star
  below : Ok y
  body : due_of y ≡ false

body_fits : (q : Query) (rules : RuleFile) → WellFormedQuery q → Every StarOk rules.stars → (star : List ℕ) (b : List RuleValue) (k : ℕ) (picks : List ℕ) (y : Expected) → BindingsOk b → body_of q rules star b k picks ≡ Some y
    → IsStep (Reference star k picks) × Ok y × (due_of y ≡ false)
unfolding Ok due_of
body_fits q rules w ok star b k picks y h e =
    option_and_then_some (λ a. option_and_then (λ c. if meets q c a.condition then Some (Expression a.body c) else None) (bound q a.ranges picks b)) (alternative_of rules star k) y e (λ a found f.
    option_and_then_some (λ c. if meets q c a.condition then Some (Expression a.body c) else None) (bound q a.ranges picks b) y f (λ c bindings g.
    let alternative = alternative_ok rules star k a ok found in
    let inside = bound_ok q w a.ranges picks b c h bindings in
    let t = taken (meets q c a.condition) (Some (Expression a.body c)) y g in
    let same = some_is _ _ t.1 in
    ((alternative.1, omega (arith, inside.count, alternative.0.few), inside.counted), subst Ok same (alternative.0.body, inside.bindings), ap due_of (sym same))))

reference_fits : (q : Query) (rules : RuleFile) → WellFormedQuery q → Every StarOk rules.stars → (star : List ℕ) (k : ℕ) (picks : List ℕ) (x y : Expected) → Ok x → reference_body q rules star k picks x ≡ Some y → ReferenceFits star k picks x y
reference_fits q rules w ok star k picks x y h e =
    option_and_then_some (λ call. if same_numbers star call.0 then body_of q rules star call.1 k picks else None) (as_call q x) y e (λ call found f.
    let c = call_fits q x call h found in
    let t = taken (same_numbers star call.0) (body_of q rules star call.1 k picks) y f in
    let name = same_text star call.0 (sym t.0) in
    let b = body_fits q rules w ok star call.1 k picks y c.2 t.1 in
    record { due = c.0; step = b.0; word = subst IsWord (sym name) c.1; below = b.1; body = b.2 })

-- an operator: against an expression that is one
leaf_fits : (q : Query) (f : Flavour) (x : Expected) (o : Op) → Ok x → as_leaf q f x ≡ Some o → (due_of x ≡ false) × (inputs_of f ≡ 0)
unfolding Ok due_of BodyOk leaf_of
leaf_fits q f (Expression (plan.Leaf g args) b) o h e =
    option_and_then_some _ (leaf_of f (plan.Leaf g args)) o e (λ a found _. let t = taken (same_flavour f g) (Some args) a found in (refl, same_inputs f g t.0 ∙ h.0))
leaf_fits q f (Expression (plan.Reference star args) b) o h e = cc
leaf_fits q f (Expression (plan.Glue t p) b) o h e = cc
leaf_fits q f (Expression (plan.Unary' g args _ _) b) o h e = cc
leaf_fits q f (Expression (plan.Binary' g args _ _ _ _) b) o h e = cc
leaf_fits q f ForQuery o h e = cc
leaf_fits q f (ForGoal s j) o h e = cc
leaf_fits q f (Call star b) o h e = cc

record UnaryFits (f : Flavour) (x y : Expected) : Type 0 where
  due : due_of x ≡ false
  inputs : inputs_of f ≡ 1
  below : Ok y
  body : due_of y ≡ false

unary_fits : (q : Query) (f : Flavour) (x : Expected) (y : Op × Expected) → Ok x → as_unary q f x ≡ Some y → UnaryFits f x y.1
unfolding Ok due_of BodyOk unary_of
unary_fits q f (Expression (expr.Unary g args e0) b) y h e =
    option_and_then_some _ (unary_of f (expr.Unary g args e0)) y e (λ a found k.
    let t = taken (same_flavour f g) (Some (args, e0)) a found in
    let part = some_is _ _ t.1 in
    let same = some_is _ _ k in
    subst (λ (z : Op × Expected). UnaryFits f (Expression (expr.Unary g args e0) b) z.1) same
    (subst (λ (z : List ValueExpr × PlanExpr). UnaryFits f (Expression (expr.Unary g args e0) b) (Expression z.1 b)) part
    (record { due = refl; inputs = same_inputs f g t.0 ∙ h.0.0; below = (h.0.1, h.1); body = refl })))
unary_fits q f (Expression (plan.Reference star args) b) y h e = cc
unary_fits q f (Expression (plan.Glue t p) b) y h e = cc
unary_fits q f (Expression (plan.Leaf g args) b) y h e = cc
unary_fits q f (Expression (plan.Binary' g args _ _ _ _) b) y h e = cc
unary_fits q f ForQuery y h e = cc
unary_fits q f (ForGoal s j) y h e = cc
unary_fits q f (Call star b) y h e = cc

record BinaryFits (f : Flavour) (x y z : Expected) : Type 0 where
  due : due_of x ≡ false
  inputs : inputs_of f ≡ 2
  left : Ok y
  right : Ok z
  left_due : due_of y ≡ false
  right_due : due_of z ≡ false

binary_fits : (q : Query) (f : Flavour) (x : Expected) (y : Op × Expected × Expected) → Ok x → as_binary q f x ≡ Some y → BinaryFits f x y.1 y.2
unfolding Ok due_of BodyOk binary_of
binary_fits q f (Expression (expr.Binary g args e0 e1) b) y h e =
    option_and_then_some _ (binary_of f (expr.Binary g args e0 e1)) y e (λ a found k.
    let t = taken (same_flavour f g) (Some (args, e0, e1)) a found in
    let part = some_is _ _ t.1 in
    let same = some_is _ _ k in
    subst (λ (z : Op × Expected × Expected). BinaryFits f (Expression (expr.Binary g args e0 e1) b) z.1 z.2) same
    (subst (λ (z : List ValueExpr × PlanExpr × PlanExpr). BinaryFits f (Expression (expr.Binary g args e0 e1) b) (Expression z.1 b) (Expression z.2 b)) part
    (record { due = refl; inputs = same_inputs f g t.0 ∙ h.0.0; left = (h.0.1, h.1); right = (h.0.2, h.1); left_due = refl; right_due = refl })))
binary_fits q f (Expression (plan.Reference star args) b) y h e = cc
binary_fits q f (Expression (plan.Glue t p) b) y h e = cc
binary_fits q f (Expression (plan.Leaf g args) b) y h e = cc
binary_fits q f (Expression (plan.Unary' g args _ _) b) y h e = cc
binary_fits q f ForQuery y h e = cc
binary_fits q f (ForGoal s j) y h e = cc
binary_fits q f (Call star b) y h e = cc

-- ---- a node over what stands below it

glue_fine : (chain : List GlueOp) (t : Deriv) (x y : Expected) → due_of x ≡ false → length chain ≤ 3 → due_of y ≡ true → Fine t y → Fine (d.Glue chain t) x
unfolding steps HasInputs
glue_fine chain t x y due short below f = record {
  each = (short, f.each);
  named = (tt, f.named);
  inputs = f.inputs;
  order = λ later o. (sym due, subst (λ b. InOrder b (steps t ++ later)) below (f.order later o));
}

goal_fine : (g : model.Goal) (split : Option (ℕ × ℕ)) (t : Deriv) (x y : Expected) → due_of x ≡ true → IsStep (Goal g split) → due_of y ≡ false → Fine t y → Fine (d.Goal g split t) x
unfolding steps HasInputs
goal_fine g split t x y due step below f = record {
  each = (step, f.each);
  named = (tt, f.named);
  inputs = f.inputs;
  order = λ later o. (sym due, subst (λ b. InOrder b (steps t ++ later)) below (f.order later o));
}

reference_fine : (star : List ℕ) (k : ℕ) (picks : List ℕ) (t : Deriv) (x y : Expected) → due_of x ≡ false → IsStep (Reference star k picks) → IsWord star → due_of y ≡ false → Fine t y → Fine (d.Reference star k picks t) x
unfolding steps HasInputs
reference_fine star k picks t x y due step word below f = record {
  each = (step, f.each);
  named = (word, f.named);
  inputs = f.inputs;
  order = λ later o. (sym due, subst (λ b. InOrder b (steps t ++ later)) below (f.order later o));
}

leaf_fine : (f : Flavour) (x : Expected) → due_of x ≡ false → inputs_of f ≡ 0 → Fine (made.Leaf f) x
unfolding steps HasInputs
leaf_fine f x due inputs = record { each = (tt, tt); named = (tt, tt); inputs = inputs; order = λ later o. (sym due, o) }

unary_fine : (f : Flavour) (t : Deriv) (x y : Expected) → due_of x ≡ false → inputs_of f ≡ 1 → due_of y ≡ false → Fine t y → Fine (d.Unary f t) x
unfolding steps HasInputs
unary_fine f t x y due inputs below g = record {
  each = (tt, g.each);
  named = (tt, g.named);
  inputs = (inputs, g.inputs);
  order = λ later o. (sym due, subst (λ b. InOrder b (steps t ++ later)) below (g.order later o));
}

binary_fine : (f : Flavour) (t u : Deriv) (x y z : Expected) → due_of x ≡ false → inputs_of f ≡ 2 → due_of y ≡ false → due_of z ≡ false → Fine t y → Fine u z → Fine (d.Binary f t u) x
unfolding steps HasInputs
binary_fine f t u x y z due inputs left right g k = record {
  each = (tt, every_both IsStep (steps t) (steps u) g.each k.each);
  named = (tt, every_both NamesWord (steps t) (steps u) g.named k.named);
  inputs = (inputs, g.inputs, k.inputs);
  order = λ later o. (
    sym due,
    subst (InOrder false) (sym (append_assoc (steps t) (steps u) later))
        (subst (λ b. InOrder b (steps t ++ (steps u ++ later))) left (g.order (steps u ++ later) (subst (λ b. InOrder b (steps u ++ later)) right (k.order later o)))),
  );
}

-- ---- the whole tree

module _ (q : Query) (rules : RuleFile) (w : WellFormedQuery q) (ok : Every StarOk rules.stars) where
  fine : (tree : Deriv) (x : Expected) → Ok x → is_valid q rules tree x ≡ true → Fine tree x
  unfolding is_valid plan_of
  fine (d.Glue chain t) x h e =
      fits_some (as_glue q chain x) _ e (λ g found both_.
      option_and_then_some (λ g0. if is_chain g0.0 chain then Some g0 else None) (glue_of q x) g found (λ g0 of_ c.
      let t' = taken (is_chain g0.0 chain) (Some g0) g c in
      let fit = subst (GlueFits x) (some_is _ _ t'.1) (glue_fits q x g0 h of_) in
      glue_fine chain t x g.1 fit.due (short_chain g0.0 chain t'.0) fit.goal (fine t g.1 fit.below (and_parts _ _ both_).0)))
  fine (d.Goal g split t) x h e =
      fits_some (goal_body g split x) _ e (λ y found both_.
      let fit = goal_fits g split x y h found in
      goal_fine g split t x y fit.due fit.step fit.body (fine t y fit.below (and_parts _ _ both_).0))
  fine (d.Reference star k picks t) x h e =
      fits_some (reference_body q rules star k picks x) _ e (λ y found valid.
      let fit = reference_fits q rules w ok star k picks x y h found in
      reference_fine star k picks t x y fit.due fit.step fit.word fit.body (fine t y fit.below valid))
  fine (made.Leaf f) x h e =
      fits_some (option_and_then (vector q (costs_of rules)) (plan_of q rules (made.Leaf f) x)) _ e (λ v found _.
      option_and_then_some (vector q (costs_of rules)) (plan_of q rules (made.Leaf f) x) v found (λ p planned _.
      option_and_then_some _ (as_leaf q f x) p planned (λ o leaf _.
      let fit = leaf_fits q f x o h leaf in leaf_fine f x fit.0 fit.1)))
  fine (d.Unary f t) x h e =
      fits_some (as_unary q f x) _ e (λ y found both_.
      let fit = unary_fits q f x y h found in
      unary_fine f t x y.1 fit.due fit.inputs fit.body (fine t y.1 fit.below (and_parts _ _ both_).0))
  fine (d.Binary f t u) x h e =
      fits_some (as_binary q f x) _ e (λ y found both_.
      let fit = binary_fits q f x y h found in
      let p = and_parts _ _ (and_parts _ _ both_).0 in
      binary_fine f t u x y.1 y.2 fit.due fit.inputs fit.left_due fit.right_due (fine t y.1 fit.left p.0) (fine u y.2 fit.right p.1))

  glue_writable : (chain : List GlueOp) (t : Deriv) → length chain ≤ 3 → Fine t (query_goal q) → IsWritable (d.Glue chain t) × Every NamesWord (steps (d.Glue chain t))
  unfolding steps HasInputs due_of
  glue_writable chain t short f = (
    record {
      each = (short, f.each);
      begins = refl;
      order = (refl, subst (InOrder true) (append-nil (steps t)) (f.order [] tt));
      inputs = f.inputs;
    },
    (tt, f.named),
  )

  root_writable : (tree : Deriv) (v : Props) → IsRoot q rules tree v → IsWritable tree × Every NamesWord (steps tree)
  unfolding Ok
  root_writable tree v r =
      let f = fine r.goal_node (query_goal q) (set_of-lt _, omega arith) r.valid in
      subst (λ t. IsWritable t × Every NamesWord (steps t)) (sym r.glue) (glue_writable r.chain r.goal_node (short_chain _ r.chain r.one_of_chains) f)

pub root_can_be_written : (q : Query) (rules : RuleFile) → WellFormedQuery q → (text : List ℕ) → SpellsRules text rules → KeepsCounts rules → (tree : Deriv) (v : Props) → IsRoot q rules tree v
    → IsWritable tree × Every NamesWord (steps tree)
root_can_be_written q rules w text spelled counts tree v r = root_writable q rules w (spelled_stars text rules spelled counts) tree v r

-- the canonical text of a root derivation spells it, behind a comment too
pub plan_text_spells : (q : Query) (rules : RuleFile) → WellFormedQuery q → (text : List ℕ) → SpellsRules text rules → KeepsCounts rules → (tree : Deriv) (v : Props) → IsRoot q rules tree v
    → (line : List ℕ) → AllPass in_comment line → SpellsDerivation (commented line (canonical tree)) tree
plan_text_spells q rules w text spelled counts tree v r line none =
    let p = root_can_be_written q rules w text spelled counts tree v r in commented_derivation line tree none p.0 p.1
