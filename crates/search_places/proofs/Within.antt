-- How a search goes on from a place to the places below it.
use Prim.Native.Nat.{zero, suc}
use Rattle.std.proofs.Common.{◌≡◌, ℕ, ◌+◌, ◌<◌, Bool, true, List, [], ◌∷◌, ◌++◌, Option, Some, None, refl, ap, sym, ◌∙◌, subst, arith, map, append_assoc, append-nil, length-append, if◌then◌else◌}
use Rattle.std.proofs.lemmas.List.Elements.{Contains-append_right}
use Rattle.std.specs.Prelude.{Contains, option_and_then}
use Rattle.star_model.specs.AskedGoals.{Below, Leads}
use Rattle.star_model.specs.Expected.{Expected, ForGoal, Call, Expression, bound, meets, body_of, may_split, root_call, values_of}
use Rattle.star_model.specs.PlanExprCases as expr
use Rattle.star_model.specs.PlanExprCases.{made-Unary, made-Binary}
use Rattle.star_model.specs.declared.rules.PlanExpr.TheVariants as made
use Rattle.star_model.specs.declared.rules.Flavour.{Flavour}
use Rattle.star_model.specs.declared.rules.PlanExpr.{PlanExpr}
use Rattle.star_model.specs.declared.rules.ValueExpr.{ValueExpr}
use Rattle.star_model.specs.Meaning.{numbers_of, member_at}
use Rattle.star_model.specs.declared.rules.Alternative.{Alternative}
use Rattle.star_model.specs.declared.rules.ForAll.{ForAll}
use Rattle.star_model.specs.declared.values.RuleValue.{RuleValue}
use Rattle.star_check.proofs.Laws.{leads_further}
use Rattle.exchange.proofs.Laws.{bound_step}
use Rattle.search_places.specs.Roots.{root_of_split}
use Rattle.star_value.specs.Roots.{root_values}
use Rattle.search_places.specs.declared.search.Search.{Search}
use Rattle.search_places.specs.Searching.{LeadsTo, IsWithin, work_at, work_in}
use Rattle.search_places.proofs.Down.{input_is_less, left_is_less, right_is_less, call_is_less}

-- all names are bound, and the condition holds
pub to_body : (s : Search) (star : List ℕ) (n : ℕ) (a : Alternative) (picked : List ℕ) (c : List RuleValue) → IsWithin s star n a [] picked c → meets s.query.now c a.condition ≡ true
    → LeadsTo s (Expression a.body c)
to_body s star n a picked c w ok =
    let whole : bound s.query.now a.ranges picked w.call ≡ Some c = ap (λ ps. bound s.query.now a.ranges ps w.call) (sym (append-nil picked)) ∙ sym (w.bindings []) in
    let body : body_of s.query.now s.rules.now star w.call n picked ≡ Some (Expression a.body c) =
    ap (option_and_then (λ (a : Alternative). option_and_then (λ (c : List RuleValue). if meets s.query.now c a.condition then Some (Expression a.body c) else None) (bound s.query.now a.ranges picked w.call))) w.found
    ∙ ap (option_and_then (λ (c : List RuleValue). if meets s.query.now c a.condition then Some (Expression a.body c) else None)) whole
    ∙ ap (λ (t : Bool). if t then Some (Expression a.body c) else None) ok in
    leads_further s.query.now s.rules.now (ForGoal s.goal.tables s.goal.pushed) (Call star w.call) (Expression a.body c) w.leads (Below.by_alternative star w.call n picked (Expression a.body c) body)

-- the next name is bound
pub one_bound : (s : Search) (star : List ℕ) (n : ℕ) (a : Alternative) (f : ForAll) (fs : List ForAll) (picked : List ℕ) (c : List RuleValue) → IsWithin s star n a (f ∷ fs) picked c → (m : ℕ)
    → Contains (numbers_of s.query.now c f.range) m → IsWithin s star n a fs (picked ++ (m + 1) ∷ []) (c ++ member_at f.range m ∷ [])
one_bound s star n a f fs picked c w m among = record {
  call = w.call;
  leads = w.leads;
  found = w.found;
  bindings = λ more. sym (bound_step s.query.now f fs m more c among) ∙ w.bindings ((m + 1) ∷ more) ∙ ap (λ ps. bound s.query.now a.ranges ps w.call) (sym (append_assoc picked ((m + 1) ∷ []) more));
  room = (let room = w.room in let l = length-append c (member_at f.range m ∷ []) in omega (arith, room, l));
  numbers = (let numbers = w.numbers in let l = length-append picked ((m + 1) ∷ []) in omega (arith, numbers, l));
}

-- a number of the list, each of whose numbers stands with its member
among_numbered : {A : Type 0} (at : ℕ → A) (ns : List ℕ) (m : ℕ) (v : A) → Contains {X = ℕ × A} (map (λ n. (n, at n)) ns) (m, v) → Contains ns m × (at m ≡ v)
among_numbered at [] m v (k, below, is) = let no : ⊥ = omega (arith, below) in absurd no
among_numbered {A} at (n ∷ ns) m v (zero, below, is) =
    let same : n ≡ m = ap (λ (p : ℕ × A). p.0) is in
    let value : at n ≡ v = ap (λ (p : ℕ × A). p.1) is in
    ((0, omega arith, same), ap at (sym same) ∙ value)
among_numbered at (n ∷ ns) m v (suc k, below, is) =
    let later = among_numbered at ns m v (k, omega (arith, below), is) in
    ((suc later.0.0, (let b = later.0.1 in omega (arith, b)), later.0.2), later.1)

-- the next name is bound to the next member of its range, of whose members some were seen
pub member_bound : (s : Search) (star : List ℕ) (n : ℕ) (a : Alternative) (f : ForAll) (fs : List ForAll) (picked : List ℕ) (c : List RuleValue) → IsWithin s star n a (f ∷ fs) picked c
    → (seen left later : List (ℕ × RuleValue)) (m : ℕ) (v : RuleValue) (numbers : List ℕ) (next : List RuleValue) → map (λ m. (m, member_at f.range m)) (numbers_of s.query.now c f.range) ≡ seen ++ left → left ≡ (m, v) ∷ later
    → numbers ≡ picked ++ (m + 1) ∷ [] → next ≡ c ++ v ∷ [] → IsWithin s star n a fs numbers next
member_bound s star n a f fs picked c w seen left later m v numbers next all at is_numbers is_next =
    let whole : map (λ m. (m, member_at f.range m)) (numbers_of s.query.now c f.range) ≡ seen ++ (m, v) ∷ later = all ∙ ap (λ (xs : List (ℕ × RuleValue)). seen ++ xs) at in
    let there = subst (λ (xs : List (ℕ × RuleValue)). Contains {X = ℕ × RuleValue} xs (m, v)) (sym whole) (Contains-append_right {X = ℕ × RuleValue} seen ((m, v) ∷ later) (m, v) (0, omega arith, refl)) in
    let among = among_numbered (member_at f.range) (numbers_of s.query.now c f.range) m v there in
    let bound = one_bound s star n a f fs picked c w m among.0 in
    subst (λ (ns : List ℕ). IsWithin s star n a fs ns next) (sym is_numbers)
    (subst (λ (vs : List RuleValue). IsWithin s star n a fs (picked ++ (m + 1) ∷ []) vs) (ap (λ (u : RuleValue). c ++ u ∷ []) among.1 ∙ sym is_next) bound)

-- ---- the parts of expressions, each with less work

further : (s : Search) (x y : Expected) → LeadsTo s x → Below s.query.now s.rules.now x y → LeadsTo s y
further s x y leads below = leads_further s.query.now s.rules.now (ForGoal s.goal.tables s.goal.pushed) x y leads below

-- of an expression that the code has as e, a part that it has as p
part_of : (s : Search) (e whole p part : PlanExpr) (b : List RuleValue) → e ≡ whole → p ≡ part → LeadsTo s (Expression e b) → Below s.query.now s.rules.now (Expression whole b) (Expression part b)
    → work_at s.rules.now part < work_at s.rules.now whole → (work_at s.rules.now p < work_at s.rules.now e) × LeadsTo s (Expression p b)
part_of s e whole p part b is same leads below less = (
  subst (λ (x : PlanExpr). work_at s.rules.now p < work_at s.rules.now x) (sym is) (subst (λ (x : PlanExpr). work_at s.rules.now x < work_at s.rules.now whole) (sym same) less),
  subst (λ (x : PlanExpr). LeadsTo s (Expression x b)) (sym same) (further s (Expression whole b) (Expression part b) (subst (λ (x : PlanExpr). LeadsTo s (Expression x b)) is leads) below),
)

pub input_part : (s : Search) (e : PlanExpr) (f : Flavour) (args : List ValueExpr) (input part : PlanExpr) (b : List RuleValue) → e ≡ made.Unary f args input → part ≡ input → LeadsTo s (Expression e b)
    → (work_at s.rules.now part < work_at s.rules.now e) × LeadsTo s (Expression part b)
input_part s e f args input part b is same leads =
    part_of s e (expr.Unary f args input) part input b (is ∙ made-Unary f args input) same leads (Below.by_input f args input b) (input_is_less s.rules.now f args input)

pub left_part : (s : Search) (e : PlanExpr) (f : Flavour) (args : List ValueExpr) (left right part : PlanExpr) (b : List RuleValue) → e ≡ made.Binary f args left right → part ≡ left → LeadsTo s (Expression e b)
    → (work_at s.rules.now part < work_at s.rules.now e) × LeadsTo s (Expression part b)
left_part s e f args left right part b is same leads =
    part_of s e (expr.Binary f args left right) part left b (is ∙ made-Binary f args left right) same leads (Below.by_left f args left right b) (left_is_less s.rules.now f args left right)

pub right_part : (s : Search) (e : PlanExpr) (f : Flavour) (args : List ValueExpr) (left right part : PlanExpr) (b : List RuleValue) → e ≡ made.Binary f args left right → part ≡ right → LeadsTo s (Expression e b)
    → (work_at s.rules.now part < work_at s.rules.now e) × LeadsTo s (Expression part b)
right_part s e f args left right part b is same leads =
    part_of s e (expr.Binary f args left right) part right b (is ∙ made-Binary f args left right) same leads (Below.by_right f args left right b) (right_is_less s.rules.now f args left right)

-- the call of a reference's STAR
pub reference_part : (s : Search) (e : PlanExpr) (star : List ℕ) (args : List ValueExpr) (b values : List RuleValue) → e ≡ made.Reference star args → values ≡ values_of s.query.now b args
    → LeadsTo s (Expression e b) → (work_in s.rules.now star 9 < work_at s.rules.now e) × LeadsTo s (Call star values)
reference_part s e star args b values is are leads = (
  subst (λ (x : PlanExpr). work_in s.rules.now star 9 < work_at s.rules.now x) (sym is) (call_is_less s.rules.now star args),
  subst (λ (vs : List RuleValue). LeadsTo s (Call star vs)) (sym are)
      (further s (Expression (made.Reference star args) b) (Call star (values_of s.query.now b args)) (subst (λ (x : PlanExpr). LeadsTo s (Expression x b)) is leads) (Below.by_reference star args b)),
)

-- ---- the call of a root

pub root_is_called : (s j : ℕ) (split : Option (ℕ × ℕ)) → root_call s j split ≡ Call (root_of_split split) (root_values s j split)
root_is_called s j None = refl
root_is_called s j (Some p) = refl

pub to_root : (s : Search) (split : Option (ℕ × ℕ)) → may_split s.goal.tables split ≡ true → LeadsTo s (Call (root_of_split split) (root_values s.goal.tables s.goal.pushed split))
to_root s split may =
    subst (LeadsTo s) (root_is_called s.goal.tables s.goal.pushed split)
    (further s (ForGoal s.goal.tables s.goal.pushed) (root_call s.goal.tables s.goal.pushed split) (Leads.here (ForGoal s.goal.tables s.goal.pushed)) (Below.by_split s.goal.tables s.goal.pushed split may))
