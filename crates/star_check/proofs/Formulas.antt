-- Which operators are used, and which lack a formula.
use Rattle.std.proofs.Common.{◌≡◌, ℕ, ◌+◌, ◌<◌, ◌≤◌, ◌≢◌, lit<, length, Bool, true, false, ◌||◌, if◌then◌else◌, List, [], ◌∷◌, map, refl, sym, ap, ◌∙◌, arith}
use Rattle.std.specs.Prelude.{Option, Some, None, is_none, not, ◌&&◌}
use Rattle.std.specs.List.{list_any, flat_map, find}
use Rattle.star_model.specs.Costs.{row_of, flavours, same_flavour, same_which, formula_of}
use Rattle.star_model.specs.Accepted.{operators_in, bodies_of, is_used, lacks_formula}
use Rattle.star_model.specs.declared.rules.Flavour.{Flavour}
use Rattle.star_model.specs.declared.rules.Flavour.TheVariants.{AccessHeap, AccessIndex, Get, Filter, Sort, Store, Ship, Probe, JoinNl, JoinMerge, JoinHash, Intersect}
use Rattle.star_model.specs.declared.rules.Which.{Which}
use Rattle.star_model.specs.declared.rules.Which.TheVariants as which
use Rattle.star_model.specs.declared.rules.FormulaDef.{FormulaDef}
use Rattle.star_model.specs.declared.rules.RuleFile.{RuleFile}
use Rattle.star_model.proofs.Laws.{one_row}
use Rattle.star_model.specs.Every.{Every}
use Rattle.star_model.specs.WellFormedRules.{IsFormulaDef}
use Rattle.star_check.specs.Offences.{HasFewNodes}
use Rattle.star_check.specs.FileFaults.{is_of_glue, IsMissingFormula}
use Rattle.std.proofs.lemmas.Bool.{false≢true}
use Rattle.star_check.proofs.Walks.{any_flat_map, any_map}

pub used : (rules : RuleFile) (f : Flavour)
    → is_used rules f ≡ (is_of_glue f || list_any (λ s. list_any (λ a. list_any (λ o. same_flavour f o.0) (operators_in a.body)) s.alternatives) rules.stars)
used rules f =
    ap (λ b. is_of_glue f || b)
    (any_flat_map (λ o. same_flavour f o.0) operators_in (flat_map bodies_of rules.stars)
    ∙ any_flat_map (λ b. list_any (λ o. same_flavour f o.0) (operators_in b)) bodies_of rules.stars
    ∙ (λ i. list_any (λ s. any_map (λ b. list_any (λ o. same_flavour f o.0) (operators_in b)) (λ a. a.body) s.alternatives i) rules.stars))

no_formula : (f : Flavour) (w : Which) (ds : List FormulaDef)
    → is_none (formula_of (map (λ d. record { flavour = d.flavour; which = d.which; formula = d.formula }) ds) f w) ≡ not (list_any (λ d. same_flavour d.flavour f && same_which d.which w) ds)
unfolding formula_of
no_formula f w [] = refl
no_formula f w (d ∷ ds) =
    elim (same_flavour d.flavour f && same_which d.which w) as
    (λ b.
    is_none (if b then Some d.formula else formula_of (map (λ e. record { flavour = e.flavour; which = e.which; formula = e.formula }) ds) f w)
    ≡ not (b || list_any (λ e. same_flavour e.flavour f && same_which e.which w) ds))
    [ true ↦ refl | false ↦ no_formula f w ds ]

pub lacking : (rules : RuleFile) (f : Flavour)
    → lacks_formula rules f
    ≡ (is_used rules f
    && (not (list_any (λ d. same_flavour d.flavour f && same_which d.which which.Cost) rules.formulas)
    || not (list_any (λ d. same_flavour d.flavour f && same_which d.which which.Rescan) rules.formulas)))
lacking rules f = λ i. is_used rules f && (no_formula f which.Cost rules.formulas i || no_formula f which.Rescan rules.formulas i)

-- ---- the first operator that lacks one

-- the operators of this list have the rows from this one on
HaveRows : ℕ → List Flavour → Type 0
HaveRows n [] = Unit {0}
HaveRows n (f ∷ fs) = (row_of f ≡ n) × HaveRows (n + 1) fs

-- an item of a row from this one on is the first, or of a row from the next on
from_next : (test : Flavour → Bool) (n : ℕ) (x g : Flavour) → row_of x ≡ n → test x ≡ false → test g ≡ true → n ≤ row_of g → n + 1 ≤ row_of g
from_next test n x g is fails passes low =
    let other : row_of g ≢ n = (λ e. let t : test g ≡ test x = ap test (one_row g x (e ∙ sym is)) in false≢true (sym fails ∙ sym t ∙ passes)) in omega (arith, other, low)

found : (test : Flavour → Bool) (n : ℕ) (fs : List Flavour) (f : Flavour) → HaveRows n fs → find test fs ≡ Some f
    → (test f ≡ true) × ((g : Flavour) → test g ≡ true → n ≤ row_of g → row_of f ≤ row_of g)
unfolding HaveRows
found test n [] f rows h = let no : ⊥ = cc in absurd no
found test n (x ∷ xs) f rows h = step (test x) refl h (found test (n + 1) xs f rows.1)
  where
    step : (b : Bool) → test x ≡ b → (if b then Some x else find test xs) ≡ Some f
        → (find test xs ≡ Some f → (test f ≡ true) × ((g : Flavour) → test g ≡ true → n + 1 ≤ row_of g → row_of f ≤ row_of g))
        → (test f ≡ true) × ((g : Flavour) → test g ≡ true → n ≤ row_of g → row_of f ≤ row_of g)
    step true is e later =
        let same : x ≡ f = cc in
        (ap test (sym same) ∙ is, (λ g passes low. let r : row_of f ≡ n = ap row_of (sym same) ∙ rows.0 in omega (arith, r, low)))
    step false is e later = ((later e).0, (λ g passes low. (later e).1 g passes (from_next test n x g rows.0 is passes low)))

none_found : (test : Flavour → Bool) (n : ℕ) (fs : List Flavour) → HaveRows n fs → find test fs ≡ None
    → (g : Flavour) → n ≤ row_of g → row_of g < n + length fs → test g ≡ true → ⊥
unfolding HaveRows
none_found test n [] rows h g low high passes = omega (arith, low, high)
none_found test n (x ∷ xs) rows h g low high passes = step (test x) refl h (λ e low'. none_found test (n + 1) xs rows.1 e g low' (omega (arith, high)) passes)
  where
    step : (b : Bool) → test x ≡ b → (if b then Some x else find test xs) ≡ None → (find test xs ≡ None → n + 1 ≤ row_of g → ⊥) → ⊥
    step true is e later = cc
    step false is e later = later e (from_next test n x g rows.0 is passes low)

rows : HaveRows 0 flavours
unfolding HaveRows
rows = (refl, (refl, (refl, (refl, (refl, (refl, (refl, (refl, (refl, (refl, (refl, (refl, tt))))))))))))

low_row : (f : Flavour) → row_of f < 12
low_row AccessHeap = lit< tt
low_row AccessIndex = lit< tt
low_row Get = lit< tt
low_row Filter = lit< tt
low_row Sort = lit< tt
low_row Store = lit< tt
low_row Ship = lit< tt
low_row Probe = lit< tt
low_row JoinNl = lit< tt
low_row JoinMerge = lit< tt
low_row JoinHash = lit< tt
low_row Intersect = lit< tt

pub missing : (rules : RuleFile) (found' : Option Flavour) → found' ≡ find (lacks_formula rules) flavours → IsMissingFormula rules found'
missing rules None h = λ f. fails_from (lacks_formula rules f) (none_found (lacks_formula rules) 0 flavours rows (sym h) f (omega arith) (low_row f))
  where
    fails_from : (b : Bool) → (b ≡ true → ⊥) → b ≡ false
    fails_from true never = absurd (never refl)
    fails_from false never = refl
missing rules (Some f) h = let first = found (lacks_formula rules) 0 flavours f rows (sym h) in (first.0, (λ g passes. first.1 g passes (omega arith)))

-- ---- formulas of few nodes

pub few_nodes : (version : ℕ) (ds : List FormulaDef) → Every (IsFormulaDef version) ds → Every HasFewNodes ds
few_nodes version [] formed = tt
few_nodes version (d ∷ ds) formed = (formed.0.formula.few_nodes, few_nodes version ds formed.1)
