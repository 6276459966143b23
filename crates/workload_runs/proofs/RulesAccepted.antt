-- The rules of workloads are accepted.
use Rattle.std.proofs.Common.{◌≡◌, ℕ, zero, suc, inl, inr, ◌⊎◌, Bool, true, false, List, [], ◌∷◌, None, Some, refl, ap, sym, ◌∙◌, codes, arith}
use Rattle.std.specs.Prelude.{Contains, length, cond, not, ◌&&◌, ◌||◌, map, nat_lt, is_some}
use Rattle.std.specs.List.{list_all, list_any, find}
use Rattle.std.specs.Cmp.Lexicographic.{same_text}
use Rattle.std.proofs.lemmas.Bool.{and_parts}
use Rattle.star_model.specs.Vectors.{same_numbers}
use Rattle.star_model.specs.Costs.{formula_of}
use Rattle.star_model.specs.Monotone.{first_offending, is_free, nodes, offends}
use Rattle.star_model.specs.Kinds.{kind_of, is_kinded}
use Rattle.star_model.specs.Accepted.{IsAccepted, Never, OfStarTest, OfFormula, Twice, Reaches, directly, further, HasGlueInAccess, is_access_root, occurs, is_unknown, is_star_twice, is_formula_twice, is_select_twice, has_wrong_arity, has_wrong_kind, bodies_of, height_of, weight_of, values_in, references_in, operators_in, glues_in, values_of_condition, variables_in, height_within, weight_within, references_of, lacks_root, lacks_formula}
use Rattle.star_model.specs.declared.rules.StarDef.{StarDef}
use Rattle.star_model.specs.declared.rules.FormulaDef.{FormulaDef}
use Rattle.star_model.specs.declared.rules.Flavour.{Flavour}
use Rattle.star_model.specs.declared.rules.Flavour.TheVariants as flavour
use Rattle.star_model.specs.declared.faults.Root.{Root}
use Rattle.star_model.specs.declared.faults.Root.TheVariants as root
use Rattle.workload_runs.specs.RulesTree.{formulas, access_root, join_root, both, generator_rules}

-- where a test passes at no item, it passes at none that the list contains
first : (b c : Bool) → (not b && c) ≡ true → b ≡ true → ⊥
first true c h t = cc
first false c h t = cc

both_true : (b c : Bool) → b ≡ true → c ≡ true → (b && c) ≡ true
both_true b c h k = ap (λ d. d && c) h ∙ k

rest : (b c : Bool) → (not b && c) ≡ true → c ≡ true
rest true c h = cc
rest false c h = h

none_contained : {A : Type 0} (test : A → Bool) (xs : List A) → list_all (λ x. not (test x)) xs ≡ true → (x : A) → Contains xs x → test x ≡ true → ⊥
none_contained test [] h x (k, lt, is) t = omega arith
none_contained test (y ∷ xs) h x (zero, lt, is) t = first (test y) _ h (ap test is ∙ t)
none_contained test (y ∷ xs) h x (suc k, lt, is) t = none_contained test xs (rest (test y) _ h) x (k, omega arith, is) t

-- ---- the root of joins refers to the STAR below it, and no other STAR to any

-- an item that is found in a list of three is one of them
one_of_three : {A : Type 0} (wanted : A → Bool) (x y z s : A) → find wanted (x ∷ y ∷ z ∷ []) ≡ Some s → (s ≡ x) ⊎ ((s ≡ y) ⊎ (s ≡ z))
one_of_three wanted x y z s e = go (wanted x) (wanted y) (wanted z) e where
  go : (a b c : Bool) → cond a (Some x) (cond b (Some y) (cond c (Some z) None)) ≡ Some s → (s ≡ x) ⊎ ((s ≡ y) ⊎ (s ≡ z))
  go true b c f = let same : s ≡ x = cc in inl same
  go false true c f = let same : s ≡ y = cc in inr (inl same)
  go false false true f = let same : s ≡ z = cc in inr (inr same)
  go false false false f = cc

abbrev goes : List ℕ → List ℕ → Bool
goes a b = same_numbers a (codes "JoinRoot") && same_numbers b (codes "Both")

abbrev refers : StarDef → List ℕ → Bool
refers s name = occurs generator_rules name (map (λ r. r.0) (references_of s))

access_root_refers : (name : List ℕ) → refers access_root name ≡ false
unfolding access_root references_in
access_root_refers name = refl

both_refers : (name : List ℕ) → refers both name ≡ false
unfolding both references_in
both_refers name = refl

join_root_refers : (name : List ℕ) → refers join_root name ≡ true → goes join_root.name name ≡ true
unfolding join_root references_in
join_root_refers name h = only (same_numbers name (codes "Both")) h where
  only : (b : Bool) → (b || false) ≡ true → b ≡ true
  only true e = refl
  only false e = e

refers_to : (s : StarDef) (name : List ℕ) → (s ≡ access_root) ⊎ ((s ≡ join_root) ⊎ (s ≡ both)) → refers s name ≡ true → goes s.name name ≡ true
refers_to s name (inl is) h = let bad : true ≡ false = sym h ∙ (ap (λ t. refers t name) is ∙ access_root_refers name) in cc
refers_to s name (inr (inl is)) h = ap (λ (t : StarDef). goes t.name name) is ∙ join_root_refers name (sym (ap (λ t. refers t name) is) ∙ h)
refers_to s name (inr (inr is)) h = let bad : true ≡ false = sym h ∙ (ap (λ t. refers t name) is ∙ both_refers name) in cc

-- the name of the root of joins is another than that of the STAR below it
apart : (name : List ℕ) → same_numbers name (codes "Both") ≡ true → same_numbers name (codes "JoinRoot") ≡ true → ⊥
apart name h k =
    let below : name ≡ codes "Both" = same_text name (codes "Both") (sym h) in
    let root : name ≡ codes "JoinRoot" = same_text name (codes "JoinRoot") (sym k) in
    let bad : same_numbers (codes "Both") (codes "JoinRoot") ≡ true = ap (λ (l : List ℕ). same_numbers l (codes "JoinRoot")) (sym below) ∙ k in
    cc

reaches : (a b : List ℕ) → Reaches generator_rules a b → goes a b ≡ true
reaches _ _ (directly s name found refers) =
    refers_to s name (one_of_three (λ t. same_numbers t.name s.name) access_root join_root both s found) refers
reaches _ _ (further a b c early later) =
    let first = and_parts (same_numbers a (codes "JoinRoot")) (same_numbers b (codes "Both")) (reaches a b early) in
    let then = and_parts (same_numbers b (codes "JoinRoot")) (same_numbers c (codes "Both")) (reaches b c later) in
    absurd (apart b first.1 then.0)

no_cycle : (name : List ℕ) → Reaches generator_rules name name → ⊥
no_cycle name h =
    let parts = and_parts (same_numbers name (codes "JoinRoot")) (same_numbers name (codes "Both")) (reaches name name h) in
    apart name parts.1 parts.0

from_no_access : (name : List ℕ) → Reaches generator_rules (codes "AccessRoot") name → ⊥
from_no_access name h = let bad : false ≡ true = reaches (codes "AccessRoot") name h in cc

-- ---- the other cases

has_root : (r : Root) → lacks_root generator_rules r ≡ false
unfolding formulas access_root join_root both
has_root root.AccessRoot = refl
has_root root.JoinRoot = refl

has_formulas : (f : Flavour) → lacks_formula generator_rules f ≡ false
unfolding formulas access_root join_root both operators_in formula_of
has_formulas flavour.AccessHeap = refl
has_formulas flavour.AccessIndex = refl
has_formulas flavour.Get = refl
has_formulas flavour.Filter = refl
has_formulas flavour.Sort = refl
has_formulas flavour.Store = refl
has_formulas flavour.Ship = refl
has_formulas flavour.Probe = refl
has_formulas flavour.JoinNl = refl
has_formulas flavour.JoinMerge = refl
has_formulas flavour.JoinHash = refl
has_formulas flavour.Intersect = refl

-- a test that no statement passes is no fault of a STAR, or of a formula
no_star : (test : StarDef → Bool) → list_all (λ s. not (test s)) generator_rules.stars ≡ true → Never generator_rules (OfStarTest generator_rules test)
no_star test h k case = none_contained test generator_rules.stars h case.0 case.1 case.3

no_formula : (test : FormulaDef → Bool) → list_all (λ d. not (test d)) generator_rules.formulas ≡ true → Never generator_rules (OfFormula generator_rules (λ d. test d ≡ true))
no_formula test h k case = none_contained test generator_rules.formulas h case.0 case.1 case.3

once : Never generator_rules (Twice generator_rules)
unfolding formulas access_root join_root both
once k (inl case) = no_star (is_star_twice generator_rules) refl k case
once k (inr (inl case)) = no_formula (is_formula_twice generator_rules) refl k case
once k (inr (inr case)) = none_contained (is_select_twice generator_rules) generator_rules.selects refl case.0 case.1 case.3

-- the root of accesses has no Glue, and it refers to no STAR
no_glue : (s : StarDef) → Contains generator_rules.stars s → HasGlueInAccess generator_rules s → ⊥
unfolding access_root join_root both glues_in
no_glue s in_ (inl root, glue) = none_contained (λ t. is_access_root generator_rules t && list_any (λ b. nat_lt 0 (length (glues_in b))) (bodies_of t)) generator_rules.stars refl s in_ (both_true _ _ root glue)
no_glue s in_ (inr reached, glue) = from_no_access s.name reached

pub rules_accepted : IsAccepted generator_rules
unfolding formulas access_root join_root both is_free nodes offends kind_of is_kinded values_in references_in operators_in glues_in values_of_condition variables_in height_within weight_within
rules_accepted = record {
  known = no_star (is_unknown generator_rules) refl;
  once = once;
  arity = no_star (has_wrong_arity generator_rules) refl;
  kinds = no_star (has_wrong_kind generator_rules) refl;
  no_cycle = λ k case. no_cycle (case.0).name case.3;
  no_glue_in_access = λ k case. no_glue case.0 case.1 case.3;
  roots = has_root;
  formulas = has_formulas;
  monotone = no_formula (λ d. is_some (first_offending d.formula)) refl;
  low = no_star (λ s. nat_lt 16 (height_of generator_rules s)) refl;
  narrow = no_star (λ s. nat_lt 4096 (weight_of generator_rules s)) refl;
}
