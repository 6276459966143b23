-- The smallest rules are accepted.
use Rattle.std.proofs.Common.{◌≡◌, ℕ, zero, suc, inl, inr, Bool, true, false, List, [], ◌∷◌, Some, refl, ap, ◌∙◌, arith}
use Rattle.std.specs.Prelude.{Contains, length, cond, not, ◌&&◌, map, nat_lt, is_some}
use Rattle.std.specs.List.{list_all, list_any, find}
use Rattle.star_model.specs.Vectors.{same_numbers}
use Rattle.star_model.specs.Costs.{formula_of}
use Rattle.star_model.specs.Monotone.{first_offending, is_free, nodes, offends}
use Rattle.star_model.specs.Kinds.{kind_of}
use Rattle.star_model.specs.Accepted.{IsAccepted, Never, OfStarTest, OfFormula, Twice, Reaches, directly, further, occurs, is_unknown, is_star_twice, is_formula_twice, is_select_twice, has_wrong_arity, has_wrong_kind, bodies_of, height_of, weight_of, values_in, references_in, operators_in, glues_in, values_of_condition, variables_in, height_within, weight_within, references_of, lacks_root, lacks_formula}
use Rattle.star_model.specs.declared.rules.StarDef.{StarDef}
use Rattle.star_model.specs.declared.rules.FormulaDef.{FormulaDef}
use Rattle.star_model.specs.declared.rules.Flavour.{Flavour}
use Rattle.star_model.specs.declared.rules.Flavour.TheVariants as flavour
use Rattle.star_model.specs.declared.faults.Root.{Root}
use Rattle.star_model.specs.declared.faults.Root.TheVariants as root
use Rattle.rule_grammar.specs.Tiny.{tiny_rules}

-- where a test passes at no item, it passes at none that the list contains, and at none that is found in it
first : (b c : Bool) → (not b && c) ≡ true → b ≡ true → ⊥
first true c h t = cc
first false c h t = cc

rest : (b c : Bool) → (not b && c) ≡ true → c ≡ true
rest true c h = cc
rest false c h = h

none_contained : {A : Type 0} (test : A → Bool) (xs : List A) → list_all (λ x. not (test x)) xs ≡ true → (x : A) → Contains xs x → test x ≡ true → ⊥
none_contained test [] h x (k, lt, is) t = omega arith
none_contained test (y ∷ xs) h x (zero, lt, is) t = first (test y) _ h (ap test is ∙ t)
none_contained test (y ∷ xs) h x (suc k, lt, is) t = none_contained test xs (rest (test y) _ h) x (k, omega arith, is) t

none_found : {A : Type 0} (wanted test : A → Bool) (xs : List A) → list_all (λ x. not (test x)) xs ≡ true → (x : A) → find wanted xs ≡ Some x → test x ≡ true → ⊥
none_found wanted test [] h x e t = cc
none_found wanted test (y ∷ xs) h x e t = go (wanted y) e (λ f. none_found wanted test xs (rest (test y) _ h) x f t)
  where
    go : (b : Bool) → cond b (Some y) (find wanted xs) ≡ Some x → (find wanted xs ≡ Some x → ⊥) → ⊥
    go true f later = let same : y ≡ x = cc in first (test y) _ h (ap test same ∙ t)
    go false f later = later f

-- no STAR refers to one
reaches_none : (a b : List ℕ) → Reaches tiny_rules a b → ⊥
unfolding tiny_rules references_in
reaches_none _ _ (directly s name found refers) =
    none_found (λ t. same_numbers t.name s.name) (λ t. occurs tiny_rules name (map (λ r. r.0) (references_of t))) tiny_rules.stars refl s found refers
reaches_none _ _ (further a b c early later) = reaches_none a b early

has_root : (r : Root) → lacks_root tiny_rules r ≡ false
unfolding tiny_rules
has_root root.AccessRoot = refl
has_root root.JoinRoot = refl

has_formulas : (f : Flavour) → lacks_formula tiny_rules f ≡ false
unfolding tiny_rules operators_in formula_of
has_formulas flavour.AccessHeap = refl
has_formulas flavour.AccessIndex = refl
has_formulas flavour.Get = refl
has_formulas flavour.Filter = refl
has_formulas flavour.Sort = refl
has_formulas flavour.Store = refl
has_formulas flavour.Ship = refl
has_formulas flavour.Probe = refl
has_formulas flavour.JoinNl = refl
has_formulas flavour.JoinMerge = refl
has_formulas flavour.JoinHash = refl
has_formulas flavour.Intersect = refl

-- a test that no statement passes is no fault of a STAR, or of a formula
no_star : (test : StarDef → Bool) → list_all (λ s. not (test s)) tiny_rules.stars ≡ true → Never tiny_rules (OfStarTest tiny_rules test)
no_star test h k case = none_contained test tiny_rules.stars h case.0 case.1 case.3

no_formula : (test : FormulaDef → Bool) → list_all (λ d. not (test d)) tiny_rules.formulas ≡ true → Never tiny_rules (OfFormula tiny_rules (λ d. test d ≡ true))
no_formula test h k case = none_contained test tiny_rules.formulas h case.0 case.1 case.3

once : Never tiny_rules (Twice tiny_rules)
unfolding tiny_rules
once k (inl case) = no_star (is_star_twice tiny_rules) refl k case
once k (inr (inl case)) = no_formula (is_formula_twice tiny_rules) refl k case
once k (inr (inr case)) = none_contained (is_select_twice tiny_rules) tiny_rules.selects refl case.0 case.1 case.3

pub tiny_accepted : IsAccepted tiny_rules
unfolding tiny_rules is_free nodes offends kind_of values_in references_in operators_in glues_in values_of_condition variables_in height_within weight_within
tiny_accepted = record {
  known = no_star (is_unknown tiny_rules) refl;
  once = once;
  arity = no_star (has_wrong_arity tiny_rules) refl;
  kinds = no_star (has_wrong_kind tiny_rules) refl;
  no_cycle = λ k case. reaches_none _ _ case.3;
  no_glue_in_access = λ k case. none_contained (λ s. list_any (λ b. nat_lt 0 (length (glues_in b))) (bodies_of s)) tiny_rules.stars refl case.0 case.1 case.3.1;
  roots = has_root;
  formulas = has_formulas;
  monotone = no_formula (λ d. is_some (first_offending d.formula)) refl;
  low = no_star (λ s. nat_lt 16 (height_of tiny_rules s)) refl;
  narrow = no_star (λ s. nat_lt 4096 (weight_of tiny_rules s)) refl;
}
