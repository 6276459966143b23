-- Below the root of accesses no place has a Glue, so a goal of one quantifier leads to none.
use Prim.Native.Nat.{suc}
use Rattle.std.proofs.Common.{◌≡◌, ℕ, ◌⊎◌, inl, inr, true, false, not, nat_eq, nat_lt, List, [], ◌∷◌, ◌++◌, length, refl, ap, sym, ◌∙◌, subst, arith}
use Rattle.std.specs.Prelude.{◌&&◌, Some, None, slice_get, codes}
use Rattle.std.specs.List.{list_any}
use Rattle.std.specs.Option.{option_map}
use Rattle.std.proofs.lemmas.Bool.{false≢true, eq-eqb, lt-ltb}
use Rattle.std.proofs.lemmas.Option.{slice_get-map}
use Rattle.star_model.specs.Sets.{size, union, meet}
use Rattle.star_model.specs.Stars.{star_named}
use Rattle.star_model.specs.Vectors.{same_numbers}
use Rattle.star_model.specs.Expected.{Expected, ForQuery, ForGoal, Call, Expression, may_split}
use Rattle.star_model.specs.AskedGoals.{Below, Leads}
use Rattle.star_model.specs.Accepted.{IsAccepted, Reaches, references_in, glues_in, bodies_of, is_access_root}
use Rattle.star_model.specs.declared.query.Query.{Query}
use Rattle.star_model.specs.declared.rules.Alternative.{Alternative}
use Rattle.star_model.specs.declared.rules.PlanExpr.{PlanExpr}
use Rattle.star_model.specs.declared.rules.StarDef.{StarDef}
use Rattle.star_model.specs.declared.rules.ValueExpr.{ValueExpr}
use Rattle.star_model.specs.declared.rules.RuleFile.{RuleFile}
use Rattle.star_model.specs.declared.values.RuleValue.{RuleValue}
use Rattle.star_model.specs.Every.{Every}
use Rattle.star_check.proofs.AcceptedLaws.{no_glue_below}
use Rattle.star_check.proofs.Bodies.{opened}
use Rattle.star_check.proofs.Named.{is_there, passes_name, its_name, own_name}
use Rattle.star_check.proofs.Owned.{any_at, fails}
use Rattle.star_check.proofs.Reached.{refers_where}
use Rattle.star_model.proofs.Laws.{same_self}

every_from : {A : Type 0} (P : A → Type 0) (xs : List A) → ((i : ℕ) (x : A) → slice_get xs i ≡ Some x → P x) → Every P xs
every_from P [] each = tt
every_from P (x ∷ xs) each = (each 0 x refl, every_from P xs (λ i y at. each (suc i) y at))

every_part : {A : Type 0} (P : A → Type 0) (xs ys : List A) → Every P (xs ++ ys) → Every P xs × Every P ys
every_part P [] ys every = (tt, every)
every_part P (x ∷ xs) ys every = let rest = every_part P xs ys every.1 in ((every.0, rest.0), rest.1)

no_part : {A : Type 0} (xs ys : List A) → xs ++ ys ≡ [] → (xs ≡ []) × (ys ≡ [])
no_part [] ys none = (refl, none)
no_part (x ∷ xs) ys none = cc

is_empty : {A : Type 0} (xs : List A) → nat_lt 0 (length xs) ≡ false → xs ≡ []
is_empty [] none = refl
is_empty (x ∷ xs) none = absurd (false≢true (sym none ∙ lt-ltb 0 (suc (length xs)) (omega arith)))

module _ (q : Query) (rules : RuleFile) (accepted : IsAccepted rules) where
  OfAccess : List ℕ → Type 0
  OfAccess name = (name ≡ codes "AccessRoot") ⊎ Reaches rules (codes "AccessRoot") name

  ReferToAccess : PlanExpr → Type 0
  ReferToAccess e = Every (λ r. Reaches rules (codes "AccessRoot") r.0) (references_in e)

  IsOfAccess : Expected → Type 0
  IsOfAccess ForQuery = ⊥
  IsOfAccess (ForGoal t pushed) = size t ≡ 1
  IsOfAccess (Call star b) = OfAccess star
  IsOfAccess (Expression e b) = (glues_in e ≡ []) × ReferToAccess e

  no_split : (s : ℕ) (p : ℕ × ℕ) → size s ≡ 1 → may_split s (Some p) ≡ true → ⊥
  no_split s p one may =
      false≢true
      (sym (ap (λ b. not b && nat_eq (union p.0 p.1) s && nat_eq (meet p.0 p.1) 0 && not (nat_eq p.0 0) && not (nat_eq p.1 0)) (eq-eqb (size s) 1 one)) ∙ may)

  body_has_no_glue : (star : List ℕ) (d : StarDef) (i : ℕ) (a : Alternative) → OfAccess star → star_named rules star ≡ Some d → slice_get d.alternatives i ≡ Some a → glues_in a.body ≡ []
  unfolding OfAccess
  body_has_no_glue star d i a of_access named at =
      is_empty
      (glues_in a.body)
      (fails
      (nat_lt 0 (length (glues_in a.body)))
      (λ some.
      false≢true
      (sym (no_glue_below rules d accepted (is_there rules star d named) (as_root of_access))
      ∙ any_at (λ b. nat_lt 0 (length (glues_in b))) (bodies_of d) i a.body (slice_get-map (λ a. a.body) d.alternatives i ∙ ap (option_map (λ a. a.body)) at) some)))
    where
      as_root : (star ≡ codes "AccessRoot") ⊎ Reaches rules (codes "AccessRoot") star → (is_access_root rules d ≡ true) ⊎ Reaches rules (codes "AccessRoot") d.name
      as_root (inl root) = inl (ap (same_numbers d.name) (sym root) ∙ passes_name rules star d named)
      as_root (inr reached) = inr (subst (λ (n : List ℕ). Reaches rules (codes "AccessRoot") n) (sym (its_name rules star d named)) reached)

  body_refers_to_access : (star : List ℕ) (d : StarDef) (i : ℕ) (a : Alternative) → OfAccess star → star_named rules star ≡ Some d → slice_get d.alternatives i ≡ Some a
      → ReferToAccess a.body
  unfolding OfAccess ReferToAccess
  body_refers_to_access star d i a of_access named at =
      every_from (λ r. Reaches rules (codes "AccessRoot") r.0) (references_in a.body) (λ k r at_r. onward r of_access (direct k r at_r))
    where
      direct : (k : ℕ) (r : List ℕ × List ValueExpr) → slice_get (references_in a.body) k ≡ Some r → Reaches rules star r.0
      direct k r at_r =
          subst
          (λ (n : List ℕ). Reaches rules n r.0)
          (its_name rules star d named)
          (Reaches.directly
          d
          r.0
          (own_name rules star d named)
          (refers_where rules d r.0
          ∙ any_at
          (λ b. list_any (λ x. same_numbers r.0 x.0) (references_in b.body))
          d.alternatives
          i
          a
          at
          (any_at (λ x. same_numbers r.0 x.0) (references_in a.body) k r at_r (same_self r.0))))

      onward : (r : List ℕ × List ValueExpr) → (star ≡ codes "AccessRoot") ⊎ Reaches rules (codes "AccessRoot") star → Reaches rules star r.0 → Reaches rules (codes "AccessRoot") r.0
      onward r (inl root) reaches = subst (λ (n : List ℕ). Reaches rules n r.0) root reaches
      onward r (inr reached) reaches = Reaches.further (codes "AccessRoot") star r.0 reached reaches

  step_stays : (x y : Expected) → Below q rules x y → IsOfAccess x → IsOfAccess y
  unfolding IsOfAccess OfAccess ReferToAccess references_in glues_in
  step_stays x y (Below.by_split s j None may) one = inl refl
  step_stays x y (Below.by_split s j (Some p) may) one = absurd (no_split s p one may)
  step_stays x y (Below.by_alternative star b n picks z is) of_access =
      let body = opened q rules star b n picks z is in
      subst
      IsOfAccess
      body.is (
        body_has_no_glue star body.definition body.position body.alternative of_access body.named body.at,
        body_refers_to_access star body.definition body.position body.alternative of_access body.named body.at,
      )
  step_stays x y (Below.by_reference star args b) of_access = inr of_access.1.0
  step_stays x y (Below.by_input f args e b) of_access = of_access
  step_stays x y (Below.by_left f args d e b) of_access = (
    (no_part (glues_in d) (glues_in e) of_access.0).0,
    (every_part (λ r. Reaches rules (codes "AccessRoot") r.0) (references_in d) (references_in e) of_access.1).0,
  )
  step_stays x y (Below.by_right f args d e b) of_access = (
    (no_part (glues_in d) (glues_in e) of_access.0).1,
    (every_part (λ r. Reaches rules (codes "AccessRoot") r.0) (references_in d) (references_in e) of_access.1).1,
  )

  leads_stay : (x z : Expected) → Leads q rules x z → IsOfAccess x → IsOfAccess z
  leads_stay x z (Leads.here u) of_access = of_access
  leads_stay x z (Leads.there u y w below more) of_access = leads_stay y z more (step_stays u y below of_access)

  pub one_leads_to_no_glue : (s j : ℕ) (e : PlanExpr) (b : List RuleValue) → Leads q rules (ForGoal s j) (Expression e b) → size s ≡ 1 → glues_in e ≡ []
  unfolding IsOfAccess
  one_leads_to_no_glue s j e b leads one = (leads_stay (ForGoal s j) (Expression e b) leads one).0
