-- Which bodies call Glue, and which STARs are found for it.
use Prim.Native.Nat.{suc}
use Rattle.std.proofs.Common.{◌≡◌, ℕ, ◌<◌, ◌⊎◌, inl, inr, Bool, true, false, ◌||◌, nat_lt, ◌↔◌, List, [], ◌∷◌, ◌++◌, length, map, get_or, refl, ap, sym, ◌∙◌, subst, arith}
use Rattle.std.specs.Prelude.{◌&&◌, Some, slice_get, slice_index, codes}
use Rattle.std.specs.List.{list_any}
use Rattle.std.specs.Option.{option_map_or}
use Rattle.std.proofs.Math.Bool.{or-true}
use Rattle.std.proofs.lemmas.Bool.{false≢true, or_cases, and_parts, lt-ltb, le-ltb}
use Rattle.std.proofs.lemmas.Option.{slice_get-get_or}
use Rattle.star_model.specs.Sets.{has}
use Rattle.star_model.specs.Vectors.{same_numbers}
use Rattle.star_model.specs.Accepted.{glues_in, Reaches, IsInCycle, HasGlueInAccess}
use Rattle.star_model.proofs.Laws.{has-zero, same_are}
use Rattle.star_model.specs.declared.rules.Alternative.{Alternative}
use Rattle.star_model.specs.declared.rules.ValueExpr.{ValueExpr}
use Rattle.star_model.specs.declared.rules.StarDef.{StarDef}
use Rattle.star_model.specs.declared.rules.RuleFile.{RuleFile}
use Rattle.star_check.specs.declared.found.Found.{Found}
use Rattle.star_check.specs.Findings.{IsOwn}
use Rattle.star_check.specs.Reaching.{AreReached}
use Rattle.star_check.specs.CycleFaults.{ShowsCycle, ShowsGlue, found_if, access_row, has_glue}
use Rattle.star_check.proofs.Places.{Place, place, find_passes, find_none}
use Rattle.star_check.proofs.Reached.{source}

pub some_glue : (xs ys : List (ValueExpr × ValueExpr)) → nat_lt 0 (length (xs ++ ys)) ≡ (nat_lt 0 (length xs) || nat_lt 0 (length ys))
some_glue [] ys = ap (λ b. b || nat_lt 0 (length ys)) (sym (le-ltb 0 0 (omega arith)))
some_glue (x ∷ xs) ys = lt-ltb 0 (suc (length (xs ++ ys))) (omega arith) ∙ sym (ap (λ b. b || nat_lt 0 (length ys)) (lt-ltb 0 (suc (length xs)) (omega arith)))

-- a STAR that has the case by its test
pub own_if : (s : StarDef) (Case : StarDef → Type 0) (b : Bool) → (b ≡ true → Case s) → (Case s → b ≡ true)
    → IsOwn (λ (t : StarDef) (f : Found (Unit {0})). (t.statement ≡ f.statement) × Case t) s (found_if b s.statement)
own_if s Case true to from = ((refl, to refl), (λ g shows. shows.0))
own_if s Case false to from = λ f shows. false≢true (from shows.1)

pub own_cycle : (rules : RuleFile) (stars : List StarDef) (rows : List ℕ) (i : ℕ) (s : StarDef) (b : Bool) → stars ≡ rules.stars → AreReached rules rows
    → i < length stars → s ≡ get_or stars i s → b ≡ has (slice_index rows i) i → IsOwn (ShowsCycle rules) s (found_if b s.statement)
own_cycle rules stars rows i s b same reached below is has_it =
    let at : slice_get rules.stars i ≡ Some s = ap (λ xs. slice_get xs i) (sym same) ∙ slice_get-get_or stars i s below ∙ ap Some (sym is) in
    let reach = reached.reach i i s s at at in
    own_if s (IsInCycle rules) b (λ h. reach.0 (sym has_it ∙ h)) (λ r. has_it ∙ reach.1 r)

pub glue_where : (alternatives : List Alternative) → list_any (λ b. nat_lt 0 (length (glues_in b))) (map (λ a. a.body) alternatives) ≡ has_glue alternatives
glue_where [] = refl
glue_where (a ∷ more) = ap (λ b. nat_lt 0 (length (glues_in a.body)) || b) (glue_where more)

-- the STAR at this position is reached from `AccessRoot` exactly where the row has the position
pub access_where : (rules : RuleFile) (rows : List ℕ) (i : ℕ) (s : StarDef) → AreReached rules rows → slice_get rules.stars i ≡ Some s
    → (has (access_row rules.stars rows) i ≡ true) ↔ Reaches rules (codes "AccessRoot") s.name
access_where rules rows i s reached at = from (place (λ t. same_numbers t.name (codes "AccessRoot")) rules.stars)
  where
    from : Place (λ (t : StarDef). same_numbers t.name (codes "AccessRoot")) rules.stars → (has (access_row rules.stars rows) i ≡ true) ↔ Reaches rules (codes "AccessRoot") s.name
    from (Place.stands m t is at_t found) =
        let name : t.name ≡ codes "AccessRoot" = same_are t.name (codes "AccessRoot") (find_passes (λ u. same_numbers u.name (codes "AccessRoot")) rules.stars t found) in
        let row : access_row rules.stars rows ≡ slice_index rows m = ap (λ o. option_map_or (λ k. slice_index rows k) o 0) is in
        let reach = reached.reach m i t s at_t at in (
          (λ h. subst (λ (n : List ℕ). Reaches rules n s.name) name (reach.0 (ap (λ r. has r i) (sym row) ∙ h))),
          (λ r. ap (λ r. has r i) row ∙ reach.1 (subst (λ (n : List ℕ). Reaches rules n s.name) (sym name) r)),
        )
    from (Place.nowhere is found) =
        let row : access_row rules.stars rows ≡ 0 = ap (λ o. option_map_or (λ k. slice_index rows k) o 0) is in (
          (λ h. absurd (false≢true (sym (ap (λ r. has r i) row ∙ has-zero i) ∙ h))),
          (λ r.
              let root = source rules (codes "AccessRoot") s.name r in
              absurd
              (find_none (λ u. same_numbers u.name (codes "AccessRoot")) rules.stars root.0 root.1 found root.2 (ap (λ n. same_numbers n (codes "AccessRoot")) root.3))),
        )

pub own_glue : (rules : RuleFile) (stars : List StarDef) (rows : List ℕ) (access i : ℕ) (s : StarDef) (b : Bool) → stars ≡ rules.stars → AreReached rules rows
    → access ≡ access_row stars rows → i < length stars → s ≡ get_or stars i s
    → b ≡ ((same_numbers s.name (codes "AccessRoot") || has access i) && has_glue s.alternatives) → IsOwn (ShowsGlue rules) s (found_if b s.statement)
own_glue rules stars rows access i s b same reached row below is has_it = own_if s (HasGlueInAccess rules) b to from
  where
    at : slice_get rules.stars i ≡ Some s
    at = ap (λ xs. slice_get xs i) (sym same) ∙ slice_get-get_or stars i s below ∙ ap Some (sym is)

    there : access ≡ access_row rules.stars rows
    there = row ∙ ap (λ xs. access_row xs rows) same

    to : b ≡ true → HasGlueInAccess rules s
    to h =
        let parts = and_parts (same_numbers s.name (codes "AccessRoot") || has access i) (has_glue s.alternatives) (sym has_it ∙ h) in (
          elim (or_cases (same_numbers s.name (codes "AccessRoot")) (has access i) parts.0)
              [ inl r ↦ inl r | inr r ↦ inr ((access_where rules rows i s reached at).0 (ap (λ x. has x i) (sym there) ∙ r)) ],
          glue_where s.alternatives ∙ parts.1,
        )

    from : HasGlueInAccess rules s → b ≡ true
    from (reached_it, glue) = has_it ∙ (λ k. in_access reached_it k && (sym (glue_where s.alternatives) ∙ glue) k)
      where
        in_access : (same_numbers s.name (codes "AccessRoot") ≡ true) ⊎ Reaches rules (codes "AccessRoot") s.name → (same_numbers s.name (codes "AccessRoot") || has access i) ≡ true
        in_access (inl r) = ap (λ b. b || has access i) r
        in_access (inr r) =
            ap (λ b. same_numbers s.name (codes "AccessRoot") || b) (ap (λ x. has x i) there ∙ (access_where rules rows i s reached at).1 r) ∙ or-true (same_numbers s.name (codes "AccessRoot"))
