-- The goals that a goal asks for: each is a goal, and smaller.
use Prim.Native.Nat.{zero, suc}
use Rattle.std.proofs.Common.{◌≡◌, ℕ, ◌<◌, ◌^◌, Bool, true, false, ◌||◌, nat_eq, nat_lt, List, [], ◌∷◌, length, refl, ap, sym, ◌∙◌, subst, arith}
use Rattle.std.specs.Prelude.{◌&&◌, slice_get}
use Rattle.std.specs.Option.{option_map_or}
use Rattle.std.proofs.lemmas.Bool.{false≢true, and_parts, eqb-true, ltb-true}
use Rattle.std.proofs.lemmas.Nat.{and_le_r}
use Rattle.std.proofs.lemmas.Option.{same_Some}
use Rattle.star_model.specs.Sets.{has, size, meet, is_within}
use Rattle.star_model.specs.Predicates.{crossing, all_quants}
use Rattle.star_model.specs.Goals.{IsGoal}
use Rattle.star_model.specs.Meaning.{meaning, as_stream, as_preds}
use Rattle.star_model.specs.Expected.{Expression, as_goal}
use Rattle.star_model.specs.AskedGoals.{Asks, AskedGoal}
use Rattle.star_model.specs.Accepted.{IsAccepted, glues_in}
use Rattle.star_model.specs.WellFormed.{WellFormedQuery}
use Rattle.star_model.specs.declared.query.Query.{Query}
use Rattle.star_model.specs.declared.query.QuantDef.{QuantDef}
use Rattle.star_model.specs.declared.rules.PlanExpr.TheVariants.{Glue}
use Rattle.star_model.specs.declared.rules.RuleFile.{RuleFile}
use Rattle.star_model.proofs.Laws.{has-zero, has-meet, has-set_of, set_of-lt, within-members}
use Rattle.star_check.specs.SoundPlaces.{may_read}
use Rattle.star_check.proofs.AccessPlaces.{one_leads_to_no_glue}
use Rattle.star_check.proofs.SoundPlaces.{goal_leads_to_sound, glue_reads_within}

within_within : (s t u : ℕ) → is_within s t ≡ true → is_within t u ≡ true → is_within s u ≡ true
within_within s t u st tu = (within-members s u).1 (λ n l has_it. (within-members t u).0 tu n l ((within-members s t).0 st n l has_it))

-- ---- a set of predicates that cross

crossing_fits : (q : Query) (t : ℕ) → crossing q t < 2 ^ 32
unfolding crossing
crossing_fits q t = set_of-lt _

meet_fits : (s t : ℕ) → t < 2 ^ 32 → meet s t < 2 ^ 32
unfolding meet
meet_fits s t fits = let le = and_le_r s t in omega (arith, le, fits)

meet_within : (s t : ℕ) → is_within (meet s t) t ≡ true
meet_within s t = (within-members (meet s t) t).1 (λ n l both. (and_parts (has s n) (has t n) (sym (has-meet s t n) ∙ both)).1)

module _ (q : Query) (rules : RuleFile) (accepted : IsAccepted rules) where
  -- a goal of one quantifier asks for none
  pub one_asks_for_none : (s j t k : ℕ) → Asks q rules s j t k → size s ≡ 1 → ⊥
  unfolding glues_in
  one_asks_for_none s j t k (Asks.by_glue s' j' t' k' stream preds b leads goal) one =
      let none = one_leads_to_no_glue q rules accepted s j (Glue stream preds) b leads one in let no : 1 ≡ 0 = ap length none in omega (arith, no)

  -- ---- the goal of a Glue

  record IsAsked (s t k : ℕ) : Type 0 where
    may : may_read s t ≡ true
    pushed : (p : ℕ) × (k ≡ meet p (crossing q t))

  asked : (s j t k : ℕ) → IsGoal q s j → Asks q rules s j t k → IsAsked s t k
  asked s j t k is_goal (Asks.by_glue s' j' t' k' stream preds b leads goal) =
      let tables : ℕ = (as_stream (meaning q b stream)).tables in
      let asked_for : ℕ = as_preds (meaning q b preds) in
      let both : (tables, meet asked_for (crossing q tables)) ≡ (t, k) = same_Some (tables, meet asked_for (crossing q tables)) (t, k) (ap as_goal goal) in
      let same : tables ≡ t = ap (λ (p : ℕ × ℕ). p.0) both in
      let sound = goal_leads_to_sound rules accepted q s j (Expression (Glue stream preds) b) is_goal leads in
      record {
        may = subst (λ (u : ℕ). may_read s u ≡ true) same (glue_reads_within rules accepted q s stream preds b sound);
        pushed = (asked_for, sym (ap (λ (p : ℕ × ℕ). p.1) both) ∙ ap (λ u. meet asked_for (crossing q u)) same);
      }

  record IsPart (s t : ℕ) : Type 0 where
    some : 0 < t
    fits : t < 2 ^ 32
    part : is_within t s ≡ true
    smaller : (nat_eq (size s) 1 || nat_lt (size t) (size s)) ≡ true

  is_part : (s t : ℕ) → may_read s t ≡ true → IsPart s t
  is_part s t may =
      let outer = and_parts (nat_lt 0 t && nat_lt t (2 ^ 32) && is_within t s) (nat_eq (size s) 1 || nat_lt (size t) (size s)) may in
      let middle = and_parts (nat_lt 0 t && nat_lt t (2 ^ 32)) (is_within t s) outer.0 in
      let inner = and_parts (nat_lt 0 t) (nat_lt t (2 ^ 32)) middle.0 in
      record { some = ltb-true 0 t inner.0; fits = ltb-true t (2 ^ 32) inner.1; part = middle.1; smaller = outer.1 }

  second : (b c : Bool) → (b || c) ≡ true → (b ≡ true → ⊥) → c ≡ true
  second true c either never = absurd (never refl)
  second false c either never = either

  pub asked_goal_is_smaller : (s j t k : ℕ) → IsGoal q s j → Asks q rules s j t k → (0 < t) × (is_within t s ≡ true) × (size t < size s)
  asked_goal_is_smaller s j t k is_goal asks =
      let part = is_part s t (asked s j t k is_goal asks).may in (
        part.some,
        part.part,
        ltb-true
            (size t)
            (size s)
            (second (nat_eq (size s) 1) (nat_lt (size t) (size s)) part.smaller (λ one. one_asks_for_none s j t k asks (eqb-true (size s) 1 one))),
      )

  pub goal_asks_for_goals : (s j t k : ℕ) → IsGoal q s j → Asks q rules s j t k → IsGoal q t k
  goal_asks_for_goals s j t k is_goal asks =
      let goal = asked s j t k is_goal asks in
      let part = is_part s t goal.may in
      let pushed = sym goal.pushed.1 in
      record {
        some = part.some;
        quantifiers = within_within t s (all_quants q) part.part is_goal.quantifiers;
        crosses = subst (λ (u : ℕ). is_within u (crossing q t) ≡ true) pushed (meet_within goal.pushed.0 (crossing q t));
        bounds = (part.fits, subst (λ (u : ℕ). u < 2 ^ 32) pushed (meet_fits goal.pushed.0 (crossing q t) (crossing_fits q t)));
      }

  -- ---- the goals of a query

  has_some : (s : ℕ) → has s 0 ≡ true → 0 < s
  has_some zero h = absurd (false≢true (sym (has-zero 0) ∙ h))
  has_some (suc s) h = omega arith

  first_there : (xs : List QuantDef) → 0 < length xs → option_map_or (λ d. true) (slice_get xs 0) false ≡ true
  first_there [] some = let no : ⊥ = omega (arith, some) in absurd no
  first_there (x ∷ xs) some = refl

  query_goal_is_goal : WellFormedQuery q → IsGoal q (all_quants q) 0
  query_goal_is_goal formed =
      let defined : ℕ → Bool = λ n. option_map_or (λ d. true) (slice_get q.quants n) false in
      record {
        some = has_some (all_quants q) (has-set_of defined 0 (omega arith) ∙ first_there q.quants formed.some_quantifiers.0);
        quantifiers = (within-members (all_quants q) (all_quants q)).1 (λ n l has_it. has_it);
        crosses = (within-members 0 (crossing q (all_quants q))).1 (λ n l has_it. absurd (false≢true (sym (has-zero n) ∙ has_it)));
        bounds = (set_of-lt defined, omega arith);
      }

  pub asked_goals_are_goals : WellFormedQuery q → (t k : ℕ) → AskedGoal q rules t k → IsGoal q t k
  asked_goals_are_goals formed t k AskedGoal.of_query = query_goal_is_goal formed
  asked_goals_are_goals formed t k (AskedGoal.of_goal s j u l asked_for asks) = goal_asks_for_goals s j t k (asked_goals_are_goals formed s j asked_for) asks
