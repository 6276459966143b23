-- In an accepted file each place to which a goal leads is sound.
use Prim.Native.Nat.{zero, suc}
use Rattle.std.proofs.Common.{◌≡◌, ℕ, ◌<◌, ◌^◌, Bool, true, false, not, ◌||◌, nat_eq, nat_lt, List, [], length, map, refl, ap, sym, ◌∙◌, subst, arith}
use Rattle.std.specs.Prelude.{◌&&◌, Option, Some, None, is_none, is_some, slice_get, codes, Contains}
use Rattle.std.specs.List.{list_all, list_any, flat_map}
use Rattle.std.specs.Option.{option_map_or}
use Rattle.std.proofs.Math.Bool.{or-true}
use Rattle.std.proofs.lemmas.Bool.{false≢true, and_parts, or_parts, eqb-true, lt-ltb}
use Rattle.std.proofs.lemmas.List.{length-map}
use Rattle.std.proofs.lemmas.List.Folds.{list_all-append}
use Rattle.std.proofs.lemmas.Option.{same_Some}
use Rattle.star_model.specs.Sets.{size, is_within, union, meet, IsSplit}
use Rattle.star_model.specs.Stars.{star_named}
use Rattle.star_model.specs.Kinds.{asks, argument_kinds, kind_of, kind_of_value, have_kinds, is_kinded, kinds_after}
use Rattle.star_model.specs.Goals.{IsGoal}
use Rattle.star_model.specs.Meaning.{meaning, as_stream}
use Rattle.star_model.specs.Expected.{Expected, ForGoal, may_split, root_call, bound, body_of, values_of}
use Rattle.star_model.specs.AskedGoals.{Below, Leads}
use Rattle.star_model.specs.Accepted.{IsAccepted, count_of_parameters, kinds_of, body_has_kinds, references_in, references_of, variables_in, values_of_alternative, is_unknown, has_wrong_arity, is_access_root, is_join_root}
use Rattle.star_model.specs.AcceptedEquations.{references_in-Reference}
use Rattle.star_model.specs.PlanExprCases as expr
use Rattle.star_model.specs.PlanExprCases.{made-Unary, made-Binary}
use Rattle.star_model.specs.declared.faults.Root.TheVariants as root
use Rattle.star_model.specs.declared.query.Query.{Query}
use Rattle.star_model.specs.declared.rules.Alternative.{Alternative}
use Rattle.star_model.specs.declared.rules.Flavour.{Flavour}
use Rattle.star_model.specs.declared.rules.Kind.{Kind}
use Rattle.star_model.specs.declared.rules.Kind.TheVariants as kind
use Rattle.star_model.specs.declared.rules.PlanExpr.{PlanExpr}
use Rattle.star_model.specs.declared.rules.PlanExpr.TheVariants as made
use Rattle.star_model.specs.declared.rules.StarDef.{StarDef}
use Rattle.star_model.specs.declared.rules.ValueExpr.{ValueExpr}
use Rattle.star_model.specs.declared.rules.RuleFile.{RuleFile}
use Rattle.star_model.specs.declared.values.RuleValue.{RuleValue}
use Rattle.star_model.proofs.Laws.{within-members, left_is_smaller, right_is_smaller, stream_passes}
use Rattle.star_check.specs.KindTests.{reference_has_kinds}
use Rattle.star_check.specs.SoundPlaces.{may_read, read_within, refers_rightly, IsSoundCall, IsSoundExpression, IsSound}
use Rattle.star_check.proofs.AcceptedLaws.{values_are_kinded, access_kinds, join_kinds}
use Rattle.star_check.proofs.Bindings.{is_asked, arguments_pass, arguments_are_of_kinds, bound_are_of_kinds, bound_pass}
use Rattle.star_check.proofs.Bodies.{opened}
use Rattle.star_check.proofs.BodyKinds.{body_has_kinds-Reference, body_has_kinds-Glue, body_has_kinds-Unary, body_has_kinds-Binary}
use Rattle.star_check.proofs.Named.{is_there, passes_name}
use Rattle.star_check.proofs.Owned.{contains_at, fails}
use Rattle.star_check.proofs.Walks.{all_in_bodies, all_from_none}

-- ---- the call of a root

-- a set that may be read
some_may : (s t : ℕ) → 0 < t → t < 2 ^ 32 → is_within t s ≡ true → (nat_eq (size s) 1 || nat_lt (size t) (size s)) ≡ true → may_read s t ≡ true
some_may s t some fits part small = λ k. ((lt-ltb 0 t some k && lt-ltb t (2 ^ 32) fits k) && part k) && small k

whole_may : (s : ℕ) → 0 < s → s < 2 ^ 32 → nat_eq (size s) 1 ≡ true → may_read s s ≡ true
whole_may s some fits one = some_may s s some fits ((within-members s s).1 (λ n l has_it. has_it)) (ap (λ b. b || nat_lt (size s) (size s)) one)

part_may : (s t : ℕ) → s < 2 ^ 32 → 0 < t → (t < s) × (is_within t s ≡ true) × (size t < size s) → may_read s t ≡ true
part_may s t fits some (less, part, smaller) = some_may s t some (omega (arith, less, fits)) part (ap (λ b. nat_eq (size s) 1 || b) (lt-ltb (size t) (size s) smaller) ∙ or-true (nat_eq (size s) 1))

not_zero : (n : ℕ) → not (nat_eq n 0) ≡ true → 0 < n
not_zero zero h = absurd (false≢true h)
not_zero (suc n) h = omega arith

split_from : (s a b : ℕ) (several : Bool) → (several && nat_eq (union a b) s && nat_eq (meet a b) 0 && not (nat_eq a 0) && not (nat_eq b 0)) ≡ true → IsSplit s a b
split_from s a b several h =
    let right = and_parts (several && nat_eq (union a b) s && nat_eq (meet a b) 0 && not (nat_eq a 0)) (not (nat_eq b 0)) h in
    let left = and_parts (several && nat_eq (union a b) s && nat_eq (meet a b) 0) (not (nat_eq a 0)) right.0 in
    let apart = and_parts (several && nat_eq (union a b) s) (nat_eq (meet a b) 0) left.0 in
    let whole = and_parts several (nat_eq (union a b) s) apart.0 in
    record { whole = eqb-true (union a b) s whole.1; apart = eqb-true (meet a b) 0 apart.1; left = not_zero a left.1; right = not_zero b right.1 }

there : (o : Option StarDef) → is_none o ≡ false → (d : StarDef) × (o ≡ Some d)
there None h = absurd (false≢true (sym h))
there (Some d) h = (d, refl)

module _ (rules : RuleFile) (accepted : IsAccepted rules) where
  pub root_is_sound : (s j : ℕ) (split : Option (ℕ × ℕ)) → 0 < s → s < 2 ^ 32 → may_split s split ≡ true → IsSound rules s (root_call s j split)
  root_is_sound s j None some fits one =
      let d = there (star_named rules (codes "AccessRoot")) (accepted.roots root.AccessRoot) in
      record {
        definition = d.0;
        named = d.1;
        kinds = sym (access_kinds rules d.0 accepted (is_there rules (codes "AccessRoot") d.0 d.1) (passes_name rules (codes "AccessRoot") d.0 d.1));
        streams = (λ k. whole_may s some fits one k && true);
      }
  root_is_sound s j (Some (a, b)) some fits parts =
      let d = there (star_named rules (codes "JoinRoot")) (accepted.roots root.JoinRoot) in
      let split : IsSplit s a b = split_from s a b (not (nat_eq (size s) 1)) parts in
      record {
        definition = d.0;
        named = d.1;
        kinds = sym (join_kinds rules d.0 accepted (is_there rules (codes "JoinRoot") d.0 d.1) (passes_name rules (codes "JoinRoot") d.0 d.1));
        streams = (λ k. part_may s a fits split.left (left_is_smaller s a b fits split) k && (part_may s b fits split.right (right_is_smaller s a b fits split) k && true));
      }

  -- ---- the body of an alternative

  whole : (test : List Kind → Bool) (o : Option (List Kind)) → option_map_or test o false ≡ true → (ks : List Kind) × (o ≡ Some ks) × (test ks ≡ true)
  whole test None h = absurd (false≢true h)
  whole test (Some ks) h = (ks, refl, h)

  known_and_whole : (o : Option StarDef) (n m : ℕ) → is_none o ≡ false → not (nat_eq n m) ≡ false → (is_some o && nat_eq n m) ≡ true
  known_and_whole None n m known same = absurd (false≢true (sym known))
  known_and_whole (Some d) n m known same = from (nat_eq n m) same
    where
      from : (b : Bool) → not b ≡ false → b ≡ true
      from true h = refl
      from false h = absurd (false≢true (sym h))

  refer_rightly : (d : StarDef) (i : ℕ) (a : Alternative) → Contains rules.stars d → slice_get d.alternatives i ≡ Some a → refers_rightly rules a.body ≡ true
  refer_rightly d i a has at =
      let known = or_parts
      (list_any (λ r. is_none (star_named rules r.0)) (references_of d))
      (list_any (nat_eq 255) (flat_map variables_in (flat_map values_of_alternative d.alternatives)))
      (fails (is_unknown rules d) (λ h. accepted.known d.statement (d, has, refl, h))) in
      let arity = or_parts
      (list_any (λ r. not (nat_eq (length r.1) (count_of_parameters rules r.0))) (references_of d))
      (is_access_root rules d && not (nat_eq (length d.params) 2))
      (or_parts
      (list_any (λ r. not (nat_eq (length r.1) (count_of_parameters rules r.0))) (references_of d) || (is_access_root rules d && not (nat_eq (length d.params) 2)))
      (is_join_root rules d && not (nat_eq (length d.params) 3))
      (fails (has_wrong_arity rules d) (λ h. accepted.arity d.statement (d, has, refl, h)))).0 in
      all_in_bodies
      (λ r. is_some (star_named rules r.0) && nat_eq (length r.1) (count_of_parameters rules r.0))
      d.alternatives
      i
      a
      (all_from_none
      (λ r. is_none (star_named rules r.0))
      (λ r. not (nat_eq (length r.1) (count_of_parameters rules r.0)))
      (λ r. is_some (star_named rules r.0) && nat_eq (length r.1) (count_of_parameters rules r.0))
      (references_of d)
      known.0
      arity.0
      (λ r. known_and_whole (star_named rules r.0) (length r.1) (count_of_parameters rules r.0)))
      at

  module _ (q : Query) (s : ℕ) where
    body_is_sound : (star : List ℕ) (b : List RuleValue) (picks : List ℕ) (d : StarDef) (i : ℕ) (a : Alternative) (c : List RuleValue) → star_named rules star ≡ Some d
        → slice_get d.alternatives i ≡ Some a → bound q a.ranges picks b ≡ Some c → map kind_of_value b ≡ kinds_of rules d → read_within s b ≡ true → IsSoundExpression rules s a.body c
    body_is_sound star b picks d i a c named at made kinds streams =
        let has : Contains rules.stars d = is_there rules star d named in
        let kinded =
        whole
        (λ ls. option_map_or (is_kinded ls) a.condition true && body_has_kinds rules ls a.body)
        (kinds_after (kinds_of rules d) a.ranges)
        (values_are_kinded rules d a accepted has (contains_at d.alternatives i a at)) in
        let same : map kind_of_value c ≡ kinded.0 = bound_are_of_kinds q a.ranges picks b c kinded.0 (ap (λ ks. kinds_after ks a.ranges) kinds ∙ kinded.1) made in
        record {
          kinds = ap (λ ks. body_has_kinds rules ks a.body) same ∙ (and_parts (option_map_or (is_kinded kinded.0) a.condition true) (body_has_kinds rules kinded.0 a.body) kinded.2).1;
          references = refer_rightly d i a has at;
          streams = bound_pass q (may_read s) a.ranges picks b c made streams;
        }

    alternative_is_sound : (star : List ℕ) (b : List RuleValue) (n : ℕ) (picks : List ℕ) (y : Expected) → IsSoundCall rules s star b → body_of q rules star b n picks ≡ Some y
        → IsSound rules s y
    alternative_is_sound star b n picks y sound is =
        let body = opened q rules star b n picks y is in
        let same : sound.definition ≡ body.definition = same_Some sound.definition body.definition (sym sound.named ∙ body.named) in
        subst
        (IsSound rules s)
        body.is
        (body_is_sound star b picks body.definition body.position body.alternative body.bindings body.named body.at body.made (sound.kinds ∙ ap (kinds_of rules) same) sound.streams)

    -- ---- the parts of an expression

    reference_is_sound : (star : List ℕ) (args : List ValueExpr) (b : List RuleValue) → IsSoundExpression rules s (made.Reference star args) b
        → IsSoundCall rules s star (values_of q b args)
    reference_is_sound star args b sound = from (star_named rules star) refl kinds (and_parts (is_some (star_named rules star)) (nat_eq (length args) (count_of_parameters rules star)) rightly)
      where
        kinds : reference_has_kinds rules (map kind_of_value b) star args ≡ true
        kinds = sym (body_has_kinds-Reference rules (map kind_of_value b) star args) ∙ sound.kinds

        rightly : (is_some (star_named rules star) && nat_eq (length args) (count_of_parameters rules star)) ≡ true
        rightly =
            (and_parts
            (is_some (star_named rules star) && nat_eq (length args) (count_of_parameters rules star))
            true
            (sym (ap (list_all (λ r. is_some (star_named rules r.0) && nat_eq (length r.1) (count_of_parameters rules r.0))) (references_in-Reference star args)) ∙ sound.references)).0

        from : (o : Option StarDef) → star_named rules star ≡ o → have_kinds (map kind_of_value b) (option_map_or (λ d. map (λ p. p.kind) d.params) o []) args ≡ true
            → (is_some o ≡ true) × (nat_eq (length args) (option_map_or (λ d. length d.params) o 0) ≡ true) → IsSoundCall rules s star (values_of q b args)
        from None named have (some, long) = absurd (false≢true some)
        from (Some d) named have (some, long) =
            let as_long : length args ≡ length (kinds_of rules d) = eqb-true (length args) (length d.params) long ∙ sym (length-map d.params (λ p. p.kind)) in
            record {
              definition = d;
              named = named;
              kinds = arguments_are_of_kinds q b (kinds_of rules d) args have as_long;
              streams = arguments_pass q (may_read s) b sound.streams (kinds_of rules d) args have as_long;
            }

    input_is_sound : (f : Flavour) (args : List ValueExpr) (e : PlanExpr) (b : List RuleValue) → IsSoundExpression rules s (expr.Unary f args e) b → IsSoundExpression rules s e b
    unfolding references_in
    input_is_sound f args e b sound = record {
      kinds =
          (and_parts
          (have_kinds (map kind_of_value b) (argument_kinds f) args)
          (body_has_kinds rules (map kind_of_value b) e)
          (sym (ap (body_has_kinds rules (map kind_of_value b)) (sym (made-Unary f args e)) ∙ body_has_kinds-Unary rules (map kind_of_value b) f args e) ∙ sound.kinds)).1;
      references = sound.references;
      streams = sound.streams;
    }

    inputs_are_sound : (f : Flavour) (args : List ValueExpr) (d e : PlanExpr) (b : List RuleValue) → IsSoundExpression rules s (expr.Binary f args d e) b
        → IsSoundExpression rules s d b × IsSoundExpression rules s e b
    unfolding references_in
    inputs_are_sound f args d e b sound =
        let parts =
        and_parts
        (have_kinds (map kind_of_value b) (argument_kinds f) args && body_has_kinds rules (map kind_of_value b) d)
        (body_has_kinds rules (map kind_of_value b) e)
        (sym (ap (body_has_kinds rules (map kind_of_value b)) (sym (made-Binary f args d e)) ∙ body_has_kinds-Binary rules (map kind_of_value b) f args d e) ∙ sound.kinds) in
        let left = and_parts (have_kinds (map kind_of_value b) (argument_kinds f) args) (body_has_kinds rules (map kind_of_value b) d) parts.0 in
        let rightly =
        and_parts
        (refers_rightly rules d)
        (refers_rightly rules e)
        (sym (list_all-append (λ r. is_some (star_named rules r.0) && nat_eq (length r.1) (count_of_parameters rules r.0)) (references_in d) (references_in e)) ∙ sound.references) in (
          record { kinds = left.1; references = rightly.0; streams = sound.streams },
          record { kinds = parts.1; references = rightly.1; streams = sound.streams },
        )

    -- ---- what is below, and what a goal leads to

    pub below_is_sound : (x y : Expected) → Below q rules x y → IsSound rules s x → IsSound rules s y
    below_is_sound x y (Below.by_split t j split may) sound =
        let same = sound.0 in
        let some = sound.1 in
        let fits = sound.2 in
        subst (λ (u : ℕ). IsSound rules u (root_call t j split)) same (root_is_sound t j split (omega (arith, same, some)) (omega (arith, same, fits)) may)
    below_is_sound x y (Below.by_alternative star b n picks z is) sound = alternative_is_sound star b n picks z sound is
    below_is_sound x y (Below.by_reference star args b) sound = reference_is_sound star args b sound
    below_is_sound x y (Below.by_input f args e b) sound = input_is_sound f args e b sound
    below_is_sound x y (Below.by_left f args d e b) sound = (inputs_are_sound f args d e b sound).0
    below_is_sound x y (Below.by_right f args d e b) sound = (inputs_are_sound f args d e b sound).1

    leads_to_sound : (x z : Expected) → Leads q rules x z → IsSound rules s x → IsSound rules s z
    leads_to_sound x z (Leads.here u) sound = sound
    leads_to_sound x z (Leads.there u y w below more) sound = leads_to_sound y z more (below_is_sound u y below sound)

    pub goal_leads_to_sound : (j : ℕ) (x : Expected) → IsGoal q s j → Leads q rules (ForGoal s j) x → IsSound rules s x
    goal_leads_to_sound j x goal leads = leads_to_sound (ForGoal s j) x leads (refl, goal.some, goal.bounds.0)

    -- ---- the stream of a Glue

    pub glue_reads_within : (stream preds : ValueExpr) (b : List RuleValue) → IsSoundExpression rules s (made.Glue stream preds) b
        → may_read s (as_stream (meaning q b stream)).tables ≡ true
    glue_reads_within stream preds b sound =
        let kinds = and_parts
        (asks kind.Stream (kind_of (map kind_of_value b) stream))
        (asks kind.Preds (kind_of (map kind_of_value b) preds))
        (sym (body_has_kinds-Glue rules (map kind_of_value b) stream preds) ∙ sound.kinds) in
        stream_passes q (may_read s) b stream (is_asked kind.Stream (kind_of (map kind_of_value b) stream) kinds.0) sound.streams

pub leads_further : (q : Query) (rules : RuleFile) (x y z : Expected) → Leads q rules x y → Below q rules y z → Leads q rules x z
leads_further q rules x y z (Leads.here u) below = Leads.there y z z below (Leads.here z)
leads_further q rules x y z (Leads.there u v w first more) below = Leads.there u v z first (leads_further q rules v y z more below)
