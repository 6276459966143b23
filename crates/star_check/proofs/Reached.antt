-- What the closure of the STARs' own references is: which STARs each reaches.
use Rattle.std.proofs.Common.{◌≡◌, ℕ, ◌<◌, ◌≤◌, ◌⊎◌, inl, inr, true, false, List, length, map, get_or, refl, ap, sym, ◌∙◌, subst, arith}
use Rattle.std.specs.Prelude.{Some, None, slice_get, slice_index}
use Rattle.std.specs.List.{position_or_len}
use Rattle.std.specs.Option.{option_map_or}
use Rattle.std.proofs.lemmas.Bool.{false≢true}
use Rattle.std.proofs.lemmas.List.{get_or_past}
use Rattle.std.proofs.lemmas.List.Folds.{find_at}
use Rattle.std.proofs.lemmas.Option.{same_Some, slice_get_cases, slice_get_within}
use Rattle.star_model.specs.Sets.{has}
use Rattle.star_model.specs.Stars.{star_named}
use Rattle.star_model.specs.Vectors.{same_numbers}
use Rattle.star_model.specs.Accepted.{references_in, references_of, occurs, Reaches}
use Rattle.star_model.proofs.Laws.{has-zero}
use Rattle.star_model.specs.declared.rules.StarDef.{StarDef}
use Rattle.star_model.specs.declared.rules.RuleFile.{RuleFile}
use Rattle.star_check.specs.Owning.{NamesAreOwn}
use Rattle.star_check.specs.Reaching.{refers, joined_below, AreDirect, AreReached}
use Rattle.star_check.proofs.Walks.{any_map, any_in_bodies}
use Rattle.star_check.proofs.Closing.{closed_below, grows, sound, joined_length}

-- its references have the name
pub refers_where : (rules : RuleFile) (s : StarDef) (name : List ℕ) → occurs rules name (map (λ r. r.0) (references_of s)) ≡ refers s name
refers_where rules s name = any_map (same_numbers name) (λ r. r.0) (references_of s) ∙ any_in_bodies (λ r. same_numbers name r.0) references_in s.alternatives

-- the STARs at these positions, of which the first reaches the second
record ReachesAt (rules : RuleFile) (i j : ℕ) : Type 0 where
  from : StarDef
  to : StarDef
  at_from : slice_get rules.stars i ≡ Some from
  at_to : slice_get rules.stars j ≡ Some to
  reaches : Reaches rules from.name to.name

onward : (rules : RuleFile) (i k j : ℕ) → ReachesAt rules i k → ReachesAt rules k j → ReachesAt rules i j
onward rules i k j p q =
    let same : p.to ≡ q.from = same_Some p.to q.from (sym p.at_to ∙ q.at_from) in
    let middle : Reaches rules p.from.name q.from.name = subst (λ (s : StarDef). Reaches rules p.from.name s.name) same p.reaches in
    record { from = p.from; to = q.to; at_from = p.at_from; at_to = q.at_to; reaches = Reaches.further p.from.name q.from.name q.to.name middle q.reaches }

direct : (rules : RuleFile) (rows : List ℕ) → NamesAreOwn rules → AreDirect rules.stars rows → (i j : ℕ) → has (slice_index rows i) j ≡ true → ReachesAt rules i j
direct rules rows own are i j h =
    elim (slice_get_cases rules.stars i).1 [
      | inl s ↦ from_star s.0 s.2 (slice_get_cases rules.stars j).1
      | inr past ↦
          let none : slice_index rows i ≡ 0 = get_or_past rows i 0 (let l = are.long in omega (arith, past.0, l)) in
          absurd (false≢true (sym (ap (λ row. has row j) none ∙ has-zero j) ∙ h))
    ]
  where
    from_star : (s : StarDef) → slice_get rules.stars i ≡ Some s
        → ((t : StarDef) × (j < length rules.stars) × (slice_get rules.stars j ≡ Some t) × (get_or rules.stars j t ≡ t)) ⊎ ((length rules.stars ≤ j) × (slice_get rules.stars j ≡ None))
        → ReachesAt rules i j
    from_star s at_s (inl t) =
        let refers_name : refers s t.0.name ≡ true = sym (sym h ∙ are.refer i j s at_s ∙ ap (λ o. option_map_or (λ u. refers s u.name) o false) t.2) in
        record { from = s; to = t.0; at_from = at_s; at_to = t.2; reaches = Reaches.directly s t.0.name (own.own i s at_s) (refers_where rules s t.0.name ∙ refers_name) }
    from_star s at_s (inr past) =
        absurd (false≢true (sym (sym h ∙ are.refer i j s at_s ∙ ap (λ o. option_map_or (λ u. refers s u.name) o false) past.1) ∙ refl))

-- what reaches is defined
pub source : (rules : RuleFile) (a b : List ℕ) → Reaches rules a b → (m : ℕ) × (u : StarDef) × (slice_get rules.stars m ≡ Some u) × (u.name ≡ a)
source rules a b (Reaches.directly s name named refers_it) =
    (position_or_len (λ t. same_numbers t.name s.name) rules.stars, s, sym (find_at (λ t. same_numbers t.name s.name) rules.stars) ∙ named, refl)
source rules a c (Reaches.further x y z p q) = source rules x y p

complete : (rules : RuleFile) (rows : List ℕ) (n : ℕ) → NamesAreOwn rules → AreDirect rules.stars rows → n ≡ length rules.stars → (a b : List ℕ) → Reaches rules a b
    → (i j : ℕ) (s t : StarDef) → slice_get rules.stars i ≡ Some s → slice_get rules.stars j ≡ Some t → s.name ≡ a → t.name ≡ b
    → has (slice_index (joined_below n rows) i) j ≡ true
complete rules rows n own are all a b (Reaches.directly u name named refers_it) i j s t at_s at_t is_a is_b =
    let same : s ≡ u = same_Some s u (sym (own.own i s at_s) ∙ ap (star_named rules) is_a ∙ named) in
    let refers_name : refers s t.name ≡ true = (λ k. refers (same k) (is_b k)) ∙ sym (refers_where rules u name) ∙ refers_it in
    grows n rows i j (are.refer i j s at_s ∙ ap (λ o. option_map_or (λ v. refers s v.name) o false) at_t ∙ refers_name)
complete rules rows n own are all a c (Reaches.further x y z p q) i j s t at_s at_t is_a is_c =
    let middle = source rules y z q in
    (closed_below n rows).goes
    middle.0
    i
    j
    (let w : middle.0 < length rules.stars = slice_get_within rules.stars middle.0 middle.1 middle.2 in omega (arith, w, all))
    (complete rules rows n own are all x y p i middle.0 s middle.1 at_s middle.2 is_a middle.3)
    (complete rules rows n own are all y z q middle.0 j middle.1 t middle.2 at_t middle.3 is_c)

pub closes : (rules : RuleFile) (rows : List ℕ) → NamesAreOwn rules → AreDirect rules.stars rows → AreReached rules (joined_below (length rows) rows)
closes rules rows own are = record {
  long = joined_length (length rows) rows ∙ are.long;
  reach = λ i j s t at_s at_t. (
    (λ h. between s t at_s at_t (sound (length rows) rows (ReachesAt rules) (onward rules) (direct rules rows own are) i j h)),
    (λ r. complete rules rows (length rows) own are are.long s.name t.name r i j s t at_s at_t refl refl),
  );
}
  where
    between : {i j : ℕ} (s t : StarDef) → slice_get rules.stars i ≡ Some s → slice_get rules.stars j ≡ Some t → ReachesAt rules i j → Reaches rules s.name t.name
    between s t at_s at_t r =
        let from : r.from ≡ s = same_Some r.from s (sym r.at_from ∙ at_s) in
        let to : r.to ≡ t = same_Some r.to t (sym r.at_to ∙ at_t) in
        subst (λ (p : StarDef × StarDef). Reaches rules p.0.name p.1.name) (λ k. (from k, to k)) r.reaches
