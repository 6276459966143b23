-- What holds at each place of an accepted rule file.
use Prim.Native.Nat.{zero, suc}
use Rattle.std.proofs.Common.{◌≡◌, ◌≤◌, ◌⊎◌, inl, inr, Bool, true, false, not, ◌||◌, nat_lt, List, [], ◌∷◌, length, refl, ap, sym, ◌∙◌, subst, arith}
use Rattle.std.specs.Prelude.{◌&&◌, Some, Contains, codes}
use Rattle.std.specs.List.{list_any, list_all}
use Rattle.std.proofs.lemmas.Bool.{false≢true, and_parts, or_parts, lt-ltb, cases_lt}
use Rattle.std.proofs.lemmas.Option.{slice_get-get_or}
use Rattle.star_model.specs.Stars.{star_named}
use Rattle.star_model.specs.Accepted.{IsAccepted, Reaches, glues_in, bodies_of, kinds_of, alternative_has_kinds, has_wrong_kind, is_access_root, is_join_root, same_kinds, height_of}
use Rattle.star_model.specs.declared.rules.Kind.TheVariants as kind
use Rattle.star_model.specs.declared.rules.StarDef.{StarDef}
use Rattle.star_model.specs.declared.rules.Alternative.{Alternative}
use Rattle.star_model.specs.declared.rules.RuleFile.{RuleFile}
use Rattle.star_model.specs.Every.{Every}
use Rattle.star_model.specs.WellFormedRules.{WellFormedRules, KeepsStarLimits, IsShallow, nesting}
use Rattle.star_check.proofs.Bindings.{same_kinds_are}
use Rattle.star_check.proofs.Owned.{fails, names_are_own}

not_false : (b : Bool) → not b ≡ false → b ≡ true
not_false true h = refl
not_false false h = absurd (false≢true (sym h))

all_at : {A : Type 0} (p : A → Bool) (xs : List A) (x : A) → list_all p xs ≡ true → Contains xs x → p x ≡ true
all_at p [] x h (k, below, is) = let no : ⊥ = omega (arith, below) in absurd no
all_at p (y ∷ ys) x h (zero, below, is) = ap p (sym is) ∙ (and_parts (p y) (list_all p ys) h).0
all_at p (y ∷ ys) x h (suc k, below, is) = all_at p ys x (and_parts (p y) (list_all p ys) h).1 (k, omega (arith, below), is)

-- what has no wrong kind: its alternatives, and its parameters if it is a root
record RightKinds (rules : RuleFile) (s : StarDef) : Type 0 where
  alternatives : list_all (alternative_has_kinds rules (kinds_of rules s)) s.alternatives ≡ true
  access : (is_access_root rules s && not (same_kinds rules (kinds_of rules s) (kind.Stream ∷ kind.Preds ∷ []))) ≡ false
  join : (is_join_root rules s && not (same_kinds rules (kinds_of rules s) (kind.Stream ∷ kind.Stream ∷ kind.Preds ∷ []))) ≡ false

right_kinds : (rules : RuleFile) (s : StarDef) → IsAccepted rules → Contains rules.stars s → RightKinds rules s
right_kinds rules s accepted has_s =
    let own : Bool = not (list_all (alternative_has_kinds rules (kinds_of rules s)) s.alternatives) in
    let access : Bool = is_access_root rules s && not (same_kinds rules (kinds_of rules s) (kind.Stream ∷ kind.Preds ∷ [])) in
    let join : Bool = is_join_root rules s && not (same_kinds rules (kinds_of rules s) (kind.Stream ∷ kind.Stream ∷ kind.Preds ∷ [])) in
    let right : has_wrong_kind rules s ≡ false = fails (has_wrong_kind rules s) (λ h. accepted.kinds s.statement (s, has_s, refl, h)) in
    let parts = or_parts (own || access) join right in
    let both = or_parts own access parts.0 in
    record { alternatives = not_false (list_all (alternative_has_kinds rules (kinds_of rules s)) s.alternatives) both.0; access = both.1; join = parts.1 }

pub values_are_kinded : (rules : RuleFile) (s : StarDef) (a : Alternative) → IsAccepted rules → Contains rules.stars s → Contains s.alternatives a
    → alternative_has_kinds rules (kinds_of rules s) a ≡ true
values_are_kinded rules s a accepted has_s has_a =
    all_at (alternative_has_kinds rules (kinds_of rules s)) s.alternatives a (right_kinds rules s accepted has_s).alternatives has_a

-- the parameters of the roots
then_so : (b c : Bool) → (b && not c) ≡ false → b ≡ true → c ≡ true
then_so b c h is = not_false c (ap (λ x. x && not c) (sym is) ∙ h)

pub access_kinds : (rules : RuleFile) (s : StarDef) → IsAccepted rules → Contains rules.stars s → is_access_root rules s ≡ true → kinds_of rules s ≡ kind.Stream ∷ kind.Preds ∷ []
access_kinds rules s accepted has root =
    same_kinds_are rules (kinds_of rules s) (kind.Stream ∷ kind.Preds ∷ []) (then_so (is_access_root rules s) (same_kinds rules (kinds_of rules s) (kind.Stream ∷ kind.Preds ∷ [])) (right_kinds rules s accepted has).access root)

pub join_kinds : (rules : RuleFile) (s : StarDef) → IsAccepted rules → Contains rules.stars s → is_join_root rules s ≡ true
    → kinds_of rules s ≡ kind.Stream ∷ kind.Stream ∷ kind.Preds ∷ []
join_kinds rules s accepted has root =
    same_kinds_are
    rules
    (kinds_of rules s)
    (kind.Stream ∷ kind.Stream ∷ kind.Preds ∷ [])
    (then_so (is_join_root rules s) (same_kinds rules (kinds_of rules s) (kind.Stream ∷ kind.Stream ∷ kind.Preds ∷ [])) (right_kinds rules s accepted has).join root)

pub no_glue_below : (rules : RuleFile) (s : StarDef) → IsAccepted rules → Contains rules.stars s → (is_access_root rules s ≡ true) ⊎ Reaches rules (codes "AccessRoot") s.name
    → list_any (λ b. nat_lt 0 (length (glues_in b))) (bodies_of s) ≡ false
no_glue_below rules s accepted has root =
    fails (list_any (λ b. nat_lt 0 (length (glues_in b))) (bodies_of s)) (λ h. accepted.no_glue_in_access s.statement (s, has, refl, (root, h)))

pub low_heights : (rules : RuleFile) (s : StarDef) → IsAccepted rules → Contains rules.stars s → height_of rules s ≤ 16
low_heights rules s accepted has =
    elim (cases_lt 16 (height_of rules s)) [ inl high ↦ absurd (accepted.low s.statement (s, has, refl, lt-ltb 16 (height_of rules s) high)) | inr low ↦ low ]

every_has : {A : Type 0} (P : A → Type 0) (xs : List A) (x : A) → Every P xs → Contains xs x → P x
every_has P [] x h (k, below, is) = let no : ⊥ = omega (arith, below) in absurd no
every_has {A = A} P (y ∷ ys) x h (zero, below, is) = subst P is h.0
every_has P (y ∷ ys) x h (suc k, below, is) = every_has P ys x h.1 (k, omega (arith, below), is)

pub bodies_are_shallow : (rules : RuleFile) (s : StarDef) (a : Alternative) → WellFormedRules rules → Contains rules.stars s → Contains s.alternatives a → nesting a.body ≤ 8
bodies_are_shallow rules s a formed has_s has_a = every_has IsShallow s.alternatives a (every_has KeepsStarLimits rules.stars s formed.limits has_s).bodies has_a

pub its_own : (rules : RuleFile) (s : StarDef) → WellFormedRules rules → IsAccepted rules → Contains rules.stars s → star_named rules s.name ≡ Some s
its_own rules s formed accepted has = (names_are_own rules formed accepted.once).own has.0 s (slice_get-get_or rules.stars has.0 s has.1 ∙ ap Some has.2)
