-- The first finding among more and more of a list.
use Rattle.std.proofs.Common.{◌≡◌, ℕ, ◌+◌, ◌<◌, ◌≤◌, inl, inr, Bool, true, false, if◌then◌else◌, nat_lt, List, [], ◌∷◌, ◌++◌, length, take, get_or, refl, ap, sym, ◌∙◌, subst, arith}
use Rattle.std.specs.Prelude.{Option, Some, None}
use Rattle.std.proofs.lemmas.Bool.{ltb-true, ltb-false}
use Rattle.std.proofs.lemmas.List.{take_more, take_all}
use Rattle.std.proofs.lemmas.List.Elements.{Contains-append_left, Contains-push, Contains-push_cases}
use Rattle.star_check.specs.declared.found.Found.{Found}
use Rattle.star_check.specs.Findings.{IsFirstFound, IsOwn, earlier_found}

push : {A T : Type 0} (Shows : A → Found T → Type 0) (xs : List A) (x : A) (first own : Option (Found T))
    → IsFirstFound Shows xs first → IsOwn Shows x own → IsFirstFound Shows (xs ++ x ∷ []) (earlier_found first own)
push {A = A} {T = T} Shows xs x None None before alone =
    λ y f has shows. elim (Contains-push_cases xs x y has) [ inl h ↦ before y f h shows | inr e ↦ alone f (subst (λ (z : A). Shows z f) (sym e) shows) ]
push {A = A} {T = T} Shows xs x None (Some g) before alone = (
  (x, Contains-push xs x, alone.0),
  (λ y f has shows. elim (Contains-push_cases xs x y has) [ inl h ↦ absurd (before y f h shows) | inr e ↦ let s = alone.1 f (subst (λ (z : A). Shows z f) (sym e) shows) in omega (arith, s) ]),
)
push {A = A} {T = T} Shows xs x (Some f) None before alone = (
  (before.0.0, Contains-append_left xs (x ∷ []) before.0.0 before.0.1, before.0.2),
  (λ y g has shows. elim (Contains-push_cases xs x y has) [ inl h ↦ before.1 y g h shows | inr e ↦ absurd (alone g (subst (λ (z : A). Shows z g) (sym e) shows)) ]),
)
push {A = A} {T = T} Shows xs x (Some f) (Some g) before alone = step (nat_lt g.statement f.statement) refl
  where
    step : (b : Bool) → nat_lt g.statement f.statement ≡ b → IsFirstFound Shows (xs ++ x ∷ []) (if b then Some g else Some f)
    step true is =
        let less : g.statement < f.statement = ltb-true g.statement f.statement is in (
          (x, Contains-push xs x, alone.0),
          (λ y h has shows.
              elim (Contains-push_cases xs x y has)
              [ inl old ↦ let s = before.1 y h old shows in omega (arith, s, less) | inr e ↦ let s = alone.1 h (subst (λ (z : A). Shows z h) (sym e) shows) in omega (arith, s) ]),
        )
    step false is =
        let more : f.statement ≤ g.statement = ltb-false g.statement f.statement is in (
          (before.0.0, Contains-append_left xs (x ∷ []) before.0.0 before.0.1, before.0.2),
          (λ y h has shows.
              elim (Contains-push_cases xs x y has)
              [ inl old ↦ before.1 y h old shows | inr e ↦ let s = alone.1 h (subst (λ (z : A). Shows z h) (sym e) shows) in omega (arith, s, more) ]),
        )

pub first_turn : {A T : Type 0} (Shows : A → Found T → Type 0) (items : List A) (i : ℕ) (x : A) (first own next : Option (Found T))
    → i < length items → x ≡ get_or items i x → IsFirstFound Shows (take i items) first → IsOwn Shows x own → next ≡ earlier_found first own
    → IsFirstFound Shows (take (i + 1) items) next
first_turn {A = A} {T = T} Shows items i x first own next below is before alone after =
    let more : take (i + 1) items ≡ take i items ++ x ∷ [] = take_more items i x below ∙ ap (λ y. take i items ++ y ∷ []) (sym is) in
    subst
    (λ (f : Option (Found T)). IsFirstFound Shows (take (i + 1) items) f)
    (sym after)
    (subst (λ (xs : List A). IsFirstFound Shows xs (earlier_found first own)) (sym more) (push Shows (take i items) x first own before alone))

pub none_first : {A T : Type 0} (Shows : A → Found T → Type 0) (items : List A) → IsFirstFound Shows (take 0 items) None
none_first Shows items = λ x f has shows. let no : ⊥ = omega (arith, has.1) in no

pub first_all : {A T : Type 0} (Shows : A → Found T → Type 0) (items all : List A) (i : ℕ) (first : Option (Found T)) → items ≡ all → length items ≤ i
    → IsFirstFound Shows (take i items) first → IsFirstFound Shows all first
first_all {A = A} {T = T} Shows items all i first same end found = subst (λ (xs : List A). IsFirstFound Shows xs first) (take_all i items end ∙ same) found
