-- What tells lists of lexemes apart: their heads, and items of which none is the beginning of another.
use Rattle.std.proofs.Common.{◌≡◌, ℕ, false, List, [], ◌∷◌, ◌++◌, map, refl, sym, ap, ◌∙◌, append_assoc, subst}
use Rattle.spelling.specs.Lexemes.{Lexeme, joined_by, Word, Symbol}
use Rattle.star_model.specs.Every.{Every, HasItem}
use Rattle.star_model.specs.Vectors.{same_numbers}
use Rattle.star_model.proofs.Laws.{same_self}

-- a map that tells items apart tells lists of them apart
pub same_lists : {A B : Type 0} (f : A → B) (Ok : A → Type 0) → ((x y : A) → Ok x → Ok y → f x ≡ f y → x ≡ y)
    → (xs ys : List A) → Every Ok xs → Every Ok ys → map f xs ≡ map f ys → xs ≡ ys
same_lists f Ok tells [] [] p q e = refl
same_lists f Ok tells [] (y ∷ ys) p q e = cc
same_lists f Ok tells (x ∷ xs) [] p q e = cc
same_lists f Ok tells (x ∷ xs) (y ∷ ys) p q e =
    let first : f x ≡ f y = cc in
    let later : map f xs ≡ map f ys = cc in
    let one = tells x y p.0 q.0 first in
    let others = same_lists f Ok tells xs ys p.1 q.1 later in
    cc

pub anything : {A : Type 0} (xs : List A) → Every (λ _. Unit {0}) xs
anything [] = tt
anything (x ∷ xs) = (tt, anything xs)

pub same_maps : {A B : Type 0} (f : A → B) → ((x y : A) → f x ≡ f y → x ≡ y) → (xs ys : List A) → map f xs ≡ map f ys → xs ≡ ys
same_maps f tells xs ys e = same_lists f (λ _. Unit {0}) (λ x y p q. tells x y) xs ys (anything xs) (anything ys) e

-- words that are spelled otherwise
pub differ : (a b : List ℕ) → same_numbers a b ≡ false → Word a ≡ Word b → ⊥
differ a b other e =
    let one : a ≡ b = cc in
    let not_ : same_numbers a a ≡ false = subst (λ (l : List ℕ). same_numbers a l ≡ false) (sym one) other in
    let is = same_self a in
    cc

pub heads : (x y : Lexeme) (r s : List Lexeme) → x ∷ r ≡ y ∷ s → (x ≡ y) × (r ≡ s)
heads x y r s e = (cc, cc)

pub tails : (x : Lexeme) (r s : List Lexeme) → x ∷ r ≡ x ∷ s → r ≡ s
tails x r s e = cc

pub apart : (a b : List ℕ) (r s : List Lexeme) → same_numbers a b ≡ false → Word a ∷ r ≡ Word b ∷ s → ⊥
apart a b r s other e = differ a b other (heads (Word a) (Word b) r s e).0

pub apart_symbols : (a b : List ℕ) (r s : List Lexeme) → same_numbers a b ≡ false → Symbol a ∷ r ≡ Symbol b ∷ s → ⊥
apart_symbols a b r s other e =
    let one : a ≡ b = symbols a b (heads (Symbol a) (Symbol b) r s e).0 in
    let not_ : same_numbers a a ≡ false = subst (λ (l : List ℕ). same_numbers a l ≡ false) (sym one) other in
    let is = same_self a in
    cc where
      symbols : (a b : List ℕ) → Symbol a ≡ Symbol b → a ≡ b
      symbols a b e = cc

-- Items, of which none is the beginning of another where what follows is of a kind, and a lexeme between two.
module _ {A : Type 0} (spell : A → List Lexeme) (Ok : A → Type 0) (Follow : List Lexeme → Type 0) (between : Lexeme)
    (follows : (r : List Lexeme) → Follow (between ∷ r))
    (splits : (x y : A) (r s : List Lexeme) → Ok x → Ok y → Follow r → Follow s → spell x ++ r ≡ spell y ++ s → (x ≡ y) × (r ≡ s)) where
  -- what may stand behind the last item
  abbrev pub Ends : List Lexeme → Type 0
  Ends r = Follow r × ((t : List Lexeme) → r ≡ between ∷ t → ⊥)

  abbrev pub all : List A → List Lexeme
  all xs = joined_by between (map spell xs)

  pub series_from : (x y : A) (xs ys : List A) (r s : List Lexeme) → Every Ok (x ∷ xs) → Every Ok (y ∷ ys) → Ends r → Ends s
      → all (x ∷ xs) ++ r ≡ all (y ∷ ys) ++ s → (x ∷ xs ≡ y ∷ ys) × (r ≡ s)
  series_from x y [] [] r s p q m n e =
      let one = splits x y r s p.0 q.0 m.0 n.0 e in
      (ap (λ (z : A). z ∷ []) one.0, one.1)
  series_from x y [] (y2 ∷ ys) r s p q m n e =
      let one = splits x y r (between ∷ (all (y2 ∷ ys) ++ s)) p.0 q.0 m.0 (follows (all (y2 ∷ ys) ++ s)) (e ∙ append_assoc (spell y) (between ∷ all (y2 ∷ ys)) s) in
      absurd (m.1 (all (y2 ∷ ys) ++ s) one.1)
  series_from x y (x2 ∷ xs) [] r s p q m n e =
      let one = splits x y (between ∷ (all (x2 ∷ xs) ++ r)) s p.0 q.0 (follows (all (x2 ∷ xs) ++ r)) n.0 (sym (append_assoc (spell x) (between ∷ all (x2 ∷ xs)) r) ∙ e) in
      absurd (n.1 (all (x2 ∷ xs) ++ r) (sym one.1))
  series_from x y (x2 ∷ xs) (y2 ∷ ys) r s p q m n e =
      let one = splits x y (between ∷ (all (x2 ∷ xs) ++ r)) (between ∷ (all (y2 ∷ ys) ++ s)) p.0 q.0 (follows (all (x2 ∷ xs) ++ r)) (follows (all (y2 ∷ ys) ++ s))
      (sym (append_assoc (spell x) (between ∷ all (x2 ∷ xs)) r) ∙ e ∙ append_assoc (spell y) (between ∷ all (y2 ∷ ys)) s) in
      let later : all (x2 ∷ xs) ++ r ≡ all (y2 ∷ ys) ++ s = cc in
      let more = series_from x2 y2 xs ys r s p.1 q.1 m n later in
      ((λ i. one.0 i ∷ more.0 i), more.1)

  pub series : (xs ys : List A) (r s : List Lexeme) → HasItem xs → HasItem ys → Every Ok xs → Every Ok ys → Ends r → Ends s
      → all xs ++ r ≡ all ys ++ s → (xs ≡ ys) × (r ≡ s)
  series [] ys r s h k p q m n e = absurd h
  series (x ∷ xs) [] r s h k p q m n e = absurd k
  series (x ∷ xs) (y ∷ ys) r s h k p q m n e = series_from x y xs ys r s p q m n e
