-- What is written of a tree is made of lexemes that can be laid out.
use Rattle.std.proofs.Common.{◌≡◌, ℕ, Bool, true, false, ◌&&◌, List, [], ◌∷◌, ◌++◌, map, codes, refl, sym, ap, ◌∙◌}
use Rattle.std.proofs.lemmas.Bool.{and_parts}
use Rattle.std.proofs.lemmas.List.Sums.{AllPass-from_list_all}
use Rattle.std.proofs.lemmas.Map.Views.{Contains-from_any}
use Rattle.std.specs.List.{list_all, list_any}
use Rattle.std.specs.Cmp.Lexicographic.{same_text}
use Rattle.sb_text.specs.Bytes.{begins_word, is_in_word}
use Rattle.sb_text.specs.Forms.{IsWord, symbols}
use Rattle.star_model.specs.Vectors.{same_numbers}
use Rattle.spelling.specs.Lexemes.{Lexeme, Symbol, comma, left_bracket, right_bracket, joined_by, bracketed}
use Rattle.star_model.specs.Every.{Every}
use Rattle.spelling.specs.Layout.{IsLexeme}

-- ---- words and symbols that are given byte by byte

abbrev word_test : List ℕ → Bool
word_test [] = false
word_test (b ∷ rest) = begins_word b && list_all is_in_word rest

pub given_word : (bytes : List ℕ) → word_test bytes ≡ true → IsWord bytes
given_word [] e = cc
given_word (b ∷ rest) e = let p = and_parts _ _ e in (p.0, AllPass-from_list_all is_in_word rest p.1)

pub given_symbol : (bytes : List ℕ) → list_any (same_numbers bytes) symbols ≡ true → same_numbers bytes (codes ";") ≡ false → IsLexeme (Symbol bytes)
given_symbol bytes e other = (Contains-from_any (λ x y f. same_text x y (sym f)) bytes symbols e, no_end) where
  no_end : bytes ≡ codes ";" → ⊥
  no_end f =
      let same : same_numbers bytes (codes ";") ≡ true = ap (λ (l : List ℕ). same_numbers l (codes ";")) f in
      let bad : true ≡ false = sym same ∙ other in
      cc

pub a_comma : IsLexeme comma
a_comma = given_symbol (codes ",") refl refl

pub a_left_bracket : IsLexeme left_bracket
a_left_bracket = given_symbol (codes "(") refl refl

pub a_right_bracket : IsLexeme right_bracket
a_right_bracket = given_symbol (codes ")") refl refl

-- ---- parts

abbrev pub Formed : List Lexeme → Type 0
Formed xs = Every IsLexeme xs

pub every_both : {A : Type 0} (P : A → Type 0) (xs ys : List A) → Every P xs → Every P ys → Every P (xs ++ ys)
every_both P [] ys h k = k
every_both P (x ∷ xs) ys h k = (h.0, every_both P xs ys h.1 k)

pub every_front : {A : Type 0} (P : A → Type 0) (xs ys : List A) → Every P (xs ++ ys) → Every P xs
every_front P [] ys h = tt
every_front P (x ∷ xs) ys h = (h.0, every_front P xs ys h.1)

pub every_back : {A : Type 0} (P : A → Type 0) (xs ys : List A) → Every P (xs ++ ys) → Every P ys
every_back P [] ys h = h
every_back P (x ∷ xs) ys h = every_back P xs ys h.1

pub both : (xs ys : List Lexeme) → Formed xs → Formed ys → Formed (xs ++ ys)
both xs ys h k = every_both IsLexeme xs ys h k

pub formed_series : {A : Type 0} (spell : A → List Lexeme) (Ok : A → Type 0) (between : Lexeme) → IsLexeme between → ((x : A) → Ok x → Formed (spell x))
    → (xs : List A) → Every Ok xs → Formed (joined_by between (map spell xs))
formed_series spell Ok between b f [] h = tt
formed_series spell Ok between b f (x ∷ []) h = f x h.0
formed_series spell Ok between b f (x ∷ y ∷ xs) h =
    both (spell x) (between ∷ joined_by between (map spell (y ∷ xs))) (f x h.0) (b, formed_series spell Ok between b f (y ∷ xs) h.1)

pub formed_bracketed : (xs : List Lexeme) → Formed xs → Formed (bracketed xs)
formed_bracketed xs h = (a_left_bracket, both xs (right_bracket ∷ []) h (a_right_bracket, tt))

pub map_every : {A B : Type 0} (f : A → B) (P : B → Type 0) (Ok : A → Type 0) → ((x : A) → Ok x → P (f x)) → (xs : List A) → Every Ok xs → Every P (map f xs)
map_every f P Ok g [] h = tt
map_every f P Ok g (x ∷ xs) h = (g x h.0, map_every f P Ok g xs h.1)
