-- Names that aren't reserved.
use Rattle.std.proofs.Common.{◌≡◌, ℕ, Bool, true, false, ◌&&◌, nat_eq, List, [], ◌∷◌, refl, sym, ◌∙◌, subst}
use Rattle.std.proofs.lemmas.Bool.{and_parts, or_parts}
use Rattle.std.specs.List.{list_all}
use Rattle.std.specs.Cmp.Lexicographic.{same_text}
use Rattle.star_model.specs.Vectors.{same_numbers}
use Rattle.star_model.specs.Names.{is_among}
use Rattle.spelling.specs.Names.{found_in}
use Rattle.star_model.specs.WellFormedRules.{reserved_words, words_of_version_2, IsName}

-- a name that isn't reserved in some version is none of the words that each version reserves
pub not_reserved : (version : ℕ) (name : List ℕ) → IsName version name → is_among reserved_words name ≡ false
not_reserved version name free = (or_parts (is_among reserved_words name) (nat_eq version 2 && is_among words_of_version_2 name) free).0

-- so it stands in no table of such words
pub not_found : {A : Type 0} (version : ℕ) (other : A) (rows : List (List ℕ × A)) (name : List ℕ) → list_all (λ row. is_among reserved_words row.0) rows ≡ true → IsName version name → found_in other rows name ≡ other
not_found version other [] name all free = refl
not_found {A} version other (row ∷ rows) name all free =
    let p = and_parts (is_among reserved_words row.0) (list_all (λ (r : List ℕ × A). is_among reserved_words r.0) rows) all in
    at (same_numbers row.0 name) refl (not_found version other rows name p.1 free) p.0 where
      at : (b : Bool) → same_numbers row.0 name ≡ b → found_in other rows name ≡ other → is_among reserved_words row.0 ≡ true → found_in other (row ∷ rows) name ≡ other
      at true is later reserved =
          let same = same_text row.0 name (sym is) in
          let yes_ : is_among reserved_words name ≡ true = subst (λ (w : List ℕ). is_among reserved_words w ≡ true) same reserved in
          let bad : true ≡ false = sym yes_ ∙ not_reserved version name free in
          cc
      at false is later reserved = rw is later
