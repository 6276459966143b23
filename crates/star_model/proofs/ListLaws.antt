-- Prefixes and members of lists of columns.
use Rattle.std.proofs.Common.{◌≡◌, ℕ, ◌&&◌, ◌||◌, nat_eq, List, [], ◌∷◌, refl, ap, sym, ◌∙◌, inl, inr}
use Rattle.std.specs.List.{starts_with, list_any}
use Rattle.std.proofs.lemmas.Bool.{eq-eqb, ne_eqb, cases_eq}
use Rattle.star_model.specs.declared.columns.Col.{Col}
use Rattle.star_model.specs.Vectors.{begins, same_column}

pub same_prefix : (prefix cols : List Col) → starts_with same_column cols prefix ≡ begins prefix cols
unfolding begins
same_prefix [] cols = refl
same_prefix (x ∷ xs) [] = refl
same_prefix (x ∷ xs) (y ∷ ys) = ap (λ b. same_column x y && b) (same_prefix xs ys)

turned : (a b : ℕ) → nat_eq a b ≡ nat_eq b a
turned a b = elim (cases_eq a b) [
  | inl e ↦ eq-eqb a b e ∙ sym (eq-eqb b a (sym e))
  | inr d ↦ ne_eqb a b d ∙ sym (ne_eqb b a (λ e. d (sym e)))
]

same_turned : (c d : Col) → same_column d c ≡ same_column c d
same_turned c d i = turned d.quant.0 c.quant.0 i && turned d.column c.column i

pub any_turned : (c : Col) (cols : List Col) → list_any (λ d. same_column d c) cols ≡ list_any (same_column c) cols
any_turned c [] = refl
any_turned c (d ∷ cols) = λ i. same_turned c d i || any_turned c cols i
