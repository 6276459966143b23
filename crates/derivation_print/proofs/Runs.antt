-- Lexemes that are written one for each item of a list: those of the items that are left complete the whole.
use Rattle.std.proofs.Common.{◌≡◌, ℕ, ◌+◌, ◌<◌, ◌≤◌, List, ◌∷◌, map, drop, get_or, length, sym, ap, ◌∙◌, add-one, drop-cons}
use Rattle.std.proofs.lemmas.List.{drop_all}
use Rattle.spelling.specs.Lexemes.{Lexeme}
use Rattle.spelling.specs.Writing.{Written, put, puts}
use Rattle.spelling.proofs.Laws.{puts-more, puts-none}

pub item_written : {A : Type 0} (f : A → Lexeme) (w v all : Written) (xs : List A) (i : ℕ) (x : A) → i < length xs → puts w (map f (drop i xs)) ≡ all
    → v ≡ put w (f (get_or xs i x)) → puts v (map f (drop (i + 1) xs)) ≡ all
item_written f w v all xs i x below left is =
    let here = f (get_or xs i x) in
    let rest = map f (drop (i + 1) xs) in
    let split : drop i xs ≡ get_or xs i x ∷ drop (i + 1) xs = rw (add-one, drop-cons xs i x) in
    let all_left : map f (drop i xs) ≡ here ∷ rest = ap (map f) split in
    ap (λ u. puts u rest) is ∙ sym (puts-more w here rest) ∙ ap (puts w) (sym all_left) ∙ left

pub all_written : {A : Type 0} (f : A → Lexeme) (w all : Written) (xs : List A) (i : ℕ) → length xs ≤ i → puts w (map f (drop i xs)) ≡ all → w ≡ all
all_written f w all xs i above left = sym (ap (λ rest. puts w (map f rest)) (drop_all i xs above) ∙ puts-none w) ∙ left
