-- The members of a set, written one after the other: those that are left complete the set.
use Rattle.std.proofs.Common.{◌≡◌, ℕ, zero, suc, ◌+◌, ◌-◌, ◌<◌, ◌≤◌, Bool, true, false, if◌then◌else◌, List, [], ◌∷◌, ◌++◌, map, filter, refl, sym, ap, ◌∙◌, arith}
use Rattle.std.specs.List.{range_with_len}
use Rattle.star_model.specs.Sets.{has, members, places}
use Rattle.spelling.specs.Lexemes.{Lexeme, Number, left_brace, right_brace, comma, joined_by}
use Rattle.derivation_reading.specs.Derivations.{set_lexemes}
use Rattle.spelling.specs.Writing.{Written, put, puts}
use Rattle.spelling.proofs.Laws.{puts-more, puts-none, puts-append}
use Rattle.derivation_print.specs.Members.{member_lexemes}

-- ---- the members from a number on

-- the members from k on, in rising order
unfoldable pub members_from : ℕ → ℕ → List ℕ
members_from s k = filter (has s) (range_with_len k (32 - k))

range_step : (k : ℕ) → k < 32 → range_with_len k (32 - k) ≡ k ∷ range_with_len (k + 1) (32 - (k + 1))
range_step k below = let e : 32 - k ≡ suc (32 - (k + 1)) = omega arith in ap (range_with_len k) e

from_step : (s k : ℕ) (b : Bool) → k < 32 → has s k ≡ b → members_from s k ≡ (if b then k ∷ members_from s (k + 1) else members_from s (k + 1))
unfolding members_from
from_step s k b below is =
    ap (filter (has s)) (range_step k below)
    ∙ ap (λ t. if t then k ∷ filter (has s) (range_with_len (k + 1) (32 - (k + 1))) else filter (has s) (range_with_len (k + 1) (32 - (k + 1)))) is

from_end : (s k : ℕ) → 32 ≤ k → members_from s k ≡ []
unfolding members_from
from_end s k above = let e : 32 - k ≡ zero = omega arith in ap (λ n. filter (has s) (range_with_len k n)) e

from_start : (s : ℕ) → members_from s 0 ≡ members s
unfolding members members_from places
from_start s = refl

-- ---- how they are written

unfoldable pub members_lexemes : Bool → List ℕ → List Lexeme
members_lexemes is_first [] = []
members_lexemes is_first (n ∷ more) = member_lexemes is_first n ++ members_lexemes false more

joined : (ns : List ℕ) → members_lexemes true ns ≡ joined_by comma (map (λ n. Number (n + 1) ∷ []) ns)
unfolding members_lexemes
joined [] = refl
joined (n ∷ []) = refl
joined (n ∷ m ∷ ns) = ap (λ later. Number (n + 1) ∷ comma ∷ later) (joined (m ∷ ns))

-- before the closing brace
abbrev pub IsLeft : Written → Bool → ℕ → ℕ → Written → Type 0
IsLeft w is_first s k all = puts w (members_lexemes is_first (members_from s k)) ≡ puts all (members_lexemes true (members s))

pub left_first : (w : Written) (s : ℕ) → IsLeft w true s 0 w
left_first w s = ap (λ ns. puts w (members_lexemes true ns)) (from_start s)

pub left_member : (w v all : Written) (was is_first : Bool) (s k : ℕ) → k < 32 → true ≡ has s k → IsLeft w was s k all → v ≡ puts w (member_lexemes was k) → is_first ≡ false
    → IsLeft v is_first s (k + 1) all
unfolding members_lexemes
left_member w v all was is_first s k below has_it left written no_first =
    let later = members_lexemes false (members_from s (k + 1)) in
    ap (λ b. puts v (members_lexemes b (members_from s (k + 1)))) no_first ∙ ap (λ u. puts u later) written ∙ sym (puts-append w (member_lexemes was k) later)
    ∙ sym (ap (λ ns. puts w (members_lexemes was ns)) (from_step s k true below (sym has_it))) ∙ left

pub left_other : (w v all : Written) (was is_first : Bool) (s k : ℕ) → k < 32 → false ≡ has s k → IsLeft w was s k all → v ≡ w → is_first ≡ was → IsLeft v is_first s (k + 1) all
left_other w v all was is_first s k below has_it left same as_before =
    ap (λ b. puts v (members_lexemes b (members_from s (k + 1)))) as_before ∙ ap (λ u. puts u (members_lexemes was (members_from s (k + 1)))) same
    ∙ sym (ap (λ ns. puts w (members_lexemes was ns)) (from_step s k false below (sym has_it))) ∙ left

pub left_none : (w old all : Written) (is_first : Bool) (s k : ℕ) → 32 ≤ k → all ≡ put old left_brace → IsLeft w is_first s k all → put w right_brace ≡ puts old (set_lexemes s)
unfolding members_lexemes
left_none w old all is_first s k above opened left =
    let inside = joined_by comma (map (λ n. Number (n + 1) ∷ []) (members s)) in
    let is : w ≡ puts (put old left_brace) inside =
    sym (ap (λ ns. puts w (members_lexemes is_first ns)) (from_end s k above) ∙ puts-none w)
    ∙ left ∙ ap (puts all) (joined (members s)) ∙ ap (λ u. puts u inside) opened in
    ap (λ u. put u right_brace) is
    ∙ sym (puts-more old left_brace (inside ++ right_brace ∷ []) ∙ puts-append (put old left_brace) inside (right_brace ∷ [])
    ∙ puts-more (puts (put old left_brace) inside) right_brace [] ∙ puts-none (put (puts (put old left_brace) inside) right_brace))
