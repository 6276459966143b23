-- Lists that are printed part by part: what is left completes the whole.
use Rattle.std.proofs.Common.{◌≡◌, ℕ, suc, ◌+◌, ◌-◌, ◌<◌, ◌≤◌, List, [], ◌∷◌, ◌++◌, map, take, drop, get_or, length, sym, ap, ◌∙◌, add-one, drop-cons, arith}
use Rattle.std.proofs.lemmas.List.{drop_all, take_all, append-nil}
use Rattle.std.proofs.lemmas.List.Folds.{flat_map-map}
use Rattle.std.specs.List.{flat_map}
use Rattle.spelling.specs.Lexemes.{Lexeme, joined_by}
use Rattle.spelling.specs.Writing.{Written, puts}
use Rattle.spelling.proofs.WritingLaws.{puts-none, puts-append}

-- the parts from a place on complete the whole
abbrev pub RunLeft : {A : Type 0} → (A → List Lexeme) → Written → List A → ℕ → Written → Type 0
RunLeft spell w parts place all = puts w (flat_map spell (drop place parts)) ≡ all

pub run_next : {A : Type 0} (spell : A → List Lexeme) (w v all : Written) (parts : List A) (place : ℕ) (x : A) → place < length parts → RunLeft spell w parts place all
    → x ≡ get_or parts place x → v ≡ puts w (spell x) → RunLeft spell v parts (place + 1) all
run_next spell w v all parts place x below left at is =
    let later = flat_map spell (drop (place + 1) parts) in
    let split : drop place parts ≡ x ∷ drop (place + 1) parts = rw (add-one, drop-cons parts place x) (ap (λ y. y ∷ drop (suc place) parts) (sym at)) in
    ap (λ u. puts u later) is ∙ sym (puts-append w (spell x) later) ∙ ap (λ l. puts w (flat_map spell l)) (sym split) ∙ left

pub run_done : {A : Type 0} (spell : A → List Lexeme) (w all : Written) (parts : List A) (place : ℕ) → length parts ≤ place → RunLeft spell w parts place all → w ≡ all
run_done spell w all parts place above left = sym (ap (λ l. puts w (flat_map spell l)) (drop_all place parts above) ∙ puts-none w) ∙ left

-- ---- parts with a lexeme between two

-- a part behind this lexeme
abbrev pub behind : {A : Type 0} → Lexeme → (A → List Lexeme) → A → List Lexeme
behind between spell part = between ∷ spell part

pub joined-first : (between : Lexeme) (first : List Lexeme) (later : List (List Lexeme)) → joined_by between (first ∷ later) ≡ first ++ flat_map (λ part. between ∷ part) later
joined-first between first [] = sym (append-nil first)
joined-first between first (next ∷ later) = ap (λ l. first ++ between ∷ l) (joined-first between next later)

joined : {A : Type 0} (between : Lexeme) (spell : A → List Lexeme) (first : List Lexeme) (parts : List A) → joined_by between (first ∷ map spell parts) ≡ first ++ flat_map (behind between spell) parts
joined between spell first parts = joined-first between first (map spell parts) ∙ ap (λ l. first ++ l) (flat_map-map (λ part. between ∷ part) spell parts)

-- all but the first
abbrev pub later_of : {A : Type 0} → List A → List A
later_of parts = take (length parts - 1) (drop 1 parts)

pub first_and_later : {A : Type 0} (between : Lexeme) (spell : A → List Lexeme) (w v u : Written) (parts : List A) (x : A) → 1 ≤ length parts → x ≡ get_or parts 0 x → v ≡ puts w (spell x)
    → u ≡ puts v (flat_map (behind between spell) (later_of parts)) → u ≡ puts w (joined_by between (map spell parts))
first_and_later between spell w v u [] x some at first later = absurd (omega arith)
first_and_later between spell w v u (part ∷ parts) x some at first later =
    let rest = flat_map (behind between spell) parts in
    let all : later_of (part ∷ parts) ≡ parts = ap (λ n. take n parts) (omega arith) ∙ take_all (length parts) parts (omega arith) in
    later ∙ ap (λ l. puts v (flat_map (behind between spell) l)) all ∙ ap (λ z. puts z rest) (first ∙ ap (λ y. puts w (spell y)) at) ∙ sym (puts-append w (spell part) rest)
    ∙ ap (puts w) (sym (joined between spell (spell part) parts))

pub no_parts : {A : Type 0} (between : Lexeme) (spell : A → List Lexeme) (w : Written) (parts : List A) → length parts < 1 → w ≡ puts w (joined_by between (map spell parts))
no_parts between spell w [] below = sym (puts-none w)
no_parts between spell w (part ∷ parts) below = absurd (omega arith)
