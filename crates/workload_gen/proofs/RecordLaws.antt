-- Records that are added one after the other: those that are left complete the table.
use Rattle.std.proofs.Common.{◌≡◌, ℕ, suc, ◌+◌, ◌<◌, ◌≤◌, List, [], ◌∷◌, ◌++◌, drop, get_or, length, refl, sym, ap, ◌∙◌, append_assoc, append-nil, add-one, drop-cons, arith}
use Rattle.std.proofs.lemmas.List.{drop_all}
use Rattle.sb_outside.specs.Pieces.{with_last_item}
use Rattle.sb_outside.specs.Records.{Records}
use Rattle.workload_gen.specs.Records.{row_record, rows_from}

field_more : (front : Records) (last : List (List ℕ)) (field : List ℕ) → with_last_item (front ++ last ∷ []) field ≡ front ++ (last ++ field ∷ []) ∷ []
field_more [] last field = refl
field_more (x ∷ []) last field = refl
field_more (x ∷ y ∷ front) last field = ap (λ rest. x ∷ rest) (field_more (y ∷ front) last field)

pub field_added : (table begun one : Records) (first : List ℕ) → begun ≡ table ++ [] ∷ [] → one ≡ with_last_item begun first → one ≡ table ++ (first ∷ []) ∷ []
field_added table begun one first begins adds = adds ∙ ap (λ (t : Records). with_last_item t first) begins ∙ field_more table [] first

-- a record of two fields
pub pair_added : (table begun one two : Records) (first second : List ℕ) → begun ≡ table ++ [] ∷ [] → one ≡ with_last_item begun first → two ≡ with_last_item one second
    → two ≡ table ++ (first ∷ second ∷ []) ∷ []
pair_added table begun one two first second begins adds adds_next =
    adds_next ∙ ap (λ (t : Records). with_last_item t second) (field_added table begun one first begins adds) ∙ field_more table (first ∷ []) second

-- a table with a record behind others has one
pub some_record : (table : Records) (record_ : List (List ℕ)) → 0 < length (table ++ record_ ∷ [])
some_record [] record_ = omega arith
some_record (x ∷ table) record_ = omega arith

-- the rows from a place on complete the whole
abbrev pub RowsLeft : Records → List ℕ → ℕ → Records → Type 0
RowsLeft table prevs place all = table ++ rows_from place (drop place prevs) ≡ all

pub row_next : (table more all : Records) (prevs : List ℕ) (place prev : ℕ) → place < length prevs → RowsLeft table prevs place all → prev ≡ get_or prevs place prev
    → more ≡ table ++ row_record place prev ∷ [] → RowsLeft more prevs (place + 1) all
row_next table more all prevs place prev below left at is =
    let later = rows_from (place + 1) (drop (place + 1) prevs) in
    let split : drop place prevs ≡ prev ∷ drop (place + 1) prevs = rw (add-one, drop-cons prevs place prev) (ap (λ y. y ∷ drop (suc place) prevs) (sym at)) in
    ap (λ t. t ++ later) is ∙ append_assoc table (row_record place prev ∷ []) later ∙ ap (λ l. table ++ rows_from place l) (sym split) ∙ left

pub rows_done : (table all : Records) (prevs : List ℕ) (place : ℕ) → length prevs ≤ place → RowsLeft table prevs place all → table ≡ all
rows_done table all prevs place above left = sym (ap (λ l. table ++ rows_from place l) (drop_all place prevs above) ∙ append-nil table) ∙ left
