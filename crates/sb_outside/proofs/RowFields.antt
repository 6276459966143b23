-- A record that is added field by field.
use Rattle.std.proofs.Common.{◌≡◌, ◌+◌, ℕ, List, [], ◌∷◌, ◌++◌, take, Some, None, refl, ap, sym, ◌∙◌, zero, suc, add-one}
use Rattle.csv.specs.Records.{field_at}
use Rattle.sb_outside.specs.Pieces.{with_last_item}
use Rattle.sb_outside.specs.Records.{Records}

last_more : {A : Type 0} (front : List (List A)) (last : List A) (item : A) → with_last_item (front ++ last ∷ []) item ≡ front ++ (last ++ item ∷ []) ∷ []
last_more [] last item = refl
last_more (x ∷ []) last item = refl
last_more (x ∷ y ∷ front) last item = ap (λ rest. x ∷ rest) (last_more (y ∷ front) last item)

next_field : (fields : List (List ℕ)) (i : ℕ) (field : List ℕ) → Some field ≡ field_at fields i → take (suc i) fields ≡ take i fields ++ field ∷ []
unfolding field_at
next_field [] i field is = cc
next_field (x ∷ fields) zero field is = cc
next_field (x ∷ fields) (suc i) field is = ap (λ rest. x ∷ rest) (next_field fields i field is)

-- one field more of a row
pub field_added : (table : Records) (fields : List (List ℕ)) (i : ℕ) (field : List ℕ) → Some field ≡ field_at fields i
    → with_last_item (table ++ take i fields ∷ []) field ≡ table ++ take (i + 1) fields ∷ []
field_added table fields i field is =
    rw add-one (last_more table (take i fields) field ∙ ap (λ fields. table ++ fields ∷ []) (sym (next_field fields i field is)))

-- no field more
pub all_fields : (fields : List (List ℕ)) (i : ℕ) → None ≡ field_at fields i → take i fields ≡ fields
unfolding field_at
all_fields [] zero is = refl
all_fields [] (suc i) is = refl
all_fields (x ∷ fields) zero is = cc
all_fields (x ∷ fields) (suc i) is = ap (λ rest. x ∷ rest) (all_fields fields i is)
