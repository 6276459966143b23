-- The records that a reader of `csv` gives one after the other are the records of the bytes.
use Rattle.std.proofs.Common.{◌≡◌, ◌+◌, ◌≤◌, ◌⊎◌, inl, inr, Bool, true, false, ℕ, List, [], ◌∷◌, length, Option, None, Some, refl, ap, sym, arith, zero, suc, if◌then◌else◌}
use Rattle.csv.specs.Machine.{Read, next_record, step, is_end, fields_after, field_after, ends_at_end}
use Rattle.csv.specs.Reading.{records_from, records, Reached, AreRecords}
use Rattle.csv.specs.declared.parser.Config.{Config}
use Rattle.csv.specs.declared.parser.State.{State}
use Rattle.csv.specs.declared.parser.State.TheVariants as st
use Rattle.sb_outside.specs.Records.{Records}

picks : {A : Type 0} (b : Bool) (a : A) (o : Option A) (p : A) → (if b then Some a else o) ≡ Some p → (a ≡ p) ⊎ (o ≡ Some p)
picks true a o p is = inl cc
picks false a o p is = inr is

-- a record at the end of the bytes is the last
at_end : (config : Config) (s : State) (fields : List (List ℕ)) (field : List ℕ) (p : Read) → next_record config s fields field [] ≡ Some p → (p.1 ≡ st.StartRecord) × (p.2 ≡ [])
unfolding next_record
at_end config s fields field p is =
    elim (picks (ends_at_end s) _ None p is) [ inl same ↦ (ap (λ (r : Read). r.1) (sym same), ap (λ (r : Read). r.2) (sym same)) | inr none ↦ cc ]

-- a record that is read takes a byte or more
shorter : (config : Config) (s : State) (fields : List (List ℕ)) (field : List ℕ) (b : ℕ) (rest : List ℕ) (p : Read)
    → next_record config s fields field (b ∷ rest) ≡ Some p → length p.2 ≤ length rest
unfolding next_record
shorter config s fields field b [] p is =
    elim (picks (is_end (step config s b).1) _ _ p is) [
      | inl same ↦ omega (arith, ap (λ (r : Read). length r.2) same)
      | inr later ↦ omega (arith, ap length (at_end config _ _ _ p later).1)
    ]
shorter config s fields field b (next ∷ rest) p is =
    elim (picks (is_end (step config s b).1) _ _ p is) [
      | inl same ↦ omega (arith, ap (λ (r : Read). length r.2) same)
      | inr later ↦ omega (arith, shorter config (step config s b).0 (fields_after (step config s b).1 fields field) (field_after (step config s b).1 b field) next rest p later)
    ]

none_in_no_bytes : (config : Config) (p : Read) → next_record config st.StartRecord [] [] [] ≡ Some p → ⊥
unfolding next_record
none_in_no_bytes config p is = cc

none_reached : (config : Config) (rows : Records) (s : State) (left : List ℕ) → Reached config st.StartRecord [] rows s left → [] ≡ rows
unfolding Reached
none_reached config [] s left reached = refl
none_reached config (row ∷ rows) s left reached = absurd (none_in_no_bytes config reached.0 reached.1)

no_records : (config : Config) (n : ℕ) → records_from config n st.StartRecord [] ≡ []
unfolding records_from next_record
no_records config zero = refl
no_records config (suc n) = refl

-- with more turns than bytes, all records that are reached are read
all_reached : (config : Config) (n : ℕ) (s : State) (bytes : List ℕ) (rows : Records) (s2 : State) (left : List ℕ)
    → length bytes + 1 ≤ n → Reached config s bytes rows s2 left → next_record config s2 [] [] left ≡ None → records_from config n s bytes ≡ rows
unfolding Reached records_from
all_reached config zero s bytes rows s2 left turns reached none = absurd (omega arith)
all_reached config (suc n) s bytes [] s2 left turns reached none = rw (reached.0, reached.1, none) refl
all_reached config (suc n) s [] (row ∷ rows) s2 left turns reached none =
    let p = reached.0 in
    let last = at_end config s [] [] p reached.1 in
    let over = rw (last.0, last.1) at reached.3 in
    rw (reached.1, last.0, last.1, no_records config n, reached.2) (ap (λ (rest : Records). p.0 ∷ rest) (none_reached config rows s2 left over))
all_reached config (suc n) s (b ∷ rest) (row ∷ rows) s2 left turns reached none =
    let p = reached.0 in
    let less = shorter config s [] [] b rest p reached.1 in
    rw (reached.1, reached.2) (ap (λ (rest : Records). p.0 ∷ rest) (all_reached config n p.1 p.2 rows s2 left (omega arith) reached.3 none))

pub are_all : (config : Config) (bytes : List ℕ) (rows : Records) → AreRecords config st.StartRecord bytes rows → records config bytes ≡ rows
are_all config bytes rows are = all_reached config (length bytes + 1) st.StartRecord bytes rows are.0 are.1 (omega arith) are.2 are.3
