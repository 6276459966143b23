-- What a set of keys that are lent shows of itself.
use Rattle.std.proofs.Common.{◌≡◌, ℕ, Bool, true, false, List, [], ◌∷◌, ◌++◌, map, refl, ap, ◌∙◌, Bor}
use Rattle.std.specs.Prelude.{◌&&◌, if◌then◌else◌}
use Rattle.std.specs.List.{list_any}
use Rattle.std.proofs.lemmas.List.{map-append}
use Rattle.star_model.specs.Vectors.{same_numbers}
use Rattle.star_model.specs.Names.{is_among}
use Rattle.catalogue.specs.NameSets.{with_name, NamePair, has_pair, with_pair}

module _ {K V : Type 0} (view : K → V) where
  among : (test : V → Bool) (keys : List K) → list_any (λ key. test (view key)) keys ≡ list_any test (map view keys)
  among test [] = refl
  among test (key ∷ keys) = rw (among test keys) refl

  chosen : (b : Bool) (keys : List K) (key : K) → map view (if b then keys else keys ++ key ∷ []) ≡ (if b then map view keys else map view keys ++ view key ∷ [])
  chosen true keys key = refl
  chosen false keys key = map-append view keys (key ∷ [])

  added : (test : V → Bool) (key : K) (keys new : List K) → new ≡ (if list_any (λ other. test (view other)) keys then keys else keys ++ key ∷ [])
      → map view new ≡ (if list_any test (map view keys) then map view keys else map view keys ++ view key ∷ [])
  added test key keys new is =
      ap (map view) is ∙ chosen (list_any (λ other. test (view other)) keys) keys key ∙ ap (λ b. if b then map view keys else map view keys ++ view key ∷ []) (among test keys)

-- ---- names

abbrev lent : Bor (List ℕ) → List ℕ
lent key = key.now

pub among_names : (name : List ℕ) (keys : List (Bor (List ℕ))) → list_any (λ key. same_numbers name key.now) keys ≡ is_among (map (λ key. key.now) keys) name
among_names name keys = among lent (same_numbers name) keys

pub added_name : (key : Bor (List ℕ)) (keys new : List (Bor (List ℕ))) → new ≡ (if list_any (λ other. same_numbers key.now other.now) keys then keys else keys ++ key ∷ [])
    → map (λ k. k.now) new ≡ with_name (map (λ k. k.now) keys) key.now
added_name key keys new is = added lent (same_numbers key.now) key keys new is

-- ---- pairs of names

abbrev pub LentPair : Type 0
LentPair = Bor (List ℕ) × Bor (List ℕ)

abbrev lent_pair : LentPair → NamePair
lent_pair key = (key.0.now, key.1.now)

abbrev is_pair : List ℕ → List ℕ → NamePair → Bool
is_pair first second pair = same_numbers first pair.0 && same_numbers second pair.1

pub among_pairs : (first second : List ℕ) (keys : List LentPair) → list_any (λ key. same_numbers first key.0.now && same_numbers second key.1.now) keys
    ≡ has_pair (map (λ key. (key.0.now, key.1.now)) keys) first second
among_pairs first second keys = among lent_pair (is_pair first second) keys

pub added_pair : (key : LentPair) (keys new : List LentPair)
    → new ≡ (if list_any (λ other. same_numbers key.0.now other.0.now && same_numbers key.1.now other.1.now) keys then keys else keys ++ key ∷ [])
    → map (λ k. (k.0.now, k.1.now)) new ≡ with_pair (map (λ k. (k.0.now, k.1.now)) keys) key.0.now key.1.now
added_pair key keys new is = added lent_pair (is_pair key.0.now key.1.now) key keys new is
