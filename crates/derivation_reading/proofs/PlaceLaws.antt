-- The places that are counted while a derivation is read.
use Rattle.std.proofs.Common.{◌≡◌, ℕ, ◌+◌, ◌-◌, ◌<◌, ◌≤◌, true, false, not, ◌&&◌, nat_lt, List, [], ◌∷◌, ◌++◌, refl, ap, arith}
use Rattle.std.proofs.lemmas.Bool.{lt-ltb, ltb-true, and_parts, not-true}
use Rattle.star_model.specs.declared.rules.Flavour.{Flavour}
use Rattle.star_model.specs.declared.rules.Flavour.TheVariants as flavour
use Rattle.star_model.specs.Kinds.{inputs_of}
use Rattle.derivation_reading.specs.Derivations.{Step, Glue, Goal, Reference, Operator, is_glue, is_goal}
use Rattle.derivation_reading.specs.Places.{inputs, places_behind, MayStand}
use Rattle.derivation_reading.specs.PlaceTests.{awaited_behind, awaited, admits, takes}

pub few_of : (f : Flavour) → inputs_of f ≤ 2
few_of flavour.AccessHeap = omega arith
few_of flavour.AccessIndex = omega arith
few_of flavour.Get = omega arith
few_of flavour.Filter = omega arith
few_of flavour.Sort = omega arith
few_of flavour.Store = omega arith
few_of flavour.Ship = omega arith
few_of flavour.Probe = omega arith
few_of flavour.JoinNl = omega arith
few_of flavour.JoinMerge = omega arith
few_of flavour.JoinHash = omega arith
few_of flavour.Intersect = omega arith

pub few_inputs : (node : Step) → inputs node ≤ 2
few_inputs (Glue chain) = omega arith
few_inputs (Goal goal split) = omega arith
few_inputs (Reference star alternative values) = omega arith
few_inputs (Operator f) = few_of f

pub places-append : (places : ℕ) (front back : List Step) → places_behind places (front ++ back) ≡ places_behind (places_behind places front) back
places-append places [] back = refl
places-append places (node ∷ front) back = places-append (places - 1 + inputs node) front back

pub awaited-more : (front : List Step) (node : Step) → awaited (front ++ node ∷ []) ≡ awaited_behind node
awaited-more [] node = refl
awaited-more (first ∷ []) node = refl
awaited-more (first ∷ second ∷ front) node = awaited-more (second ∷ front) node

-- ---- what may stand next

admitted_behind : (last node : Step) → admits (awaited_behind last) node ≡ true → is_goal node ≡ is_glue last
admitted_behind (Glue chain) node is = is
admitted_behind (Goal goal split) node is = not-true (is_goal node) is
admitted_behind (Reference star alternative values) node is = not-true (is_goal node) is
admitted_behind (Operator f) node is = not-true (is_goal node) is

behind_admits : (last node : Step) → is_goal node ≡ is_glue last → admits (awaited_behind last) node ≡ true
behind_admits (Glue chain) node is = is
behind_admits (Goal goal split) node is = ap not is
behind_admits (Reference star alternative values) node is = ap not is
behind_admits (Operator f) node is = ap not is

pub admitted : (front : List Step) (node : Step) → admits (awaited front) node ≡ true → MayStand front node
admitted [] node is = is
admitted (last ∷ []) node is = admitted_behind last node is
admitted (first ∷ second ∷ front) node is = admitted (second ∷ front) node is

pub admissible : (front : List Step) (node : Step) → MayStand front node → admits (awaited front) node ≡ true
admissible [] node is = is
admissible (last ∷ []) node is = behind_admits last node is
admissible (first ∷ second ∷ front) node is = admissible (second ∷ front) node is

pub taken : (front : List Step) (node : Step) → takes (places_behind 1 front) (awaited front) node ≡ true → (0 < places_behind 1 front) × MayStand front node
taken front node is =
    let both = and_parts (nat_lt 0 (places_behind 1 front)) (admits (awaited front) node) is in
    (ltb-true 0 (places_behind 1 front) both.0, admitted front node both.1)

pub not_taken : (front : List Step) (node : Step) → takes (places_behind 1 front) (awaited front) node ≡ false → 0 < places_behind 1 front → MayStand front node → ⊥
not_taken front node is place order =
    let first : nat_lt 0 (places_behind 1 front) ≡ true = lt-ltb 0 (places_behind 1 front) place in
    let second = admissible front node order in
    let e : (true && true) ≡ false = rw (first, second) at is in
    cc

pub may_stand-more : (front : List Step) (last node : Step) → MayStand (front ++ last ∷ []) node ≡ (is_goal node ≡ is_glue last)
may_stand-more [] last node = refl
may_stand-more (first ∷ []) last node = refl
may_stand-more (first ∷ second ∷ front) last node = may_stand-more (second ∷ front) last node
