-- Nodes in preorder that fill their places are those of one derivation.
use Rattle.std.proofs.Common.{◌≡◌, ◌⊎◌, inl, inr, ℕ, suc, ◌+◌, ◌-◌, ◌<◌, ◌≤◌, true, false, List, [], ◌∷◌, ◌++◌, length, refl, sym, ap, ◌∙◌, subst, arith, append_assoc, append-nil}
use Rattle.std.specs.List.{flat_map}
use Rattle.star_model.specs.declared.rules.Flavour.{Flavour}
use Rattle.star_model.specs.declared.rules.Flavour.TheVariants as flavour
use Rattle.star_model.specs.declared.derivations.Deriv.{Deriv}
use Rattle.star_model.specs.declared.derivations.Deriv.TheVariants as made
use Rattle.star_model.specs.DerivCases as d
use Rattle.star_model.specs.Kinds.{inputs_of}
use Rattle.star_model.specs.Every.{Every}
use Rattle.derivation_reading.specs.Derivations.{Step, Glue, Goal, Reference, Operator, steps, HasInputs, is_glue, is_goal, BeginsGlue, InOrder}
use Rattle.derivation_reading.specs.Places.{inputs, places_behind}
use Rattle.derivation_reading.specs.Preorder.{Follow, AreWhole}
use Rattle.derivation_reading.proofs.PlaceLaws.{places-append, may_stand-more}

-- ---- places as they are filled

-- each node finds one of so many places, and the last fills the last
abbrev pub Fill : ℕ → List Step → Type 0
Fill places [] = places ≡ 0
Fill places (node ∷ later) = (0 < places) × Fill (places - 1 + inputs node) later

fill_from : (before nodes : List Step) → Follow before nodes → places_behind 1 (before ++ nodes) ≡ 0 → Fill (places_behind 1 before) nodes
fill_from before [] follow none = ap (places_behind 1) (sym (append-nil before)) ∙ none
fill_from before (node ∷ nodes) follow none =
    let later = fill_from (before ++ node ∷ []) nodes follow.2 (ap (places_behind 1) (append_assoc before (node ∷ []) nodes) ∙ none) in
    (follow.0, subst (λ (n : ℕ). Fill n nodes) (places-append 1 before (node ∷ [])) later)

-- ---- the trees of nodes

record Forest (count : ℕ) (nodes : List Step) : Type 0 where
  trees : List Deriv
  count_is : length trees ≡ count
  are : flat_map steps trees ≡ nodes
  inputs_are : Every HasInputs trees

-- a node over as many of the first trees as it has inputs
record Joined (node : Step) (old : List Deriv) : Type 0 where
  tree : Deriv
  rest : List Deriv
  are : steps tree ++ flat_map steps rest ≡ node ∷ flat_map steps old
  count_is : length rest + inputs node ≡ length old
  tree_is : HasInputs tree
  rest_are : Every HasInputs rest

input_counts : (f : Flavour) → (inputs_of f ≡ 0) ⊎ ((inputs_of f ≡ 1) ⊎ (inputs_of f ≡ 2))
input_counts flavour.AccessHeap = inl refl
input_counts flavour.AccessIndex = inl refl
input_counts flavour.Get = inr (inl refl)
input_counts flavour.Filter = inr (inl refl)
input_counts flavour.Sort = inr (inl refl)
input_counts flavour.Store = inr (inl refl)
input_counts flavour.Ship = inr (inl refl)
input_counts flavour.Probe = inr (inl refl)
input_counts flavour.JoinNl = inr (inr refl)
input_counts flavour.JoinMerge = inr (inr refl)
input_counts flavour.JoinHash = inr (inr refl)
input_counts flavour.Intersect = inr (inr refl)

join_operator : (f : Flavour) (old : List Deriv) → inputs_of f ≤ length old → Every HasInputs old → (inputs_of f ≡ 0) ⊎ ((inputs_of f ≡ 1) ⊎ (inputs_of f ≡ 2)) → Joined (Operator f) old
unfolding steps HasInputs
join_operator f old enough every (inl none) = record { tree = made.Leaf f; rest = old; are = refl; count_is = omega (arith, none); tree_is = none; rest_are = every }
join_operator f [] enough every (inr (inl one)) = absurd (omega (arith, one))
join_operator f (a ∷ old) enough every (inr (inl one)) =
    record { tree = d.Unary f a; rest = old; are = refl; count_is = omega (arith, one); tree_is = (one, every.0); rest_are = every.1 }
join_operator f [] enough every (inr (inr two)) = absurd (omega (arith, two))
join_operator f (a ∷ []) enough every (inr (inr two)) = absurd (omega (arith, two))
join_operator f (a ∷ b ∷ old) enough every (inr (inr two)) =
    record {
      tree = d.Binary f a b;
      rest = old;
      are = ap (λ (l : List Step). Operator f ∷ l) (append_assoc (steps a) (steps b) (flat_map steps old));
      count_is = omega (arith, two);
      tree_is = (two, every.0, every.1.0);
      rest_are = every.1.1;
    }

join : (node : Step) (old : List Deriv) → inputs node ≤ length old → Every HasInputs old → Joined node old
unfolding steps HasInputs
join (Glue chain) [] enough every = absurd (omega arith)
join (Glue chain) (a ∷ old) enough every = record { tree = d.Glue chain a; rest = old; are = refl; count_is = omega arith; tree_is = every.0; rest_are = every.1 }
join (Goal goal split) [] enough every = absurd (omega arith)
join (Goal goal split) (a ∷ old) enough every = record { tree = d.Goal goal split a; rest = old; are = refl; count_is = omega arith; tree_is = every.0; rest_are = every.1 }
join (Reference star alternative values) [] enough every = absurd (omega arith)
join (Reference star alternative values) (a ∷ old) enough every =
    record { tree = d.Reference star alternative values a; rest = old; are = refl; count_is = omega arith; tree_is = every.0; rest_are = every.1 }
join (Operator f) old enough every = join_operator f old enough every (input_counts f)

forest : (count : ℕ) (nodes : List Step) → Fill count nodes → Forest count nodes
forest count [] fill = record { trees = []; count_is = sym fill; are = refl; inputs_are = tt }
forest count (node ∷ nodes) fill =
    let later = forest (count - 1 + inputs node) nodes fill.1 in
    let joined = join node later.trees (omega (arith, later.count_is)) later.inputs_are in
    record {
      trees = joined.tree ∷ joined.rest;
      count_is = omega (arith, joined.count_is, later.count_is, fill.0);
      are = joined.are ∙ ap (λ (l : List Step). node ∷ l) later.are;
      inputs_are = (joined.tree_is, joined.rest_are);
    }

pub record TreeOf (nodes : List Step) : Type 0 where
  pub tree : Deriv
  pub are : steps tree ≡ nodes
  pub inputs_are : HasInputs tree

one_of : (nodes : List Step) (trees : List Deriv) → length trees ≡ 1 → flat_map steps trees ≡ nodes → Every HasInputs trees → TreeOf nodes
one_of nodes [] one are every = absurd (omega arith)
one_of nodes (a ∷ []) one are every = record { tree = a; are = sym (append-nil (steps a)) ∙ are; inputs_are = every.0 }
one_of nodes (a ∷ b ∷ trees) one are every = absurd (omega arith)

pub tree_of : (nodes : List Step) → AreWhole nodes → TreeOf nodes
tree_of nodes whole = let trees = forest 1 nodes (fill_from [] nodes whole.follow whole.none_left) in one_of nodes trees.trees trees.count_is trees.are trees.inputs_are

-- ---- the order of the nodes

glue_no_goal : (node : Step) → is_glue node ≡ true → is_goal node ≡ false
glue_no_goal (Glue chain) is = refl
glue_no_goal (Goal goal split) is = absurd cc
glue_no_goal (Reference star alternative values) is = refl
glue_no_goal (Operator f) is = refl

ordered : (front : List Step) (last : Step) (nodes : List Step) → Follow (front ++ last ∷ []) nodes → InOrder (is_glue last) nodes
ordered front last [] follow = tt
ordered front last (node ∷ nodes) follow =
    (subst (λ (A : Type 0). A) (may_stand-more front last node) follow.1, ordered (front ++ last ∷ []) node nodes follow.2)

pub whole_order : (nodes : List Step) → AreWhole nodes → BeginsGlue nodes × InOrder false nodes
whole_order [] whole = absurd (omega (arith, whole.none_left))
whole_order (node ∷ nodes) whole = (whole.follow.1, (glue_no_goal node whole.follow.1, ordered [] node nodes whole.follow.2))

-- ---- the nodes of a derivation are whole

operator_fills : (f : Flavour) (k places : ℕ) (later : List Step) → inputs_of f ≡ k → Fill (k + places) later → Fill (suc places) (Operator f ∷ later)
operator_fills f k places later is fill =
    let e : k + places ≡ suc places - 1 + inputs_of f = omega (arith, is) in
    (omega arith, subst (λ (n : ℕ). Fill n later) e fill)

one_fills : (node : Step) (places : ℕ) (later : List Step) → inputs node ≡ 1 → Fill (suc places) later → Fill (suc places) (node ∷ later)
one_fills node places later is fill =
    let e : suc places ≡ suc places - 1 + inputs node = omega (arith, is) in
    (omega arith, subst (λ (n : ℕ). Fill n later) e fill)

tree_fills : (t : Deriv) (places : ℕ) (later : List Step) → HasInputs t → Fill places later → Fill (suc places) (steps t ++ later)
unfolding steps HasInputs
tree_fills (d.Glue chain a) places later has fill = one_fills (Glue chain) places (steps a ++ later) refl (tree_fills a places later has fill)
tree_fills (d.Goal goal split a) places later has fill = one_fills (Goal goal split) places (steps a ++ later) refl (tree_fills a places later has fill)
tree_fills (d.Reference star alternative values a) places later has fill =
    one_fills (Reference star alternative values) places (steps a ++ later) refl (tree_fills a places later has fill)
tree_fills (made.Leaf f) places later has fill = operator_fills f 0 places later has (subst (λ (n : ℕ). Fill n later) (omega arith) fill)
tree_fills (d.Unary f a) places later has fill =
    let inner = tree_fills a places later has.1 fill in
    operator_fills f 1 places (steps a ++ later) has.0 (subst (λ (n : ℕ). Fill n (steps a ++ later)) (omega arith) inner)
tree_fills (d.Binary f a b) places later has fill =
    let inner = tree_fills a (suc places) (steps b ++ later) has.1 (tree_fills b places later has.2 fill) in
    let both = subst (Fill (suc (suc places))) (sym (append_assoc (steps a) (steps b) later)) inner in
    operator_fills f 2 places ((steps a ++ steps b) ++ later) has.0 (subst (λ (n : ℕ). Fill n ((steps a ++ steps b) ++ later)) (omega arith) both)

follow_on : (front : List Step) (last : Step) (nodes : List Step) → Fill (places_behind 1 (front ++ last ∷ [])) nodes → InOrder (is_glue last) nodes → Follow (front ++ last ∷ []) nodes
follow_on front last [] fill order = tt
follow_on front last (node ∷ nodes) fill order =
    let places = sym (places-append 1 (front ++ last ∷ []) (node ∷ [])) in
    (fill.0, subst (λ (A : Type 0). A) (sym (may_stand-more front last node)) order.0, follow_on (front ++ last ∷ []) node nodes (subst (λ (n : ℕ). Fill n nodes) places fill.1) order.1)

filled : (places : ℕ) (nodes : List Step) → Fill places nodes → places_behind places nodes ≡ 0
filled places [] fill = fill
filled places (node ∷ nodes) fill = filled (places - 1 + inputs node) nodes fill.1

whole_from : (nodes : List Step) → Fill 1 nodes → BeginsGlue nodes → InOrder false nodes → AreWhole nodes
whole_from [] fill begins order = absurd begins
whole_from (node ∷ nodes) fill begins order =
    record { follow = (omega arith, begins, follow_on [] node nodes fill.1 order.1); none_left = filled 1 (node ∷ nodes) fill }

pub tree_whole : (t : Deriv) → HasInputs t → BeginsGlue (steps t) → InOrder false (steps t) → AreWhole (steps t)
tree_whole t has begins order = whole_from (steps t) (subst (Fill 1) (append-nil (steps t)) (tree_fills t 0 [] has refl)) begins order
