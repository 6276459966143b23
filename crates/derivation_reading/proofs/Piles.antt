-- A derivation is made of its nodes from the last to the first.
use Rattle.std.proofs.Common.{◌≡◌, ℕ, ◌+◌, ◌-◌, ◌<◌, ◌≤◌, List, [], ◌∷◌, ◌++◌, length, refl, sym, ap, ◌∙◌, subst, arith, append_assoc, append-nil}
use Rattle.std.proofs.lemmas.List.{length_push, nil_from_length}
use Rattle.star_model.specs.declared.plans.GlueOp.{GlueOp}
use Rattle.star_model.specs.declared.plans.Goal as model
use Rattle.std.specs.Prelude.{Option}
use Rattle.star_model.specs.declared.rules.Flavour.{Flavour}
use Rattle.star_model.specs.declared.derivations.Deriv.{Deriv}
use Rattle.star_model.specs.declared.derivations.Deriv.TheVariants as made
use Rattle.star_model.specs.DerivCases.{made-Glue, made-Goal, made-Reference, made-Unary, made-Binary}
use Rattle.star_model.specs.Kinds.{inputs_of}
use Rattle.star_model.specs.Every.{Every}
use Rattle.derivation_reading.specs.Derivations.{Step, Glue, Goal, Reference, Operator, steps, HasInputs, steps-Glue, steps-Goal, steps-Reference, steps-Leaf, steps-Unary, steps-Binary}
use Rattle.derivation_reading.specs.Places.{inputs, places_behind}
use Rattle.derivation_reading.specs.Preorder.{Follow, AreWhole}
use Rattle.derivation_reading.specs.Piles.{pile_steps, Grows}
use Rattle.derivation_reading.proofs.PlaceLaws.{places-append}

pile-push : (pile : List Deriv) (tree : Deriv) → pile_steps (pile ++ tree ∷ []) ≡ steps tree ++ pile_steps pile
unfolding pile_steps
pile-push [] tree = sym (append-nil (steps tree))
pile-push (first ∷ pile) tree = ap (λ (l : List Step). l ++ steps first) (pile-push pile tree) ∙ append_assoc (steps tree) (pile_steps pile) (steps first)

every-last : (pile : List Deriv) (tree : Deriv) → Every HasInputs (pile ++ tree ∷ []) → Every HasInputs pile × HasInputs tree
every-last [] tree every = (tt, every.0)
every-last (first ∷ pile) tree every = let later = every-last pile tree every.1 in ((every.0, later.0), later.1)

every-push : (pile : List Deriv) (tree : Deriv) → Every HasInputs pile → HasInputs tree → Every HasInputs (pile ++ tree ∷ [])
every-push [] tree every has = (has, tt)
every-push (first ∷ pile) tree every has = (every.0, every-push pile tree every.1 has)

-- ---- a node over the last trees

module _ (node : Step) (old new : List Deriv) (tree : Deriv) where
  none_grows : new ≡ old → inputs node ≡ 0 → steps tree ≡ node ∷ [] → HasInputs tree → Grows node old tree new
  none_grows same none are has = record {
    grown = ap (λ (l : List Step). l ++ pile_steps new) are ∙ ap (λ (l : List Deriv). node ∷ pile_steps l) same;
    fewer = omega (arith, none, ap (λ (l : List Deriv). length l) same);
    inputs_are = λ every. (has, subst (Every HasInputs) (sym same) every);
  }

  one_grows : (input : Deriv) → old ≡ new ++ input ∷ [] → inputs node ≡ 1 → steps tree ≡ node ∷ steps input → (HasInputs input → HasInputs tree) → Grows node old tree new
  one_grows input was one are has = record {
    grown = ap (λ (l : List Step). l ++ pile_steps new) are ∙ ap (λ (l : List Step). node ∷ l) (sym (pile-push new input)) ∙ ap (λ (l : List Deriv). node ∷ pile_steps l) (sym was);
    fewer = omega (arith, one, ap (λ (l : List Deriv). length l) was, length_push new input);
    inputs_are = λ every. let parts = every-last new input (subst (Every HasInputs) was every) in (has parts.1, parts.0);
  }

  two_grow : (mid : List Deriv) (left right : Deriv) → old ≡ mid ++ left ∷ [] → mid ≡ new ++ right ∷ [] → inputs node ≡ 2 → steps tree ≡ node ∷ (steps left ++ steps right)
      → (HasInputs left → HasInputs right → HasInputs tree) → Grows node old tree new
  two_grow mid left right was was_mid two are has = record {
    grown = ap (λ (l : List Step). l ++ pile_steps new) are
        ∙ ap (λ (l : List Step). node ∷ l) (append_assoc (steps left) (steps right) (pile_steps new) ∙ ap (λ (l : List Step). steps left ++ l) (sym (pile-push new right) ∙ ap pile_steps (sym was_mid)) ∙ sym (pile-push mid left))
        ∙ ap (λ (l : List Deriv). node ∷ pile_steps l) (sym was);
    fewer = omega (arith, two, ap (λ (l : List Deriv). length l) was, ap (λ (l : List Deriv). length l) was_mid, length_push mid left, length_push new right);
    inputs_are = λ every.
        let first = every-last mid left (subst (Every HasInputs) was every) in
        let second = every-last new right (subst (Every HasInputs) was_mid first.0) in
        (has first.1 second.1, second.0);
  }

pub glue_grows : (chain : List GlueOp) (old new : List Deriv) (goal : Deriv) → old ≡ new ++ goal ∷ [] → Grows (Glue chain) old (made.Glue chain goal) new
unfolding HasInputs
glue_grows chain old new goal was =
    one_grows (Glue chain) old new (made.Glue chain goal) goal was refl (steps-Glue chain goal) (λ has. subst HasInputs (sym (made-Glue chain goal)) has)

pub goal_grows : (goal : model.Goal) (split : Option (ℕ × ℕ)) (old new : List Deriv) (body : Deriv) → old ≡ new ++ body ∷ [] → Grows (Goal goal split) old (made.Goal goal split body) new
unfolding HasInputs
goal_grows goal split old new body was =
    one_grows (Goal goal split) old new (made.Goal goal split body) body was refl (steps-Goal goal split body) (λ has. subst HasInputs (sym (made-Goal goal split body)) has)

pub reference_grows : (star : List ℕ) (alternative : ℕ) (values : List ℕ) (old new : List Deriv) (body : Deriv) → old ≡ new ++ body ∷ []
    → Grows (Reference star alternative values) old (made.Reference star alternative values body) new
unfolding HasInputs
reference_grows star alternative values old new body was =
    one_grows (Reference star alternative values) old new (made.Reference star alternative values body) body was refl (steps-Reference star alternative values body)
    (λ has. subst HasInputs (sym (made-Reference star alternative values body)) has)

pub leaf_grows : (f : Flavour) (pile : List Deriv) → inputs_of f ≡ 0 → Grows (Operator f) pile (made.Leaf f) pile
unfolding HasInputs
leaf_grows f pile none = none_grows (Operator f) pile pile (made.Leaf f) refl none (steps-Leaf f) none

pub unary_grows : (f : Flavour) (old new : List Deriv) (input : Deriv) → inputs_of f ≡ 1 → old ≡ new ++ input ∷ [] → Grows (Operator f) old (made.Unary f input) new
unfolding HasInputs
unary_grows f old new input one was =
    one_grows (Operator f) old new (made.Unary f input) input was one (steps-Unary f input) (λ has. subst HasInputs (sym (made-Unary f input)) ((one, has)))

pub binary_grows : (f : Flavour) (old mid new : List Deriv) (left right : Deriv) → inputs_of f ≡ 2 → old ≡ mid ++ left ∷ [] → mid ≡ new ++ right ∷ []
    → Grows (Operator f) old (made.Binary f left right) new
unfolding HasInputs
binary_grows f old mid new left right two was was_mid =
    two_grow (Operator f) old new (made.Binary f left right) mid left right was was_mid two (steps-Binary f left right)
    (λ first second. subst HasInputs (sym (made-Binary f left right)) ((two, first, second)))

-- ---- all nodes

follow-less : (before nodes : List Step) (node : Step) → Follow before (nodes ++ node ∷ []) → Follow before nodes × (0 < places_behind 1 (before ++ nodes))
follow-less before [] node follow = (tt, subst (λ (l : List Step). 0 < places_behind 1 l) (sym (append-nil before)) follow.0)
follow-less before (first ∷ nodes) node follow =
    let later = follow-less (before ++ first ∷ []) nodes node follow.2 in
    ((follow.0, follow.1, later.0), subst (λ (l : List Step). 0 < places_behind 1 l) (append_assoc before (first ∷ []) nodes) later.1)

-- the nodes that are left, and the trees of those behind them
pub record Piled (all left : List Step) (pile : List Deriv) : Type 0 where
  pub rest : left ++ pile_steps pile ≡ all
  pub follow : Follow [] left
  pub count : length pile ≡ places_behind 1 left
  pub inputs_are : Every HasInputs pile

pub pile_starts : (all : List Step) → AreWhole all → Piled all all []
unfolding pile_steps
pile_starts all whole = record { rest = append-nil all; follow = whole.follow; count = sym whole.none_left; inputs_are = tt }

module _ (all left : List Step) (node : Step) (pile : List Deriv) (piled : Piled all (left ++ node ∷ []) pile) where
  count_of : (0 < places_behind 1 left) × (length pile ≡ places_behind 1 left - 1 + inputs node)
  count_of = ((follow-less [] left node piled.follow).1, piled.count ∙ places-append 1 left (node ∷ []))

  pub pile_enough : inputs node ≤ length pile
  pile_enough = omega (arith, count_of.1)

  pub pile_grows : (tree : Deriv) (new after : List Deriv) → Grows node pile tree new → after ≡ new ++ tree ∷ [] → Piled all left after
  pile_grows tree new after grows is =
      let has = grows.inputs_are piled.inputs_are in
      record {
        rest = ap (λ (l : List Deriv). left ++ pile_steps l) is ∙ ap (λ (l : List Step). left ++ l) (pile-push new tree ∙ grows.grown)
            ∙ sym (append_assoc left (node ∷ []) (pile_steps pile)) ∙ piled.rest;
        follow = (follow-less [] left node piled.follow).0;
        count = omega (arith, ap (λ (l : List Deriv). length l) is, length_push new tree, grows.fewer, count_of.0, count_of.1);
        inputs_are = subst (Every HasInputs) (sym is) (every-push new tree has.1 has.0);
      }

pub pile_one : (all : List Step) (pile : List Deriv) → Piled all [] pile → length pile ≡ 1
pile_one all pile piled = piled.count

pub pile_all : (all : List Step) (pile rest : List Deriv) (tree : Deriv) → Piled all [] pile → pile ≡ rest ++ tree ∷ [] → (steps tree ≡ all) × HasInputs tree
unfolding pile_steps
pile_all all pile rest tree piled is =
    let none : rest ≡ [] = nil_from_length rest (omega (arith, piled.count, ap (λ (l : List Deriv). length l) is, length_push rest tree)) in
    let one : pile ≡ tree ∷ [] = is ∙ ap (λ (l : List Deriv). l ++ tree ∷ []) none in
    (sym (ap pile_steps one) ∙ piled.rest, (subst (Every HasInputs) one piled.inputs_are).0)
