-- Which of the three cost least, and which are on the frontier.
use Rattle.std.proofs.Common.{◌≡◌, ◌≤◌, Bool, true, false, List, [], ◌∷◌, Some, refl, ap, sym, subst, ◌∙◌, arith, inl, inr}
use Rattle.std.specs.Prelude.{option_and_then}
use Rattle.star_model.specs.Costs.{costs_of}
use Rattle.star_model.specs.Derivations.{HasVector, IsRoot, IsLeast, IsOfGoal, OnFrontier}
use Rattle.star_model.specs.Expected.{Expected, ForGoal, root_requirement, query_goal}
use Rattle.star_model.specs.Judging.{Vector, judge}
use Rattle.star_model.specs.Plans.{is_chain, vector, chain_over}
use Rattle.star_model.specs.Sets.{set_of, places}
use Rattle.star_model.specs.Vectors.{is_better}
use Rattle.star_model.specs.declared.derivations.Deriv.{Deriv}
use Rattle.star_model.specs.declared.plans.GlueOp.{GlueOp}
use Rattle.star_model.specs.declared.plans.GlueOp.TheVariants as word
use Rattle.star_model.specs.declared.plans.Props.{Props}
use Rattle.star_model.proofs.Laws.{judges_vector, judges_root}
use Rattle.worked_choices.specs.Storing.{query, rules, read_alone, and_stored, stored_again}
use Rattle.worked_choices.specs.Claims.{HasLeastCost, IsOneOf}
use Rattle.worked_choices.proofs.Vectors.{read_goal, stored_goal, again_goal, reads_goal, stores_goal, stores_goal_again, read_root, stored_root, once_is_better, stored_over_read, again_over_read, read_over_stored, again_over_stored}
use Rattle.worked_choices.proofs.Derived.{no_other}
use Rattle.worked_plans.specs.Derivations as tree

of_goal : (d : Deriv) (v : Props) → judge query rules d (ForGoal 1 0) 1 ≡ Vector v → IsOfGoal query rules 1 0 v
of_goal d v is = (d, (judges_vector query rules d (ForGoal 1 0) 1 v).0 is)

pub is_read : IsOfGoal query rules 1 0 read_alone
is_read = of_goal read_goal read_alone reads_goal

pub is_stored : IsOfGoal query rules 1 0 and_stored
is_stored = of_goal stored_goal and_stored stores_goal

pub is_stored_again : IsOfGoal query rules 1 0 stored_again
is_stored_again = of_goal again_goal stored_again stores_goal_again

not_both : (b : Bool) → b ≡ false → b ≡ true → ⊥
not_both true p q = cc
not_both false p q = cc

-- ---- the frontier

pub read_on_frontier : OnFrontier query rules 1 0 read_alone
read_on_frontier = record { of_goal = is_read; unbeaten = λ w of over. go w (no_other w of) over }
  where
    go : (w : Props) → IsOneOf w → is_better w read_alone ≡ true → w ≡ read_alone
    go w (inl is) over = is
    go w (inr (inl is)) over = absurd (not_both (is_better w read_alone) (ap (λ (u : Props). is_better u read_alone) is ∙ stored_over_read) over)
    go w (inr (inr is)) over = absurd (not_both (is_better w read_alone) (ap (λ (u : Props). is_better u read_alone) is ∙ again_over_read) over)

pub stored_on_frontier : OnFrontier query rules 1 0 and_stored
stored_on_frontier = record { of_goal = is_stored; unbeaten = λ w of over. go w (no_other w of) over }
  where
    go : (w : Props) → IsOneOf w → is_better w and_stored ≡ true → w ≡ and_stored
    go w (inl is) over = absurd (not_both (is_better w and_stored) (ap (λ (u : Props). is_better u and_stored) is ∙ read_over_stored) over)
    go w (inr (inl is)) over = is
    go w (inr (inr is)) over = absurd (not_both (is_better w and_stored) (ap (λ (u : Props). is_better u and_stored) is ∙ again_over_stored) over)

pub again_is_covered : OnFrontier query rules 1 0 stored_again → ⊥
again_is_covered on =
    let same : 3500 ≡ 5500 = ap (λ (v : Props). v.cost) (on.unbeaten and_stored is_stored once_is_better) in
    absurd (omega (arith, same))

pub cheap_is_underived : OnFrontier query rules 1 0 (record read_alone { cost = 1 }) → ⊥
cheap_is_underived on = go (no_other (record read_alone { cost = 1 }) on.of_goal)
  where
    go : IsOneOf (record read_alone { cost = 1 }) → ⊥
    go (inl is) = let same : 1 ≡ 1500 = ap (λ (v : Props). v.cost) is in omega (arith, same)
    go (inr (inl is)) = let same : 1 ≡ 3500 = ap (λ (v : Props). v.cost) is in omega (arith, same)
    go (inr (inr is)) = let same : 1 ≡ 5500 = ap (λ (v : Props). v.cost) is in omega (arith, same)

-- ---- the least cost

pub no_chain : (chain : List GlueOp) → is_chain (root_requirement query) chain ≡ true → chain ≡ []
unfolding is_chain
no_chain [] h = refl
no_chain (word.Sort ∷ chain) h = cc
no_chain (word.Ship ∷ chain) h = cc
no_chain (word.Store ∷ chain) h = cc

one_goal : query_goal query ≡ ForGoal 1 0
unfolding set_of places
one_goal = refl

costs : (v : Props) → IsOneOf v → 1500 ≤ v.cost
costs v (inl is) = let same : v.cost ≡ 1500 = ap (λ (u : Props). u.cost) is in omega (arith, same)
costs v (inr (inl is)) = let same : v.cost ≡ 3500 = ap (λ (u : Props). u.cost) is in omega (arith, same)
costs v (inr (inr is)) = let same : v.cost ≡ 5500 = ap (λ (u : Props). u.cost) is in omega (arith, same)

-- the plan of a root derivation is one of the goal, since the query requires nothing
root_of_goal : (d : Deriv) (v : Props) → IsRoot query rules d v → IsOfGoal query rules 1 0 v
root_of_goal d v root =
    let none = no_chain root.chain root.one_of_chains in
    let whole : vector query (costs_of rules) root.goal_plan ≡ Some v =
    subst (λ (chain : List GlueOp). vector query (costs_of rules) (chain_over (root_requirement query) chain root.goal_plan) ≡ Some v) none root.of_plan
    in
    let here : HasVector query rules root.goal_node (query_goal query) v =
    record { valid = root.valid; of_plan = ap (option_and_then (vector query (costs_of rules))) root.of_goal ∙ whole }
    in
    (root.goal_node, subst (λ (x : Expected). HasVector query rules root.goal_node x v) one_goal here)

pub read_is_least : HasLeastCost query rules tree.read_alone 1500
read_is_least = (
  read_alone,
  record {
    root = (judges_root query rules tree.read_alone read_alone).0 read_root;
    least = λ other w root. costs w (no_other w (root_of_goal other w root));
  },
  refl,
)

pub stored_is_not_least : (v : Props) → IsLeast query rules tree.read_and_stored v → ⊥
stored_is_not_least v is =
    let judged = sym stored_root ∙ (judges_root query rules tree.read_and_stored v).1 is.root in
    let same : and_stored ≡ v = one_vector judged in
    let cost : 3500 ≡ v.cost = ap (λ (u : Props). u.cost) same in
    let least : v.cost ≤ 1500 = is.least tree.read_alone read_alone ((judges_root query rules tree.read_alone read_alone).0 read_root) in
    omega (arith, cost, least)
  where
    one_vector : {a b : Props} → Vector a ≡ Vector b → a ≡ b
    one_vector e = cc
