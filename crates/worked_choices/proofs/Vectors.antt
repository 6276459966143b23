-- What the operators of the rules make, computed.
use Rattle.std.proofs.Common.{◌≡◌, true, false, [], ◌∷◌, Some, None, refl, codes}
use Rattle.star_model.specs.Cardinality.{card}
use Rattle.star_model.specs.Canon.{canon, least_equal}
use Rattle.star_model.specs.Costs.{costs_of, formula_of}
use Rattle.star_model.specs.Formulas.{value}
use Rattle.star_model.specs.Judging.{Vector, judge}
use Rattle.star_model.specs.Meaning.{meaning, holds}
use Rattle.star_model.specs.Operators.{step, width_of}
use Rattle.star_model.specs.Plans.{is_chain, vector}
use Rattle.star_model.specs.Predicates.{used, eligible, crossing}
use Rattle.star_model.specs.Requirements.{satisfies}
use Rattle.star_model.specs.Sets.{set_of, has, members, single, union, meet, minus, is_within, places}
use Rattle.star_model.specs.Vectors.{begins, is_better}
use Rattle.star_model.specs.Expected.{ForQuery, ForGoal, leaf_of, unary_of, binary_of}
use Rattle.star_model.specs.DerivCases.{Goal, Reference, Unary}
use Rattle.star_model.specs.declared.derivations.Deriv.{Deriv}
use Rattle.star_model.specs.declared.derivations.Deriv.TheVariants.{Leaf}
use Rattle.star_model.specs.declared.rules.Flavour.TheVariants as flavour
use Rattle.star_model.specs.declared.plans.Op.TheVariants as op
use Rattle.worked_choices.specs.Storing.{query, rules, read_alone, and_stored, stored_again}
use Rattle.worked_plans.specs.Derivations as tree

pub reads : step query (costs_of rules) (op.AccessHeap 1 0) [] ≡ Some read_alone
unfolding step value card used width_of formula_of canon least_equal set_of has members single union meet places
reads = refl

pub stores : step query (costs_of rules) (op.Store []) (read_alone ∷ []) ≡ Some and_stored
unfolding step value card used width_of formula_of canon least_equal set_of has members single union meet places
stores = refl

pub stores_again : step query (costs_of rules) (op.Store []) (and_stored ∷ []) ≡ Some stored_again
unfolding step value card used width_of formula_of canon least_equal set_of has members single union meet places
stores_again = refl

-- ---- derivations of the three

pub read_goal : Deriv
read_goal = Goal (record { tables = 1; pushed = 0 }) None (Reference (codes "AccessRoot") 1 [] (Leaf flavour.AccessHeap))

pub stored_goal : Deriv
stored_goal = Goal (record { tables = 1; pushed = 0 }) None (Reference (codes "AccessRoot") 2 [] (Unary flavour.Store (Leaf flavour.AccessHeap)))

pub again_goal : Deriv
again_goal = Goal (record { tables = 1; pushed = 0 }) None (Reference (codes "AccessRoot") 3 [] (Unary flavour.Store (Unary flavour.Store (Leaf flavour.AccessHeap))))

pub reads_goal : judge query rules read_goal (ForGoal 1 0) 1 ≡ Vector read_alone
unfolding judge read_goal leaf_of unary_of binary_of meaning holds begins step value card used eligible crossing width_of formula_of canon least_equal set_of has members single union meet minus is_within places
reads_goal = refl

pub stores_goal : judge query rules stored_goal (ForGoal 1 0) 1 ≡ Vector and_stored
unfolding judge stored_goal leaf_of unary_of binary_of meaning holds begins step value card used eligible crossing width_of formula_of canon least_equal set_of has members single union meet minus is_within places
stores_goal = refl

pub stores_goal_again : judge query rules again_goal (ForGoal 1 0) 1 ≡ Vector stored_again
unfolding judge again_goal leaf_of unary_of binary_of meaning holds begins step value card used eligible crossing width_of formula_of canon least_equal set_of has members single union meet minus is_within places
stores_goal_again = refl

pub read_root : judge query rules tree.read_alone ForQuery 1 ≡ Vector read_alone
unfolding judge leaf_of unary_of binary_of meaning holds begins satisfies is_chain vector step value card used eligible crossing width_of formula_of canon least_equal set_of has members single union meet minus is_within places
read_root = refl

pub stored_root : judge query rules tree.read_and_stored ForQuery 1 ≡ Vector and_stored
unfolding judge leaf_of unary_of binary_of meaning holds begins satisfies is_chain vector step value card used eligible crossing width_of formula_of canon least_equal set_of has members single union meet minus is_within places
stored_root = refl

-- ---- which are better

pub once_is_better : is_better and_stored stored_again ≡ true
unfolding is_better begins
once_is_better = refl

pub stored_over_read : is_better and_stored read_alone ≡ false
unfolding is_better begins
stored_over_read = refl

pub again_over_read : is_better stored_again read_alone ≡ false
unfolding is_better begins
again_over_read = refl

pub read_over_stored : is_better read_alone and_stored ≡ false
unfolding is_better begins
read_over_stored = refl

pub again_over_stored : is_better stored_again and_stored ≡ false
unfolding is_better begins
again_over_stored = refl
