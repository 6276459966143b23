-- The laws that other crates may cite. Each is the clause of a function of the module `theorems`.
use Rattle.std.proofs.Common.{List}
use Rattle.star_model.specs.Exchange.{HasCard}
use Rattle.star_model.specs.declared.query.Query.{Query}
use Rattle.star_model.specs.declared.costs.CostEntry.{CostEntry}
pub use Rattle.star_model.proofs.Laws.{vector_card, chains_exchange, better_satisfies}
pub use Rattle.lolepop.proofs.FitLaws.{fits_vector, leaf_fits, unary_fits, binary_fits, tree_exists, one_tree}
pub use Rattle.lolepop.proofs.FlavourLaws.{operator_flavour}
pub use Rattle.lolepop.proofs.DerivedLaws.{leaf_gives, unary_gives, binary_gives, enforced_gives}
pub use Rattle.lolepop.proofs.ServeLaws.{one_serves, two_serve}
use Rattle.lolepop.specs.PlanTrees.{PlanTree, top_vector, plan_under, Fits}

pub tree_card : (q : Query) (costs : List CostEntry) (t : PlanTree) → Fits q costs t → HasCard q (top_vector t)
tree_card q costs t h = vector_card q costs (plan_under t) (top_vector t) (fits_vector q costs t h)
