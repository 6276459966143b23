-- Texts that have no fault, and queries that are good.
use Rattle.std.proofs.Common.{◌≡◌, ℕ, List, None, subst}
use Rattle.sb_text.specs.Refusal.{fault_of}
use Rattle.star_model.specs.declared.catalogue.Catalogue.{Catalogue}
use Rattle.star_model.specs.declared.query.Query.{Query}
use Rattle.star_model.specs.WellFormed.{WellFormedCatalogue, WellFormedQuery}
use Rattle.query_graph.specs.Queries.{SpellsQuery}
use Rattle.query_graph.specs.declared.fault.QueryFault.{QueryFault}
use Rattle.query_graph.specs.Faults.{NamesUnknown, Says, HasFault}
use Rattle.query_graph.proofs.FormedQuery.{parts_of, catalogue_is}
use Rattle.query_graph.proofs.FaultLaws.{accepted_query}
use Rattle.query_graph.proofs.GoodQuery.{all_known, names_differ, keeps_limits, one_type}
pub use Rattle.query_graph.proofs.Meaning.{means_query}
pub use Rattle.query_graph.proofs.FormedQuery.{formed_query}

-- a text of accepted tokens that spells a well-formed query has no fault
pub good_query : (c : Catalogue) (text : List ℕ) (x : Query) → fault_of text ≡ None → SpellsQuery c text x → WellFormedQuery x → (fault : QueryFault) → HasFault c text fault → ⊥
good_query c text x accepted spells formed =
    let q = spells.statement in
    let same = catalogue_is c q x spells.means in
    let says : Says text q = record { are = spells.are; stands = spells.stands } in
    let parts = parts_of c q x (subst (λ (d : Catalogue). WellFormedCatalogue d) same formed.catalogue) spells.means in
    let known : NamesUnknown c q → ⊥ = subst (λ (d : Catalogue). NamesUnknown d q → ⊥) same (all_known q x parts) in
    (accepted_query c text q accepted says known (names_differ q x parts formed) (keeps_limits q x parts formed) x spells.means (one_type x formed) formed).clear
