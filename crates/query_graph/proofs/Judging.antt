-- What the fault of a statement's names is for its text.
use Rattle.std.proofs.Common.{◌≡◌, List, ℕ, None, Some, Err, sym, subst}
use Rattle.sb_text.specs.Refusal.{fault_of}
use Rattle.star_model.specs.declared.catalogue.Catalogue.{Catalogue}
use Rattle.query_graph.specs.Queries.{QueryStatement}
use Rattle.query_graph.specs.declared.fault.QueryFault.{QueryFault}
use Rattle.query_graph.specs.declared.fault.QueryFault.TheVariants as fault
use Rattle.query_graph.specs.Faults.{Says, NamesUnknown, DefinesTwice, IsFirstFault, ReadsQuery}
use Rattle.query_graph.specs.NameTests.{name_fault}
use Rattle.query_graph.proofs.UnknownNames.{IsNameFault, name_fault_is}
use Rattle.query_graph.proofs.FaultLaws.{unknown_first, twice_first}

module _ (c : Catalogue) (text : List ℕ) (q : QueryStatement) (accepted : fault_of text ≡ None) (says : Says text q) where
  first_of_names : (f : QueryFault) → IsNameFault c q (Some f) → ReadsQuery c text (Err f)
  first_of_names (fault.Unknown k) is = subst (λ n. IsFirstFault c text (fault.Unknown n)) (sym is.0) (unknown_first c text q accepted says is.1)
  first_of_names (fault.Twice k) is = subst (λ n. IsFirstFault c text (fault.Twice n)) (sym is.0) (twice_first c text q accepted says is.1 is.2)
  first_of_names _ is = absurd is

  pub names_refused : (f : QueryFault) → name_fault c q ≡ Some f → ReadsQuery c text (Err f)
  names_refused f is = first_of_names f (subst (λ found. IsNameFault c q found) is (name_fault_is c q))

pub names_clear : (c : Catalogue) (q : QueryStatement) → name_fault c q ≡ None → (NamesUnknown c q → ⊥) × (DefinesTwice q → ⊥)
names_clear c q is = subst (λ found. IsNameFault c q found) is (name_fault_is c q)
