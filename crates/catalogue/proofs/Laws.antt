-- The laws that other crates may cite. Each is the clause of a function of the module `theorems`.
pub use Rattle.catalogue.proofs.OneFault.{one_fault}
pub use Rattle.catalogue.proofs.Verdicts.{verdict}
pub use Rattle.catalogue.proofs.FaultOrder.{no_fault}
pub use Rattle.catalogue.proofs.MeaningLaws.{meant}
pub use Rattle.catalogue.proofs.Formed.{formed}
pub use Rattle.catalogue.proofs.ReadBack.{accepted_spells, read_as, printed_read}
pub use Rattle.catalogue.proofs.CatalogueLaws.{one_catalogue_statement, one_catalogue}
pub use Rattle.catalogue.proofs.CatalogueWriting.{written_catalogue, written_catalogue_spells}
pub use Rattle.catalogue.proofs.CatalogueCanonical.{canonical_catalogue}
pub use Rattle.catalogue.proofs.SmallestText.{one_table}
