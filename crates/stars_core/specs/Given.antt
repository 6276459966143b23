-- Texts that are judged one after the other: each with the texts before it at hand.
use Rattle.std.specs.Prelude.{ℕ, List, [], ◌∷◌}
use Rattle.star_model.specs.WellFormed.{WellFormedCatalogue}
use Rattle.star_model.specs.declared.catalogue.Catalogue.{Catalogue as CatalogueTree}
use Rattle.catalogue.specs.Catalogues.{SpellsCatalogue}
use Rattle.stars_core.specs.declared.refusal.TextKind.{TextKind}
use Rattle.stars_core.specs.declared.refusal.TextKind.TheVariants.{Rules, Catalogue, Query, Derivation}

-- a text: what it is to be, and its bytes
abbrev pub Given : Type 0
Given = TextKind × List ℕ

-- the catalogue among the texts
abbrev pub catalogue_in : List Given → List ℕ
catalogue_in [] = []
catalogue_in ((Catalogue, c) ∷ later) = c
catalogue_in ((Rules, r) ∷ later) = catalogue_in later
catalogue_in ((Query, q) ∷ later) = catalogue_in later
catalogue_in ((Derivation, d) ∷ later) = catalogue_in later

-- the catalogue that the one among the texts says
pub record Over (earlier : List Given) (catalogue : CatalogueTree) : Type 0 where
  pub spells : SpellsCatalogue (catalogue_in earlier) catalogue
  pub formed : WellFormedCatalogue catalogue
