-- Texts that their readers accept.
use Rattle.std.specs.Prelude.{ℕ, ◌≤◌, List, length}
use Rattle.sb_text.specs.Limits.{most_text_bytes}
use Rattle.star_model.specs.declared.catalogue.Catalogue.{Catalogue}
use Rattle.star_model.specs.declared.query.Query.{Query}
use Rattle.catalogue.specs.Faults as of_catalogue
use Rattle.query_graph.specs.Faults as of_query

abbrev pub IsShort : List ℕ → Type 0
IsShort text = length text ≤ most_text_bytes

pub record IsCatalogueText (text : List ℕ) : Type 0 where
  pub short : IsShort text
  pub catalogue : Catalogue
  pub accepted : of_catalogue.IsAccepted text catalogue

pub record IsQueryText (catalogue : Catalogue) (text : List ℕ) : Type 0 where
  pub short : IsShort text
  pub query : Query
  pub accepted : of_query.IsAccepted catalogue text query
