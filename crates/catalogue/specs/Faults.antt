-- The faults of a catalogue text, and what reading it answers.
use Rattle.std.specs.Prelude.{◌≡◌, ℕ, ◌-◌, ◌≤◌, List, take, slice_get, Some, Result, Ok, Err, map}
use Rattle.sb_text.specs.Refusal.{fault_of}
use Rattle.sb_text.specs.declared.token.TextFault.TheVariants as text_fault
use Rattle.star_model.specs.declared.faults.LimitKind.{LimitKind}
use Rattle.star_model.specs.declared.catalogue.Catalogue.{Catalogue}
use Rattle.star_model.specs.WellFormed.{WellFormedCatalogue}
use Rattle.spelling.specs.Lexemes.{IsStatements}
use Rattle.star_model.specs.Every.{Every}
use Rattle.spelling.specs.Firsts.{FirstAt}
use Rattle.spelling.specs.Syntax.{IsStrangeAt}
use Rattle.catalogue.specs.Catalogues.{CatalogueStatement, catalogue_lexemes, HasColumns, SpellsCatalogueStatement, SpellsCatalogue}
use Rattle.catalogue.specs.declared.fault.CatFault.{CatFault}
use Rattle.catalogue.specs.declared.fault.CatFault.TheVariants.{Lexical, TooDeep, Syntax, Unknown, Twice, Limit, Memory}
use Rattle.catalogue.specs.Defined.{NamesUnknown, DefinesTwice}
use Rattle.catalogue.specs.Beyond.{IsBeyond, BeyondFirst}

-- these are the statements of the text, whether or not their names are known and their limits kept
pub record SaysStatements (text : List ℕ) (statements : List CatalogueStatement) : Type 0 where
  pub are : IsStatements text (map catalogue_lexemes statements)
  pub columns : Every HasColumns statements

-- the statement with this number, from 1, is the first beyond a limit, and this is the first limit that it goes beyond
pub record IsLimitAt (statements : List CatalogueStatement) (k : ℕ) (what : LimitKind) : Type 0 where
  pub first : FirstAt IsBeyond statements k
  pub statement : CatalogueStatement
  pub is : slice_get statements (k - 1) ≡ Some statement
  pub limit : BeyondFirst what (take (k - 1) statements) statement

-- the text says statements of which this holds
abbrev pub WhereSaid : List ℕ → (List CatalogueStatement → Type 0) → Type 0
WhereSaid text P = (statements : List CatalogueStatement) × SaysStatements text statements × P statements

abbrev pub HasFault : List ℕ → CatFault → Type 0
HasFault text (Lexical offset) = fault_of text ≡ Some (text_fault.Lexical offset)
HasFault text (TooDeep k) = fault_of text ≡ Some (text_fault.TooDeep k)
HasFault text (Syntax k) = IsStrangeAt SpellsCatalogueStatement text k
HasFault text (Unknown k) = WhereSaid text (λ statements. FirstAt NamesUnknown statements k)
HasFault text (Twice k) = WhereSaid text (λ statements. FirstAt DefinesTwice statements k)
HasFault text (Limit k what) = WhereSaid text (λ statements. IsLimitAt statements k what)
HasFault text Memory = ⊥

-- the order in which faults are judged, each over the whole text
abbrev pub fault_rank : CatFault → ℕ
fault_rank (Lexical offset) = 0
fault_rank (TooDeep k) = 1
fault_rank (Syntax k) = 2
fault_rank (Unknown k) = 3
fault_rank (Twice k) = 4
fault_rank (Limit k what) = 5
fault_rank Memory = 6

pub record IsFirstFault (text : List ℕ) (fault : CatFault) : Type 0 where
  pub has : HasFault text fault
  pub first : (other : CatFault) → HasFault text other → fault_rank fault ≤ fault_rank other

-- the text spells a well-formed catalogue, and has no fault
pub record IsAccepted (text : List ℕ) (catalogue : Catalogue) : Type 0 where
  pub spells : SpellsCatalogue text catalogue
  pub formed : WellFormedCatalogue catalogue
  pub clear : (fault : CatFault) → HasFault text fault → ⊥

-- what reading a text answers; want of memory may come at any text
abbrev pub ReadsCatalogue : List ℕ → Result Catalogue CatFault → Type 0
ReadsCatalogue text (Ok catalogue) = IsAccepted text catalogue
ReadsCatalogue text (Err Memory) = Unit {0}
ReadsCatalogue text (Err fault) = IsFirstFault text fault
