-- The faults of a text, judged with the texts before it at hand.
use Rattle.std.specs.Prelude.{◌≡◌, ◌⊎◌, ◌<◌, ℕ, List, [], ◌∷◌, ◌++◌, length, Some}
use Rattle.sb_text.specs.Limits.{most_text_bytes}
use Prim.Native.Nat.{zero, suc}
use Rattle.star_model.specs.Accepted.{IsRefusedBy}
use Rattle.star_model.specs.declared.catalogue.Catalogue.{Catalogue as CatalogueTree}
use Rattle.star_model.specs.declared.faults.RuleFault.{RuleFault}
use Rattle.star_model.specs.declared.rules.RuleFile.{RuleFile}
use Rattle.rule_grammar.specs.Rules.{SpellsRules}
use Rattle.star_model.specs.WellFormedRules.{WellFormedRules}
use Rattle.star_syntax.specs.Faults as rule_files
use Rattle.catalogue.specs.declared.fault.CatFault.{CatFault}
use Rattle.catalogue.specs.Faults as catalogues
use Rattle.query_graph.specs.declared.fault.QueryFault.{QueryFault}
use Rattle.query_graph.specs.Faults as queries
use Rattle.derivation_reading.specs.declared.fault.DerivFault.{DerivFault}
use Rattle.derivation_reading.specs.Faults as derivations
use Rattle.stars_core.specs.declared.refusal.TextKind.{TextKind}
use Rattle.stars_core.specs.declared.refusal.TextKind.TheVariants.{Rules, Catalogue, Query, Derivation}
use Rattle.stars_core.specs.Lines.{too_long_line, rules_line, catalogue_line, query_line, derivation_line}
use Rattle.stars_core.specs.Given.{Given, Over}

pub data Kind : Type 0 where
  TooLong : Kind
  Misread : Kind
  Rejected : Kind

-- the kinds of fault that a text may have, in the order in which they are judged
abbrev pub faults_of : TextKind → List Kind
faults_of kind = TooLong ∷ Misread ∷ Rejected ∷ []

-- the first of the faults that the text's reader finds, and the line that tells it
abbrev pub IsMisread : List Given → Given → List ℕ → Type 0
IsMisread earlier (Rules, r) line = (fault : RuleFault) × rule_files.IsFirstFault r fault × (rules_line fault ≡ Some line)
IsMisread earlier (Catalogue, c) line = (fault : CatFault) × catalogues.IsFirstFault c fault × (catalogue_line fault ≡ Some line)
IsMisread earlier (Query, q) line =
    (catalogue : CatalogueTree) × Over earlier catalogue × (fault : QueryFault) × queries.IsFirstFault catalogue q fault × (query_line fault ≡ Some line)
IsMisread earlier (Derivation, d) line = (fault : DerivFault) × derivations.IsFirstFault d fault × (derivation_line fault ≡ Some line)

-- the rules that the text spells keep their limits and are not accepted, and the line tells why
abbrev pub IsRejected : Given → List ℕ → Type 0
IsRejected (Rules, r) line =
    (rules : RuleFile) × SpellsRules r rules × WellFormedRules rules × (fault : RuleFault) × IsRefusedBy rules fault × (rules_line fault ≡ Some line)
IsRejected (Catalogue, c) line = ⊥
IsRejected (Query, q) line = ⊥
IsRejected (Derivation, d) line = ⊥

-- the text has a fault of this kind, and the line tells it
abbrev pub HasFault : List Given → Given → Kind → List ℕ → Type 0
HasFault earlier this TooLong line = (most_text_bytes < length this.1) × (line ≡ too_long_line this.0)
HasFault earlier this Misread line = IsMisread earlier this line
HasFault earlier this Rejected line = IsRejected this line

-- the first kind of fault that it has
abbrev pub First : (Kind → List ℕ → Type 0) → List Kind → List ℕ → Type 0
First has [] line = ⊥
First has (kind ∷ kinds) line = has kind line ⊎ (((other : List ℕ) → has kind other → ⊥) × First has kinds line)

-- it has none
abbrev pub Clear : (Kind → List ℕ → Type 0) → List Kind → Type 0
Clear has [] = Unit {0}
Clear has (kind ∷ kinds) = ((other : List ℕ) → has kind other → ⊥) × Clear has kinds

abbrev pub Stops : List Given → Given → List ℕ → Type 0
Stops earlier this line = First (λ kind l. HasFault earlier this kind l) (faults_of this.0) line

abbrev pub Passes : List Given → Given → Type 0
Passes earlier this = Clear (λ kind l. HasFault earlier this kind l) (faults_of this.0)

pub data Verdict : Type 0 where
  Accepted : Verdict
  Stopped : (line : List ℕ) → Verdict

abbrev pub Judged : List Given → Given → Verdict → Type 0
Judged earlier this Accepted = Passes earlier this
Judged earlier this (Stopped line) = Stops earlier this line

-- The text at this place is stopped, and those before it are accepted; `before` were judged already.
abbrev pub StopsAt : List Given → List Given → ℕ → List ℕ → Type 0
StopsAt before [] place line = ⊥
StopsAt before (this ∷ later) zero line = Stops before this line
StopsAt before (this ∷ later) (suc place) line = Passes before this × StopsAt (before ++ this ∷ []) later place line

-- All are accepted.
abbrev pub PassAll : List Given → List Given → Type 0
PassAll before [] = Unit {0}
PassAll before (this ∷ later) = Passes before this × PassAll (before ++ this ∷ []) later
