-- What the judgement of one text answers.
use Rattle.std.specs.Prelude.{◌≡◌, ◌≤◌, ◌<◌, ℕ, List, length, Some, Result, Ok, Err, string_bytes}
use Rattle.sb_text.specs.Limits.{most_text_bytes}
use Rattle.star_model.specs.Accepted.{IsAccepted, IsRefusedBy}
use Rattle.star_model.specs.declared.catalogue.Catalogue.{Catalogue as CatalogueTree}
use Rattle.star_model.specs.declared.query.Query.{Query as QueryTree}
use Rattle.star_model.specs.declared.faults.RuleFault.{RuleFault}
use Rattle.star_model.specs.declared.rules.RuleFile.{RuleFile}
use Rattle.star_syntax.specs.Faults as rule_files
use Rattle.catalogue.specs.Faults as catalogues
use Rattle.query_graph.specs.Faults as queries
use Rattle.derivation_reading.specs.Faults as derivations
use Rattle.star_model.specs.declared.derivations.Deriv.{Deriv}
use Rattle.stars_core.specs.declared.refusal.TextKind.{TextKind}
use Rattle.stars_core.specs.declared.refusal.TextKind.TheVariants.{Rules, Catalogue, Query, Derivation}
use Rattle.stars_core.specs.declared.refusal.Refusal.{Refusal}
use Rattle.stars_core.specs.declared.refusal.Refusal.TheVariants.{Usage, Unread, Refused, Table, NotDerived, Memory}
use Rattle.stars_core.specs.Lines.{too_long_line, rules_line}
use Rattle.stars_core.specs.Given.{Given, Over}
use Rattle.stars_core.specs.Faults.{Stops}

-- a refusal of a text of this kind, whose line is as P says, or want of memory
abbrev pub Refuses : TextKind → (List ℕ → Type 0) → Refusal → Type 0
Refuses kind P (Refused k line) = (k ≡ kind) × P (string_bytes line)
Refuses kind P Memory = Unit {0}
Refuses kind P Usage = ⊥
Refuses kind P (Unread line) = ⊥
Refuses kind P (Table line) = ⊥
Refuses kind P (NotDerived line) = ⊥

-- whether the text is within the limit
abbrev pub SizeJudged : {A : Type 0} → TextKind → List ℕ → Result A Refusal → Type 0
SizeJudged kind bytes (Ok done) = length bytes ≤ most_text_bytes
SizeJudged kind bytes (Err refusal) = Refuses kind (λ line. (most_text_bytes < length bytes) × (line ≡ too_long_line kind)) refusal

-- the text says these rules, which are accepted
pub record RulesPass (r : List ℕ) (rules : RuleFile) : Type 0 where
  pub size : length r ≤ most_text_bytes
  pub read : rule_files.ReadsRules r (Ok rules)
  pub accepted : IsAccepted rules

-- the text says this catalogue
pub record CataloguePasses (c : List ℕ) (catalogue : CatalogueTree) : Type 0 where
  pub size : length c ≤ most_text_bytes
  pub read : catalogues.ReadsCatalogue c (Ok catalogue)

-- the text says this query
pub record QueryPasses (catalogue : CatalogueTree) (q : List ℕ) (query : QueryTree) : Type 0 where
  pub size : length q ≤ most_text_bytes
  pub read : queries.ReadsQuery catalogue q (Ok query)

-- the text says this derivation
pub record DerivationPasses (d : List ℕ) (tree : Deriv) : Type 0 where
  pub size : length d ≤ most_text_bytes
  pub read : derivations.ReadsDerivation d (Ok tree)

-- the text is stopped with this line, whatever stands before it
abbrev pub StopsAlways : TextKind → List ℕ → List ℕ → Type 0
StopsAlways kind bytes line = (earlier : List Given) → Stops earlier (kind, bytes) line

-- the query is stopped with this line, behind any texts that say this catalogue
abbrev pub StopsOver : CatalogueTree → List ℕ → List ℕ → Type 0
StopsOver catalogue q line = (earlier : List Given) → Over earlier catalogue → Stops earlier (Query, q) line

-- what the reading of a rule file answers
abbrev pub RulesRead : List ℕ → Result RuleFile Refusal → Type 0
RulesRead r (Ok rules) = rule_files.ReadsRules r (Ok rules)
RulesRead r (Err refusal) = Refuses Rules (λ line. (fault : RuleFault) × rule_files.IsFirstFault r fault × (rules_line fault ≡ Some line)) refusal

-- what the check of rules answers
abbrev pub RulesChecked : RuleFile → Result RuleFile Refusal → Type 0
RulesChecked rules (Ok checked) = (checked ≡ rules) × IsAccepted rules
RulesChecked rules (Err refusal) = Refuses Rules (λ line. (fault : RuleFault) × IsRefusedBy rules fault × (rules_line fault ≡ Some line)) refusal

-- The judgement of a text of this kind: it says something, or it is stopped with a line as P says.
abbrev pub JudgedAs : {A : Type 0} → TextKind → (List ℕ → A → Type 0) → (List ℕ → List ℕ → Type 0) → List ℕ → Result A Refusal → Type 0
JudgedAs kind Says P bytes (Ok this) = Says bytes this
JudgedAs kind Says P bytes (Err refusal) = Refuses kind (P bytes) refusal

abbrev pub JudgedRules : List ℕ → Result RuleFile Refusal → Type 0
JudgedRules r result = JudgedAs Rules RulesPass (StopsAlways Rules) r result

abbrev pub JudgedCatalogue : List ℕ → Result CatalogueTree Refusal → Type 0
JudgedCatalogue c result = JudgedAs Catalogue CataloguePasses (StopsAlways Catalogue) c result

abbrev pub JudgedQuery : CatalogueTree → List ℕ → Result QueryTree Refusal → Type 0
JudgedQuery catalogue q result = JudgedAs Query (QueryPasses catalogue) (StopsOver catalogue) q result

abbrev pub JudgedDerivation : List ℕ → Result Deriv Refusal → Type 0
JudgedDerivation d result = JudgedAs Derivation DerivationPasses (StopsAlways Derivation) d result
