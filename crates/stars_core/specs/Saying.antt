-- What texts that are accepted say to a command, and what it answers of that.
use Rattle.std.specs.Prelude.{◌≡◌, ℕ, List, [], ◌∷◌, ◌++◌, slice_get}
use Rattle.std.specs.Option.{option_map_or}
use Rattle.star_model.specs.Accepted.{IsAccepted}
use Rattle.star_model.specs.Derivations.{IsLeast}
use Rattle.star_model.specs.Selectivity.{selects_of, weighed}
use Rattle.star_model.specs.WellFormed.{WellFormedQuery}
use Rattle.star_model.specs.declared.rules.RuleFile.{RuleFile}
use Rattle.star_model.specs.declared.query.Query.{Query as QueryTree}
use Rattle.star_model.specs.declared.derivations.Deriv.{Deriv}
use Rattle.star_model.specs.declared.plans.Props.{Props}
use Rattle.star_model.specs.WellFormedRules.{WellFormedRules}
use Rattle.spelling.specs.Layout.{commented}
use Rattle.rule_grammar.specs.Rules.{SpellsRules, canonical as canonical_rules}
use Rattle.rule_grammar.specs.RuleLimits.{KeepsLexemeLimits}
use Rattle.derivation_reading.specs.Derivations.{SpellsDerivation, canonical}
use Rattle.catalogue.specs.Catalogues.{SpellsCatalogue}
use Rattle.query_graph.specs.Queries.{SpellsQuery}
use Rattle.workload_gen.specs.Workloads.{workload}
use Rattle.workload_gen.specs.declared.workload.Workload.{Workload}
use Rattle.stars_core.specs.declared.command.Command.{Command}
use Rattle.stars_core.specs.declared.command.Command.TheVariants.{Check, Plan, Run, Frontier, Verify, Gen}
use Rattle.stars_core.specs.declared.refusal.TextKind.TheVariants.{Rules, Catalogue, Query, Derivation}
use Rattle.stars_core.specs.declared.status.Ending.{Ending}
use Rattle.stars_core.specs.declared.status.Ending.TheVariants.{Done, NoPlan}
use Rattle.stars_core.specs.Given.{Given}
use Rattle.stars_core.specs.Plan.{PlanText, numbers}
use Rattle.stars_core.specs.Frontier.{FrontierText}
use Rattle.stars_core.specs.Verified.{VerifiedText, IsNotDerived}
use Rattle.stars_core.specs.Tallies.{TallyText}

-- the bytes of the text at this place
abbrev pub text_at : List Given → ℕ → List ℕ
text_at given place = option_map_or (λ g. g.1) (slice_get given place) []

-- three texts: rules, a catalogue and a query
abbrev pub three : List ℕ → List ℕ → List ℕ → List Given
three r c q = (Rules, r) ∷ (Catalogue, c) ∷ (Query, q) ∷ []

-- and a derivation
abbrev pub four : List ℕ → List ℕ → List ℕ → List ℕ → List Given
four r c q d = three r c q ++ (Derivation, d) ∷ []

-- the text says these rules, which keep all limits and are accepted
pub record SaysRules (r : List ℕ) (rules : RuleFile) : Type 0 where
  pub of_rules : SpellsRules r rules
  pub formed : WellFormedRules rules
  pub fits : KeepsLexemeLimits rules
  pub accepted : IsAccepted rules

-- the three texts say these rules and this query, whose predicates have the selectivities that the rules give
pub record SaysCase (r c q : List ℕ) (rules : RuleFile) (query : QueryTree) : Type 0 where
  pub of_rules : SaysRules r rules
  pub spelled : QueryTree
  pub of_catalogue : SpellsCatalogue c spelled.catalogue
  pub of_query : SpellsQuery spelled.catalogue q spelled
  pub by_rules : query ≡ weighed (selects_of rules) spelled
  pub formed : WellFormedQuery query

-- the texts of a workload say these rules and this query
abbrev pub SaysWorkload : Workload → RuleFile → QueryTree → Type 0
SaysWorkload made rules query = SaysCase made.rules made.catalogue made.query rules query

-- what is said to each command
abbrev pub Saying : Command → Type 0
Saying Check = RuleFile
Saying Plan = RuleFile × QueryTree
Saying Run = RuleFile × QueryTree
Saying Frontier = RuleFile × QueryTree
Saying Verify = RuleFile × QueryTree × Deriv
Saying (Gen seed size) = RuleFile × QueryTree

-- the texts say this to the command; to one for a workload, those that the workload has
abbrev pub Says : (command : Command) → List Given → Saying command → Type 0
Says Check given rules = SaysRules (text_at given 0) rules
Says Plan given saying = SaysCase (text_at given 0) (text_at given 1) (text_at given 2) saying.0 saying.1
Says Run given saying = SaysCase (text_at given 0) (text_at given 1) (text_at given 2) saying.0 saying.1
Says Frontier given saying = SaysCase (text_at given 0) (text_at given 1) (text_at given 2) saying.0 saying.1
Says Verify given saying =
    SaysCase (text_at given 0) (text_at given 1) (text_at given 2) saying.0 saying.1 × SpellsDerivation (text_at given 3) saying.2
Says (Gen seed size) given saying = SaysWorkload (workload seed size) saying.0 saying.1

-- the text of rules that are accepted
abbrev pub RulesText : RuleFile → Ending → List ℕ → Type 0
RulesText rules ending text = (ending ≡ Done) × (text ≡ canonical_rules rules)

-- How planning ends, and the text of each end: a plan's is one that `verify` reads as its derivation.
abbrev pub SpelledPlan : RuleFile → QueryTree → Ending → List ℕ → Type 0
SpelledPlan rules query Done text = (d : Deriv) × (v : Props) × IsLeast query rules d v × (text ≡ commented (numbers v) (canonical d)) × SpellsDerivation text d
SpelledPlan rules query NoPlan text = PlanText rules query NoPlan text

-- how the command ends, and the text of each end; a run's is that of its plan
abbrev pub AnswerText : (command : Command) → Saying command → Ending → List ℕ → Type 0
AnswerText Check rules ending text = RulesText rules ending text
AnswerText Plan saying ending text = SpelledPlan saying.0 saying.1 ending text
AnswerText Run saying ending text = SpelledPlan saying.0 saying.1 ending text
AnswerText Frontier saying ending text = FrontierText saying.0 saying.1 ending text
AnswerText Verify saying ending text = VerifiedText saying.0 saying.1 saying.2 ending text
AnswerText (Gen seed size) saying ending text = TallyText seed size saying.0 saying.1 ending text

-- the texts say something, and this is the command's answer
pub record IsAnswer (command : Command) (given : List Given) (ending : Ending) (text : List ℕ) : Type 0 where
  pub saying : Saying command
  pub says : Says command given saying
  pub answer : AnswerText command saying ending text

-- why a command that read all its texts puts nothing, and the line that tells it
abbrev pub Denied : (command : Command) → Saying command → List ℕ → Type 0
Denied Check rules line = ⊥
Denied Plan saying line = ⊥
Denied Run saying line = ⊥
Denied Frontier saying line = ⊥
Denied Verify saying line = IsNotDerived saying.0 saying.1 saying.2 line
Denied (Gen seed size) saying line = ⊥

-- the texts say something of which the command denies what it is for
pub record IsDenied (command : Command) (given : List Given) (line : List ℕ) : Type 0 where
  pub saying : Saying command
  pub says : Says command given saying
  pub denied : Denied command saying line
