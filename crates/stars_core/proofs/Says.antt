-- What texts that are accepted say.
use Rattle.std.proofs.Common.{◌≡◌, ℕ, List, refl, sym, subst, ◌∙◌}
use Rattle.star_model.specs.declared.catalogue.Catalogue.{Catalogue as CatalogueTree}
use Rattle.star_model.specs.declared.query.Query.{Query as QueryTree}
use Rattle.star_model.specs.declared.rules.RuleFile.{RuleFile}
use Rattle.star_model.specs.declared.derivations.Deriv.{Deriv}
use Rattle.star_model.specs.Selectivity.{selects_of, weighed}
use Rattle.star_model.proofs.Laws.{weighed_formed}
use Rattle.catalogue.specs.Catalogues.{SpellsCatalogue}
use Rattle.query_graph.specs.Queries.{SpellsQuery}
use Rattle.rule_grammar.proofs.Laws.{one_rule_file}
use Rattle.catalogue.proofs.Laws.{one_catalogue}
use Rattle.query_graph.proofs.Laws.{one_query, keeps_catalogue}
use Rattle.derivation_reading.proofs.Laws.{one_derivation}
use Rattle.stars_core.specs.declared.command.Command.{Command}
use Rattle.workload_gen.specs.Workloads.{workload}
use Rattle.stars_core.specs.declared.command.Command.TheVariants.{Check, Plan, Run, Frontier, Verify, Gen}
use Rattle.stars_core.specs.declared.status.Ending.{Ending}
use Rattle.stars_core.specs.declared.status.Ending.TheVariants as endings
use Rattle.stars_core.specs.Given.{Given}
use Rattle.stars_core.specs.Plan.{PlanText}
use Rattle.stars_core.specs.Judging.{RulesPass, CataloguePasses, QueryPasses}
use Rattle.stars_core.specs.Saying.{Saying, Says, SaysRules, SaysCase, SpelledPlan, text_at}

pub says_rules : (r : List ℕ) (rules : RuleFile) → RulesPass r rules → SaysRules r rules
says_rules r rules pass = record { of_rules = pass.read.spells; formed = pass.read.formed; fits = pass.read.fits; accepted = pass.accepted }

pub says_case : (r c q : List ℕ) (rules : RuleFile) (catalogue : CatalogueTree) (query : QueryTree) → RulesPass r rules → CataloguePasses c catalogue → QueryPasses catalogue q query
    → SaysCase r c q rules (weighed (selects_of rules) query)
says_case r c q rules catalogue query by over_text of =
    let over : query.catalogue ≡ catalogue = keeps_catalogue catalogue q query of.read.spells in
    record {
      of_rules = says_rules r rules by;
      spelled = query;
      of_catalogue = subst (λ (x : CatalogueTree). SpellsCatalogue c x) (sym over) over_text.read.spells;
      of_query = subst (λ (x : CatalogueTree). SpellsQuery x q query) (sym over) of.read.spells;
      by_rules = refl;
      formed = weighed_formed (selects_of rules) query of.read.formed;
    }

pub one_case : (r c q : List ℕ) (a b : RuleFile) (x y : QueryTree) → SaysCase r c q a x → SaysCase r c q b y → (a ≡ b) × (x ≡ y)
one_case r c q a b x y p p' =
    let v = p.spelled in
    let w = p'.spelled in
    let catalogues : v.catalogue ≡ w.catalogue = one_catalogue c v.catalogue w.catalogue p.of_catalogue p'.of_catalogue in
    let of : SpellsQuery w.catalogue q v = subst (λ (k : CatalogueTree). SpellsQuery k q v) catalogues p.of_query in
    let queries : v ≡ w = one_query w.catalogue q v w of p'.of_query in
    let rules : a ≡ b = one_rule_file r a b p.of_rules.of_rules p'.of_rules.of_rules in
    let both : weighed (selects_of a) v ≡ weighed (selects_of b) w = (λ i. weighed (selects_of (rules i)) (queries i)) in
    (rules, p.by_rules ∙ both ∙ sym p'.by_rules)

same_pair : (a b : RuleFile × QueryTree) → (a.0 ≡ b.0) × (a.1 ≡ b.1) → a ≡ b
same_pair (a, x) (b, y) e =
    let first : a ≡ b = e.0 in
    let second : x ≡ y = e.1 in cc

same_three : (a b : RuleFile × QueryTree × Deriv) → (a.0 ≡ b.0) × (a.1 ≡ b.1) → a.2 ≡ b.2 → a ≡ b
same_three (a, x, d) (b, y, e) p q =
    let first : a ≡ b = p.0 in
    let second : x ≡ y = p.1 in
    let third : d ≡ e = q in cc

-- texts say at most one thing to a command
pub one_reading : (command : Command) (given : List Given) (a b : Saying command) → Says command given a → Says command given b → a ≡ b
one_reading Check given a b p p' = one_rule_file (text_at given 0) a b p.of_rules p'.of_rules
one_reading Plan given a b p p' = same_pair a b (one_case (text_at given 0) (text_at given 1) (text_at given 2) a.0 b.0 a.1 b.1 p p')
one_reading Run given a b p p' = same_pair a b (one_case (text_at given 0) (text_at given 1) (text_at given 2) a.0 b.0 a.1 b.1 p p')
one_reading Frontier given a b p p' = same_pair a b (one_case (text_at given 0) (text_at given 1) (text_at given 2) a.0 b.0 a.1 b.1 p p')
one_reading Verify given a b p p' =
    same_three a b (one_case (text_at given 0) (text_at given 1) (text_at given 2) a.0 b.0 a.1 b.1 p.0 p'.0)
    (one_derivation (text_at given 3) a.2 b.2 p.1 p'.1)
one_reading (Gen seed size) given a b p p' =
    let made = workload seed size in same_pair a b (one_case made.rules made.catalogue made.query a.0 b.0 a.1 b.1 p p')

-- the text of a plan spells its derivation
pub spelled_plan : (r : List ℕ) (rules : RuleFile) (query : QueryTree) → SaysRules r rules → (ending : Ending) (text : List ℕ) → PlanText rules query ending text
    → SpelledPlan rules query ending text
spelled_plan r rules query says endings.Done text plan = (plan.0, plan.1, plan.2, plan.3, plan.4 r says.of_rules says.formed)
spelled_plan r rules query says endings.NoPlan text plan = plan
