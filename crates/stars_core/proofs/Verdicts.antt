-- Each text has a verdict, and texts that are accepted say something.
use Rattle.std.proofs.Common.{◌≡◌, ◌⊎◌, inl, inr, ◌<◌, ◌≤◌, ℕ, List, [], ◌∷◌, length, Option, Some, refl, sym, subst}
use Rattle.std.proofs.lemmas.Bool.{cases_lt}
use Rattle.sb_outside.specs.Shelf.{Files}
use Rattle.sb_text.specs.Limits.{most_text_bytes}
use Rattle.star_model.specs.Accepted.{IsAccepted, IsRefusedBy}
use Rattle.star_model.specs.Selectivity.{selects_of, weighed}
use Rattle.star_model.specs.WellFormed.{WellFormedCatalogue}
use Rattle.star_model.specs.declared.catalogue.Catalogue.{Catalogue as CatalogueTree}
use Rattle.star_model.specs.declared.derivations.Deriv.{Deriv}
use Rattle.star_model.specs.declared.faults.RuleFault.{RuleFault}
use Rattle.star_model.specs.declared.faults.RuleFault.TheVariants as rule
use Rattle.star_model.specs.declared.query.Query.{Query as QueryTree}
use Rattle.star_model.specs.declared.rules.RuleFile.{RuleFile}
use Rattle.catalogue.specs.declared.fault.CatFault.{CatFault}
use Rattle.catalogue.specs.declared.fault.CatFault.TheVariants as catalogue
use Rattle.catalogue.specs.Faults as catalogues
use Rattle.catalogue.proofs.Laws as catalogue_laws
use Rattle.query_graph.specs.declared.fault.QueryFault.{QueryFault}
use Rattle.query_graph.specs.declared.fault.QueryFault.TheVariants as query
use Rattle.query_graph.specs.Faults as queries
use Rattle.query_graph.proofs.Laws as query_laws
use Rattle.derivation_reading.specs.declared.fault.DerivFault.{DerivFault}
use Rattle.derivation_reading.specs.declared.fault.DerivFault.TheVariants as derivation
use Rattle.derivation_reading.specs.Faults as derivations
use Rattle.derivation_reading.proofs.Laws as derivation_laws
use Rattle.star_syntax.specs.Faults as rule_files
use Rattle.star_syntax.proofs.Laws as rule_laws
use Rattle.star_check.proofs.Laws as check_laws
use Rattle.stars_core.specs.declared.command.Command.{Command}
use Rattle.stars_core.specs.declared.command.Command.TheVariants.{Check, Plan, Run, Frontier, Verify, Gen}
use Rattle.stars_core.specs.declared.refusal.TextKind.{TextKind}
use Rattle.stars_core.specs.declared.refusal.TextKind.TheVariants.{Rules, Catalogue, Query, Derivation}
use Rattle.workload_gen.specs.Tables.{drawn_tables}
use Rattle.workload_gen.specs.Trees.{query_tree}
use Rattle.workload_gen.specs.Workloads.{workload}
use Rattle.workload_runs.specs.RulesTree.{generator_rules}
use Rattle.workload_runs.proofs.Laws.{workload_says}
use Rattle.stars_core.specs.CommandLine.{CommandLine, requests_of, three_requests, four_requests, HasSize}
use Rattle.stars_core.specs.Faults.{Stops, Passes, Verdict, Accepted, Stopped, Judged, PassAll}
use Rattle.stars_core.specs.Given.{Given, Over, catalogue_in}
use Rattle.stars_core.specs.Judging.{RulesPass, CataloguePasses, QueryPasses, DerivationPasses, StopsAlways, StopsOver}
use Rattle.stars_core.specs.Lines.{too_long_line, rules_line, catalogue_line, query_line, derivation_line}
use Rattle.stars_core.specs.Saying.{Saying, Says, SaysCase, three, four}
use Rattle.stars_core.specs.Shelves.{HeldAs}
use Rattle.stars_core.proofs.FaultLaws.{passes, long_stops, misread_stops, rejected_stops, not_misread_rules, rules_pass, catalogue_passes, query_passes, derivation_passes, stopped_passes}
use Rattle.stars_core.proofs.Says.{says_rules, says_case}
use Rattle.stars_core.proofs.WorkloadRuns.{workload_case}

-- ---- each fault that a text has is told by a line

abbrev Line : Option (List ℕ) → Type 0
Line told = (line : List ℕ) × (told ≡ Some line)

rules_told : (r : List ℕ) (fault : RuleFault) → rule_files.HasFault r fault → Line (rules_line fault)
rules_told r rule.Memory has = absurd has
rules_told r fault has = (_, refl)

catalogue_told : (c : List ℕ) (fault : CatFault) → catalogues.HasFault c fault → Line (catalogue_line fault)
catalogue_told c catalogue.Memory has = absurd has
catalogue_told c fault has = (_, refl)

query_told : (c : CatalogueTree) (q : List ℕ) (fault : QueryFault) → queries.HasFault c q fault → Line (query_line fault)
query_told c q query.Memory has = absurd has
query_told c q fault has = (_, refl)

derivation_told : (d : List ℕ) (fault : DerivFault) → derivations.HasFault d fault → Line (derivation_line fault)
derivation_told d derivation.Memory has = absurd has
derivation_told d fault has = (_, refl)

check_told : (rules : RuleFile) (fault : RuleFault) → IsRefusedBy rules fault → Line (rules_line fault)
check_told rules rule.Memory refused = absurd refused
check_told rules fault refused = (_, refl)

-- ---- each text says something, or is stopped with a line

abbrev SaidOr : {A : Type 0} → (A → Type 0) → (List ℕ → Type 0) → Type 0
SaidOr {A} Said Stop = ((this : A) × Said this) ⊎ ((line : List ℕ) × Stop line)

-- what is too long is stopped
by_size : (P : Type 0) (kind : TextKind) (bytes : List ℕ) → ((line : List ℕ) → StopsAlways kind bytes line → P) → (length bytes ≤ most_text_bytes → P) → P
by_size P kind bytes stopped within = at (cases_lt most_text_bytes (length bytes))
  where
    at : (most_text_bytes < length bytes) ⊎ (length bytes ≤ most_text_bytes) → P
    at (inl long) = stopped (too_long_line kind) (λ earlier. long_stops earlier (kind, bytes) (too_long_line kind) long refl)
    at (inr size) = within size

module _ (r : List ℕ) (size : length r ≤ most_text_bytes) where
  checked_rules : (rules : RuleFile) → rule_files.IsRead r rules → IsAccepted rules ⊎ ((fault : RuleFault) × IsRefusedBy rules fault) → SaidOr (RulesPass r) (StopsAlways Rules r)
  checked_rules rules is (inl accepted) = inl ((rules, record { size = size; read = is; accepted = accepted }))
  checked_rules rules is (inr (fault, refused)) =
      let told = check_told rules fault refused in
      inr ((told.0, λ earlier. rejected_stops earlier (Rules, r) told.0 size (not_misread_rules r rules is earlier) (rules, is.spells, is.formed, fault, refused, told.1)))

  read_rules : ((rules : RuleFile) × rule_files.IsRead r rules) ⊎ ((fault : RuleFault) × rule_files.IsFirstFault r fault) → SaidOr (RulesPass r) (StopsAlways Rules r)
  read_rules (inl (rules, is)) = checked_rules rules is (check_laws.some_answer rules is.formed)
  read_rules (inr (fault, first)) =
      let told = rules_told r fault first.has in
      inr ((told.0, λ earlier. misread_stops earlier (Rules, r) told.0 size (fault, first, told.1)))

judged_rules : (r : List ℕ) → SaidOr (RulesPass r) (StopsAlways Rules r)
judged_rules r = by_size (SaidOr (RulesPass r) (StopsAlways Rules r)) Rules r (λ line stops. inr ((line, stops))) (λ size. read_rules r size (rule_laws.verdict r))

judged_catalogue : (c : List ℕ) → SaidOr (CataloguePasses c) (StopsAlways Catalogue c)
judged_catalogue c = by_size (SaidOr (CataloguePasses c) (StopsAlways Catalogue c)) Catalogue c (λ line stops. inr ((line, stops))) (λ size. read size (catalogue_laws.verdict c))
  where
    read : length c ≤ most_text_bytes → ((tree : CatalogueTree) × catalogues.IsAccepted c tree) ⊎ ((fault : CatFault) × catalogues.IsFirstFault c fault) → SaidOr (CataloguePasses c) (StopsAlways Catalogue c)
    read size (inl (tree, is)) = inl ((tree, record { size = size; read = is }))
    read size (inr (fault, first)) =
        let told = catalogue_told c fault first.has in
        inr ((told.0, λ earlier. misread_stops earlier (Catalogue, c) told.0 size (fault, first, told.1)))

judged_query : (catalogue : CatalogueTree) → WellFormedCatalogue catalogue → (q : List ℕ) → SaidOr (QueryPasses catalogue q) (StopsOver catalogue q)
judged_query catalogue formed q =
    by_size (SaidOr (QueryPasses catalogue q) (StopsOver catalogue q)) Query q (λ line stops. inr ((line, λ earlier over. stops earlier))) (λ size. read size (query_laws.verdict catalogue q formed))
  where
    read : length q ≤ most_text_bytes → ((tree : QueryTree) × queries.IsAccepted catalogue q tree) ⊎ ((fault : QueryFault) × queries.IsFirstFault catalogue q fault)
        → SaidOr (QueryPasses catalogue q) (StopsOver catalogue q)
    read size (inl (tree, is)) = inl ((tree, record { size = size; read = is }))
    read size (inr (fault, first)) =
        let told = query_told catalogue q fault first.has in
        inr ((told.0, λ earlier over. misread_stops earlier (Query, q) told.0 size (catalogue, over, fault, first, told.1)))

judged_derivation : (d : List ℕ) → SaidOr (DerivationPasses d) (StopsAlways Derivation d)
judged_derivation d = by_size (SaidOr (DerivationPasses d) (StopsAlways Derivation d)) Derivation d (λ line stops. inr ((line, stops))) (λ size. read size (derivation_laws.verdict d size))
  where
    read : length d ≤ most_text_bytes → ((tree : Deriv) × derivations.IsAccepted d tree) ⊎ ((fault : DerivFault) × derivations.IsFirstFault d fault) → SaidOr (DerivationPasses d) (StopsAlways Derivation d)
    read size (inl (tree, is)) = inl ((tree, record { size = size; read = is }))
    read size (inr (fault, first)) =
        let told = derivation_told d fault first.has in
        inr ((told.0, λ earlier. misread_stops earlier (Derivation, d) told.0 size (fault, first, told.1)))

-- ---- each text has a verdict

abbrev pub HasVerdict : List Given → Given → Type 0
HasVerdict earlier this = (verdict : Verdict) × Judged earlier this verdict

-- a query after texts of which none says a catalogue
over_none : (earlier : List Given) (q : List ℕ) → ((catalogue : CatalogueTree) → Over earlier catalogue → ⊥) → HasVerdict earlier (Query, q)
over_none earlier q none =
    by_size (HasVerdict earlier (Query, q)) Query q (λ line stops. (Stopped line, stops earlier))
    (λ size. (Accepted, passes earlier (Query, q) size (λ line misread. none misread.0 misread.1) (λ line rejected. rejected)))

over_some : (earlier : List Given) (q : List ℕ) (catalogue : CatalogueTree) → Over earlier catalogue → SaidOr (QueryPasses catalogue q) (StopsOver catalogue q) → HasVerdict earlier (Query, q)
over_some earlier q catalogue over (inl (tree, pass)) = (Accepted, query_passes catalogue q tree pass earlier over)
over_some earlier q catalogue over (inr (line, stops)) = (Stopped line, stops earlier over)

query_verdict : (earlier : List Given) (q : List ℕ) → HasVerdict earlier (Query, q)
query_verdict earlier q = at (catalogue_laws.verdict (catalogue_in earlier))
  where
    at : ((tree : CatalogueTree) × catalogues.IsAccepted (catalogue_in earlier) tree) ⊎ ((fault : CatFault) × catalogues.IsFirstFault (catalogue_in earlier) fault) → HasVerdict earlier (Query, q)
    at (inl (tree, is)) = over_some earlier q tree (record { spells = is.spells; formed = is.formed }) (judged_query tree is.formed q)
    at (inr (fault, first)) =
        over_none earlier q (λ tree over. ((catalogue_laws.accepted_spells (catalogue_in earlier) tree).1 (over.spells, over.formed)).clear fault first.has)

pub some_verdict : (earlier : List Given) (this : Given) → HasVerdict earlier this
some_verdict earlier (Rules, r) = at (judged_rules r)
  where
    at : SaidOr (RulesPass r) (StopsAlways Rules r) → HasVerdict earlier (Rules, r)
    at (inl (rules, pass)) = (Accepted, rules_pass r rules pass earlier)
    at (inr (line, stops)) = (Stopped line, stops earlier)
some_verdict earlier (Catalogue, c) = at (judged_catalogue c)
  where
    at : SaidOr (CataloguePasses c) (StopsAlways Catalogue c) → HasVerdict earlier (Catalogue, c)
    at (inl (tree, pass)) = (Accepted, catalogue_passes c tree pass earlier)
    at (inr (line, stops)) = (Stopped line, stops earlier)
some_verdict earlier (Query, q) = query_verdict earlier q
some_verdict earlier (Derivation, d) = at (judged_derivation d)
  where
    at : SaidOr (DerivationPasses d) (StopsAlways Derivation d) → HasVerdict earlier (Derivation, d)
    at (inl (tree, pass)) = (Accepted, derivation_passes d tree pass earlier)
    at (inr (line, stops)) = (Stopped line, stops earlier)

-- ---- what is accepted says something

said : {A : Type 0} (Said : A → Type 0) (Stop : List ℕ → Type 0) (earlier : List Given) (this : Given) → Passes earlier this → ((line : List ℕ) → Stop line → Stops earlier this line)
    → SaidOr Said Stop → (x : A) × Said x
said Said Stop earlier this pass stops (inl says) = says
said Said Stop earlier this pass stops (inr (line, stop)) = absurd (stopped_passes earlier this line (stops line stop) pass)

rules_said : (r : List ℕ) → Passes [] (Rules, r) → (rules : RuleFile) × RulesPass r rules
rules_said r pass = said (RulesPass r) (StopsAlways Rules r) [] (Rules, r) pass (λ line stops. stops []) (judged_rules r)

abbrev SaidCase : List ℕ → List ℕ → List ℕ → Type 0
SaidCase r c q = (rules : RuleFile) × (query : QueryTree) × SaysCase r c q rules query

case_said : (r c q : List ℕ) → PassAll [] (three r c q) → SaidCase r c q
case_said r c q all = at (rules_said r all.0) (said (CataloguePasses c) (StopsAlways Catalogue c) before_c (Catalogue, c) all.1.0 (λ line stops. stops before_c) (judged_catalogue c))
  where
    before_c : List Given
    before_c = (Rules, r) ∷ []

    before_q : List Given
    before_q = (Rules, r) ∷ (Catalogue, c) ∷ []

    at : (rules : RuleFile) × RulesPass r rules → (tree : CatalogueTree) × CataloguePasses c tree → SaidCase r c q
    at (rules, by) (tree, pass) =
        let over : Over before_q tree = record { spells = pass.read.spells; formed = pass.read.formed } in
        let asked = said (QueryPasses tree q) (StopsOver tree q) before_q (Query, q) all.1.1.0 (λ line stops. stops before_q over) (judged_query tree pass.read.formed q) in
        (rules, weighed (selects_of rules) asked.0, says_case r c q rules tree asked.0 by pass asked.1)

derivation_said : (r c q d : List ℕ) → PassAll [] (four r c q d) → (tree : Deriv) × DerivationPasses d tree
derivation_said r c q d all = said (DerivationPasses d) (StopsAlways Derivation d) (three r c q) (Derivation, d) all.1.1.1.0 (λ line stops. stops (three r c q)) (judged_derivation d)

-- ---- what the texts of a command say

abbrev SaysSome : Command → List Given → Type 0
SaysSome command given = (saying : Saying command) × Says command given saying

same_given : (kind : TextKind) (this : Given) → this.0 ≡ kind → this ≡ (kind, this.1)
same_given kind this is = λ i. (is i, this.1)

one_says : (told : Option Files) (rules : List ℕ) (given : List Given) → HeldAs told ((Rules, rules) ∷ []) given → PassAll [] given → SaysSome Check given
one_says told rules [] held all = absurd held
one_says told rules (a ∷ b ∷ given) held all = absurd held.2
one_says told rules (a ∷ []) held all =
    let pass : Passes [] (Rules, a.1) = subst (λ (x : Given). Passes [] x) (same_given Rules a held.0) all.0 in
    let rules = rules_said a.1 pass in
    (rules.0, says_rules a.1 rules.0 rules.1)

pub record ThreeSay (given : List Given) : Type 0 where
  pub r : List ℕ
  pub c : List ℕ
  pub q : List ℕ
  pub are : given ≡ three r c q
  pub say : SaidCase r c q

three_say : (told : Option Files) (rules catalogue query : List ℕ) (given : List Given) → HeldAs told (three_requests rules catalogue query) given → PassAll [] given
    → ThreeSay given
three_say told rules catalogue query [] held all = absurd held
three_say told rules catalogue query (a ∷ []) held all = absurd held.2
three_say told rules catalogue query (a ∷ b ∷ []) held all = absurd held.2.2
three_say told rules catalogue query (a ∷ b ∷ c ∷ d ∷ given) held all = absurd held.2.2.2
three_say told rules catalogue query (a ∷ b ∷ c ∷ []) held all =
    let same : a ∷ b ∷ c ∷ [] ≡ three a.1 b.1 c.1 = λ i. same_given Rules a held.0 i ∷ same_given Catalogue b held.2.0 i ∷ same_given Query c held.2.2.0 i ∷ [] in
    record { r = a.1; c = b.1; q = c.1; are = same; say = case_said a.1 b.1 c.1 (subst (λ (l : List Given). PassAll [] l) same all) }

case_says : (given : List Given) → ThreeSay given → SaysSome Plan given
case_says given three_ = subst (λ (l : List Given). SaysSome Plan l) (sym three_.are) ((three_.say.0, three_.say.1), three_.say.2)

four_say : (told : Option Files) (rules catalogue query derivation : List ℕ) (given : List Given) → HeldAs told (four_requests rules catalogue query derivation) given → PassAll [] given
    → SaysSome Verify given
four_say told rules catalogue query derivation [] held all = absurd held
four_say told rules catalogue query derivation (a ∷ []) held all = absurd held.2
four_say told rules catalogue query derivation (a ∷ b ∷ []) held all = absurd held.2.2
four_say told rules catalogue query derivation (a ∷ b ∷ c ∷ []) held all = absurd held.2.2.2
four_say told rules catalogue query derivation (a ∷ b ∷ c ∷ d ∷ e ∷ given) held all = absurd held.2.2.2.2
four_say told rules catalogue query derivation (a ∷ b ∷ c ∷ d ∷ []) held all =
    let same : a ∷ b ∷ c ∷ d ∷ [] ≡ four a.1 b.1 c.1 d.1 =
    λ i. same_given Rules a held.0 i ∷ same_given Catalogue b held.2.0 i ∷ same_given Query c held.2.2.0 i ∷ same_given Derivation d held.2.2.2.0 i ∷ [] in
    let pass : PassAll [] (four a.1 b.1 c.1 d.1) = subst (λ (l : List Given). PassAll [] l) same all in
    let case : SaidCase a.1 b.1 c.1 = case_said a.1 b.1 c.1 (pass.0, (pass.1.0, (pass.1.1.0, tt))) in
    let tree : (tree : Deriv) × DerivationPasses d.1 tree = derivation_said a.1 b.1 c.1 d.1 pass in
    ((case.0, case.1, tree.0), (case.2, tree.1.read.spells))

-- texts that a command asks for, where they are accepted
pub accepted_texts_say : (told : Option Files) (command : Command) (words : CommandLine) (given : List Given) → HasSize command → HeldAs told (requests_of command words) given → PassAll [] given
    → (saying : Saying command) × Says command given saying
accepted_texts_say told Check words given sized held all = one_says told _ given held all
accepted_texts_say told Plan words given sized held all = case_says given (three_say told _ _ _ given held all)
accepted_texts_say told Run words given sized held all = case_says given (three_say told _ _ _ given held all)
accepted_texts_say told Frontier words given sized held all = case_says given (three_say told _ _ _ given held all)
accepted_texts_say told Verify words given sized held all = four_say told _ _ _ _ given held all
accepted_texts_say told (Gen seed size) words given sized held all =
    let says = workload_says seed size sized in
    ((generator_rules, query_tree (drawn_tables seed size)), workload_case (workload seed size) generator_rules (query_tree (drawn_tables seed size)) says)
