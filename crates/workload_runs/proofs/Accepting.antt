-- Reading the texts of a workload fails only where memory runs out.
use Rattle.std.proofs.Common.{◌≡◌, ℕ, suc, ◌+◌, List, [], ◌∷◌, length, Ok, Err, refl, ap, sym, ◌∙◌, subst}
use Rattle.std.proofs.lemmas.List.{length-map}
use Rattle.star_model.specs.Selectivity.{selects_of, weighed}
use Rattle.star_model.specs.declared.catalogue.Catalogue.{Catalogue}
use Rattle.star_model.specs.declared.faults.RuleFault.{RuleFault}
use Rattle.star_model.specs.declared.faults.RuleFault.TheVariants as rule_fault
use Rattle.star_model.specs.declared.query.Query.{Query}
use Rattle.star_model.specs.declared.rules.RuleFile.{RuleFile}
use Rattle.star_model.specs.WellFormedRules.{WellFormedRules}
use Rattle.rule_grammar.specs.Rules.{SpellsRules}
use Rattle.rule_grammar.proofs.Laws.{one_rule_file}
use Rattle.star_syntax.specs.Faults as of_rules
use Rattle.star_check.specs.Checking.{Checks}
use Rattle.star_check.proofs.Laws.{accepted_or_refused}
use Rattle.catalogue.specs.Catalogues.{SpellsCatalogue}
use Rattle.catalogue.specs.Faults as of_catalogue
use Rattle.catalogue.proofs.Laws.{one_catalogue}
use Rattle.catalogue.specs.declared.fault.CatFault.{CatFault}
use Rattle.catalogue.specs.declared.fault.CatFault.TheVariants as catalogue_fault
use Rattle.query_graph.specs.Faults as of_query
use Rattle.query_graph.specs.declared.fault.QueryFault.{QueryFault}
use Rattle.query_graph.specs.declared.fault.QueryFault.TheVariants as query_fault
use Rattle.query_graph.specs.Queries.{SpellsQuery}
use Rattle.query_graph.proofs.Laws.{usual_selectivities, keeps_catalogue, one_query}
use Rattle.workload_gen.specs.CatalogueText.{catalogue_text}
use Rattle.workload_gen.specs.QueryText.{query_text}
use Rattle.workload_gen.specs.RulesText.{rules_text}
use Rattle.workload_gen.specs.Tables.{drawn_tables}
use Rattle.workload_gen.specs.Records.{records_of}
use Rattle.workload_gen.specs.Trees.{table_defs, catalogue_tree, query_tree}
use Rattle.workload_gen.specs.declared.tables.DrawnTable.{DrawnTable}
use Rattle.workload_gen.specs.Workloads.{IsSize, workload}
use Rattle.workload_gen.specs.declared.workload.Workload.{Workload}
use Rattle.workload_gen.proofs.Laws.{accepts_catalogue, accepts_query}
use Rattle.workload_runs.specs.AcceptedTexts.{IsShort, IsCatalogueText, IsQueryText}
use Rattle.workload_runs.specs.Cases.{Says}
use Rattle.workload_runs.specs.HeldRows.{HoldRows}
use Rattle.workload_runs.specs.Made.{IsMade}
use Rattle.workload_runs.proofs.HeldRows.{rows_held}
use Rattle.workload_runs.specs.RulesTree.{generator_rules}
use Rattle.workload_runs.proofs.RulesAccepted.{rules_accepted}
use Rattle.workload_runs.proofs.RulesSpelled.{spells_rules}
use Rattle.workload_runs.proofs.RulesWithin.{no_rules_fault, formed_rules, fitting_rules}
use Rattle.workload_runs.proofs.TextLengths.{short_rules, short_catalogue, short_query}

-- ---- faults that don't come

pub rules_read : (fault : RuleFault) → of_rules.ReadsRules rules_text (Err fault) → fault ≡ rule_fault.Memory
rules_read rule_fault.Memory read = refl
rules_read (rule_fault.Lexical o) read = absurd (no_rules_fault (rule_fault.Lexical o) read.has)
rules_read (rule_fault.TooDeep k) read = absurd (no_rules_fault (rule_fault.TooDeep k) read.has)
rules_read (rule_fault.Syntax k) read = absurd (no_rules_fault (rule_fault.Syntax k) read.has)
rules_read (rule_fault.Limit k what) read = absurd (no_rules_fault (rule_fault.Limit k what) read.has)
rules_read (rule_fault.Unknown k) read = absurd (no_rules_fault (rule_fault.Unknown k) read.has)
rules_read (rule_fault.Twice k) read = absurd (no_rules_fault (rule_fault.Twice k) read.has)
rules_read (rule_fault.Arity k) read = absurd (no_rules_fault (rule_fault.Arity k) read.has)
rules_read (rule_fault.Kind k) read = absurd (no_rules_fault (rule_fault.Kind k) read.has)
rules_read (rule_fault.Cycle k) read = absurd (no_rules_fault (rule_fault.Cycle k) read.has)
rules_read (rule_fault.GlueInAccess k) read = absurd (no_rules_fault (rule_fault.GlueInAccess k) read.has)
rules_read (rule_fault.NoRoot r) read = absurd (no_rules_fault (rule_fault.NoRoot r) read.has)
rules_read (rule_fault.NoFormula f) read = absurd (no_rules_fault (rule_fault.NoFormula f) read.has)
rules_read (rule_fault.NotMonotone f w n) read = absurd (no_rules_fault (rule_fault.NotMonotone f w n) read.has)
rules_read (rule_fault.TooTall k h) read = absurd (no_rules_fault (rule_fault.TooTall k h) read.has)
rules_read (rule_fault.TooWide k w) read = absurd (no_rules_fault (rule_fault.TooWide k w) read.has)

pub rules_checked : (fault : RuleFault) → Checks generator_rules (Err fault) → fault ≡ rule_fault.Memory
rules_checked rule_fault.Memory checks = refl
rules_checked (rule_fault.Lexical o) checks = absurd (accepted_or_refused generator_rules (rule_fault.Lexical o) rules_accepted checks)
rules_checked (rule_fault.TooDeep k) checks = absurd (accepted_or_refused generator_rules (rule_fault.TooDeep k) rules_accepted checks)
rules_checked (rule_fault.Syntax k) checks = absurd (accepted_or_refused generator_rules (rule_fault.Syntax k) rules_accepted checks)
rules_checked (rule_fault.Limit k what) checks = absurd (accepted_or_refused generator_rules (rule_fault.Limit k what) rules_accepted checks)
rules_checked (rule_fault.Unknown k) checks = absurd (accepted_or_refused generator_rules (rule_fault.Unknown k) rules_accepted checks)
rules_checked (rule_fault.Twice k) checks = absurd (accepted_or_refused generator_rules (rule_fault.Twice k) rules_accepted checks)
rules_checked (rule_fault.Arity k) checks = absurd (accepted_or_refused generator_rules (rule_fault.Arity k) rules_accepted checks)
rules_checked (rule_fault.Kind k) checks = absurd (accepted_or_refused generator_rules (rule_fault.Kind k) rules_accepted checks)
rules_checked (rule_fault.Cycle k) checks = absurd (accepted_or_refused generator_rules (rule_fault.Cycle k) rules_accepted checks)
rules_checked (rule_fault.GlueInAccess k) checks = absurd (accepted_or_refused generator_rules (rule_fault.GlueInAccess k) rules_accepted checks)
rules_checked (rule_fault.NoRoot r) checks = absurd (accepted_or_refused generator_rules (rule_fault.NoRoot r) rules_accepted checks)
rules_checked (rule_fault.NoFormula f) checks = absurd (accepted_or_refused generator_rules (rule_fault.NoFormula f) rules_accepted checks)
rules_checked (rule_fault.NotMonotone f w n) checks = absurd (accepted_or_refused generator_rules (rule_fault.NotMonotone f w n) rules_accepted checks)
rules_checked (rule_fault.TooTall k h) checks = absurd (accepted_or_refused generator_rules (rule_fault.TooTall k h) rules_accepted checks)
rules_checked (rule_fault.TooWide k w) checks = absurd (accepted_or_refused generator_rules (rule_fault.TooWide k w) rules_accepted checks)

pub catalogue_read : (text : List ℕ) → IsCatalogueText text → (fault : CatFault) → of_catalogue.ReadsCatalogue text (Err fault) → fault ≡ catalogue_fault.Memory
catalogue_read text is catalogue_fault.Memory read = refl
catalogue_read text is (catalogue_fault.Lexical o) read = absurd (is.accepted.clear (catalogue_fault.Lexical o) read.has)
catalogue_read text is (catalogue_fault.TooDeep k) read = absurd (is.accepted.clear (catalogue_fault.TooDeep k) read.has)
catalogue_read text is (catalogue_fault.Syntax k) read = absurd (is.accepted.clear (catalogue_fault.Syntax k) read.has)
catalogue_read text is (catalogue_fault.Unknown k) read = absurd (is.accepted.clear (catalogue_fault.Unknown k) read.has)
catalogue_read text is (catalogue_fault.Twice k) read = absurd (is.accepted.clear (catalogue_fault.Twice k) read.has)
catalogue_read text is (catalogue_fault.Limit k what) read = absurd (is.accepted.clear (catalogue_fault.Limit k what) read.has)

pub query_read : (c : Catalogue) (text : List ℕ) → IsQueryText c text → (fault : QueryFault) → of_query.ReadsQuery c text (Err fault) → fault ≡ query_fault.Memory
query_read c text is query_fault.Memory read = refl
query_read c text is (query_fault.Lexical o) read = absurd (is.accepted.clear (query_fault.Lexical o) read.has)
query_read c text is (query_fault.TooDeep k) read = absurd (is.accepted.clear (query_fault.TooDeep k) read.has)
query_read c text is (query_fault.Syntax k) read = absurd (is.accepted.clear (query_fault.Syntax k) read.has)
query_read c text is (query_fault.Unknown k) read = absurd (is.accepted.clear (query_fault.Unknown k) read.has)
query_read c text is (query_fault.Twice k) read = absurd (is.accepted.clear (query_fault.Twice k) read.has)
query_read c text is (query_fault.Limit k what) read = absurd (is.accepted.clear (query_fault.Limit k what) read.has)
query_read c text is (query_fault.TypeClash k) read = absurd (is.accepted.clear (query_fault.TypeClash k) read.has)

-- ---- what the texts say

pub short_as : (text : List ℕ) → text ≡ rules_text → IsShort text
short_as text is = subst IsShort (sym is) short_rules

pub rules_memory : (text : List ℕ) → text ≡ rules_text → (fault : RuleFault) → of_rules.ReadsRules text (Err fault) → fault ≡ rule_fault.Memory
rules_memory text is fault read = rules_read fault (subst (λ t. of_rules.ReadsRules t (Err fault)) is read)

pub rules_are : (text : List ℕ) → text ≡ rules_text → (rules : RuleFile) → of_rules.ReadsRules text (Ok rules) → rules ≡ generator_rules
rules_are text is rules read = one_rule_file text rules generator_rules read.spells (subst (λ t. SpellsRules t generator_rules) (sym is) spells_rules)

pub check_memory : (rules : RuleFile) → rules ≡ generator_rules → (fault : RuleFault) → Checks rules (Err fault) → fault ≡ rule_fault.Memory
check_memory rules is fault checks = rules_checked fault (subst (λ r. Checks r (Err fault)) is checks)

pub formed_as : (rules : RuleFile) → rules ≡ generator_rules → WellFormedRules rules
formed_as rules is = subst WellFormedRules (sym is) formed_rules

pub catalogue_given : (seed size : ℕ) → IsSize size → IsCatalogueText (workload seed size).catalogue
catalogue_given seed size is = record { short = short_catalogue seed size is; catalogue = catalogue_tree (drawn_tables seed size); accepted = accepts_catalogue seed size is }

one_tree : (seed size : ℕ) → IsSize size → (c : Catalogue) → SpellsCatalogue (workload seed size).catalogue c → c ≡ catalogue_tree (drawn_tables seed size)
one_tree seed size is c spells = one_catalogue (workload seed size).catalogue c (catalogue_tree (drawn_tables seed size)) spells (accepts_catalogue seed size is).spells

pub query_given : (seed size : ℕ) → IsSize size → (c : Catalogue) → of_catalogue.IsAccepted (workload seed size).catalogue c → IsQueryText c (workload seed size).query
query_given seed size is c accepted =
    let tree : IsQueryText (catalogue_tree (drawn_tables seed size)) (workload seed size).query =
    record { short = short_query size is.1; query = query_tree (drawn_tables seed size); accepted = accepts_query seed size is } in
    subst (λ d. IsQueryText d (workload seed size).query) (sym (one_tree seed size is c accepted.spells)) tree

pub workload_says : (seed size : ℕ) → IsSize size → Says (workload seed size) generator_rules (query_tree (drawn_tables seed size))
workload_says seed size is =
    let tables = drawn_tables seed size in
    let spells = (accepts_query seed size is).spells in
    let over : (query_tree tables).catalogue ≡ catalogue_tree tables = keeps_catalogue (catalogue_tree tables) (query_text size) (query_tree tables) spells in
    record {
      of_rules = spells_rules;
      formed_rules = formed_rules;
      fits = fitting_rules;
      accepted = rules_accepted;
      spelled = query_tree tables;
      of_catalogue = subst (SpellsCatalogue (catalogue_text tables)) (sym over) (accepts_catalogue seed size is).spells;
      of_query = subst (λ c. SpellsQuery c (query_text size) (query_tree tables)) (sym over) spells;
      by_rules = sym (usual_selectivities (catalogue_tree tables) (query_text size) (query_tree tables) spells);
      formed = (accepts_query seed size is).formed;
    }

length-defs : (number : ℕ) (tables : List DrawnTable) → length (table_defs number tables) ≡ length tables
length-defs number [] = refl
length-defs number (t ∷ later) = ap suc (length-defs (number + 1) later)

module _ (made : Workload) (is : IsMade made) where
  pub made_rules : made.rules ≡ rules_text
  made_rules = ap (λ (w : Workload). w.rules) is.are

  pub made_catalogue : IsCatalogueText made.catalogue
  made_catalogue = subst (λ (w : Workload). IsCatalogueText w.catalogue) (sym is.are) (catalogue_given is.seed is.size is.is_size)

  pub made_query : (c : Catalogue) → of_catalogue.IsAccepted made.catalogue c → IsQueryText c made.query
  made_query c accepted =
      let here : of_catalogue.IsAccepted (workload is.seed is.size).catalogue c = subst (λ (w : Workload). of_catalogue.IsAccepted w.catalogue c) is.are accepted in
      subst (λ (w : Workload). IsQueryText c w.query) (sym is.are) (query_given is.seed is.size is.is_size c here)

  -- what is read says what the texts say
  pub case_says : (rules : RuleFile) (c : Catalogue) (q asked : Query) → rules ≡ generator_rules → of_catalogue.IsAccepted made.catalogue c
      → of_query.IsAccepted c made.query q → asked ≡ weighed (selects_of rules) q → Says made rules asked
  case_says rules c q asked same_rules of_c of_q by_rules =
      let tables = drawn_tables is.seed is.size in
      let here : Workload = workload is.seed is.size in
      let c_here : of_catalogue.IsAccepted here.catalogue c = subst (λ (w : Workload). of_catalogue.IsAccepted w.catalogue c) is.are of_c in
      let q_here : of_query.IsAccepted c here.query q = subst (λ (w : Workload). of_query.IsAccepted c w.query q) is.are of_q in
      let same_catalogue = one_tree is.seed is.size is.is_size c c_here.spells in
      let over_tree : SpellsQuery (catalogue_tree tables) here.query q = subst (λ d. SpellsQuery d here.query q) same_catalogue q_here.spells in
      let tree_spells = (accepts_query is.seed is.size is.is_size).spells in
      let same_query : q ≡ query_tree tables = one_query (catalogue_tree tables) here.query q (query_tree tables) over_tree tree_spells in
      let weighs : weighed [] (query_tree tables) ≡ query_tree tables = usual_selectivities (catalogue_tree tables) (query_text is.size) (query_tree tables) tree_spells in
      let same_asked : asked ≡ query_tree tables = by_rules ∙ (ap (λ (r : RuleFile). weighed (selects_of r) q) same_rules ∙ (ap (weighed []) same_query ∙ weighs)) in
      let says : Says here rules asked =
      subst (λ r. Says here r asked) (sym same_rules) (subst (Says here generator_rules) (sym same_asked) (workload_says is.seed is.size is.is_size)) in
      subst (λ (w : Workload). Says w rules asked) (sym is.are) says

  -- the query is over the catalogue of the workload
  pub case_catalogue : (rules : RuleFile) (query : Query) → Says made rules query → query.catalogue ≡ catalogue_tree (drawn_tables is.seed is.size)
  unfolding weighed
  case_catalogue rules query says =
      let spells : SpellsCatalogue (workload is.seed is.size).catalogue says.spelled.catalogue =
      subst (λ (w : Workload). SpellsCatalogue w.catalogue says.spelled.catalogue) is.are says.of_catalogue in
      ap (λ (q : Query). q.catalogue) says.by_rules ∙ one_tree is.seed is.size is.is_size says.spelled.catalogue spells

  -- its tables are those of the catalogue, and their records hold rows
  pub as_many_tables : (rules : RuleFile) (query : Query) → Says made rules query → length made.tables ≡ length query.catalogue.tables
  as_many_tables rules query says =
      let tables = drawn_tables is.seed is.size in
      let records : length made.tables ≡ length tables = ap (λ (w : Workload). length w.tables) is.are ∙ length-map tables records_of in
      records ∙ sym (ap (λ (c : Catalogue). length c.tables) (case_catalogue rules query says) ∙ length-defs 1 tables)

  pub records_held : (rules : RuleFile) (query : Query) → Says made rules query → HoldRows query.catalogue made.tables
  records_held rules query says =
      let held = rows_held is.seed is.size is.is_size in
      subst (λ (w : Workload). HoldRows query.catalogue w.tables) (sym is.are)
      (subst (λ (c : Catalogue). HoldRows c (workload is.seed is.size).tables) (sym (case_catalogue rules query says)) held)
