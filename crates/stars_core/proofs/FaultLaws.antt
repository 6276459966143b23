-- Which fault a text has.
use Rattle.std.proofs.Common.{subst, ◌≡◌, ◌<◌, ◌≤◌, ◌++◌, ℕ, List, [], ◌∷◌, length, Option, Some, Ok, Err, refl, ap, sym, ◌∙◌, inl, inr, arith}
use Rattle.std.proofs.lemmas.List.{append-nil, append_assoc}
use Rattle.sb_text.specs.Limits.{most_text_bytes}
use Rattle.star_model.specs.Accepted.{IsAccepted, IsRefusedBy}
use Rattle.star_model.specs.declared.faults.RuleFault.{RuleFault}
use Rattle.star_model.specs.declared.faults.RuleFault.TheVariants as rul
use Rattle.star_model.specs.declared.rules.RuleFile.{RuleFile}
use Rattle.star_syntax.specs.Faults as rule_files
use Rattle.star_syntax.proofs.Laws as rule_laws
use Rattle.star_check.specs.Checking.{Checks}
use Rattle.star_check.proofs.Laws as check_laws
use Rattle.star_model.specs.declared.catalogue.Catalogue.{Catalogue as CatalogueTree}
use Rattle.star_model.specs.declared.query.Query.{Query as QueryTree}
use Rattle.rule_grammar.proofs.Laws.{one_rule_file}
use Rattle.catalogue.proofs.Laws.{one_catalogue}
use Rattle.catalogue.specs.declared.fault.CatFault.{CatFault}
use Rattle.catalogue.specs.declared.fault.CatFault.TheVariants as cat
use Rattle.query_graph.specs.declared.fault.QueryFault.TheVariants as que
use Rattle.catalogue.specs.Faults as catalogue_faults
use Rattle.catalogue.proofs.Laws as catalogue_laws
use Rattle.query_graph.proofs.Laws as query_laws
use Rattle.derivation_reading.specs.declared.fault.DerivFault.{DerivFault}
use Rattle.derivation_reading.specs.declared.fault.DerivFault.TheVariants as der
use Rattle.derivation_reading.specs.Faults as derivations
use Rattle.derivation_reading.proofs.Laws as derivation_laws
use Rattle.star_model.specs.declared.derivations.Deriv.{Deriv}
use Rattle.query_graph.specs.declared.fault.QueryFault.{QueryFault}
use Rattle.query_graph.specs.Faults as queries
use Rattle.stars_core.specs.Lines.{too_long_line, rules_line, catalogue_line, query_line, derivation_line}
use Rattle.stars_core.specs.Given.{Given, Over, catalogue_in}
use Rattle.stars_core.specs.Faults.{Kind, TooLong, Misread, Rejected, IsMisread, IsRejected, HasFault, First, Clear, Stops, Passes, Verdict, Accepted, Stopped, Judged, faults_of, PassAll}
use Rattle.stars_core.specs.declared.refusal.TextKind.{TextKind}
use Rattle.stars_core.specs.declared.refusal.TextKind.TheVariants.{Rules, Catalogue, Query, Derivation}
use Rattle.stars_core.specs.declared.refusal.Refusal.{Refusal}
use Rattle.stars_core.specs.declared.refusal.Refusal.TheVariants as refusals
use Rattle.stars_core.specs.declared.refusal.Refusal.TheVariants.{Usage, Unread, Refused, Table, NotDerived, Memory}
use Rattle.stars_core.specs.Judging.{Refuses, RulesRead, RulesChecked, RulesPass, CataloguePasses, QueryPasses, DerivationPasses, StopsAlways, StopsOver}

pub excludes : (has : Kind → List ℕ → Type 0) (kinds : List Kind) (line : List ℕ) → First has kinds line → Clear has kinds → ⊥
excludes has [] line first clear = first
excludes has (kind ∷ kinds) line (inl p) clear = clear.0 line p
excludes has (kind ∷ kinds) line (inr q) clear = excludes has kinds line q.1 clear.1

same_first : (has : Kind → List ℕ → Type 0) (kinds : List Kind) (a b : List ℕ) → ((kind : Kind) (l m : List ℕ) → has kind l → has kind m → l ≡ m)
    → First has kinds a → First has kinds b → a ≡ b
same_first has [] a b one p q = absurd p
same_first has (kind ∷ kinds) a b one (inl p) (inl q) = one kind a b p q
same_first has (kind ∷ kinds) a b one (inl p) (inr q) = absurd (q.0 a p)
same_first has (kind ∷ kinds) a b one (inr p) (inl q) = absurd (p.0 b q)
same_first has (kind ∷ kinds) a b one (inr p) (inr q) = same_first has kinds a b one p.1 q.1

-- what the earlier catalogue says is one catalogue
one_over : (earlier : List Given) (c d : CatalogueTree) → Over earlier c → Over earlier d → c ≡ d
one_over earlier c d p q = one_catalogue (catalogue_in earlier) c d p.spells q.spells

one_line : {F : Type 0} (line : F → Option (List ℕ)) (f g : F) (a b : List ℕ) → f ≡ g → line f ≡ Some a → line g ≡ Some b → a ≡ b
one_line line f g a b same p q = let e : Some a ≡ Some b = sym p ∙ (ap line same ∙ q) in cc

one_misread : (earlier : List Given) (this : Given) (a b : List ℕ) → IsMisread earlier this a → IsMisread earlier this b → a ≡ b
one_misread earlier (Rules, r) a b p q = one_line rules_line p.0 q.0 a b (rule_laws.one_fault r p.0 q.0 p.1 q.1) p.2 q.2
one_misread earlier (Catalogue, c) a b p q = one_line catalogue_line p.0 q.0 a b (catalogue_laws.one_fault c p.0 q.0 p.1 q.1) p.2 q.2
one_misread earlier (Query, d) a b p q =
    let first : queries.IsFirstFault q.0 d p.2 = subst (λ (c : CatalogueTree). queries.IsFirstFault c d p.2) (one_over earlier p.0 q.0 p.1 q.1) p.3 in
    one_line query_line p.2 q.2 a b (query_laws.one_fault q.0 d p.2 q.2 first q.3) p.4 q.4
one_misread earlier (Derivation, d) a b p q = one_line derivation_line p.0 q.0 a b (derivation_laws.one_fault d p.0 q.0 p.1 q.1) p.2 q.2

one_rejected : (this : Given) (a b : List ℕ) → IsRejected this a → IsRejected this b → a ≡ b
one_rejected (Rules, r) a b p q =
    let refused : IsRefusedBy q.0 p.3 = subst (λ (x : RuleFile). IsRefusedBy x p.3) (one_rule_file r p.0 q.0 p.1 q.1) p.4 in
    one_line rules_line p.3 q.3 a b (check_laws.one_fault q.0 p.3 q.3 q.2 refused q.4) p.5 q.5
one_rejected (Catalogue, c) a b p q = absurd p
one_rejected (Query, d) a b p q = absurd p
one_rejected (Derivation, d) a b p q = absurd p

one_fault : (earlier : List Given) (this : Given) (kind : Kind) (a b : List ℕ) → HasFault earlier this kind a → HasFault earlier this kind b → a ≡ b
one_fault earlier this TooLong a b p q = p.1 ∙ sym q.1
one_fault earlier this Misread a b p q = one_misread earlier this a b p q
one_fault earlier this Rejected a b p q = one_rejected this a b p q

pub one_stop : (earlier : List Given) (this : Given) (a b : List ℕ) → Stops earlier this a → Stops earlier this b → a ≡ b
one_stop earlier this a b p q = same_first (λ kind l. HasFault earlier this kind l) (faults_of this.0) a b (λ kind l m. one_fault earlier this kind l m) p q

pub stopped_passes : (earlier : List Given) (this : Given) (line : List ℕ) → Stops earlier this line → Passes earlier this → ⊥
stopped_passes earlier this line p q = excludes (λ kind l. HasFault earlier this kind l) (faults_of this.0) line p q

pub one_verdict : (earlier : List Given) (this : Given) (a b : Verdict) → Judged earlier this a → Judged earlier this b → a ≡ b
one_verdict earlier this Accepted Accepted p q = refl
one_verdict earlier this Accepted (Stopped line) p q = absurd (stopped_passes earlier this line q p)
one_verdict earlier this (Stopped line) Accepted p q = absurd (stopped_passes earlier this line p q)
one_verdict earlier this (Stopped a) (Stopped b) p q = ap (λ l. Stopped l) (one_stop earlier this a b p q)

not_long : (earlier : List Given) (this : Given) → length this.1 ≤ most_text_bytes → (other : List ℕ) → HasFault earlier this TooLong other → ⊥
not_long earlier this most other p = omega (arith, p.0, most)

-- what is too long is stopped, whatever stands before it
pub long_stops : (earlier : List Given) (this : Given) (line : List ℕ) → most_text_bytes < length this.1 → line ≡ too_long_line this.0 → Stops earlier this line
long_stops earlier this line long is = inl (long, is)

pub misread_stops : (earlier : List Given) (this : Given) (line : List ℕ) → length this.1 ≤ most_text_bytes → IsMisread earlier this line → Stops earlier this line
misread_stops earlier this line size misread = inr (not_long earlier this size, inl misread)

pub rejected_stops : (earlier : List Given) (this : Given) (line : List ℕ) → length this.1 ≤ most_text_bytes
    → ((other : List ℕ) → IsMisread earlier this other → ⊥) → IsRejected this line → Stops earlier this line
rejected_stops earlier this line size read rejected = inr (not_long earlier this size, inr (read, inl rejected))

pub passes : (earlier : List Given) (this : Given) → length this.1 ≤ most_text_bytes → ((other : List ℕ) → IsMisread earlier this other → ⊥)
    → ((other : List ℕ) → IsRejected this other → ⊥) → Passes earlier this
passes earlier this size read fine = (not_long earlier this size, (read, (fine, tt)))

-- ---- texts that are accepted

module _ (r : List ℕ) (rules : RuleFile) (reads : rule_files.ReadsRules r (Ok rules)) where
  pub not_misread_rules : (earlier : List Given) (other : List ℕ) → IsMisread earlier (Rules, r) other → ⊥
  not_misread_rules earlier other p = reads.clear p.0 p.1.has

  not_rejected : IsAccepted rules → (other : List ℕ) → IsRejected (Rules, r) other → ⊥
  not_rejected accepted other p = check_laws.accepted_or_refused rules p.3 accepted (subst (λ (x : RuleFile). IsRefusedBy x p.3) (one_rule_file r p.0 rules p.1 reads.spells) p.4)

pub rules_pass : (r : List ℕ) (rules : RuleFile) → RulesPass r rules → (earlier : List Given) → Passes earlier (Rules, r)
rules_pass r rules pass earlier =
    passes earlier (Rules, r) pass.size (not_misread_rules r rules pass.read earlier) (not_rejected r rules pass.read pass.accepted)

pub catalogue_passes : (c : List ℕ) (catalogue : CatalogueTree) → CataloguePasses c catalogue → (earlier : List Given) → Passes earlier (Catalogue, c)
catalogue_passes c catalogue pass earlier = passes earlier (Catalogue, c) pass.size (λ other p. pass.read.clear p.0 p.1.has) (λ other p. p)

not_misread_query : (catalogue : CatalogueTree) (q : List ℕ) (query : QueryTree) → queries.ReadsQuery catalogue q (Ok query)
    → (earlier : List Given) → Over earlier catalogue → (other : List ℕ) → IsMisread earlier (Query, q) other → ⊥
not_misread_query catalogue q query read earlier over other p =
    read.clear p.2 (subst (λ (c : CatalogueTree). queries.HasFault c q p.2) (one_over earlier p.0 catalogue p.1 over) p.3.has)

pub query_passes : (catalogue : CatalogueTree) (q : List ℕ) (query : QueryTree) → QueryPasses catalogue q query → (earlier : List Given) → Over earlier catalogue → Passes earlier (Query, q)
query_passes catalogue q query pass earlier over =
    passes earlier (Query, q) pass.size (not_misread_query catalogue q query pass.read earlier over) (λ other p. p)

pub derivation_passes : (d : List ℕ) (tree : Deriv) → DerivationPasses d tree → (earlier : List Given) → Passes earlier (Derivation, d)
derivation_passes d tree pass earlier = passes earlier (Derivation, d) pass.size (λ other p. pass.read.clear p.0 p.1.has) (λ other p. p)

-- all texts are accepted, and one more
pub pass_more : (before given : List Given) (this : Given) → PassAll before given → Passes (before ++ given) this → PassAll before (given ++ this ∷ [])
pass_more before [] this all pass = (subst (λ (l : List Given). Passes l this) (append-nil before) pass, tt)
pass_more before (g ∷ given) this all pass =
    (all.0, pass_more (before ++ g ∷ []) given this all.1 (subst (λ (l : List Given). Passes l this) (sym (append_assoc before (g ∷ []) given)) pass))

-- ---- what the judgement of a text answers

-- a refusal whose line is this one
pub refuses : (kind : TextKind) (P : List ℕ → Type 0) (line : List ℕ) (refusal : Refusal) → Refuses kind (λ l. l ≡ line) refusal → P line → Refuses kind P refusal
refuses kind P line (Refused k l) is p = (is.0, subst P (sym is.1) p)
refuses kind P line refusals.Memory is p = tt
refuses kind P line refusals.Usage is p = is
refuses kind P line (Unread l) is p = is
refuses kind P line (Table l) is p = is
refuses kind P line (NotDerived l) is p = is

pub refuses_map : (kind : TextKind) (P Q : List ℕ → Type 0) (refusal : Refusal) → ((line : List ℕ) → P line → Q line) → Refuses kind P refusal → Refuses kind Q refusal
refuses_map kind P Q Usage f p = p
refuses_map kind P Q (Unread line) f p = p
refuses_map kind P Q (Table line) f p = p
refuses_map kind P Q (NotDerived line) f p = p
refuses_map kind P Q (Refused k line) f p = (p.0, f _ p.1)
refuses_map kind P Q Memory f p = tt

-- a text that is too long is refused, whatever stands before it
pub long_refuses : (kind : TextKind) (bytes : List ℕ) (P : List ℕ → Type 0) (refusal : Refusal)
    → Refuses kind (λ line. (most_text_bytes < length bytes) × (line ≡ too_long_line kind)) refusal
    → ((line : List ℕ) → ((earlier : List Given) → Stops earlier (kind, bytes) line) → P line) → Refuses kind P refusal
long_refuses kind bytes P (Refused k l) long p = (long.0, p _ (λ earlier. long_stops earlier (kind, bytes) _ long.1.0 long.1.1))
long_refuses kind bytes P refusals.Memory long p = tt
long_refuses kind bytes P refusals.Usage long p = long
long_refuses kind bytes P (Unread l) long p = long
long_refuses kind bytes P (Table l) long p = long
long_refuses kind bytes P (NotDerived l) long p = long

-- ---- rule files

pub reading_refuses : (r : List ℕ) (fault : RuleFault) → rule_files.ReadsRules r (Err fault)
    → (refusal : Refusal) → Refuses Rules (λ line. rules_line fault ≡ Some line) refusal → RulesRead r (Err refusal)
reading_refuses r fault reads refusal told =
    refuses_map Rules (λ line. rules_line fault ≡ Some line) (λ line. (f : RuleFault) × rule_files.IsFirstFault r f × (rules_line f ≡ Some line)) refusal
    (λ line told. (fault, is_first fault line told reads, told)) told
  where
    is_first : (fault : RuleFault) (line : List ℕ) → rules_line fault ≡ Some line → rule_files.ReadsRules r (Err fault) → rule_files.IsFirstFault r fault
    is_first (rul.Lexical offset) line told reads = reads
    is_first (rul.TooDeep k) line told reads = reads
    is_first (rul.Syntax k) line told reads = reads
    is_first (rul.Limit k what) line told reads = reads
    is_first (rul.Unknown k) line told reads = reads
    is_first (rul.Twice k) line told reads = reads
    is_first (rul.Arity k) line told reads = reads
    is_first (rul.Kind k) line told reads = reads
    is_first (rul.Cycle k) line told reads = reads
    is_first (rul.GlueInAccess k) line told reads = reads
    is_first (rul.NoRoot name) line told reads = reads
    is_first (rul.NoFormula f) line told reads = reads
    is_first (rul.NotMonotone f w n) line told reads = reads
    is_first (rul.TooTall k h) line told reads = reads
    is_first (rul.TooWide k w) line told reads = reads
    is_first rul.Memory line told reads = absurd cc

pub check_refuses : (rules : RuleFile) (fault : RuleFault) → Checks rules (Err fault)
    → (refusal : Refusal) → Refuses Rules (λ line. rules_line fault ≡ Some line) refusal → RulesChecked rules (Err refusal)
check_refuses rules fault checks refusal told =
    refuses_map Rules (λ line. rules_line fault ≡ Some line) (λ line. (f : RuleFault) × IsRefusedBy rules f × (rules_line f ≡ Some line)) refusal
    (λ line told. (fault, is_refused fault line told checks, told)) told
  where
    is_refused : (fault : RuleFault) (line : List ℕ) → rules_line fault ≡ Some line → Checks rules (Err fault) → IsRefusedBy rules fault
    is_refused (rul.Lexical offset) line told checks = checks
    is_refused (rul.TooDeep k) line told checks = checks
    is_refused (rul.Syntax k) line told checks = checks
    is_refused (rul.Limit k what) line told checks = checks
    is_refused (rul.Unknown k) line told checks = checks
    is_refused (rul.Twice k) line told checks = checks
    is_refused (rul.Arity k) line told checks = checks
    is_refused (rul.Kind k) line told checks = checks
    is_refused (rul.Cycle k) line told checks = checks
    is_refused (rul.GlueInAccess k) line told checks = checks
    is_refused (rul.NoRoot name) line told checks = checks
    is_refused (rul.NoFormula f) line told checks = checks
    is_refused (rul.NotMonotone f w n) line told checks = checks
    is_refused (rul.TooTall k h) line told checks = checks
    is_refused (rul.TooWide k w) line told checks = checks
    is_refused rul.Memory line told checks = absurd cc

pub misread_rules_refuse : (r : List ℕ) → length r ≤ most_text_bytes → (refusal : Refusal) → RulesRead r (Err refusal) → Refuses Rules (StopsAlways Rules r) refusal
misread_rules_refuse r size refusal told =
    refuses_map Rules (λ line. (f : RuleFault) × rule_files.IsFirstFault r f × (rules_line f ≡ Some line)) (StopsAlways Rules r) refusal
    (λ line told. λ earlier. misread_stops earlier (Rules, r) line size told) told

module _ (r : List ℕ) (size : length r ≤ most_text_bytes) (rules : RuleFile) (reads : rule_files.ReadsRules r (Ok rules)) where
  pub rejected_rules_refuse : (refusal : Refusal) → RulesChecked rules (Err refusal) → Refuses Rules (StopsAlways Rules r) refusal
  rejected_rules_refuse refusal told =
      refuses_map Rules (λ line. (f : RuleFault) × IsRefusedBy rules f × (rules_line f ≡ Some line)) (StopsAlways Rules r) refusal
      (λ line told. λ earlier. rejected_stops earlier (Rules, r) line size (not_misread_rules r rules reads earlier) (rules, reads.spells, reads.formed, told.0, told.1, told.2)) told

-- rules that were read and accepted
pub checked_reads : (r : List ℕ) (rules checked : RuleFile) → rule_files.ReadsRules r (Ok rules) → RulesChecked rules (Ok checked) → rule_files.ReadsRules r (Ok checked) × IsAccepted checked
checked_reads r rules checked reads checks =
    (subst (λ (x : RuleFile). rule_files.IsRead r x) (sym checks.0) reads, subst (λ (x : RuleFile). IsAccepted x) (sym checks.0) checks.1)

-- ---- catalogues

pub misread_catalogue_refuses : (c : List ℕ) → length c ≤ most_text_bytes → (fault : CatFault) → catalogue_faults.ReadsCatalogue c (Err fault)
    → (refusal : Refusal) → Refuses Catalogue (λ line. catalogue_line fault ≡ Some line) refusal → Refuses Catalogue (StopsAlways Catalogue c) refusal
misread_catalogue_refuses c size fault reads refusal told =
    refuses_map Catalogue (λ line. catalogue_line fault ≡ Some line) (StopsAlways Catalogue c) refusal
    (λ line told. λ earlier. misread_stops earlier (Catalogue, c) line size (fault, is_first fault line told reads, told)) told
  where
    is_first : (fault : CatFault) (line : List ℕ) → catalogue_line fault ≡ Some line → catalogue_faults.ReadsCatalogue c (Err fault) → catalogue_faults.IsFirstFault c fault
    is_first (cat.Lexical offset) line told reads = reads
    is_first (cat.TooDeep k) line told reads = reads
    is_first (cat.Syntax k) line told reads = reads
    is_first (cat.Unknown k) line told reads = reads
    is_first (cat.Twice k) line told reads = reads
    is_first (cat.Limit k what) line told reads = reads
    is_first cat.Memory line told reads = absurd cc

-- ---- queries

pub misread_query_refuses : (catalogue : CatalogueTree) (q : List ℕ) → length q ≤ most_text_bytes → (fault : QueryFault) → queries.ReadsQuery catalogue q (Err fault)
    → (refusal : Refusal) → Refuses Query (λ line. query_line fault ≡ Some line) refusal → Refuses Query (StopsOver catalogue q) refusal
misread_query_refuses catalogue q size fault reads refusal told =
    refuses_map Query (λ line. query_line fault ≡ Some line) (StopsOver catalogue q) refusal
    (λ line told. λ earlier over. misread_stops earlier (Query, q) line size (catalogue, over, fault, is_first fault line told reads, told)) told
  where
    is_first : (fault : QueryFault) (line : List ℕ) → query_line fault ≡ Some line → queries.ReadsQuery catalogue q (Err fault) → queries.IsFirstFault catalogue q fault
    is_first (que.Lexical offset) line told reads = reads
    is_first (que.TooDeep k) line told reads = reads
    is_first (que.Syntax k) line told reads = reads
    is_first (que.Unknown k) line told reads = reads
    is_first (que.Twice k) line told reads = reads
    is_first (que.Limit k what) line told reads = reads
    is_first (que.TypeClash p) line told reads = reads
    is_first que.Memory line told reads = absurd cc

-- ---- derivations

pub misread_derivation_refuses : (d : List ℕ) → length d ≤ most_text_bytes → (fault : DerivFault) → derivations.ReadsDerivation d (Err fault)
    → (refusal : Refusal) → Refuses Derivation (λ line. derivation_line fault ≡ Some line) refusal → Refuses Derivation (StopsAlways Derivation d) refusal
misread_derivation_refuses d size fault reads refusal told =
    refuses_map Derivation (λ line. derivation_line fault ≡ Some line) (StopsAlways Derivation d) refusal
    (λ line told. λ earlier. misread_stops earlier (Derivation, d) line size (fault, is_first fault line told reads, told)) told
  where
    is_first : (fault : DerivFault) (line : List ℕ) → derivation_line fault ≡ Some line → derivations.ReadsDerivation d (Err fault) → derivations.IsFirstFault d fault
    is_first (der.Lexical offset) line told reads = reads
    is_first (der.TooDeep k) line told reads = reads
    is_first (der.Syntax k) line told reads = reads
    is_first (der.TooTall k) line told reads = reads
    is_first der.Memory line told reads = absurd cc
