-- Three texts that are judged one after the other, read or given.
use Rattle.std.proofs.Common.{◌++◌, ℕ, List, [], ◌∷◌}
use Rattle.sb_outside.specs.Shelf.{ShelfState, Goes, NoFault, TellsBytes}
use Rattle.star_model.specs.declared.catalogue.Catalogue.{Catalogue as CatalogueTree}
use Rattle.star_model.specs.declared.query.Query.{Query as QueryTree}
use Rattle.star_model.specs.declared.rules.RuleFile.{RuleFile}
use Rattle.star_model.specs.declared.derivations.Deriv.{Deriv}
use Rattle.stars_core.specs.declared.refusal.TextKind.TheVariants.{Rules, Catalogue, Query, Derivation}
use Rattle.stars_core.specs.declared.refusal.Refusal.{Refusal}
use Rattle.stars_core.specs.declared.refusal.Refusal.TheVariants.{Usage, Unread, Refused, Table, NotDerived, Memory}
use Rattle.stars_core.specs.declared.command.Command.{Command}
use Rattle.stars_core.specs.CommandLine.{Request, three_requests, four_requests}
use Rattle.stars_core.specs.Given.{Given, Over}
use Rattle.stars_core.specs.Faults.{PassAll}
use Rattle.stars_core.specs.Judging.{Refuses, RulesPass, CataloguePasses, QueryPasses, DerivationPasses, StopsAlways, StopsOver}
use Rattle.stars_core.specs.Saying.{three, four}
use Rattle.stars_core.specs.Judged.{NotAnswered}
use Rattle.stars_core.specs.Shelves.{NotTaken, CameAlong}
use Rattle.stars_core.specs.Composing.{RanInto}
use Rattle.stars_core.proofs.Along.{starts, stopped, goes_along}
use Rattle.stars_core.proofs.FaultLaws.{rules_pass, catalogue_passes, query_passes, derivation_passes, pass_more}

over : (r c : List ℕ) (catalogue : CatalogueTree) → CataloguePasses c catalogue → Over ((Rules, r) ∷ (Catalogue, c) ∷ []) catalogue
over r c catalogue pass = record { spells = pass.read.spells; formed = pass.read.formed }

pub three_pass : (r c q : List ℕ) (repertoire : RuleFile) (catalogue : CatalogueTree) (query : QueryTree) → RulesPass r repertoire → CataloguePasses c catalogue → QueryPasses catalogue q query → PassAll [] (three r c q)
three_pass r c q repertoire catalogue query rules pass of = (rules_pass r repertoire rules [], (catalogue_passes c catalogue pass ((Rules, r) ∷ []), (query_passes catalogue q query of ((Rules, r) ∷ (Catalogue, c) ∷ []) (over r c catalogue pass), tt)))

-- ---- texts that are given: the first that is stopped

pub rules_not : (command : Command) (r : List ℕ) (later : List Given) (refusal : Refusal) → Refuses Rules (StopsAlways Rules r) refusal → NotAnswered command ((Rules, r) ∷ later) refusal
rules_not command r later Usage p = p
rules_not command r later (Unread line) p = p
rules_not command r later (Refused kind line) p = rw p.0 (p.1 [])
rules_not command r later (Table line) p = p
rules_not command r later (NotDerived line) p = absurd p
rules_not command r later Memory p = tt

pub catalogue_not : (command : Command) (r c : List ℕ) (later : List Given) (repertoire : RuleFile) (refusal : Refusal) → RulesPass r repertoire → Refuses Catalogue (StopsAlways Catalogue c) refusal
    → NotAnswered command ((Rules, r) ∷ (Catalogue, c) ∷ later) refusal
catalogue_not command r c later repertoire Usage rules p = p
catalogue_not command r c later repertoire (Unread line) rules p = p
catalogue_not command r c later repertoire (Refused kind line) rules p = rw p.0 (rules_pass r repertoire rules [], p.1 ((Rules, r) ∷ []))
catalogue_not command r c later repertoire (Table line) rules p = p
catalogue_not command r c later repertoire (NotDerived line) rules p = absurd p
catalogue_not command r c later repertoire Memory rules p = tt

pub query_not : (command : Command) (r c q : List ℕ) (later : List Given) (repertoire : RuleFile) (catalogue : CatalogueTree) (refusal : Refusal) → RulesPass r repertoire → CataloguePasses c catalogue
    → Refuses Query (StopsOver catalogue q) refusal → NotAnswered command ((Rules, r) ∷ (Catalogue, c) ∷ (Query, q) ∷ later) refusal
query_not command r c q later repertoire catalogue Usage rules pass p = p
query_not command r c q later repertoire catalogue (Unread line) rules pass p = p
query_not command r c q later repertoire catalogue (Refused kind line) rules pass p =
    rw p.0 (rules_pass r repertoire rules [], (catalogue_passes c catalogue pass ((Rules, r) ∷ []), p.1 ((Rules, r) ∷ (Catalogue, c) ∷ []) (over r c catalogue pass)))
query_not command r c q later repertoire catalogue (Table line) rules pass p = p
query_not command r c q later repertoire catalogue (NotDerived line) rules pass p = absurd p
query_not command r c q later repertoire catalogue Memory rules pass p = tt

-- ---- a fourth text

pub derivation_not : (command : Command) (r c q d : List ℕ) (refusal : Refusal) → PassAll [] (three r c q) → Refuses Derivation (StopsAlways Derivation d) refusal
    → NotAnswered command (four r c q d) refusal
derivation_not command r c q d Usage all p = absurd p
derivation_not command r c q d (Unread line) all p = absurd p
derivation_not command r c q d (Refused kind line) all p = rw p.0 (all.0, (all.1.0, (all.1.1.0, p.1 (three r c q))))
derivation_not command r c q d (Table line) all p = absurd p
derivation_not command r c q d (NotDerived line) all p = absurd p
derivation_not command r c q d Memory all p = tt

pub four_pass : (r c q d : List ℕ) (tree : Deriv) → PassAll [] (three r c q) → DerivationPasses d tree → PassAll [] (four r c q d)
four_pass r c q d tree all pass = pass_more [] (three r c q) (Derivation, d) all (derivation_passes d tree pass (three r c q))

-- ---- texts that are read: the first that isn't taken

module _ (before : ShelfState) where
  pub rules_stop : (command : Command) (now : ShelfState) (rules : List ℕ) (later : List Request) (refusal : Refusal) → Goes before now → NotTaken (StopsAlways Rules) before now (Rules, rules) refusal
      → RanInto command before now ((Rules, rules) ∷ later) refusal
  rules_stop command now rules later refusal goes not =
      stopped before before now [] later (Rules, rules) [] command (StopsAlways Rules) refusal (starts before) goes (λ bytes line stops. stops []) not

  pub after_rules : (now : ShelfState) (rules r : List ℕ) (repertoire : RuleFile) → Goes before now → NoFault before now → TellsBytes before.held rules r → RulesPass r repertoire
      → CameAlong before now ((Rules, rules) ∷ []) ((Rules, r) ∷ [])
  after_rules now rules r repertoire goes quiet told pass = goes_along before before now [] [] (Rules, rules) [] r (starts before) goes quiet told (rules_pass r repertoire pass [])

  module _ (mid now : ShelfState) (goes : Goes mid now) (rules catalogue r : List ℕ) (along : CameAlong before mid ((Rules, rules) ∷ []) ((Rules, r) ∷ [])) where
    pub catalogue_stops : (command : Command) (later : List Request) (refusal : Refusal) → NotTaken (StopsAlways Catalogue) mid now (Catalogue, catalogue) refusal
        → RanInto command before now ((Rules, rules) ∷ (Catalogue, catalogue) ∷ later) refusal
    catalogue_stops command later refusal not =
        stopped before mid now ((Rules, rules) ∷ []) later (Catalogue, catalogue) ((Rules, r) ∷ []) command (StopsAlways Catalogue) refusal along goes
        (λ bytes line stops. stops ((Rules, r) ∷ [])) not

    pub after_catalogue : (c : List ℕ) (tree : CatalogueTree) → NoFault mid now → TellsBytes mid.held catalogue c → CataloguePasses c tree
        → CameAlong before now ((Rules, rules) ∷ (Catalogue, catalogue) ∷ []) ((Rules, r) ∷ (Catalogue, c) ∷ [])
    after_catalogue c tree quiet told pass =
        goes_along before mid now ((Rules, rules) ∷ []) [] (Catalogue, catalogue) ((Rules, r) ∷ []) c along goes quiet told
        (catalogue_passes c tree pass ((Rules, r) ∷ []))

  module _ (mid now : ShelfState) (goes : Goes mid now) (rules catalogue query r c : List ℕ) (tree : CatalogueTree) (pass : CataloguePasses c tree)
      (along : CameAlong before mid ((Rules, rules) ∷ (Catalogue, catalogue) ∷ []) ((Rules, r) ∷ (Catalogue, c) ∷ [])) where
    pub query_stops : (command : Command) (later : List Request) (refusal : Refusal) → NotTaken (StopsOver tree) mid now (Query, query) refusal
        → RanInto command before now (three_requests rules catalogue query ++ later) refusal
    query_stops command later refusal not =
        stopped before mid now ((Rules, rules) ∷ (Catalogue, catalogue) ∷ []) later (Query, query) ((Rules, r) ∷ (Catalogue, c) ∷ []) command (StopsOver tree) refusal along goes
        (λ bytes line stops. stops ((Rules, r) ∷ (Catalogue, c) ∷ []) (over r c tree pass)) not

    pub after_query : (q : List ℕ) (asked : QueryTree) → NoFault mid now → TellsBytes mid.held query q → QueryPasses tree q asked
        → CameAlong before now (three_requests rules catalogue query) (three r c q)
    after_query q asked quiet told of =
        goes_along before mid now ((Rules, rules) ∷ (Catalogue, catalogue) ∷ []) [] (Query, query) ((Rules, r) ∷ (Catalogue, c) ∷ []) q along goes quiet told
        (query_passes tree q asked of ((Rules, r) ∷ (Catalogue, c) ∷ []) (over r c tree pass))

  module _ (mid now : ShelfState) (goes : Goes mid now) (rules catalogue query derivation r c q : List ℕ)
      (along : CameAlong before mid (three_requests rules catalogue query) (three r c q)) where
    pub derivation_stops : (command : Command) (refusal : Refusal) → NotTaken (StopsAlways Derivation) mid now (Derivation, derivation) refusal
        → RanInto command before now (four_requests rules catalogue query derivation) refusal
    derivation_stops command refusal not =
        stopped before mid now (three_requests rules catalogue query) [] (Derivation, derivation) (three r c q) command (StopsAlways Derivation) refusal along goes
        (λ bytes line stops. stops (three r c q)) not

    pub after_derivation : (d : List ℕ) (tree : Deriv) → NoFault mid now → TellsBytes mid.held derivation d → DerivationPasses d tree
        → CameAlong before now (four_requests rules catalogue query derivation) (four r c q d)
    after_derivation d tree quiet told pass =
        goes_along before mid now (three_requests rules catalogue query) [] (Derivation, derivation) (three r c q) d along goes quiet told
        (derivation_passes d tree pass (three r c q))
