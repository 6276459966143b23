-- How the run of a workload ends.
use Rattle.std.proofs.Common.{◌≡◌, ◌⊎◌, ℕ, List, [], Some, None, refl, sym, subst, ◌∙◌, inl, inr}
use Rattle.sb_outside.specs.Shelf.{ShelfState}
use Rattle.sb_outside.specs.Sink.{SinkState}
use Rattle.star_model.specs.declared.rules.RuleFile.{RuleFile}
use Rattle.star_model.specs.declared.query.Query.{Query as QueryTree}
use Rattle.workload_gen.specs.Workloads.{workload}
use Rattle.stars_core.specs.declared.command.Command.TheVariants.{Gen}
use Rattle.stars_core.specs.declared.refusal.TextKind.{TextKind}
use Rattle.stars_core.specs.declared.refusal.TextKind.TheVariants as kinds
use Rattle.stars_core.specs.declared.status.Ending.TheVariants as endings
use Rattle.stars_core.specs.declared.status.Status.{Status}
use Rattle.stars_core.specs.declared.status.Status.TheVariants.{Done, NoPlan, Usage, RulesRefused, CatalogueRefused, QueryRefused, TableRefused, ReadFault, WriteFault, Memory, NotDerived, DerivationRefused, SessionRefused, CertificateRefused}
use Rattle.stars_core.specs.CommandLine.{CommandLine, command_of, requests_of}
use Rattle.stars_core.specs.Answers.{Answered, OfCommand}
use Rattle.stars_core.specs.Composing.{Puts}
use Rattle.stars_core.specs.Saying.{SaysWorkload, Saying}
use Rattle.stars_core.specs.Shelves.{RefusedAt, UnreadAt}
use Rattle.stars_core.specs.Running.{TableUnreadAt}
use Rattle.stars_core.specs.Told.{GenComplete, Ends}
use Rattle.stars_core.proofs.Derived.{done_ends, none_ends}
use Rattle.stars_core.proofs.Says.{one_reading}

-- where no text is asked for, none is refused
none_refused : (kind : TextKind) (shelf shelf' : ShelfState) (line : List ℕ) → RefusedAt shelf shelf' [] kind line → ⊥
none_refused kind shelf shelf' line refused = let here = refused.4.here in absurd cc

-- and none is unread
none_unread : (shelf shelf' : ShelfState) (line : List ℕ) → UnreadAt shelf shelf' [] line → ⊥
none_unread shelf shelf' line unread = let here = unread.3.here in absurd cc

module _ (words : CommandLine) (seed size : ℕ) (rules : RuleFile) (query : QueryTree) (is : command_of words ≡ Some (Gen seed size)) (says : SaysWorkload (workload seed size) rules query) where
  text_refused : (kind : TextKind) (shelf shelf' : ShelfState) (line : List ℕ) → OfCommand words (λ command. RefusedAt shelf shelf' (requests_of command words) kind line) → ⊥
  text_refused kind shelf shelf' line refused = none_refused kind shelf shelf' line (rw is at refused)

  file_unread : (shelf shelf' : ShelfState) (line : List ℕ) → UnreadAt shelf shelf' [] line ⊎ TableUnreadAt (Gen seed size) shelf shelf' [] line → ⊥
  file_unread shelf shelf' line (inl unread) = none_unread shelf shelf' line unread
  file_unread shelf shelf' line (inr unread) = unread

  put_ends : (shelf : ShelfState) (pieces : List (List ℕ)) → Puts (Gen seed size) shelf.held words endings.Done pieces → Ends (Gen seed size) (rules, query) Done
  put_ends shelf pieces puts =
      let answer = puts.3.answer in
      let same : answer.saying ≡ (rules, query) = one_reading (Gen seed size) [] answer.saying (rules, query) answer.says says in
      subst (λ (x : Saying (Gen seed size)). Ends (Gen seed size) x Done) same (done_ends (Gen seed size) [] answer.saying puts.3.text answer.says answer.answer)

  unplanned_ends : (shelf : ShelfState) (pieces : List (List ℕ)) → Puts (Gen seed size) shelf.held words endings.NoPlan pieces → Ends (Gen seed size) (rules, query) NoPlan
  unplanned_ends shelf pieces puts =
      let answer = puts.3.answer in
      let same : answer.saying ≡ (rules, query) = one_reading (Gen seed size) [] answer.saying (rules, query) answer.says says in
      subst (λ (x : Saying (Gen seed size)). Ends (Gen seed size) x NoPlan) same (none_ends (Gen seed size) answer.saying puts.3.text answer.answer)

pub gen_complete : (status : Status) (words : CommandLine) (shelf shelf' : ShelfState) (out out' err err' : SinkState) → Answered status words shelf shelf' out out' err err'
    → GenComplete status words out out'
gen_complete Done words shelf shelf' out out' err err' answered seed size rules query is says quiet =
    let a = rw is at answered in inr (put_ends words seed size rules query is says shelf a.1 a.2)
gen_complete NoPlan words shelf shelf' out out' err err' answered seed size rules query is says quiet =
    let a = rw is at answered in inr (unplanned_ends words seed size rules query is says shelf a.1 a.2)
gen_complete Usage words shelf shelf' out out' err err' answered seed size rules query is says quiet =
    let e : Some (Gen seed size) ≡ None = sym is ∙ answered.2.0 in absurd cc
gen_complete RulesRefused words shelf shelf' out out' err err' answered seed size rules query is says quiet =
    absurd (text_refused words seed size rules query is says kinds.Rules shelf shelf' answered.1 answered.2)
gen_complete CatalogueRefused words shelf shelf' out out' err err' answered seed size rules query is says quiet =
    absurd (text_refused words seed size rules query is says kinds.Catalogue shelf shelf' answered.1 answered.2)
gen_complete QueryRefused words shelf shelf' out out' err err' answered seed size rules query is says quiet =
    absurd (text_refused words seed size rules query is says kinds.Query shelf shelf' answered.1 answered.2)
gen_complete DerivationRefused words shelf shelf' out out' err err' answered seed size rules query is says quiet =
    absurd (text_refused words seed size rules query is says kinds.Derivation shelf shelf' answered.1 answered.2)
gen_complete ReadFault words shelf shelf' out out' err err' answered seed size rules query is says quiet =
    absurd (file_unread words seed size rules query is says shelf shelf' answered.1 (rw is at answered.2))
gen_complete WriteFault words shelf shelf' out out' err err' answered seed size rules query is says quiet =
    let a = rw is at answered in absurd (quiet a.4.rose)
gen_complete Memory words shelf shelf' out out' err err' answered seed size rules query is says quiet = inl refl
gen_complete TableRefused words shelf shelf' out out' err err' answered seed size rules query is says quiet =
    absurd (rw is at answered.2)
gen_complete NotDerived words shelf shelf' out out' err err' answered seed size rules query is says quiet =
    let a = rw is at answered.2 in absurd a.4.denied
gen_complete SessionRefused words shelf shelf' out out' err err' answered seed size rules query is says quiet = absurd answered.2
gen_complete CertificateRefused words shelf shelf' out out' err err' answered seed size rules query is says quiet = absurd answered.2
