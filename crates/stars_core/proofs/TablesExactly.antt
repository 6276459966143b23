-- The first table of a run that doesn't hold rows is refused.
use Rattle.std.proofs.Common.{◌≡◌, ℕ, List, Option, None, Some, refl, sym, ◌∙◌, subst, inl, inr}
use Rattle.sb_outside.specs.Shelf.{Files, ShelfState}
use Rattle.sb_outside.specs.Sink.{SinkState}
use Rattle.star_model.specs.declared.query.Query.{Query as QueryTree}
use Rattle.table_taking.specs.QueryTables.{AreRows}
use Rattle.table_taking.specs.Taking as tables
use Rattle.table_taking.specs.Told.{FirstRefused}
use Rattle.table_taking.proofs.Laws.{one_line, no_rows}
use Rattle.stars_core.specs.declared.command.Command.TheVariants as commands
use Rattle.stars_core.specs.declared.refusal.TextKind.TheVariants as kinds
use Rattle.stars_core.specs.declared.status.Ending.{Ending}
use Rattle.stars_core.specs.declared.status.Ending.TheVariants as endings
use Rattle.stars_core.specs.declared.status.Status.{Status}
use Rattle.stars_core.specs.declared.status.Status.TheVariants.{Done, NoPlan, Usage, RulesRefused, CatalogueRefused, QueryRefused, TableRefused, ReadFault, WriteFault, Memory, NotDerived, DerivationRefused, SessionRefused, CertificateRefused}
use Rattle.stars_core.specs.CommandLine.{CommandLine, requests_of}
use Rattle.stars_core.specs.Given.{Given}
use Rattle.stars_core.specs.Plan.{HasPlan}
use Rattle.stars_core.specs.Saying.{Saying, Says}
use Rattle.stars_core.specs.Running.{TableRefusedAt}
use Rattle.stars_core.specs.Composing.{IsAnswered, Puts}
use Rattle.stars_core.specs.Answers.{Answered, LinePut}
use Rattle.stars_core.specs.Told.{AllTold, TableRefusedExactly}
use Rattle.stars_core.proofs.Says.{one_reading}
use Rattle.stars_core.proofs.Derived.{same_answer, same_texts, same_tables, refused_told, unread_rose}

module _ (words : CommandLine) (shelf shelf' : ShelfState) (given : List Given) (saying : Saying commands.Run) (told : AllTold words shelf commands.Run given saying)
    (plan : HasPlan saying.0 saying.1) (place : ℕ) (line : List ℕ) (first : FirstRefused saying.1 told.files place line) where
  -- nothing is put, since the tables have no rows
  nothing_put : (ending : Ending) (pieces : List (List ℕ)) → Puts commands.Run shelf.held words ending pieces → ⊥
  nothing_put endings.Done pieces puts =
      let a = subst (λ (x : Option Files). IsAnswered commands.Run x (requests_of commands.Run words) endings.Done pieces) told.told puts in
      let is = a.3.answer in
      let texts : a.0 ≡ given = same_texts told.files (requests_of commands.Run words) a.0 given a.1 told.held in
      let says = subst (λ (g : List Given). Says commands.Run g is.saying) texts is.says in
      let same : is.saying ≡ saying = one_reading commands.Run given is.saying saying says told.says in
      let rows = a.3.further.1 in
      no_rows saying.1 told.files rows.0 place line first (subst (λ (s : Saying commands.Run). AreRows s.1 (Some told.files) rows.0) same rows.1)
  nothing_put endings.NoPlan pieces puts =
      let a = subst (λ (x : Option Files). IsAnswered commands.Run x (requests_of commands.Run words) endings.NoPlan pieces) told.told puts in
      let x = same_answer commands.Run told.files (requests_of commands.Run words) given saying endings.NoPlan pieces told.held told.says a in
      x.1.0 plan.0 plan.1 plan.2

  -- and where a table is refused, its line is that one
  same_line : (other : List ℕ) → TableRefusedAt commands.Run shelf shelf' (requests_of commands.Run words) other → other ≡ line
  same_line other t =
      let same = same_tables told.files shelf t.0 (requests_of commands.Run words) given saying t.1 t.2 told.told told.held told.says t.3 in
      let refused = subst (λ (q : QueryTree). tables.RefusedAt q t.0 shelf' other) same.2 t.4 in
      one_line saying.1 told.files t.0 shelf' place same.0 line other first refused

pub table_refused_exactly : (status : Status) (words : CommandLine) (shelf shelf' : ShelfState) (out out' err err' : SinkState) → Answered status words shelf shelf' out out' err err'
    → TableRefusedExactly status words shelf shelf' err err'
table_refused_exactly Done words shelf shelf' out out' err err' answered given saying told plan place line first quiet =
    let a = rw told.listed at answered in absurd (nothing_put words shelf shelf' given saying told plan place line first endings.Done a.1 a.2)
table_refused_exactly NoPlan words shelf shelf' out out' err err' answered given saying told plan place line first quiet =
    let a = rw told.listed at answered in absurd (nothing_put words shelf shelf' given saying told plan place line first endings.NoPlan a.1 a.2)
table_refused_exactly WriteFault words shelf shelf' out out' err err' answered given saying told plan place line first quiet =
    let a = rw told.listed at answered in absurd (nothing_put words shelf shelf' given saying told plan place line first a.1 a.2 a.3)
table_refused_exactly TableRefused words shelf shelf' out out' err err' answered given saying told plan place line first quiet =
    let same = same_line words shelf shelf' given saying told plan place line first answered.1 (rw told.listed at answered.2) in
    inr (refl, subst (λ (l : List ℕ). LinePut err err' l) same answered.3)
table_refused_exactly Memory words shelf shelf' out out' err err' answered given saying told plan place line first quiet = inl refl
table_refused_exactly Usage words shelf shelf' out out' err err' answered given saying told plan place line first quiet =
    let e : Some commands.Run ≡ None = sym told.listed ∙ answered.2.0 in absurd cc
table_refused_exactly ReadFault words shelf shelf' out out' err err' answered given saying told plan place line first quiet =
    absurd (quiet (unread_rose commands.Run shelf shelf' (requests_of commands.Run words) answered.1 (rw told.listed at answered.2)))
table_refused_exactly RulesRefused words shelf shelf' out out' err err' answered given saying told plan place line first quiet =
    absurd (refused_told kinds.Rules words shelf shelf' answered.1 commands.Run given saying told answered.2)
table_refused_exactly CatalogueRefused words shelf shelf' out out' err err' answered given saying told plan place line first quiet =
    absurd (refused_told kinds.Catalogue words shelf shelf' answered.1 commands.Run given saying told answered.2)
table_refused_exactly QueryRefused words shelf shelf' out out' err err' answered given saying told plan place line first quiet =
    absurd (refused_told kinds.Query words shelf shelf' answered.1 commands.Run given saying told answered.2)
table_refused_exactly DerivationRefused words shelf shelf' out out' err err' answered given saying told plan place line first quiet =
    absurd (refused_told kinds.Derivation words shelf shelf' answered.1 commands.Run given saying told answered.2)
table_refused_exactly NotDerived words shelf shelf' out out' err err' answered given saying told plan place line first quiet =
    let a = rw told.listed at answered.2 in absurd a.4.denied
table_refused_exactly SessionRefused words shelf shelf' out out' err err' answered given saying told plan place line first quiet = absurd answered.2
table_refused_exactly CertificateRefused words shelf shelf' out out' err err' answered given saying told plan place line first quiet = absurd answered.2
