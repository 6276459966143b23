-- How often a run puts and calls.
use Rattle.std.proofs.Common.{◌≡◌, ◌≤◌, ◌+◌, ℕ, List, [], ◌∷◌, length, Option, None, Some, Result, refl, ap, sym, ◌∙◌, subst, inl, inr, arith}
use Rattle.sb_outside.specs.Counts.{RoseAtMost}
use Rattle.sb_outside.specs.Shelf.{Files, ShelfState}
use Rattle.sb_outside.specs.Sink.{SinkState}
use Rattle.star_model.specs.declared.query.Query.{Query as QueryTree}
use Rattle.table_taking.specs.QueryTables.{tables_of}
use Rattle.stars_core.specs.declared.command.Command.{Command}
use Rattle.stars_core.specs.declared.command.Command.TheVariants as commands
use Rattle.stars_core.specs.declared.pieces.Pieces.{Pieces}
use Rattle.stars_core.specs.declared.refusal.Refusal.{Refusal}
use Rattle.stars_core.specs.declared.status.Ending.{Ending}
use Rattle.stars_core.specs.declared.status.Ending.TheVariants as endings
use Rattle.stars_core.specs.declared.status.Status.{Status}
use Rattle.stars_core.specs.declared.status.Status.TheVariants.{Done, NoPlan, Usage, RulesRefused, CatalogueRefused, QueryRefused, TableRefused, ReadFault, WriteFault, Memory, NotDerived, DerivationRefused, SessionRefused, CertificateRefused}
use Rattle.stars_core.specs.CommandLine.{CommandLine, command_of, requests_of}
use Rattle.stars_core.specs.Bounds.{most_puts, puts_of}
use Rattle.stars_core.specs.Given.{Given}
use Rattle.stars_core.specs.Plan.{HasNoPlan}
use Rattle.stars_core.specs.Saying.{Saying}
use Rattle.stars_core.specs.Pieces.{HasPieces}
use Rattle.stars_core.specs.Running.{SaysOf, FewCalls}
use Rattle.stars_core.specs.Composing.{Composed, IsAnswered, Puts}
use Rattle.stars_core.specs.Answers.{OfCommand, Answered}
use Rattle.stars_core.specs.Told.{AllTold, RunCalls, RunPuts}
use Rattle.stars_core.proofs.Derived.{same_answer, same_case}

-- ---- puts

counted : (pieces more rest : List (List ℕ)) (text : List ℕ) → pieces ≡ text ∷ more → more ≡ rest → length pieces ≡ length (text ∷ rest)
counted pieces more rest text are is = ap (λ (ps : List (List ℕ)). length ps) are ∙ ap (λ (m : List (List ℕ)). length (text ∷ m)) is

few_pieces : (command : Command) (told : Option Files) (given : List Given) (ending : Ending) (pieces : List (List ℕ)) → HasPieces command told given ending pieces
    → length pieces ≤ most_puts command
few_pieces commands.Run told given endings.Done pieces has =
    let n : length pieces ≡ 2 = counted pieces has.more (has.further.0 ∷ []) has.text has.are has.further.2 in omega arith
few_pieces commands.Run told given endings.NoPlan pieces has = let n : length pieces ≡ 1 = counted pieces has.more [] has.text has.are has.further in omega arith
few_pieces commands.Check told given ending pieces has = let n : length pieces ≡ 1 = counted pieces has.more [] has.text has.are has.further in omega arith
few_pieces commands.Plan told given ending pieces has = let n : length pieces ≡ 1 = counted pieces has.more [] has.text has.are has.further in omega arith
few_pieces commands.Frontier told given ending pieces has = let n : length pieces ≡ 1 = counted pieces has.more [] has.text has.are has.further in omega arith
few_pieces commands.Verify told given ending pieces has = let n : length pieces ≡ 1 = counted pieces has.more [] has.text has.are has.further in omega arith
few_pieces (commands.Gen seed size) told given ending pieces has = let n : length pieces ≡ 1 = counted pieces has.more [] has.text has.are has.further in omega arith

put_few : (command : Command) (told : Option Files) (words : CommandLine) (ending : Ending) (pieces : List (List ℕ)) (a b : ℕ) → Puts command told words ending pieces
    → RoseAtMost (length pieces) a b → RoseAtMost (most_puts command) a b
put_few command told words ending pieces a b puts rose =
    let few = few_pieces command told puts.0 ending pieces puts.3 in
    let bound = rose.bound in
    record { kept = rose.kept; bound = omega arith }

silent : (most : ℕ) (out out' : SinkState) → out' ≡ out → RoseAtMost most out.puts out'.puts
silent most out out' same = rw same (record { kept = omega arith; bound = omega arith })

of_some : (words : CommandLine) (P : Command → Type 0) (most : Option Command → Type 0) → ((command : Command) → P command → most (Some command)) → OfCommand words P → most (command_of words)
of_some words P most to of = at (command_of words) refl of
  where
    at : (command : Option Command) → command_of words ≡ command → OfCommand words P → most (command_of words)
    at None is a = absurd (rw is at a)
    at (Some command) is a = rw is (to command (rw is at a))

-- no more pieces are put than the command has
pub puts_few : (status : Status) (words : CommandLine) (shelf shelf' : ShelfState) (out out' err err' : SinkState) → Answered status words shelf shelf' out out' err err'
    → RoseAtMost (puts_of (command_of words)) out.puts out'.puts
puts_few Done words shelf shelf' out out' err err' answered =
    of_some words _ (λ (c : Option Command). RoseAtMost (puts_of c) out.puts out'.puts)
    (λ command a. put_few command shelf.held words endings.Done a.1 out.puts out'.puts a.2 a.3.puts) answered
puts_few NoPlan words shelf shelf' out out' err err' answered =
    of_some words _ (λ (c : Option Command). RoseAtMost (puts_of c) out.puts out'.puts)
    (λ command a. put_few command shelf.held words endings.NoPlan a.1 out.puts out'.puts a.2 a.3.puts) answered
puts_few WriteFault words shelf shelf' out out' err err' answered =
    of_some words _ (λ (c : Option Command). RoseAtMost (puts_of c) out.puts out'.puts)
    (λ command a. put_few command shelf.held words a.1 a.2 out.puts out'.puts a.3 a.4.puts) answered
puts_few Usage words shelf shelf' out out' err err' answered = silent (puts_of (command_of words)) out out' answered.0
puts_few RulesRefused words shelf shelf' out out' err err' answered = silent (puts_of (command_of words)) out out' answered.0
puts_few CatalogueRefused words shelf shelf' out out' err err' answered = silent (puts_of (command_of words)) out out' answered.0
puts_few QueryRefused words shelf shelf' out out' err err' answered = silent (puts_of (command_of words)) out out' answered.0
puts_few TableRefused words shelf shelf' out out' err err' answered = silent (puts_of (command_of words)) out out' answered.0
puts_few ReadFault words shelf shelf' out out' err err' answered = silent (puts_of (command_of words)) out out' answered.0
puts_few Memory words shelf shelf' out out' err err' answered = silent (puts_of (command_of words)) out out' answered.0
puts_few NotDerived words shelf shelf' out out' err err' answered = silent (puts_of (command_of words)) out out' answered.0
puts_few DerivationRefused words shelf shelf' out out' err err' answered = silent (puts_of (command_of words)) out out' answered.0
puts_few SessionRefused words shelf shelf' out out' err err' answered = silent (puts_of (command_of words)) out out' answered.0
puts_few CertificateRefused words shelf shelf' out out' err err' answered = silent (puts_of (command_of words)) out out' answered.0

-- ---- a run whose query has no plan

module _ (words : CommandLine) (shelf : ShelfState) (given : List Given) (saying : Saying commands.Run) (told : AllTold words shelf commands.Run given saying)
    (none : HasNoPlan saying.0 saying.1) where
  one_piece : (ending : Ending) (pieces : List (List ℕ)) (a b : ℕ) → Puts commands.Run shelf.held words ending pieces → RoseAtMost (length pieces) a b → RoseAtMost 1 a b
  one_piece endings.Done pieces a b puts rose =
      let of = subst (λ (x : Option Files). IsAnswered commands.Run x (requests_of commands.Run words) endings.Done pieces) told.told puts in
      let x = same_answer commands.Run told.files (requests_of commands.Run words) given saying endings.Done pieces told.held told.says of in
      absurd (none x.1.0 x.1.1 x.1.2.root)
  one_piece endings.NoPlan pieces a b puts rose =
      let has = puts.3 in
      let n : length pieces ≡ 1 = counted pieces has.more [] has.text has.are has.further in
      let bound = rose.bound in
      record { kept = rose.kept; bound = omega arith }

-- Where the query of a run has no plan, there is one put.
pub one_put : (status : Status) (words : CommandLine) (shelf shelf' : ShelfState) (out out' err err' : SinkState) → Answered status words shelf shelf' out out' err err'
    → RunPuts words shelf out out'
one_put Done words shelf shelf' out out' err err' answered given saying told none =
    let a = rw told.listed at answered in one_piece words shelf given saying told none endings.Done a.1 out.puts out'.puts a.2 a.3.puts
one_put NoPlan words shelf shelf' out out' err err' answered given saying told none =
    let a = rw told.listed at answered in one_piece words shelf given saying told none endings.NoPlan a.1 out.puts out'.puts a.2 a.3.puts
one_put WriteFault words shelf shelf' out out' err err' answered given saying told none =
    let a = rw told.listed at answered in one_piece words shelf given saying told none a.1 a.2 out.puts out'.puts a.3 a.4.puts
one_put Usage words shelf shelf' out out' err err' answered given saying told none = silent 1 out out' answered.0
one_put RulesRefused words shelf shelf' out out' err err' answered given saying told none = silent 1 out out' answered.0
one_put CatalogueRefused words shelf shelf' out out' err err' answered given saying told none = silent 1 out out' answered.0
one_put QueryRefused words shelf shelf' out out' err err' answered given saying told none = silent 1 out out' answered.0
one_put TableRefused words shelf shelf' out out' err err' answered given saying told none = silent 1 out out' answered.0
one_put ReadFault words shelf shelf' out out' err err' answered given saying told none = silent 1 out out' answered.0
one_put Memory words shelf shelf' out out' err err' answered given saying told none = silent 1 out out' answered.0
one_put NotDerived words shelf shelf' out out' err err' answered given saying told none = silent 1 out out' answered.0
one_put DerivationRefused words shelf shelf' out out' err err' answered given saying told none = silent 1 out out' answered.0
one_put SessionRefused words shelf shelf' out out' err err' answered given saying told none = silent 1 out out' answered.0
one_put CertificateRefused words shelf shelf' out out' err err' answered given saying told none = silent 1 out out' answered.0

-- ---- calls

few_calls : (words : CommandLine) (shelf shelf' : ShelfState) → FewCalls commands.Run shelf shelf' (requests_of commands.Run words) → RunCalls words shelf shelf'
few_calls words shelf shelf' (inl three) = record {
  tables = λ given saying told. omega (arith, three);
  unplanned = λ given saying told none. three;
}
few_calls words shelf shelf' (inr (rules, query, says, plan, bound)) = record {
  tables = λ given saying told.
      let of = subst (λ (x : Option Files). SaysOf x (requests_of commands.Run words) rules query) told.told says in
      let same = same_case told.files (requests_of commands.Run words) given saying rules query told.held told.says of in
      subst (λ (q : QueryTree). shelf'.calls ≤ shelf.calls + (3 + length (tables_of q))) same.1 bound;
  unplanned = λ given saying told none.
      let of = subst (λ (x : Option Files). SaysOf x (requests_of commands.Run words) rules query) told.told says in
      let same = same_case told.files (requests_of commands.Run words) given saying rules query told.held told.says of in
      absurd (none plan.0 plan.1 (rw (← same.0, ← same.1) plan.2));
}

is_run : (words : CommandLine) (shelf : ShelfState) (given : List Given) (saying : Saying commands.Run) (command : Option Command) → command_of words ≡ command
    → AllTold words shelf commands.Run given saying → command ≡ Some commands.Run
is_run words shelf given saying command is told = sym is ∙ told.listed

-- A run calls the shelf for its texts and for the tables of its query.
pub run_calls : (words : CommandLine) (command : Option Command) (shelf shelf' : ShelfState) (result : Result Pieces Refusal) → command_of words ≡ command
    → Composed shelf shelf' words command result → RunCalls words shelf shelf'
run_calls words None shelf shelf' result is composed = record {
  tables = λ given saying told. let e : None ≡ Some commands.Run = is_run words shelf given saying None is told in absurd cc;
  unplanned = λ given saying told none. let e : None ≡ Some commands.Run = is_run words shelf given saying None is told in absurd cc;
}
run_calls words (Some commands.Run) shelf shelf' result is composed = few_calls words shelf shelf' composed.1
run_calls words (Some commands.Check) shelf shelf' result is composed = record {
  tables = λ given saying told. let e : Some commands.Check ≡ Some commands.Run = is_run words shelf given saying (Some commands.Check) is told in absurd cc;
  unplanned = λ given saying told none. let e : Some commands.Check ≡ Some commands.Run = is_run words shelf given saying (Some commands.Check) is told in absurd cc;
}
run_calls words (Some commands.Plan) shelf shelf' result is composed = record {
  tables = λ given saying told. let e : Some commands.Plan ≡ Some commands.Run = is_run words shelf given saying (Some commands.Plan) is told in absurd cc;
  unplanned = λ given saying told none. let e : Some commands.Plan ≡ Some commands.Run = is_run words shelf given saying (Some commands.Plan) is told in absurd cc;
}
run_calls words (Some commands.Frontier) shelf shelf' result is composed = record {
  tables = λ given saying told. let e : Some commands.Frontier ≡ Some commands.Run = is_run words shelf given saying (Some commands.Frontier) is told in absurd cc;
  unplanned = λ given saying told none. let e : Some commands.Frontier ≡ Some commands.Run = is_run words shelf given saying (Some commands.Frontier) is told in absurd cc;
}
run_calls words (Some commands.Verify) shelf shelf' result is composed = record {
  tables = λ given saying told. let e : Some commands.Verify ≡ Some commands.Run = is_run words shelf given saying (Some commands.Verify) is told in absurd cc;
  unplanned = λ given saying told none. let e : Some commands.Verify ≡ Some commands.Run = is_run words shelf given saying (Some commands.Verify) is told in absurd cc;
}
run_calls words (Some (commands.Gen seed size)) shelf shelf' result is composed = record {
  tables = λ given saying told. let e : Some (commands.Gen seed size) ≡ Some commands.Run = is_run words shelf given saying (Some (commands.Gen seed size)) is told in absurd cc;
  unplanned = λ given saying told none. let e : Some (commands.Gen seed size) ≡ Some commands.Run = is_run words shelf given saying (Some (commands.Gen seed size)) is told in absurd cc;
}
