-- A file that is fetched and judged.
use Rattle.std.proofs.Common.{◌≡◌, ◌<◌, ℕ, List, length, Result, Ok, Err, arith, Vec, string_bytes}
use Rattle.std.specs.declared.alloc.Global.{Global}
use Rattle.sb_outside.specs.Shelf.{ShelfState}
use Rattle.sb_outside.proofs.Laws.{long_content}
use Rattle.sb_text.specs.Limits.{most_text_bytes}
use Rattle.stars_core.specs.declared.refusal.Refusal.{Refusal}
use Rattle.stars_core.specs.declared.refusal.Refusal.TheVariants.{Usage, Unread, Refused, Table, NotDerived, Memory}
use Rattle.stars_core.specs.CommandLine.{Request}
use Rattle.stars_core.specs.Lines.{too_long_line}
use Rattle.stars_core.specs.Judging.{Refuses, JudgedAs}
use Rattle.stars_core.specs.Shelves.{Fetched, NotFetched, NotTaken, Taken}

module _ (P : List ℕ → List ℕ → Type 0) (before now : ShelfState) (request : Request) where
  -- a file that isn't fetched isn't taken
  pub unfetched : ((bytes line : List ℕ) → most_text_bytes < length bytes → line ≡ too_long_line request.0 → P bytes line)
      → (refusal : Refusal) → NotFetched before now request refusal → NotTaken P before now request refusal
  unfetched long Usage not = not
  unfetched long (Unread line) not = not
  unfetched long (Refused kind line) not =
      let content = long_content before.held request.1 most_text_bytes not.3 in (
        not.1,
        record {
          bytes = content.0;
          told = content.1;
          stops = long content.0 (string_bytes line) content.2 (rw (← not.1) not.2);
          quiet = not.0;
          too_long = λ _. not.4;
        },
      )
  unfetched long (Table line) not = not
  unfetched long (NotDerived line) not = not
  unfetched long Memory not = tt

  stopped : (text : Vec ℕ Global) → Fetched before now request (Ok text) → (refusal : Refusal) → Refuses request.0 (P text.items) refusal
      → NotTaken P before now request refusal
  stopped text fetched Usage refuses = refuses
  stopped text fetched (Unread line) refuses = absurd refuses
  stopped text fetched (Refused kind line) refuses = (
    refuses.0,
    record {
      bytes = text.items;
      told = fetched.1;
      stops = refuses.1;
      quiet = fetched.0;
      too_long = λ long. absurd (omega (arith, long, fetched.2));
    },
  )
  stopped text fetched (Table line) refuses = absurd refuses
  stopped text fetched (NotDerived line) refuses = absurd refuses
  stopped text fetched Memory refuses = tt

  -- a file that is fetched is judged
  pub judged : {A : Type 0} (Says : List ℕ → A → Type 0) (text : Vec ℕ Global) → Fetched before now request (Ok text)
      → (result : Result A Refusal) → JudgedAs request.0 Says P text.items result → Taken Says P before now request result
  judged Says text fetched (Ok this) says = (fetched.0, text.items, fetched.1, says)
  judged Says text fetched (Err refusal) refuses = stopped text fetched refusal refuses
