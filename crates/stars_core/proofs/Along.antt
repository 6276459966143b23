-- A command on its way along its files.
use Rattle.std.proofs.Common.{◌≡◌, ◌+◌, ◌++◌, ℕ, List, [], ◌∷◌, length, take, Option, Some, refl, ap, inl, arith, false, string_bytes}
use Rattle.std.specs.Prelude.{slice_get}
use Rattle.sb_outside.specs.Shelf.{Files, ShelfState, Goes, NoFault, TellsBytes}
use Rattle.sb_outside.proofs.Laws.{no_call, goes_on, no_fault_on, fails_on}
use Rattle.stars_core.specs.declared.refusal.Refusal.{Refusal}
use Rattle.stars_core.specs.declared.refusal.Refusal.TheVariants.{Usage, Unread, Refused, Table, NotDerived, Memory}
use Rattle.stars_core.specs.declared.command.Command.{Command}
use Rattle.stars_core.specs.CommandLine.{Request}
use Rattle.stars_core.specs.Given.{Given}
use Rattle.stars_core.specs.Faults.{Stops, Passes}
use Rattle.stars_core.specs.Shelves.{HeldAs, NotTaken, CameAlong}
use Rattle.stars_core.specs.Composing.{RanInto}
use Rattle.stars_core.proofs.FaultLaws.{pass_more}

at_length : (front later : List Request) (this : Request) → slice_get (front ++ this ∷ later) (length front) ≡ Some this
at_length [] later this = refl
at_length (x ∷ front) later this = at_length front later this

take_front : (front later : List Request) → take (length front) (front ++ later) ≡ front
take_front [] later = refl
take_front (x ∷ front) later = ap (λ l. x ∷ l) (take_front front later)

held_more : (told : Option Files) (front : List Request) (given : List Given) (request : Request) (this : Given) → HeldAs told front given → this.0 ≡ request.0
    → TellsBytes told request.1 this.1 → HeldAs told (front ++ request ∷ []) (given ++ this ∷ [])
held_more told [] [] request this held kind bytes = (kind, bytes, tt)
held_more told [] (g ∷ given) request this held kind bytes = absurd held
held_more told (x ∷ front) [] request this held kind bytes = absurd held
held_more told (x ∷ front) (g ∷ given) request this held kind bytes =
    (held.0, held.1, held_more told front given request this held.2 kind bytes)

pub starts : (before : ShelfState) → CameAlong before before [] []
starts before = record {
  by = (no_call before).0;
  quiet = (no_call before).1;
  held = tt;
  accepted = tt;
}

module _ (before mid now : ShelfState) (front later : List Request) (this : Request) (earlier : List Given) where
  -- the next file isn't taken
  pub stopped : (command : Command) (P : List ℕ → List ℕ → Type 0) (refusal : Refusal) → CameAlong before mid front earlier → Goes mid now
      → ((bytes line : List ℕ) → P bytes line → Stops earlier (this.0, bytes) line) → NotTaken P mid now this refusal → RanInto command before now (front ++ this ∷ later) refusal
  stopped command P Usage along goes stops not = not
  stopped command P (Unread line) along goes stops not =
      let by = along.by in
      inl (
        length front,
        this,
        earlier,
        record { here = at_length front later this; held = rw (take_front front (this ∷ later)) along.held; accepted = along.accepted; calls = omega arith },
        fails_on before mid now (false, this.1) along.quiet not.0,
        not.1,
      )
  stopped command P (Refused kind line) along goes stops not =
      let by = along.by in
      let taken = not.1 in
      let told : TellsBytes before.held this.1 taken.bytes = rw (← by.held) taken.told in (
        length front,
        this,
        earlier,
        taken.bytes,
        record { here = at_length front later this; held = rw (take_front front (this ∷ later)) along.held; accepted = along.accepted; calls = omega arith },
        not.0,
        record {
          told = told;
          stops = stops taken.bytes (string_bytes line) taken.stops;
          quiet = no_fault_on before mid now along.quiet taken.quiet;
          too_long = λ long. let rose = taken.too_long long in omega arith;
        },
      )
  stopped command P (Table line) along goes stops not = absurd not
  stopped command P (NotDerived line) along goes stops not = absurd not
  stopped command P Memory along goes stops not = tt

  -- the next file is taken, and its text is accepted
  pub goes_along : (bytes : List ℕ) → CameAlong before mid front earlier → Goes mid now → NoFault mid now → TellsBytes mid.held this.1 bytes → Passes earlier (this.0, bytes)
      → CameAlong before now (front ++ this ∷ []) (earlier ++ (this.0, bytes) ∷ [])
  goes_along bytes along goes quiet told passes =
      let by = along.by in
      let len : length (front ++ this ∷ []) ≡ length front + 1 = length_more front in record {
        by = rw len (goes_on before mid now (length front) 1 by goes);
        quiet = no_fault_on before mid now along.quiet quiet;
        held = held_more before.held front earlier this (this.0, bytes) along.held refl (rw (← by.held) told);
        accepted = pass_more [] earlier (this.0, bytes) along.accepted passes;
      }
    where
      length_more : (xs : List Request) → length (xs ++ this ∷ []) ≡ length xs + 1
      length_more [] = refl
      length_more (x ∷ xs) = let e = length_more xs in omega arith
