-- What a shelf is to its callers: what it holds, where it tells, and what it counts.
use Rattle.std.specs.Prelude.{◌≡◌, ◌≤◌, ◌<◌, ℕ, List, length, Option, Some, IfSome, IsSomeAnd, Bool}
use Rattle.sb_outside.specs.Counts.{Rose, RoseAtMost}
use Rattle.sb_outside.specs.Records.{Records, records_of}

-- the bytes of each name that is held
abbrev pub Files : Type 0
Files = List ℕ → Option (List ℕ)

-- a call: whether it asks for records, and for which name
abbrev pub Call : Type 0
Call = Bool × List ℕ

pub record ShelfState : Type 0 where
  -- what it holds, where it tells
  pub held : Option Files
  -- how often it failed
  pub faults : ℕ
  -- how often it was called
  pub calls : ℕ
  -- how many bytes it took from what it holds
  pub taken : ℕ
  -- the call that failed last
  pub last_failed : Option Call

-- where it is told, the name is held with these bytes
abbrev pub TellsBytes : Option Files → List ℕ → List ℕ → Type 0
TellsBytes told name bytes = IfSome told (λ files. files name ≡ Some bytes)

-- where it is told, the name is held with more bytes than that
abbrev pub TellsMore : Option Files → List ℕ → ℕ → Type 0
TellsMore told name most = IfSome told (λ files. IsSomeAnd (files name) (λ bytes. most < length bytes))

-- told or not, these are the records of some bytes, at most so many; where it is told, the name is held with them
pub record TellsRecords (told : Option Files) (name : List ℕ) (most : ℕ) (table : Records) : Type 0 where
  pub bytes : List ℕ
  pub held : TellsBytes told name bytes
  pub within : length bytes ≤ most
  pub read : table ≡ records_of bytes

-- at most so many calls: what is held stays, and no count falls
pub record GoesBy (most : ℕ) (before now : ShelfState) : Type 0 where
  pub held : now.held ≡ before.held
  pub calls : RoseAtMost most before.calls now.calls
  pub faults : before.faults ≤ now.faults
  pub taken : before.taken ≤ now.taken

-- one call
abbrev pub Goes : ShelfState → ShelfState → Type 0
Goes before now = GoesBy 1 before now

-- this call failed
pub record FailsAt (before now : ShelfState) (call : Call) : Type 0 where
  pub rose : Rose before.faults now.faults
  pub kept : now.last_failed ≡ Some call

-- no call failed
pub record NoFault (before now : ShelfState) : Type 0 where
  pub faults : now.faults ≡ before.faults
  pub last_failed : now.last_failed ≡ before.last_failed
