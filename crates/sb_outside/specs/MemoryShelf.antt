-- How a shelf in memory answers a call: the cause of each answer, and what becomes of the shelf.
use Rattle.std.specs.Prelude.{◌≡◌, ◌⊎◌, ◌≤◌, ◌<◌, ◌+◌, ◌-◌, ◌^◌, min, length, ℕ, List, true, false, Option, None, Some, MatchOption, Result, Ok, Err, Vec}
use Rattle.std.specs.declared.alloc.Global.{Global}
use Rattle.sb_outside.specs.Records.{Records, records_of}
use Rattle.sb_outside.specs.Shelf.{Call, ShelfState}
use Rattle.sb_outside.specs.Named.{first_named, one_more, FailsAtNumber}
use Rattle.sb_outside.specs.declared.fault.ShelfFault.{ShelfFault}
use Rattle.sb_outside.specs.declared.fault.ShelfFault.TheVariants.{Failed, TooLong, Memory}
use Rattle.sb_outside.specs.declared.memory_shelf.MemoryShelf.{MemoryShelf}

-- it tells what it holds
abbrev pub state_of : MemoryShelf → ShelfState
state_of shelf = record {
  held = Some (first_named shelf.files.items);
  faults = shelf.faults;
  calls = shelf.calls;
  taken = shelf.taken;
  last_failed = shelf.last;
}

-- a call for this name fails: by its number, or since the name is not held
abbrev pub MustFail : MemoryShelf → List ℕ → Type 0
MustFail shelf name = FailsAtNumber shelf.failing.items shelf.calls ⊎ (first_named shelf.files.items name ≡ None)

-- a call for this name does not fail, and these bytes are held
pub record Finds (shelf : MemoryShelf) (name bytes : List ℕ) : Type 0 where
  pub held : first_named shelf.files.items name ≡ Some bytes
  pub succeeds : FailsAtNumber shelf.failing.items shelf.calls → ⊥

-- what is found under a name
abbrev pub Asked : MemoryShelf → List ℕ → Option (List ℕ) → Type 0
Asked shelf name found = MatchOption found (MustFail shelf name) (Finds shelf name)

-- the shelf after a call that took so many bytes
abbrev pub after_taking : MemoryShelf → ℕ → MemoryShelf
after_taking shelf count = record shelf { calls = one_more shelf.calls; taken = min (shelf.taken + count) (2 ^ 64 - 1) }

-- the shelf after a call that failed
abbrev pub after_failing : MemoryShelf → Call → MemoryShelf
after_failing shelf call =
    record shelf { calls = one_more shelf.calls; faults = min (shelf.faults + 1) (2 ^ 64 - 1); last = Some call }

-- each answer of a call for bytes
abbrev pub AnswersBytes : MemoryShelf → List ℕ → ℕ → Result (Vec ℕ Global) ShelfFault → MemoryShelf → Type 0
AnswersBytes before name max (Ok copy) now =
    Finds before name copy.items × (length copy.items ≤ max) × (now ≡ after_taking before (length copy.items))
AnswersBytes before name max (Err Failed) now = MustFail before name × (now ≡ after_failing before (false, name))
AnswersBytes before name max (Err TooLong) now =
    (bytes : List ℕ) × Finds before name bytes × (max < length bytes) × (now ≡ after_taking before (max + 1))
AnswersBytes before name max (Err Memory) now = now ≡ before

-- bytes are found that are not too many; that `csv` refuses none of them is not known
abbrev pub MayBeRefused : MemoryShelf → List ℕ → ℕ → Type 0
MayBeRefused shelf name max = (bytes : List ℕ) × Finds shelf name bytes × (length bytes ≤ max)

-- each answer of a call for records
abbrev pub AnswersRecords : MemoryShelf → List ℕ → ℕ → Result Records ShelfFault → MemoryShelf → Type 0
AnswersRecords before name max (Ok table) now =
    (bytes : List ℕ) × Finds before name bytes × (length bytes ≤ max) × (table ≡ records_of bytes) × (now ≡ after_taking before (length bytes))
AnswersRecords before name max (Err Failed) now = (MustFail before name ⊎ MayBeRefused before name max) × (now ≡ after_failing before (true, name))
AnswersRecords before name max (Err TooLong) now =
    (bytes : List ℕ) × Finds before name bytes × (max < length bytes) × (now ≡ after_taking before (max + 1))
AnswersRecords before name max (Err Memory) now = now ≡ before
