-- Laws of what shelves tell and count. Each is the clause of a public function of this crate.
use Rattle.std.proofs.Common.{◌≡◌, ◌<◌, ◌+◌, ◌∙◌, ℕ, List, length, replicate, Option, None, Some, IsSomeAnd, refl, ap, sym, arith, suc}
use Rattle.std.proofs.lemmas.List.{length-replicate}
use Rattle.sb_outside.specs.Records.{Records, records_of}
use Rattle.sb_outside.specs.Shelf.{Files, Call, ShelfState, TellsBytes, TellsMore, TellsRecords, GoesBy, FailsAt, NoFault}

-- where there was no call, nothing went on
pub no_call : (state : ShelfState) → GoesBy 0 state state × NoFault state state
no_call state = (
  record { held = refl; calls = record { kept = omega arith; bound = omega arith }; faults = omega arith; taken = omega arith },
  record { faults = refl; last_failed = refl },
)

-- some calls, and then more
pub goes_on : (before mid now : ShelfState) (a b : ℕ) → GoesBy a before mid → GoesBy b mid now → GoesBy (a + b) before now
goes_on before mid now a b first then = record {
  held = then.held ∙ first.held;
  calls = record { kept = omega arith; bound = omega arith };
  faults = omega arith;
  taken = omega arith;
}

-- calls of which none failed, and then more of which none did
pub no_fault_on : (before mid now : ShelfState) → NoFault before mid → NoFault mid now → NoFault before now
no_fault_on before mid now first then = record { faults = then.faults ∙ first.faults; last_failed = then.last_failed ∙ first.last_failed }

-- calls of which none failed, and then one that did
pub fails_on : (before mid now : ShelfState) (call : Call) → NoFault before mid → FailsAt mid now call → FailsAt before now call
fails_on before mid now call first then = record { rose = rw (← first.faults) then.rose; kept = then.kept }

-- one name has one content
pub one_content : (files : Files) (name a b : List ℕ) → TellsBytes (Some files) name a → TellsBytes (Some files) name b → a ≡ b
one_content files name a b held also = cc

-- one name has one table
pub one_table : (files : Files) (name : List ℕ) (most limit : ℕ) (table other : Records)
    → TellsRecords (Some files) name most table → TellsRecords (Some files) name limit other → table ≡ other
one_table files name most limit table other one also =
    one.read ∙ ap records_of (one_content files name one.bytes also.bytes one.held also.held) ∙ sym also.read

some_and : {A : Type 0} (o : Option A) (P : A → Type 0) → IsSomeAnd o P → (x : A) × (o ≡ Some x) × P x
some_and None P p = absurd p
some_and (Some x) P p = (x, refl, p)

-- told or not, a content that is too long is some bytes
pub long_content : (told : Option Files) (name : List ℕ) (most : ℕ) → TellsMore told name most
    → (bytes : List ℕ) × TellsBytes told name bytes × (most < length bytes)
long_content None name most tells = (replicate (suc most) 0, tt, rw (length-replicate {A = ℕ} (suc most) 0) (omega arith))
long_content (Some files) name most tells = some_and (files name) (λ bytes. most < length bytes) tells
