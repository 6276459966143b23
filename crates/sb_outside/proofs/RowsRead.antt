-- How far a reader of `csv` has come.
use Rattle.std.proofs.Common.{◌≡◌, ◌∙◌, Bor, true, false, ℕ, List, [], ◌∷◌, ◌++◌, Some, IsSome, refl, sym, inl, inr}
use Rattle.std.proofs.lemmas.Bool.{false≢true}
use Rattle.csv.specs.Reading.{ExplainsRead, Reached, ReadRecord, Ready, default_config, is_flexible, source_of, strip_bom}
use Rattle.csv.specs.declared.error.ErrorKind.{ErrorKind}
use Rattle.csv.specs.declared.error.ErrorKind.TheVariants as kind
use Rattle.csv.specs.declared.reader.Reader.{Reader}
use Rattle.csv.specs.declared.parser.State.TheVariants as st
use Rattle.csv.specs.declared.reader.Trim.TheVariants as trim
use Rattle.csv.proofs.ReadFacts.{rows-more, rows-end}
use Rattle.sb_outside.specs.Csv.{IsAtStart, fault_of_kind}
use Rattle.sb_outside.specs.Records.{Records, records_of}
use Rattle.sb_outside.proofs.CsvRecords.{are_all}

-- it has read these records of the bytes, and would read the next
pub record HasRead (reader : Reader (Bor (List ℕ))) (bytes : List ℕ) (table : Records) : Type 0 where
  pub untrimmed : reader.trim ≡ trim.None
  pub ready : Ready reader
  pub flexible : is_flexible reader ≡ true
  pub config : reader.config ≡ default_config
  pub left : List ℕ
  pub source : source_of (λ s. Some s.now) reader ≡ Some left
  pub reached : Reached default_config st.StartRecord (strip_bom bytes) table reader.state left

-- none at the start
pub at_start : (reader : Reader (Bor (List ℕ))) (bytes : List ℕ) → IsAtStart reader bytes → HasRead reader bytes []
unfolding Reached
at_start reader bytes start = record {
  untrimmed = start.untrimmed;
  ready = inr (inr (start.no_header, start.none_taken));
  flexible = start.flexible;
  config = start.config;
  left = strip_bom bytes;
  source = start.source;
  reached = (sym start.state, refl);
}

-- one record more
pub one_more : (before after : Reader (Bor (List ℕ))) (bytes : List ℕ) (table : Records) (fields : List (List ℕ))
    → HasRead before bytes table → ReadRecord (λ s. Some s.now) before after true fields → after.first ≡ true → is_flexible after ≡ is_flexible before
    → HasRead after bytes (table ++ fields ∷ [])
one_more before after bytes table fields has read first same =
    let more = rows-more (λ (s : Bor (List ℕ)). Some s.now) before after fields default_config st.StartRecord (strip_bom bytes) has.left table has.config has.source has.reached read in
    record {
      untrimmed = read.3 ∙ has.untrimmed;
      ready = inl first;
      flexible = same ∙ has.flexible;
      config = read.2 ∙ has.config;
      left = more.0;
      source = more.1;
      reached = more.2;
    }

-- no record more
pub all_read : (before after : Reader (Bor (List ℕ))) (bytes : List ℕ) (table : Records) (fields : List (List ℕ))
    → HasRead before bytes table → ReadRecord (λ s. Some s.now) before after false fields → records_of bytes ≡ table
all_read before after bytes table fields has read =
    are_all default_config (strip_bom bytes) table
    (before.state, has.left, has.reached, rows-end (λ (s : Bor (List ℕ)). Some s.now) before after fields default_config has.left has.config has.source read)

-- an error is of what it reads from, or of memory
pub error_explained : (before after : Reader (Bor (List ℕ))) (bytes : List ℕ) (table : Records) (error : ErrorKind)
    → HasRead before bytes table → ExplainsRead (λ s. Some s.now) before after false error → IsSome (fault_of_kind error)
error_explained before after bytes table (kind.Io error) has why = refl
error_explained before after bytes table kind.OutOfMemory has why = refl
error_explained before after bytes table (kind.UnequalLengths position expected len) has why = absurd (false≢true (sym why.0 ∙ has.flexible))
error_explained before after bytes table (kind.Utf8 position error) has why = absurd (false≢true why.0)
error_explained before after bytes table (kind.Serialize text) has why = absurd why
error_explained before after bytes table (kind.Deserialize position error) has why = absurd why
