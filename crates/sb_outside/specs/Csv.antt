-- How `csv` is used: which reader reads the records, and which errors it may give.
use Rattle.std.specs.Prelude.{◌≡◌, ℕ, List, true, false, Option, None, Some}
use Rattle.std.specs.Borrow.{Bor}
use Rattle.csv.specs.Reading.{default_config, strip_bom, source_of, reader_config, reader_trim, reader_headers, reader_state, names_headers, is_flexible}
use Rattle.csv.specs.declared.error.ErrorKind.{ErrorKind}
use Rattle.csv.specs.declared.error.ErrorKind.TheVariants as kind
use Rattle.csv.specs.declared.parser.State.TheVariants as st
use Rattle.csv.specs.declared.reader.Reader.{Reader}
use Rattle.csv.specs.declared.reader.Trim.TheVariants as trim
use Rattle.sb_outside.specs.declared.fault.RecordsFault.{RecordsFault}
use Rattle.sb_outside.specs.declared.fault.RecordsFault.TheVariants.{Refused, Memory}

-- it stands at the start of the bytes, takes no record as a header, and records of any lengths
pub record IsAtStart (reader : Reader (Bor (List ℕ))) (bytes : List ℕ) : Type 0 where
  pub config : reader_config reader ≡ default_config
  pub untrimmed : reader_trim reader ≡ trim.None
  pub no_header : names_headers reader ≡ false
  pub none_taken : reader_headers reader ≡ None
  pub flexible : is_flexible reader ≡ true
  pub state : reader_state reader ≡ st.StartRecord
  pub source : source_of (λ s. Some s.now) reader ≡ Some (strip_bom bytes)

-- what an error of it is; it never gives the other four
abbrev pub fault_of_kind : ErrorKind → Option RecordsFault
fault_of_kind (kind.Io error) = Some Refused
fault_of_kind kind.OutOfMemory = Some Memory
fault_of_kind (kind.UnequalLengths position expected len) = None
fault_of_kind (kind.Utf8 position error) = None
fault_of_kind (kind.Serialize text) = None
fault_of_kind (kind.Deserialize position error) = None
