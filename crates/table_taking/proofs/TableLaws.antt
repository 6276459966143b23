-- The laws of taking a query's tables.
use Rattle.std.proofs.Common.{◌≡◌, ◌≤◌, ◌<◌, ◌∙◌, ◌⊎◌, ℕ, List, [], length, take, Option, None, Some, refl, ap, sym, subst, arith, inl, inr, slice_get, slice_index_or, Contains, IsSomeAnd}
use Rattle.std.proofs.lemmas.Bool.{cases_lt, cases_eq}
use Rattle.std.proofs.lemmas.List.{get_or-take, length-take}
use Rattle.std.proofs.lemmas.Option.{get_or_from_slice_get, slice_get_within}
use Rattle.sb_outside.specs.Records.{Records, records_of}
use Rattle.sb_outside.specs.Shelf.{Files, ShelfState, TellsMore, TellsRecords}
use Rattle.sb_outside.proofs.Laws.{one_content}
use Rattle.star_model.specs.Answers.{Data}
use Rattle.star_model.specs.Data.{table_rows}
use Rattle.star_model.specs.declared.catalogue.Value.{Value}
use Rattle.star_model.specs.declared.catalogue.TableDef.{TableDef}
use Rattle.star_model.specs.declared.query.Query.{Query}
use Rattle.row_store.specs.Faults.{IsFirstFault, RecordsHave}
use Rattle.row_store.specs.declared.fault.TableFault.{TableFault}
use Rattle.row_store.proofs.Laws.{one_fault, clear_rows_are}
use Rattle.table_taking.specs.Limits.{most_table_bytes}
use Rattle.table_taking.specs.QueryTables.{tables_of, name_of, file_of, HasRows, AreRows}
use Rattle.table_taking.specs.Lines.{fault_line, long_line}
use Rattle.table_taking.specs.Taking.{RefusedAt, IsLong, IsFaulty}
use Rattle.table_taking.specs.Told.{HoldsTable, HoldsTables, HaveFault, FirstRefused}
pub use Rattle.table_taking.proofs.FirstTables.{few_tables, tables_hold}

same_some : {X : Type 0} {x y : X} → Some x ≡ Some y → x ≡ y
same_some e = cc

-- what has a fault is a table of the catalogue
lies : (tables : List TableDef) (n : ℕ) (P : TableDef → Type 0) → IsSomeAnd (slice_get tables n) P
    → n < length tables
lies tables n P has = at (slice_get tables n) refl has
  where
    at : (o : Option TableDef) → slice_get tables n ≡ o → IsSomeAnd o P → n < length tables
    at None is has = absurd has
    at (Some t) is has = slice_get_within tables n t is

-- an item before a place
before_place : (ns : List ℕ) (place k n : ℕ) → k < place → slice_get ns k ≡ Some n
    → Contains (take place ns) n
before_place ns place k n low is = (
  k,
  omega (arith, length-take place ns, low, slice_get_within ns k n is),
  get_or-take place ns k n low ∙ get_or_from_slice_get ns k n n is,
)

at_place : (ns : List ℕ) (place n : ℕ) → slice_get ns place ≡ Some n → Contains ns n
at_place ns place n is =
    (place, slice_get_within ns place n is, get_or_from_slice_get ns place n n is)

module _ (q : Query) (n : ℕ) where
  -- records with a fault hold no rows
  faulty_have_none : (records : Records) (fault : TableFault) (rows : List (List Value))
      → IsFirstFault q.catalogue n records fault
      → table_rows q.catalogue n records ≡ Some rows → ⊥
  faulty_have_none records fault rows first are =
      let within = lies q.catalogue.tables n (λ t. RecordsHave t records fault) first.has in
      (clear_rows_are q.catalogue n records within).1 (rows, are) fault first.has

  module _ (files : Files) (bytes : List ℕ) (held : files (file_of q n) ≡ Some bytes) where
    not_long : length bytes ≤ most_table_bytes → TellsMore (Some files) (file_of q n) most_table_bytes → ⊥
    not_long within more =
        let P : Option (List ℕ) → Type 0 = λ o. IsSomeAnd o (λ bytes. most_table_bytes < length bytes) in
        omega (arith, within, subst P held more)

    same_bytes : (records : Records)
        (tells : TellsRecords (Some files) (file_of q n) most_table_bytes records) → tells.bytes ≡ bytes
    same_bytes records tells = one_content files (file_of q n) tells.bytes bytes tells.held held

    told_within : (records : Records) → TellsRecords (Some files) (file_of q n) most_table_bytes records
        → length bytes ≤ most_table_bytes
    told_within records tells = omega (arith, tells.within, ap length (same_bytes records tells))

    same_records : (records : Records) → TellsRecords (Some files) (file_of q n) most_table_bytes records
        → records ≡ records_of bytes
    same_records records tells = tells.read ∙ ap records_of (same_bytes records tells)

    -- a file that is refused has no rows
    refused_has_none : (line : List ℕ)
        → ((most_table_bytes < length bytes) × (line ≡ long_line (name_of q n)))
        ⊎ HaveFault q files n bytes line
        → (rows : List (List Value)) → HasRows q (Some files) n rows → ⊥
    refused_has_none line (inl long) rows has =
        omega (arith, long.0, told_within has.records has.held)
    refused_has_none line (inr have) rows has =
        faulty_have_none (records_of bytes) have.fault rows have.first
        (ap (table_rows q.catalogue n) (sym (same_records has.records has.held)) ∙ has.are)

    module _ (before now : ShelfState) (told : before.held ≡ Some files) where
      tells_records : (records : Records) → TellsRecords before.held (file_of q n) most_table_bytes records
          → TellsRecords (Some files) (file_of q n) most_table_bytes records
      tells_records records tells = subst (λ held. TellsRecords held (file_of q n) most_table_bytes records)
          told tells

      tells_more : TellsMore before.held (file_of q n) most_table_bytes
          → TellsMore (Some files) (file_of q n) most_table_bytes
      tells_more more = subst (λ held. TellsMore held (file_of q n) most_table_bytes) told more

      -- one that holds rows isn't refused
      holding_not_refused : length bytes ≤ most_table_bytes → (rows : List (List Value))
          → table_rows q.catalogue n (records_of bytes) ≡ Some rows
          → (line : List ℕ) → IsLong q before now n line ⊎ IsFaulty q before now n line → ⊥
      holding_not_refused within rows are line (inl is) = not_long within (tells_more is.more)
      holding_not_refused within rows are line (inr is) =
          let same = same_records is.records (tells_records is.records is.held) in
          faulty_have_none is.records is.fault rows is.first (ap (table_rows q.catalogue n) same ∙ are)

      -- one that is refused has one line
      same_line : (line other : List ℕ)
          → ((most_table_bytes < length bytes) × (line ≡ long_line (name_of q n)))
          ⊎ HaveFault q files n bytes line
          → IsLong q before now n other ⊎ IsFaulty q before now n other → other ≡ line
      same_line line other (inl long) (inl is) = is.tells ∙ sym long.1
      same_line line other (inl long) (inr is) = absurd
          (omega (arith, long.0, told_within is.records (tells_records is.records is.held)))
      same_line line other (inr have) (inl is) = absurd (not_long have.within (tells_more is.more))
      same_line line other (inr have) (inr is) = same_some
          (sym is.tells ∙ ap (fault_line (name_of q n)) one ∙ have.tells)
        where
          P : Records → Type 0
          P records = IsFirstFault q.catalogue n records is.fault

          one : is.fault ≡ have.fault
          one = one_fault q.catalogue n (records_of bytes) is.fault have.fault
              (subst P (same_records is.records (tells_records is.records is.held)) is.first)
              have.first

module _ (q : Query) (files : Files) where
  holds_not_refused : (n : ℕ) → HoldsTable q files n → (before now : ShelfState)
      → before.held ≡ Some files → (line : List ℕ)
      → IsLong q before now n line ⊎ IsFaulty q before now n line → ⊥
  holds_not_refused n holds before now told = holding_not_refused q n files holds.bytes holds.held
      before now told holds.within holds.rows holds.are

  -- tables whose told files hold rows are not refused
  pub told_not_refused : (before now : ShelfState) (line : List ℕ) → before.held ≡ Some files
      → HoldsTables q files → RefusedAt q before now line → ⊥
  told_not_refused before now line told holds refused =
      let among = at_place (tables_of q) refused.1 refused.2 refused.3.here in
      holds_not_refused refused.2 (holds refused.2 among) before now told line refused.4

  -- the first that doesn't hold rows has one line
  pub one_line : (before now : ShelfState) (place : ℕ) → before.held ≡ Some files
      → (line other : List ℕ) → FirstRefused q files place line
      → RefusedAt q before now other → other ≡ line
  one_line before now place told line other first refused = elim (cases_lt refused.1 place) [
    | inl low ↦ absurd (holds_not_refused refused.2 (first.earlier refused.2 (among low))
        before now told other refused.4)
    | inr high ↦ elim (cases_eq refused.1 place) [
      | inl same ↦ here same
      | inr later ↦ absurd (beyond (omega (arith, high, later)))
    ]
  ]
    where
      among : refused.1 < place → Contains (take place (tables_of q)) refused.2
      among low = before_place (tables_of q) place refused.1 refused.2 low refused.3.here

      here : refused.1 ≡ place → other ≡ line
      here same = same_line q first.n files first.bytes first.held before now told line other
          first.why
          (subst (λ n. IsLong q before now n other ⊎ IsFaulty q before now n other)
          (one_there same) refused.4)
        where
          one_there : refused.1 ≡ place → refused.2 ≡ first.n
          one_there same = same_some (sym refused.3.here ∙ ap (slice_get (tables_of q)) same
              ∙ first.here)

      beyond : place < refused.1 → ⊥
      beyond low =
          let among = before_place (tables_of q) refused.1 place first.n low first.here in
          let has = refused.3.earlier first.n among in
          refused_has_none q first.n files first.bytes first.held line first.why has.0
          (subst (λ held. HasRows q held first.n has.0) told has.1)

  -- and where there is such a table, the tables have no rows
  pub no_rows : (data_ : Data) (place : ℕ) (line : List ℕ) → FirstRefused q files place line
      → AreRows q (Some files) data_ → ⊥
  no_rows data_ place line first rows =
      let among = at_place (tables_of q) place first.n first.here in
      refused_has_none q first.n files first.bytes first.held line first.why
      (slice_index_or data_ first.n []) (rows first.n among)
