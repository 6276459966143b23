-- The tables of a query that were read so far.
use Rattle.std.proofs.Common.{◌≡◌, ◌+◌, ◌<◌, ◌∙◌, ◌⊎◌, ℕ, zero, suc, List, [], ◌∷◌, length, map, take, refl, ap, sym, subst, arith, inl, inr, Option, None, Some, Ok, get_or, slice_get, slice_set, slice_index_or, unwrap_or, Contains, IsSome, IsSomeAnd}
use Rattle.std.proofs.lemmas.Bool.{cases_eq, cases_lt}
use Rattle.std.proofs.lemmas.List.{get_or-take, length-take, length-set}
use Rattle.std.proofs.lemmas.Option.{get_or_from_slice_get, slice_get-get_or}
use Rattle.std.proofs.Math.Seq.{take-length}
use Rattle.sb_outside.specs.Shelf.{ShelfState, GoesBy, Goes, NoFault, TellsMore, TellsRecords}
use Rattle.sb_outside.proofs.Laws.{goes_on, no_fault_on, fails_on}
use Rattle.star_model.specs.Answers.{Data}
use Rattle.star_model.specs.WellFormed.{WellFormedQuery}
use Rattle.star_model.specs.declared.catalogue.Value.{Value}
use Rattle.star_model.specs.declared.query.Query.{Query}
use Rattle.row_steps.specs.declared.tables.Tables.{Tables}
use Rattle.table_taking.specs.Limits.{most_table_bytes}
use Rattle.table_taking.specs.QueryTables.{tables_of, file_of, HasRows}
use Rattle.table_taking.specs.Taking.{CameTo, IsLong, IsFaulty, StoppedBy, TablesTaken}
use Rattle.table_taking.specs.OneTable.{NotTaken, TableTaken}
use Rattle.table_taking.specs.declared.stop.Stop.{Stop}
use Rattle.table_taking.specs.declared.stop.Stop.TheVariants.{Unread, Refused, Memory}
use Rattle.table_taking.proofs.FirstTables.{tables_are_there}

abbrev pub Rows : Type 0
Rows = List (List Value)

-- the rows by the numbers of their tables
abbrev pub rows_in : List (Option Rows) → Data
rows_in loaded = map (λ table. unwrap_or table []) loaded

-- of the tables of these numbers the first were read, by one call each, and are loaded
pub record CameAlong (query : Query) (before now : ShelfState) (numbers : List ℕ)
    (loaded : List (Option Rows)) (place : ℕ) : Type 0 where
  pub by : GoesBy place before now
  pub quiet : NoFault before now
  pub places : length loaded ≡ length query.catalogue.tables
  pub here : (m : ℕ) → Contains (take place numbers) m → IsSomeAnd (slice_get loaded m) IsSome
  pub rows : (m : ℕ) → Contains (take place numbers) m → HasRows query before.held m
      (slice_index_or (rows_in loaded) m [])

-- ---- lists

-- an item of the first so many and one more is that one or is among the first
in_more : (ns : List ℕ) (place n m : ℕ) → slice_get ns place ≡ Some n
    → Contains (take (place + 1) ns) m → Contains (take place ns) m ⊎ (m ≡ n)
in_more ns place n m is c = elim (cases_lt c.0 place) [
  | inl low ↦ inl (
    c.0,
    omega (arith, length-take {A = ℕ}, c.1, low),
    get_or-take place ns c.0 m low ∙ sym (get_or-take (place + 1) ns c.0 m (omega (arith, low)))
        ∙ c.2,
  )
  | inr high ↦ inr (
      let last : c.0 ≡ place = omega (arith, length-take {A = ℕ}, c.1, high) in
      sym c.2 ∙ get_or-take (place + 1) ns c.0 m (omega (arith, last))
      ∙ ap (λ k. get_or ns k m) last ∙ get_or_from_slice_get ns place n m is
      )
]

get_set_same : {X : Type 0} (xs : List X) (n : ℕ) (x : X) → n < length xs
    → slice_get (slice_set xs n x) n ≡ Some x
get_set_same [] n x h = absurd (omega arith)
get_set_same (y ∷ xs) zero x h = refl
get_set_same (y ∷ xs) (suc n) x h = get_set_same xs n x (omega arith)

get_set_other : {X : Type 0} (xs : List X) (n m : ℕ) (x : X) → (m ≡ n → ⊥)
    → slice_get (slice_set xs n x) m ≡ slice_get xs m
get_set_other [] n m x h = refl
get_set_other (y ∷ xs) zero zero x h = absurd (h refl)
get_set_other (y ∷ xs) zero (suc m) x h = refl
get_set_other (y ∷ xs) (suc n) zero x h = refl
get_set_other (y ∷ xs) (suc n) (suc m) x h = get_set_other xs n m x (λ e. h (ap suc e))

abbrev rows_of : Option (Option Rows) → Rows
rows_of None = []
rows_of (Some None) = []
rows_of (Some (Some rows)) = rows

rows_at : (loaded : List (Option Rows)) (m : ℕ) → slice_index_or (rows_in loaded) m []
    ≡ rows_of (slice_get loaded m)
rows_at [] m = refl
rows_at (None ∷ loaded) zero = refl
rows_at (Some rows ∷ loaded) zero = refl
rows_at (table ∷ loaded) (suc m) = rows_at loaded m

-- ---- the walk

module _ (query : Query) (before : ShelfState) (numbers : List ℕ) where
  module _ (mid now : ShelfState) (loaded : List (Option Rows)) (place n : ℕ)
      (along : CameAlong query before mid numbers loaded place)
      (at : slice_get numbers place ≡ Some n) (goes : Goes mid now) where
    pub one_along : (rows : Rows) (put : List (Option Rows)) → n < length query.catalogue.tables
        → TableTaken query mid now n (Ok rows) → put ≡ slice_set loaded n (Some rows)
        → CameAlong query before now numbers put (place + 1)
    one_along rows put there taken is = record {
      by = goes_on before mid now place 1 along.by goes;
      quiet = no_fault_on before mid now along.quiet taken.0;
      places = ap length is ∙ length-set loaded n (Some rows) ∙ along.places;
      here = λ m c. subst (λ o. IsSomeAnd o IsSome) (sym (ap (λ l. slice_get l m) is))
          (elim (cases_eq m n) [ inl same ↦ here_now m same | inr other ↦ here_before m other c ]);
      rows = λ m c. subst (HasRows query before.held m) (sym
          (rows_at put m ∙ ap (λ l. rows_of (slice_get l m)) is))
          (elim (cases_eq m n) [ inl same ↦ rows_now m same | inr other ↦ rows_before m other c ]);
    }
      where
        lies : n < length loaded
        lies = omega (arith, along.places, there)

        put_now : (m : ℕ) → m ≡ n → slice_get (slice_set loaded n (Some rows)) m ≡ Some (Some rows)
        put_now m same = ap (slice_get (slice_set loaded n (Some rows))) same
            ∙ get_set_same loaded n (Some rows) lies

        before_it : (m : ℕ) → (m ≡ n → ⊥) → Contains (take (place + 1) numbers) m
            → Contains (take place numbers) m
        before_it m other c = elim (in_more numbers place n m at c)
            [ inl c ↦ c | inr same ↦ absurd (other same) ]

        here_now : (m : ℕ) → m ≡ n → IsSomeAnd (slice_get (slice_set loaded n (Some rows)) m) IsSome
        here_now m same = subst (λ o. IsSomeAnd o IsSome) (sym (put_now m same)) refl

        here_before : (m : ℕ) → (m ≡ n → ⊥) → Contains (take (place + 1) numbers) m
            → IsSomeAnd (slice_get (slice_set loaded n (Some rows)) m) IsSome
        here_before m other c = subst (λ o. IsSomeAnd o IsSome)
            (sym (get_set_other loaded n m (Some rows) other)) (along.here m (before_it m other c))

        rows_now : (m : ℕ) → m ≡ n → HasRows query before.held m
            (rows_of (slice_get (slice_set loaded n (Some rows)) m))
        rows_now m same = subst (λ (o : Option (Option Rows)). HasRows query before.held m
            (rows_of o)) (sym (put_now m same))
            (subst (λ k. HasRows query before.held k rows) (sym same)
            (subst (λ told. HasRows query told n rows) along.by.held taken.1))

        rows_before : (m : ℕ) → (m ≡ n → ⊥) → Contains (take (place + 1) numbers) m
            → HasRows query before.held m (rows_of (slice_get (slice_set loaded n (Some rows)) m))
        rows_before m other c = subst (λ (o : Option (Option Rows)). HasRows query before.held m
            (rows_of o)) (sym (get_set_other loaded n m (Some rows) other))
            (subst (HasRows query before.held m) (rows_at loaded m)
            (along.rows m (before_it m other c)))

    came : numbers ≡ tables_of query → CameTo query before now place n
    came are = record {
      here = ap (λ ns. slice_get ns place) (sym are) ∙ at;
      earlier = λ m c. (
        slice_index_or (rows_in loaded) m [],
        along.rows m
            (subst (λ ns. Contains (take place ns) m) (sym are) c),
      );
      calls = omega (arith, along.by.calls.bound, goes.calls.bound);
    }

    long : (line : List ℕ) → IsLong query mid now n line → IsLong query before now n line
    long line is = record {
      more = subst (λ told. TellsMore told (file_of query n) most_table_bytes)
          along.by.held is.more;
      taken = omega (arith, is.taken, along.by.taken);
      tells = is.tells;
    }

    faulty : (line : List ℕ) → IsFaulty query mid now n line → IsFaulty query before now n line
    faulty line is = record {
      records = is.records;
      held = subst (λ told. TellsRecords told (file_of query n) most_table_bytes is.records) along.by.held
          is.held;
      fault = is.fault;
      first = is.first;
      tells = is.tells;
    }

    pub stops : (stop : Stop) → numbers ≡ tables_of query → NotTaken query mid now n stop
        → StoppedBy query before now stop
    stops (Unread line) are not = (
      place,
      n,
      came are,
      fails_on before mid now _ along.quiet not.0,
      not.1,
    )
    stops (Refused line) are not = (
      no_fault_on before mid now along.quiet not.0,
      place,
      n,
      came are,
      elim not.1 [ inl is ↦ inl (long _ is) | inr is ↦ inr (faulty _ is) ],
    )
    stops Memory are not = tt

  pub all_along : (now : ShelfState) (tables : Tables) (place : ℕ) → numbers ≡ tables_of query
      → place ≡ length numbers
      → CameAlong query before now numbers tables.loaded place
      → TablesTaken query before now (Ok tables)
  all_along now tables place are whole along = (
    along.quiet,
    (λ m c. along.here m (all m c)),
    (λ m c. along.rows m (all m c)),
  )
    where
      all : (m : ℕ) → Contains (tables_of query) m → Contains (take place numbers) m
      all m c = subst (λ ns. Contains ns m) (sym (ap (λ k. take k numbers) whole
          ∙ take-length numbers ∙ are)) c

-- the number at a place, where it is that of a table
module _ (query : Query) (numbers : List ℕ) (are : numbers ≡ tables_of query) (place : ℕ)
    (within : place < length numbers) where
  pub number_is : slice_get numbers place ≡ Some (slice_index_or numbers place 0)
  number_is = slice_get-get_or numbers place 0 within

  pub number_there : WellFormedQuery query
      → slice_index_or numbers place 0 < length query.catalogue.tables
  number_there formed = tables_are_there query formed place (slice_index_or numbers place 0)
      (ap (λ ns. slice_get ns place) (sym are) ∙ number_is)
