use Rattle.std.proofs.Common.{◌≡◌, ◌<◌, ◌+◌, ◌∷◌, ◌∙◌, sym, ap, refl, arith, [], true, false, ℕ, Option, Some, None, length, take, get_or, List}
use Rattle.std.specs.Option.{is_some}
use Rattle.star_model.specs.Vectors.{same_numbers}
use Rattle.star_model.specs.Data.{Record, header_of, place_in}
use Rattle.sb_outside.specs.Records.{record_at}
use Rattle.row_store.proofs.Places.{IsSoFar, passed, found, again, stands_twice}
use Rattle.std.proofs.lemmas.List.{take_all}
use Rattle.std.proofs.lemmas.Bool.Decides.{nat_tests}
use Rattle.row_store.proofs.header.place_of.Goals as goal
use Rattle.row_store.proofs.header.place_of.Goals.{then-eq+else-is_some, else-eq}

length-header : (fields : Record) → length (header_of fields) ≡ length fields
length-header [] = refl
length-header (f ∷ fs) = refl

twice : (header : Record) (name : List ℕ) (i : ℕ) → i < length header → (place : Option ℕ) → IsSoFar (same_numbers name) (take i header) place
    → same_numbers name (get_or header i []) ≡ true → true ≡ is_some place → None ≡ place_in header name
twice header name i within None h is some = absurd cc
twice header name i within (Some place) h is some = stands_twice header name (again (same_numbers name) header i [] within place h is)

once : (header : Record) (name : List ℕ) (i : ℕ) → i < length header → (place : Option ℕ) → IsSoFar (same_numbers name) (take i header) place
    → same_numbers name (get_or header i []) ≡ true → false ≡ is_some place → IsSoFar (same_numbers name) (take (i + 1) header) (Some i)
once header name i within None h is none = found (same_numbers name) header i [] within h is
once header name i within (Some place) h is none = absurd cc

pub returns-then-is_some-clause-place : goal.returns-then-is_some-clause-place
returns-then-is_some-clause-place c =
    let within : c.loop-field_no.field_no < length (header_of (record_at c.args.raw.now 0)) = omega (arith, length-header (record_at c.args.raw.now 0)) in
    twice (header_of (record_at c.args.raw.now 0)) c.args.name.now c.loop-field_no.field_no within c.loop-field_no.place c.loop-field_no.invariant
    (ap (same_numbers c.args.name.now) (sym c.header_field.ensures) ∙ sym c.eq.ensures ∙ c.if-eq.true) (sym c.if-is_some.true ∙ c.is_some.ensures)

pub loop-field_no-preserved : goal.loop-field_no-preserved
loop-field_no-preserved c =
    let within : c.loop-field_no.field_no < length (header_of (record_at c.args.raw.now 0)) = omega (arith, length-header (record_at c.args.raw.now 0)) in
    elim c.if-eq.branch [
      | then-eq+else-is_some w ↦ rw w.place-is (once (header_of (record_at c.args.raw.now 0)) c.args.name.now c.loop-field_no.field_no within c.loop-field_no.place c.loop-field_no.invariant
          (ap (same_numbers c.args.name.now) (sym c.header_field.ensures) ∙ sym c.eq.ensures ∙ w.if-eq.true) (sym w.if-is_some.false ∙ w.is_some.ensures))
      | else-eq w ↦ rw w.place-is (passed (same_numbers c.args.name.now) (header_of (record_at c.args.raw.now 0)) c.loop-field_no.field_no [] within c.loop-field_no.place c.loop-field_no.invariant
          (ap (same_numbers c.args.name.now) (sym c.header_field.ensures) ∙ sym c.eq.ensures ∙ w.if-eq.false))
    ]

at_end : (header : Record) (name : List ℕ) (place : Option ℕ) → IsSoFar (same_numbers name) header place → place ≡ place_in header name
at_end header name None h = grind (arith, nat_tests)
at_end header name (Some place) h = grind (arith, nat_tests)

pub returns-clause-place : goal.returns-clause-place
returns-clause-place c =
    let header = header_of (record_at c.args.raw.now 0) in
    let all : take c.loop-field_no.field_no header ≡ header = take_all c.loop-field_no.field_no header (omega (arith, length-header (record_at c.args.raw.now 0))) in
    at_end header c.args.name.now c.loop-field_no.place (rw all at c.loop-field_no.invariant)
