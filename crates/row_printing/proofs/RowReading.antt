-- How rows are read.
use Rattle.std.proofs.Common.{◌≡◌, ℕ, ◌<◌, ◌≤◌, Bool, true, false, List, [], ◌∷◌, ◌++◌, length, map, refl, ap, ◌∙◌, sym, inl, inr, arith, append_assoc}
use Rattle.std.specs.Prelude.{nat_eq, slice_index_or, Option, Some, cond, pos}
use Rattle.std.specs.List.{find}
use Rattle.std.specs.Option.{option_map_or}
use Rattle.std.proofs.lemmas.Bool.{cases_lt}
use Rattle.std.proofs.lemmas.List.FromFn.{fill_by_all, get_or-map-range_with_len, length-map-range_with_len}
use Rattle.std.proofs.lemmas.Option.{slice_get_past}
use Rattle.star_model.specs.Answers.{Data, Assignment, rows_for, position_of, value_of, values_of_columns}
use Rattle.star_model.specs.WellFormed.{WellFormedQuery}
use Rattle.star_model.specs.declared.catalogue.Value.{Value}
use Rattle.star_model.specs.declared.catalogue.Value.TheVariants.{Int}
use Rattle.star_model.specs.declared.columns.Col.{Col}
use Rattle.star_model.specs.declared.query.Query.{Query}
use Rattle.star_model.specs.declared.query.QuantDef.{QuantDef}
use Rattle.listed_rows.specs.Environments.{Env, at, assigned, key}
use Rattle.listed_rows.specs.Picks.{whole}
use Rattle.listed_rows.proofs.Laws.{position}
use Rattle.row_printing.specs.Picks.{pair_of}
use Rattle.row_printing.specs.RowLines.{value_text, with_commas, row_line}
use Rattle.row_printing.specs.declared.rows.Pick.{Pick}

-- the position is that of the first pick of the quantifier
pub position_is : (picks : List Pick) (n : ℕ) → position_of (map pair_of picks) n ≡ option_map_or (λ p. p.row) (find (λ p. nat_eq p.quant.0 n) picks) 0
position_is [] n = refl
position_is (p ∷ picks) n = by_case (nat_eq p.quant.0 n) (position_is picks n)
  where
    by_case : (here : Bool) → position_of (map pair_of picks) n ≡ option_map_or (λ p. p.row) (find (λ p. nat_eq p.quant.0 n) picks) 0
        → option_map_or (λ p. p.1) (cond here (Some (pair_of p)) (find (λ p. nat_eq p.0 n) (map pair_of picks))) 0
        ≡ option_map_or (λ p. p.row) (cond here (Some p) (find (λ p. nat_eq p.quant.0 n) picks)) 0
    by_case true rest = refl
    by_case false rest = rest

-- ---- the environment of a row

pub whole_from : (a : Assignment) (e : Env) → length e ≡ 12 → ((k : ℕ) → k < 12 → at e k ≡ position_of a k) → e ≡ whole a
unfolding whole
whole_from a e long h = fill_by_all (λ n. position_of a n) e 12 0 long h

length-whole : (a : Assignment) → length (whole a) ≡ 12
unfolding whole
length-whole a = length-map-range_with_len (λ n. position_of a n) 0 12

at-whole : (a : Assignment) (n : ℕ) → n < 12 → at (whole a) n ≡ position_of a n
unfolding whole
at-whole a n low = get_or-map-range_with_len (λ n. position_of a n) 0 12 n n 0 low (omega arith)

-- a quantifier that the query hasn't has no rows
no_rows : (q : Query) (d : Data) (n : ℕ) → length q.quants ≤ n → rows_for q d n ≡ []
no_rows q d n h = ap (λ (o : Option QuantDef). option_map_or (λ i. slice_index_or d i.table []) o []) (slice_get_past q.quants n h)

value_at_row : List (List Value) → ℕ → ℕ → Value
value_at_row rows n column = slice_index_or (slice_index_or rows n []) column (Int (pos 0))

none_there : (rows : List (List Value)) (m n column : ℕ) → rows ≡ [] → value_at_row rows m column ≡ value_at_row rows n column
unfolding value_at_row
none_there rows m n column none =
    ap (λ (r : List (List Value)). slice_index_or (slice_index_or r m []) column (Int (pos 0))) none
    ∙ sym (ap (λ (r : List (List Value)). slice_index_or (slice_index_or r n []) column (Int (pos 0))) none)

same_value : (q : Query) (d : Data) → WellFormedQuery q → (a : Assignment) (c : Col) → value_of q d (assigned (whole a)) c ≡ value_of q d a c
unfolding value_at_row
same_value q d formed a c = elim (cases_lt c.quant.0 12) [
  | inl low ↦ ap (λ n. value_at_row (rows_for q d c.quant.0) n c.column) (position (whole a) c.quant.0 (length-whole a) ∙ at-whole a c.quant.0 low)
  | inr high ↦ none_there (rows_for q d c.quant.0) (position_of (assigned (whole a)) c.quant.0) (position_of a c.quant.0) c.column
      (no_rows q d c.quant.0 (omega (arith, high, formed.some_quantifiers.1)))
]

-- a row has the values of its environment
same_values : (q : Query) (d : Data) → WellFormedQuery q → (a : Assignment) (cols : List Col) → values_of_columns q d cols (assigned (whole a)) ≡ values_of_columns q d cols a
same_values q d formed a [] = refl
same_values q d formed a (c ∷ cols) = λ i. same_value q d formed a c i ∷ same_values q d formed a cols i

-- ---- lines

pub line_made : (q : Query) (d : Data) → WellFormedQuery q → (a : Assignment) (env : Env) (cols : List Col) (old middle new : List ℕ) → env ≡ whole a → cols ≡ q.select
    → middle ≡ old ++ with_commas (map value_text (key q d cols env)) → new ≡ middle ++ 10 ∷ [] → new ≡ old ++ row_line (values_of_columns q d q.select a)
line_made q d formed a env cols old middle new here all values made =
    let same : key q d cols env ≡ values_of_columns q d q.select a = (λ i. key q d (all i) (here i)) ∙ same_values q d formed a q.select in
    made ∙ ap (λ front. front ++ 10 ∷ []) (values ∙ ap (λ list. old ++ with_commas (map value_text list)) same)
    ∙ append_assoc old (with_commas (map value_text (values_of_columns q d q.select a))) (10 ∷ [])
