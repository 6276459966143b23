-- The rows of two small tables of words, and what a query over them asks for.
use Rattle.std.specs.Prelude.{List, [], ◌∷◌, codes}
use Rattle.star_model.specs.Answers.{Data, Lists}
use Rattle.star_model.specs.declared.catalogue.Value.{Value}
use Rattle.worked_plans.specs.Queries as query
use Rattle.worked_plans.specs.Tables.{integer, text}

-- the tables of words.catalogue: l has two rows, r three
abbrev pub word_rows : Data
word_rows =
    ((text (codes "b") ∷ []) ∷ (text (codes "a") ∷ []) ∷ [])
    ∷ ((text (codes "a") ∷ integer 7 ∷ []) ∷ (text (codes "c") ∷ integer 2 ∷ []) ∷ (text (codes "b") ∷ integer 5 ∷ []) ∷ [])
    ∷ []

-- of l's first row and r's last, and of l's last and r's first
abbrev pub row_b : List Value
row_b = text (codes "b") ∷ integer 5 ∷ []

abbrev pub row_a : List Value
row_a = text (codes "a") ∷ integer 7 ∷ []

-- these are the rows that same_words.query asks for
abbrev pub AreAnswer : List (List Value) → Type 0
AreAnswer rows = Lists query.same_words word_rows rows
