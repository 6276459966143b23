-- Tests of the columns that predicates have in a set of quantifiers.
use Rattle.std.proofs.Common.{◌≡◌, ℕ, Bool, ◌&&◌, List, [], ◌∷◌, refl, ap, sym, ◌∙◌, filter}
use Rattle.std.specs.List.{list_all, list_any, flat_map}
use Rattle.std.proofs.lemmas.List.Folds.{list_all-append}
use Rattle.std.proofs.lemmas.List.Elements.{filter-append}
use Rattle.star_model.specs.Sets.{has}
use Rattle.star_model.specs.Columns.{Columns, all_columns_in, has_column}
use Rattle.star_model.specs.Operators.{own_columns}
use Rattle.star_model.specs.Predicates.{columns_of, preds_in}
use Rattle.star_model.specs.Vectors.{same_column}
use Rattle.star_model.specs.declared.columns.Col.{Col}
use Rattle.star_model.specs.declared.query.Pred.{Pred}
use Rattle.star_model.specs.declared.query.Query.{Query}
use Rattle.lolepop.specs.OwnColumns.{own_in}

-- a test of each predicate's columns is one of all their columns
all_own : (test : Col → Bool) (s : ℕ) (preds : List Pred)
    → list_all (λ p. list_all test (own_in s p)) preds ≡ list_all test (filter (λ c. has s c.quant.0) (flat_map columns_of preds))
all_own test s [] = refl
all_own test s (p ∷ preds) =
    ap (λ b. list_all test (own_in s p) && b) (all_own test s preds)
    ∙ sym (list_all-append test (own_in s p) (filter (λ c. has s c.quant.0) (flat_map columns_of preds)))
    ∙ ap (list_all test) (sym (filter-append (λ c. has s c.quant.0) (columns_of p) (flat_map columns_of preds)))

pub all_had : (q : Query) (preds s : ℕ) (cols : Columns)
    → list_all (λ p. all_columns_in cols (own_in s p)) (preds_in q preds) ≡ all_columns_in cols (own_columns q preds s)
all_had q preds s cols = all_own (has_column cols) s (preds_in q preds)

pub all_listed : (q : Query) (preds s : ℕ) (list : List Col)
    → list_all (λ p. list_all (λ c. list_any (same_column c) list) (own_in s p)) (preds_in q preds) ≡ list_all (λ c. list_any (same_column c) list) (own_columns q preds s)
all_listed q preds s list = all_own (λ c. list_any (same_column c) list) s (preds_in q preds)
