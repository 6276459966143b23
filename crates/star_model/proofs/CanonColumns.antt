-- The canonical form of columns of a set's quantifiers has columns of these alone.
use Rattle.std.proofs.Common.{◌≡◌, ℕ, Bool, true, false, not, ◌&&◌, List, [], ◌∷◌, map, filter, cond, refl, sym, ◌∙◌}
use Rattle.std.specs.Prelude.{Some, None, if◌then◌else◌}
use Rattle.std.specs.List.{list_all, filter_map, cons_option}
use Rattle.std.proofs.lemmas.Bool.{and_parts, and_from}
use Rattle.star_model.specs.Sets.{has}
use Rattle.star_model.specs.Predicates.{preds_in}
use Rattle.star_model.specs.Vectors.{same_column}
use Rattle.star_model.specs.Canon.{ColPair, equal_columns, equality_within, equalities_within, least_equal, distinct, canon}
use Rattle.star_model.specs.declared.columns.Col.{Col}
use Rattle.star_model.specs.declared.query.Query.{Query}
use Rattle.star_model.specs.declared.query.Pred.{Pred}
use Rattle.star_model.specs.declared.query.Cmp.{Cmp}
use Rattle.star_model.specs.declared.query.Cmp.TheVariants as cmp
use Rattle.star_model.specs.declared.query.Operand.{Operand}
use Rattle.star_model.specs.declared.query.Operand.TheVariants as operand
use Rattle.star_model.proofs.CanonLaws.{Agree, least_kept}

abbrev are_of : ℕ → List Col → Bool
are_of s cols = list_all (λ c. has s c.quant.0) cols

of_filter : (s : ℕ) (test : Col → Bool) (cols : List Col) → are_of s cols ≡ true → are_of s (filter test cols) ≡ true
of_filter s test [] k = refl
of_filter s test (c ∷ cols) k = let p = and_parts _ _ k in pick (test c) p.0 (of_filter s test cols p.1)
  where
    pick : (b : Bool) → has s c.quant.0 ≡ true → are_of s (filter test cols) ≡ true → are_of s (cond b (c ∷ filter test cols) (filter test cols)) ≡ true
    pick true h rec = and_from _ _ h rec
    pick false h rec = rec

of_distinct : (s : ℕ) (cols : List Col) → are_of s cols ≡ true → are_of s (distinct cols) ≡ true
of_distinct s [] k = refl
of_distinct s (c ∷ cols) k = let p = and_parts _ _ k in and_from _ _ p.0 (of_filter s (λ d. not (same_column c d)) (distinct cols) (of_distinct s cols p.1))

-- both sides of an equality within the set are
agree_of : (s : ℕ) (ps : List Pred) → Agree (λ c. has s c.quant.0) (filter_map (equality_within s) ps)
agree_of s [] = tt
agree_of s (p ∷ ps) = one p.left p.cmp p.right (agree_of s ps)
  where
    one : (c : Col) (o : Cmp) (r : Operand) → Agree (λ c. has s c.quant.0) (filter_map (equality_within s) ps)
        → Agree (λ c. has s c.quant.0) (cons_option (equal_columns s c o r) (filter_map (equality_within s) ps))
    one c cmp.Eq (operand.Column d) rec = pick (has s c.quant.0) refl (has s d.quant.0) refl
      where
        pick : (x : Bool) → has s c.quant.0 ≡ x → (y : Bool) → has s d.quant.0 ≡ y
            → Agree (λ c. has s c.quant.0) (cons_option (if x && y then Some (c, d) else None) (filter_map (equality_within s) ps))
        pick true e true k = (e ∙ sym k, rec)
        pick true e false k = rec
        pick false e y k = rec
    one c cmp.Eq (operand.Constant v) rec = rec
    one c cmp.Ne r rec = rec
    one c cmp.Lt r rec = rec
    one c cmp.Le r rec = rec
    one c cmp.Gt r rec = rec
    one c cmp.Ge r rec = rec

of_least : (s : ℕ) (pairs : List ColPair) → Agree (λ c. has s c.quant.0) pairs → (cols : List Col) → are_of s cols ≡ true → are_of s (map (least_equal pairs) cols) ≡ true
of_least s pairs h [] k = refl
of_least s pairs h (c ∷ cols) k = let p = and_parts _ _ k in and_from _ _ (least_kept (λ c. has s c.quant.0) pairs h c ∙ p.0) (of_least s pairs h cols p.1)

pub canon_within : (q : Query) (preds s : ℕ) (cols : List Col) → are_of s cols ≡ true → are_of s (canon q preds s cols) ≡ true
unfolding canon
canon_within q preds s cols h = of_distinct s _ (of_least s (equalities_within q preds s) (agree_of s (preds_in q preds)) cols h)
