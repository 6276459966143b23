-- Members of an answer stand alike by a list of columns and by its canonical form.
use Rattle.std.proofs.Common.{◌≡◌, ℕ, ◌+◌, ◌<◌, ◌≤◌, ◌^◌, Bool, true, false, ◌&&◌, nat_eq, List, [], ◌∷◌, ◌++◌, map, filter, cond, refl, ap, sym, ◌∙◌, subst, ◌⊎◌, inl, inr, arith, length, get_or}
use Prim.Native.Nat.{zero, suc}
use Rattle.std.specs.Prelude.{Some, None, if◌then◌else◌, slice_index_or, pos, All, IsSortedBy, ◌↔◌}
use Rattle.std.specs.List.{list_all, filter_map, cons_option, find, range_with_len}
use Rattle.std.specs.Option.{option_map_or}
use Rattle.std.specs.Cmp.Lexicographic.{slice_cmp}
use Rattle.std.specs.declared.cmp.Ordering.{Ordering}
use Rattle.std.proofs.lemmas.Bool.{and_parts, eqb-true}
use Rattle.std.proofs.lemmas.Bool.Decides.{nat_tests}
use Rattle.star_model.specs.Sets.{has, members, places}
use Rattle.star_model.specs.Predicates.{preds_in}
use Rattle.star_model.specs.Answers.{Data, Assignment, position_of, rows_for, value_of, comparison_holds, value_of_operand, makes_true, IsAnswer, is_earlier, values_of_columns}
use Rattle.star_model.specs.declared.columns.Col.{Col}
use Rattle.star_model.specs.declared.catalogue.Value.{Value}
use Rattle.star_model.specs.declared.catalogue.Value.TheVariants as constant
use Rattle.star_model.specs.declared.query.Query.{Query}
use Rattle.star_model.specs.declared.query.Pred.{Pred}
use Rattle.star_model.specs.declared.query.Cmp.{Cmp}
use Rattle.star_model.specs.declared.query.Cmp.TheVariants as cmp
use Rattle.star_model.specs.declared.query.Operand.{Operand}
use Rattle.star_model.specs.declared.query.Operand.TheVariants as operand
use Rattle.star_model.proofs.SetLaws.{has-above}
use Rattle.star_model.specs.Canon.{ColPair, equal_columns, equality_within, equalities_within, canon}
use Rattle.star_model.proofs.CanonLaws.{In, Agree}
use Rattle.star_model.proofs.CanonOrder.{values_are, same_by_canon, stands_by_canon}

-- where the predicates are true, the two columns of each equality have one value
module _ (s : ℕ) (v : Col → Value) where
  abbrev says : Pred → Bool
  says p = comparison_holds p.cmp (v p.left) (elim p.right [ operand.Column c ↦ v c | operand.Constant x ↦ x ])

  agree_one : (c : Col) (o : Cmp) (r : Operand) (pairs : List ColPair) → comparison_holds o (v c) (elim r [ operand.Column d ↦ v d | operand.Constant x ↦ x ]) ≡ true
      → Agree v pairs → Agree v (cons_option (equal_columns s c o r) pairs)
  agree_one c cmp.Eq (operand.Column d) pairs h rest = pick (has s c.quant.0 && has s d.quant.0)
    where
      pick : (b : Bool) → Agree v (cons_option (if b then Some (c, d) else None) pairs)
      pick true = (values_are (v c) (v d) h, rest)
      pick false = rest
  agree_one c cmp.Eq (operand.Constant x) pairs h rest = rest
  agree_one c cmp.Ne r pairs h rest = rest
  agree_one c cmp.Lt r pairs h rest = rest
  agree_one c cmp.Le r pairs h rest = rest
  agree_one c cmp.Gt r pairs h rest = rest
  agree_one c cmp.Ge r pairs h rest = rest

  pub agree_where : (preds : List Pred) → list_all says preds ≡ true → Agree v (filter_map (equality_within s) preds)
  agree_where [] h = tt
  agree_where (p ∷ preds) h = let parts = and_parts _ _ h in agree_one p.left p.cmp p.right (filter_map (equality_within s) preds) parts.0 (agree_where preds parts.1)

-- ---- where an assignment makes the predicates true

module _ (q : Query) (d : Data) (s : ℕ) where
  says_so : (a : Assignment) (p : Pred) → makes_true q d a p ≡ says s (value_of q d a) p
  says_so a p = at p.right
    where
      at : (r : Operand) → comparison_holds p.cmp (value_of q d a p.left) (value_of_operand q d a r) ≡ comparison_holds p.cmp (value_of q d a p.left) (elim r [ operand.Column c ↦ value_of q d a c | operand.Constant x ↦ x ])
      at (operand.Column c) = refl
      at (operand.Constant x) = refl

  all_say : (a : Assignment) (ps : List Pred) → list_all (makes_true q d a) ps ≡ true → list_all (says s (value_of q d a)) ps ≡ true
  all_say a [] h = refl
  all_say a (p ∷ ps) h = let parts = and_parts _ _ h in (λ i. (sym (says_so a p) ∙ parts.0) i && list_all (says s (value_of q d a)) ps) ∙ all_say a ps parts.1

  agree_true : (preds : ℕ) (a : Assignment) → list_all (makes_true q d a) (preds_in q preds) ≡ true → Agree (value_of q d a) (equalities_within q preds s)
  agree_true preds a h = agree_where s (value_of q d a) (preds_in q preds) (all_say a (preds_in q preds) h)

  -- two that do compare alike by a list of columns and by its canonical form
  pub compared_by_canon : (R : Value → Value → Ordering) (preds : ℕ) (cols : List Col) (a b : Assignment)
      → list_all (makes_true q d a) (preds_in q preds) ≡ true → list_all (makes_true q d b) (preds_in q preds) ≡ true
      → slice_cmp R (values_of_columns q d (canon q preds s cols) a) (values_of_columns q d (canon q preds s cols) b) ≡ slice_cmp R (values_of_columns q d cols a) (values_of_columns q d cols b)
  unfolding canon
  compared_by_canon R preds cols a b h k = same_by_canon R (value_of q d a) (value_of q d b) (equalities_within q preds s) (agree_true preds a h) (agree_true preds b k) cols

-- ---- an outer assignment doesn't count for the columns of the answer's own quantifiers

In-range : (low count n : ℕ) → low ≤ n → n < low + count → In n (range_with_len low count)
In-range low zero n a b = absurd (omega (arith, a, b))
In-range low (suc count) n a b = pick (nat_eq n low) refl (λ l k. In-range (low + 1) count n l k)
  where
    pick : (t : Bool) → nat_eq n low ≡ t → (low + 1 ≤ n → n < low + 1 + count → In n (range_with_len (low + 1) count)) → (n ≡ low) ⊎ In n (range_with_len (low + 1) count)
    pick true e rec = inl (eqb-true n low e)
    pick false e rec = let further : low + 1 ≤ n = grind (arith, nat_tests) in inr (rec further (omega (arith, b)))

In-filter : {X : Type 0} (p : X → Bool) (x : X) (xs : List X) → In x xs → p x ≡ true → In x (filter p xs)
In-filter p x [] h t = absurd h
In-filter p x (y ∷ xs) h t = pick (p y) refl h (λ i. In-filter p x xs i t)
  where
    pick : (b : Bool) → p y ≡ b → (x ≡ y) ⊎ In x xs → (In x xs → In x (filter p xs)) → In x (cond b (y ∷ filter p xs) (filter p xs))
    pick true e (inl is) rec = inl is
    pick true e (inr i) rec = inr (rec i)
    pick false e (inl is) rec = let no : false ≡ true = sym e ∙ sym (ap p is) ∙ t in cc
    pick false e (inr i) rec = rec i

member_in : (s n : ℕ) → s < 2 ^ 32 → has s n ≡ true → In n (members s)
unfolding members places
member_in s n fits h =
    let no : 32 ≤ n → ⊥ = λ l. let e : false ≡ true = sym (has-above s n fits l) ∙ h in cc in
    In-filter (has s) n (range_with_len 0 32) (In-range 0 32 n (omega arith) (omega (arith, no))) h

found_first : (a outer : Assignment) (n : ℕ) → In n (map (λ p. p.0) a) → position_of (a ++ outer) n ≡ position_of a n
found_first [] outer n h = absurd h
found_first (p ∷ a) outer n h = pick (nat_eq p.0 n) refl h (λ i. found_first a outer n i)
  where
    pick : (t : Bool) → nat_eq p.0 n ≡ t → (n ≡ p.0) ⊎ In n (map (λ p. p.0) a) → (In n (map (λ p. p.0) a) → position_of (a ++ outer) n ≡ position_of a n)
        → option_map_or (λ r. r.1) (cond t (Some p) (find (λ r. nat_eq r.0 n) (a ++ outer))) 0 ≡ option_map_or (λ r. r.1) (cond t (Some p) (find (λ r. nat_eq r.0 n) a)) 0
    pick true e i rec = refl
    pick false e (inl is) rec = let no : ⊥ = grind (arith, nat_tests) in absurd no
    pick false e (inr i) rec = rec i

own_value : (q : Query) (d : Data) (a outer : Assignment) (c : Col) → In c.quant.0 (map (λ p. p.0) a) → value_of q d (a ++ outer) c ≡ value_of q d a c
own_value q d a outer c h = ap (λ n. slice_index_or (slice_index_or (rows_for q d c.quant.0) n []) c.column (constant.Int (pos 0))) (found_first a outer c.quant.0 h)

-- ---- members of an answer

module _ (q : Query) (d : Data) (s preds : ℕ) (fits : s < 2 ^ 32) (outer : Assignment) where
  own_here : (a : Assignment) → map (λ p. p.0) a ≡ members s → (c : Col) → has s c.quant.0 ≡ true → value_of q d (a ++ outer) c ≡ value_of q d a c
  own_here a quants c h = own_value q d a outer c (subst (In c.quant.0) (sym quants) (member_in s c.quant.0 fits h))

  inside_one : (a : Assignment) → map (λ p. p.0) a ≡ members s → (c : Col) (o : Cmp) (r : Operand) (pairs : List ColPair)
      → (Agree (value_of q d (a ++ outer)) pairs → Agree (value_of q d a) pairs)
      → Agree (value_of q d (a ++ outer)) (cons_option (equal_columns s c o r) pairs) → Agree (value_of q d a) (cons_option (equal_columns s c o r) pairs)
  inside_one a quants c cmp.Eq (operand.Column e) pairs rec h = pick (has s c.quant.0) refl (has s e.quant.0) refl h
    where
      pick : (x : Bool) → has s c.quant.0 ≡ x → (y : Bool) → has s e.quant.0 ≡ y
          → Agree (value_of q d (a ++ outer)) (cons_option (if x && y then Some (c, e) else None) pairs) → Agree (value_of q d a) (cons_option (if x && y then Some (c, e) else None) pairs)
      pick true k true l g = (sym (own_here a quants c k) ∙ g.0 ∙ own_here a quants e l, rec g.1)
      pick true k false l g = rec g
      pick false k y l g = rec g
  inside_one a quants c cmp.Eq (operand.Constant x) pairs rec h = rec h
  inside_one a quants c cmp.Ne r pairs rec h = rec h
  inside_one a quants c cmp.Lt r pairs rec h = rec h
  inside_one a quants c cmp.Le r pairs rec h = rec h
  inside_one a quants c cmp.Gt r pairs rec h = rec h
  inside_one a quants c cmp.Ge r pairs rec h = rec h

  inside : (a : Assignment) → map (λ p. p.0) a ≡ members s → (ps : List Pred)
      → Agree (value_of q d (a ++ outer)) (filter_map (equality_within s) ps) → Agree (value_of q d a) (filter_map (equality_within s) ps)
  inside a quants [] h = tt
  inside a quants (p ∷ ps) h = inside_one a quants p.left p.cmp p.right (filter_map (equality_within s) ps) (inside a quants ps) h

  agree_in : (a : Assignment) → IsAnswer q d s preds outer a → Agree (value_of q d a) (equalities_within q preds s)
  agree_in a h = inside a h.quantifiers (preds_in q preds) (agree_true q d s preds (a ++ outer) h.true_)

  -- of two members of an answer one is earlier by a list of columns exactly where it is by the canonical form
  pub earlier_by_canon : (cols : List Col) (a b : Assignment) → IsAnswer q d s preds outer a → IsAnswer q d s preds outer b → is_earlier q d (canon q preds s cols) a b ≡ is_earlier q d cols a b
  unfolding canon
  earlier_by_canon cols a b h k = stands_by_canon (value_of q d a) (value_of q d b) (equalities_within q preds s) (agree_in a h) (agree_in b k) cols

  abbrev Member : Assignment → Type 0
  Member a = IsAnswer q d s preds outer a

  -- a list of members is sorted by a list of columns exactly where it is by the canonical form
  pub sorted_by_canon : (cols : List Col) (list : List Assignment) → All Member list → IsSortedBy (is_earlier q d (canon q preds s cols)) list ↔ IsSortedBy (is_earlier q d cols) list
  sorted_by_canon cols list all = (
    (λ h k e low high. sym (same k e high) ∙ h k e low high),
    (λ h k e low high. same k e high ∙ h k e low high),
  )
    where
      same : (k : ℕ) (e : Assignment) → k + 1 < length list → is_earlier q d (canon q preds s cols) (get_or list (k + 1) e) (get_or list k e) ≡ is_earlier q d cols (get_or list (k + 1) e) (get_or list k e)
      same k e high = earlier_by_canon cols (get_or list (k + 1) e) (get_or list k e) (all (k + 1) e high) (all k e (omega (arith, high)))
