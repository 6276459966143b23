-- One text spells one derivation.
use Rattle.std.proofs.Common.{◌≡◌, ℕ, zero, suc, ◌+◌, ◌<◌, ◌≤◌, Bool, true, false, cond, List, [], ◌∷◌, ◌++◌, map, filter, Option, Some, None, codes, refl, sym, ap, ◌∙◌, subst, arith, append_assoc, append-nil, eq-or-lt_of_le, inl, inr}
use Rattle.std.specs.List.{range_with_len}
use Rattle.star_model.proofs.Laws.{same_set, same_flavour_word}
use Rattle.star_model.specs.Sets.{places, has, members}
use Rattle.star_model.specs.declared.plans.GlueOp.{GlueOp}
use Rattle.star_model.specs.declared.plans.GlueOp.TheVariants as glue
use Rattle.star_model.specs.declared.plans.Goal as model
use Rattle.star_model.specs.declared.rules.Flavour.{Flavour}
use Rattle.star_model.specs.declared.rules.Flavour.TheVariants as flavour
use Rattle.star_model.specs.declared.derivations.Deriv.{Deriv}
use Rattle.star_model.specs.declared.derivations.Deriv.TheVariants as made
use Rattle.star_model.specs.DerivCases as d
use Rattle.spelling.specs.Lexemes.{Lexeme, Word, Number, left_brace, right_brace, comma, joined_by}
use Rattle.spelling.specs.Names.{found_in}
use Rattle.star_model.specs.FlavourWords.{flavour_word}
use Rattle.star_model.specs.Kinds.{inputs_of}
use Rattle.derivation_reading.specs.Derivations.{Step, Glue, Goal, Reference, Operator, glue_word, set_lexemes, split_lexemes, statement_of, IsMask, AreMasks, IsStep, steps, statements_of, HasInputs, IsWritable, SpellsDerivation}
use Rattle.spelling.proofs.Laws.{one_list}
use Rattle.spelling.specs.SpelledSeries.{same_lists, same_maps, series, anything, heads, tails, apart}

-- ---- sets

-- what a filter leaves of a list, by the test of its first
left_by : Bool → ℕ → List ℕ → List ℕ
left_by b k later = cond b (k ∷ later) later

first_at : (b : Bool) (k : ℕ) (later : List ℕ) (x : ℕ) (xs : List ℕ) → left_by b k later ≡ x ∷ xs → (later ≡ x ∷ xs → k + 1 ≤ x) → k ≤ x
unfolding left_by
first_at true k later x xs e above = let g : k ≡ x = cc in omega (arith, g)
first_at false k later x xs e above = omega (arith, above e)

-- the first number that passes is not below the first of the range
first_of_range : (test : ℕ → Bool) (k n x : ℕ) (xs : List ℕ) → filter test (range_with_len k n) ≡ x ∷ xs → k ≤ x
unfolding left_by
first_of_range test k zero x xs e = cc
first_of_range test k (suc n) x xs e =
    first_at (test k) k (filter test (range_with_len (k + 1) n)) x xs e (λ f. first_of_range test (k + 1) n x xs f)

same_front : (b c : Bool) (k : ℕ) (P Q : List ℕ) → left_by b k P ≡ left_by c k Q → ((xs : List ℕ) → P ≡ k ∷ xs → ⊥) → ((xs : List ℕ) → Q ≡ k ∷ xs → ⊥) → (b ≡ c) × (P ≡ Q)
unfolding left_by
same_front true true k P Q e f g = let t : P ≡ Q = cc in (refl, t)
same_front true false k P Q e f g = absurd (g P (sym e))
same_front false true k P Q e f g = absurd (f Q e)
same_front false false k P Q e f g = (refl, e)

not_first : (test : ℕ → Bool) (k n : ℕ) (xs : List ℕ) → filter test (range_with_len (k + 1) n) ≡ k ∷ xs → ⊥
not_first test k n xs e = let low = first_of_range test (k + 1) n k xs e in omega (arith, low)

same_tests : (p q : ℕ → Bool) (k n i : ℕ) → filter p (range_with_len k n) ≡ filter q (range_with_len k n) → k ≤ i → i < k + n → p i ≡ q i
unfolding left_by
same_tests p q k zero i e low high = absurd (omega arith)
same_tests p q k (suc n) i e low high =
    let front = same_front (p k) (q k) k (filter p (range_with_len (k + 1) n)) (filter q (range_with_len (k + 1) n)) e (not_first p k n) (not_first q k n) in
    elim (eq-or-lt_of_le low) [
      | inl same ↦ subst (λ (j : ℕ). p j ≡ q j) same front.0
      | inr above ↦ same_tests p q (k + 1) n i front.1 (omega (arith, above)) (omega arith)
    ]

same_members : (s t : ℕ) → IsMask s → IsMask t → members s ≡ members t → s ≡ t
unfolding members places
same_members s t p q e = same_set s t p q (λ n l. same_tests (has s) (has t) 0 32 n e (omega arith) (omega arith))

-- ---- sets as lexemes

abbrev number : ℕ → List Lexeme
number n = Number (n + 1) ∷ []

same_number : (n m : ℕ) (r s : List Lexeme) → Unit {0} → Unit {0} → Unit {0} → Unit {0} → number n ++ r ≡ number m ++ s → (n ≡ m) × (r ≡ s)
same_number n m r s _ _ _ _ e =
    let more : n + 1 ≡ m + 1 = cc in
    let later : r ≡ s = cc in
    (omega (arith, more), later)

no_number : (n : ℕ) (ns : List ℕ) (r s : List Lexeme) → joined_by comma (map number (n ∷ ns)) ++ r ≡ right_brace ∷ s → ⊥
no_number n [] r s e = cc
no_number n (m ∷ ns) r s e = cc

no_comma : (r t : List Lexeme) → right_brace ∷ r ≡ comma ∷ t → ⊥
no_comma r t e = cc

both : (x y : ℕ) (xs ys : List ℕ) (r s : List Lexeme) → joined_by comma (map number (x ∷ xs)) ++ right_brace ∷ r ≡ joined_by comma (map number (y ∷ ys)) ++ right_brace ∷ s → (x ∷ xs ≡ y ∷ ys) × (r ≡ s)
both x y xs ys r s e =
    let one = series number (λ _. Unit {0}) (λ _. Unit {0}) comma (λ _. tt) same_number (x ∷ xs) (y ∷ ys) (right_brace ∷ r) (right_brace ∷ s) tt tt (anything (x ∷ xs)) (anything (y ∷ ys)) (tt, no_comma r) (tt, no_comma s) e in
    (one.0, tails right_brace r s one.1)

same_numbers_before : (xs ys : List ℕ) (r s : List Lexeme) → joined_by comma (map number xs) ++ right_brace ∷ r ≡ joined_by comma (map number ys) ++ right_brace ∷ s → (xs ≡ ys) × (r ≡ s)
same_numbers_before [] [] r s e = (refl, tails right_brace r s e)
same_numbers_before [] (y ∷ ys) r s e = absurd (no_number y ys (right_brace ∷ s) r (sym e))
same_numbers_before (x ∷ xs) [] r s e = absurd (no_number x xs (right_brace ∷ r) s e)
same_numbers_before (x ∷ xs) (y ∷ ys) r s e = both x y xs ys r s e

same_sets : (s t : ℕ) (q r : List Lexeme) → IsMask s → IsMask t → set_lexemes s ++ q ≡ set_lexemes t ++ r → (s ≡ t) × (q ≡ r)
same_sets s t q r p o e =
    let inner : (joined_by comma (map number (members s)) ++ right_brace ∷ []) ++ q ≡ (joined_by comma (map number (members t)) ++ right_brace ∷ []) ++ r = tails left_brace _ _ e in
    let one = same_numbers_before (members s) (members t) q r
    (sym (append_assoc (joined_by comma (map number (members s))) (right_brace ∷ []) q) ∙ inner ∙ append_assoc (joined_by comma (map number (members t))) (right_brace ∷ []) r) in
    (same_members s t p o one.0, one.1)

-- ---- statements

decode_glue : Lexeme → GlueOp
decode_glue (Word bytes) = found_in glue.Store ((codes "sort", glue.Sort) ∷ (codes "ship", glue.Ship) ∷ []) bytes
decode_glue _ = glue.Store

decoded_glue : (o : GlueOp) → o ≡ decode_glue (Word (glue_word o))
unfolding decode_glue
decoded_glue glue.Sort = refl
decoded_glue glue.Ship = refl
decoded_glue glue.Store = refl

same_glue : (x y : GlueOp) → Word (glue_word x) ≡ Word (glue_word y) → x ≡ y
same_glue x y e = decoded_glue x ∙ ap decode_glue e ∙ sym (decoded_glue y)

same_value : (n m : ℕ) → Number n ≡ Number m → n ≡ m
same_value n m e = cc

same_splits : (a b : Option (ℕ × ℕ)) → AreMasks a → AreMasks b → split_lexemes a ≡ split_lexemes b → a ≡ b
same_splits None None p q e = refl
same_splits None (Some b) p q e = cc
same_splits (Some a) None p q e = cc
same_splits (Some a) (Some b) p q e =
    let rest : set_lexemes a.0 ++ set_lexemes a.1 ≡ set_lexemes b.0 ++ set_lexemes b.1 = tails _ _ _ e in
    let one = same_sets a.0 b.0 (set_lexemes a.1) (set_lexemes b.1) p.0 q.0 rest in
    let two = same_sets a.1 b.1 [] [] p.1 q.1 (append-nil (set_lexemes a.1) ∙ one.1 ∙ sym (append-nil (set_lexemes b.1))) in
    λ i. Some (one.0 i, two.0 i)

same_goals : (g h : model.Goal) (a b : Option (ℕ × ℕ)) → IsStep (Goal g a) → IsStep (Goal h b) → statement_of (Goal g a) ≡ statement_of (Goal h b) → Goal g a ≡ Goal h b
same_goals g h a b p q e =
    let rest = tails _ _ _ e in
    let tables = same_sets g.tables h.tables _ _ p.0 q.0 rest in
    let pushed = same_sets g.pushed h.pushed _ _ p.1 q.1 (tails _ _ _ tables.1) in
    let splits = same_splits a b p.2 q.2 pushed.1 in
    λ i. Goal (record { tables = tables.0 i; pushed = pushed.0 i }) (splits i)

word_is : (a b : List ℕ) → Word a ≡ Word b → a ≡ b
word_is a b e = cc

-- which of the four a statement is, by its first word
abbrev first_word : Step → List ℕ
first_word (Glue chain) = codes "glue"
first_word (Goal g split) = codes "goal"
first_word (Reference star n values) = codes "ref"
first_word (Operator f) = flavour_word f

form_of : Lexeme → ℕ
form_of (Word bytes) = found_in 3 ((codes "glue", 0) ∷ (codes "goal", 1) ∷ (codes "ref", 2) ∷ []) bytes
form_of _ = 3

flavour_form : (f : Flavour) → form_of (Word (flavour_word f)) ≡ 3
unfolding form_of
flavour_form flavour.AccessHeap = refl
flavour_form flavour.AccessIndex = refl
flavour_form flavour.Get = refl
flavour_form flavour.Filter = refl
flavour_form flavour.Sort = refl
flavour_form flavour.Store = refl
flavour_form flavour.Ship = refl
flavour_form flavour.Probe = refl
flavour_form flavour.JoinNl = refl
flavour_form flavour.JoinMerge = refl
flavour_form flavour.JoinHash = refl
flavour_form flavour.Intersect = refl

not_flavour : (word : List ℕ) (f : Flavour) (r s : List Lexeme) → (form_of (Word word) ≡ 3 → ⊥) → Word word ∷ r ≡ Word (flavour_word f) ∷ s → ⊥
not_flavour word f r s other e = other (ap form_of (heads _ _ r s e).0 ∙ flavour_form f)

no_form : (n : ℕ) → n < 3 → n ≡ 3 → ⊥
no_form n low e = omega (arith, low, e)

glue_is : form_of (Word (codes "glue")) ≡ 3 → ⊥
unfolding form_of
glue_is e = cc

goal_is : form_of (Word (codes "goal")) ≡ 3 → ⊥
unfolding form_of
goal_is e = cc

ref_is : form_of (Word (codes "ref")) ≡ 3 → ⊥
unfolding form_of
ref_is e = cc

pub same_step : (x y : Step) → IsStep x → IsStep y → statement_of x ≡ statement_of y → x ≡ y
same_step (Glue a) (Glue b) p q e = ap Glue (same_maps (λ o. Word (glue_word o)) same_glue a b (tails _ _ _ e))
same_step (Glue a) (Goal h s) p q e = absurd (apart (codes "glue") (codes "goal") _ _ refl e)
same_step (Glue a) (Reference t m v) p q e = absurd (apart (codes "glue") (codes "ref") _ _ refl e)
same_step (Glue a) (Operator g) p q e = absurd (not_flavour (codes "glue") g _ _ glue_is e)
same_step (Goal g r) (Glue b) p q e = absurd (apart (codes "goal") (codes "glue") _ _ refl e)
same_step (Goal g r) (Goal h s) p q e = same_goals g h r s p q e
same_step (Goal g r) (Reference t m v) p q e = absurd (apart (codes "goal") (codes "ref") _ _ refl e)
same_step (Goal g r) (Operator f) p q e = absurd (not_flavour (codes "goal") f _ _ goal_is e)
same_step (Reference s n u) (Glue b) p q e = absurd (apart (codes "ref") (codes "glue") _ _ refl e)
same_step (Reference s n u) (Goal h r) p q e = absurd (apart (codes "ref") (codes "goal") _ _ refl e)
same_step (Reference s n u) (Reference t m v) p q e =
    let star : s ≡ t = cc in
    let alternative : n ≡ m = cc in
    let rest : map Number u ≡ map Number v = cc in
    let values = same_maps Number same_value u v rest in
    λ i. Reference (star i) (alternative i) (values i)
same_step (Reference s n u) (Operator f) p q e = absurd (not_flavour (codes "ref") f _ _ ref_is e)
same_step (Operator f) (Glue b) p q e = absurd (not_flavour (codes "glue") f _ _ glue_is (sym e))
same_step (Operator f) (Goal h s) p q e = absurd (not_flavour (codes "goal") f _ _ goal_is (sym e))
same_step (Operator f) (Reference t m v) p q e = absurd (not_flavour (codes "ref") f _ _ ref_is (sym e))
same_step (Operator f) (Operator g) p q e = ap Operator (same_flavour_word f g (word_is _ _ (heads _ _ _ _ e).0))

-- ---- the tree of a list of steps, read from its end

by_inputs : ℕ → Flavour → List Deriv → List Deriv
by_inputs zero f ts = made.Leaf f ∷ ts
by_inputs (suc zero) f (a ∷ ts) = d.Unary f a ∷ ts
by_inputs (suc (suc n)) f (a ∷ (b ∷ ts)) = d.Binary f a b ∷ ts
by_inputs _ f ts = []

-- a step over the trees behind it
over : Step → List Deriv → List Deriv
over (Glue chain) (a ∷ ts) = d.Glue chain a ∷ ts
over (Goal g split) (a ∷ ts) = d.Goal g split a ∷ ts
over (Reference star n values) (a ∷ ts) = d.Reference star n values a ∷ ts
over (Operator f) ts = by_inputs (inputs_of f) f ts
over _ ts = []

grown : List Step → List Deriv
grown [] = []
grown (x ∷ xs) = over x (grown xs)

leaf_grows : (f : Flavour) (ts : List Deriv) → inputs_of f ≡ 0 → over (Operator f) ts ≡ made.Leaf f ∷ ts
unfolding over by_inputs
leaf_grows f ts h = ap (λ n. by_inputs n f ts) h

unary_grows : (f : Flavour) (a : Deriv) (ts : List Deriv) → inputs_of f ≡ 1 → over (Operator f) (a ∷ ts) ≡ d.Unary f a ∷ ts
unfolding over by_inputs
unary_grows f a ts h = ap (λ n. by_inputs n f (a ∷ ts)) h

binary_grows : (f : Flavour) (a b : Deriv) (ts : List Deriv) → inputs_of f ≡ 2 → over (Operator f) (a ∷ (b ∷ ts)) ≡ d.Binary f a b ∷ ts
unfolding over by_inputs
binary_grows f a b ts h = ap (λ n. by_inputs n f (a ∷ (b ∷ ts))) h

grows : (t : Deriv) (xs : List Step) → HasInputs t → grown (steps t ++ xs) ≡ t ∷ grown xs
unfolding grown over steps HasInputs
grows (d.Glue chain a) xs h = ap (over (Glue chain)) (grows a xs h)
grows (d.Goal g split a) xs h = ap (over (Goal g split)) (grows a xs h)
grows (d.Reference star n values a) xs h = ap (over (Reference star n values)) (grows a xs h)
grows (made.Leaf f) xs h = leaf_grows f (grown xs) h
grows (d.Unary f a) xs h = ap (over (Operator f)) (grows a xs h.1) ∙ unary_grows f a (grown xs) h.0
grows (d.Binary f a b) xs h =
    ap (λ l. over (Operator f) (grown l)) (append_assoc (steps a) (steps b) xs)
    ∙ ap (over (Operator f)) (grows a (steps b ++ xs) h.1 ∙ ap (λ l. a ∷ l) (grows b xs h.2))
    ∙ binary_grows f a b (grown xs) h.0

first_tree : (t u : Deriv) (ts us : List Deriv) → t ∷ ts ≡ u ∷ us → t ≡ u
first_tree t u ts us e = cc

same_steps : (t u : Deriv) → HasInputs t → HasInputs u → steps t ≡ steps u → t ≡ u
same_steps t u h k e =
    first_tree t u (grown []) (grown []) (sym (grows t [] h) ∙ ap (λ l. grown (l ++ [])) e ∙ grows u [] k)

pub same_derivation : (t u : Deriv) → IsWritable t → IsWritable u → statements_of t ≡ statements_of u → t ≡ u
same_derivation t u p q e =
    same_steps t u p.inputs q.inputs (same_lists statement_of IsStep same_step (steps t) (steps u) p.each q.each e)

pub one_derivation : (text : List ℕ) (t u : Deriv) → SpellsDerivation text t → SpellsDerivation text u → t ≡ u
one_derivation text t u p q = same_derivation t u p.writable q.writable (one_list text _ _ p.statements q.statements)
