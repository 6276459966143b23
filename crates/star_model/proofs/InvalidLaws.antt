-- The walk that judges a derivation stops at the first node that is invalid in the words of the text.
use Rattle.std.proofs.Common.{◌≡◌, ℕ, ◌+◌, Bool, true, false, not, ◌&&◌, List, [], ◌∷◌, ◌++◌, Option, Some, None, cond, refl, ap, sym, subst, ◌∙◌}
use Rattle.std.specs.Prelude.{option_and_then}
use Rattle.std.specs.List.{find}
use Rattle.std.specs.Option.{option_map, option_map_or, option_or}
use Rattle.std.proofs.lemmas.List.Folds.{find-append}
use Rattle.star_model.proofs.JudgeLaws.{valid_from, valid_to}
use Rattle.star_model.specs.Costs.{costs_of}
use Rattle.star_model.specs.Requirements.{satisfies}
use Rattle.star_model.specs.Operators.{step}
use Rattle.star_model.specs.Plans.{chain_vector}
use Rattle.star_model.specs.Goals.{is_target}
use Rattle.star_model.specs.Expected.{Expected, as_glue, as_leaf, as_unary, as_binary, reference_body, goal_body}
use Rattle.star_model.specs.Derivations.{is_valid}
use Rattle.star_model.specs.Judging.{Judgement, Vector, FirstInvalid, vector_or, if_valid, only_if, fitting, judge, node_count, invalid_number}
use Rattle.star_model.specs.InvalidNodes.{Node, is_invalid, parts_valid, judged_nodes, first_invalid}
use Rattle.star_model.specs.DerivCases.{Glue, Goal, Reference, Leaf, Unary, Binary}
use Rattle.star_model.specs.declared.query.Query.{Query}
use Rattle.star_model.specs.declared.plans.Props.{Props}
use Rattle.star_model.specs.declared.plans.Op.{Op}
use Rattle.star_model.specs.declared.rules.RuleFile.{RuleFile}
use Rattle.star_model.specs.declared.derivations.Deriv.{Deriv}

-- the vector that a judgement has where the tree is valid, and only there
record Agrees (valid : Bool) (j : Judgement) : Type 0 where
  to : valid ≡ true → (v : Props) × (j ≡ Vector v)
  from : (v : Props) → j ≡ Vector v → valid ≡ true

not_valid : (valid : Bool) (n : ℕ) → Agrees valid (FirstInvalid n) → valid ≡ false
not_valid true n a = let h = a.to refl in let no : FirstInvalid n ≡ Vector h.0 = h.1 in cc
not_valid false n a = refl

-- the first number, where the top is number n: n where the parts are valid and the whole isn't, else that of the parts
abbrev numbered_first : Bool → Bool → ℕ → Option ℕ → Option ℕ
numbered_first parts whole n below = cond (parts && not whole) (Some n) below

-- of a node with one part, of which o is what it stands against
first_of_one : (part : Bool) (j : Judgement) (n : ℕ) (finish : Props → Option Props) (whole : Bool) (below : Option ℕ) → Agrees part j → Agrees whole (if_valid j (λ v. vector_or n (finish v)))
    → below ≡ invalid_number j → numbered_first part whole n below ≡ invalid_number (if_valid j (λ v. vector_or n (finish v)))
first_of_one part (FirstInvalid k) n finish whole below a b e = ap (λ p. cond (p && not whole) (Some n) below) (not_valid part k a) ∙ e
first_of_one part (Vector v) n finish whole below a b e = on_finish (finish v) b
  where
    on_finish : (o : Option Props) → Agrees whole (vector_or n o) → cond (part && not whole) (Some n) below ≡ invalid_number (vector_or n o)
    on_finish None b = (λ i. cond (a.from v refl i && not (not_valid whole n b i)) (Some n) below)
    on_finish (Some w) b = (λ i. cond (a.from v refl i && not (b.from w refl i)) (Some n) below) ∙ e

-- of a node that doesn't fit
first_of_misfit : (whole : Bool) (n : ℕ) (below : Option ℕ) → Agrees whole (FirstInvalid n) → numbered_first true whole n below ≡ Some n
first_of_misfit whole n below a = (λ i. cond (true && not (not_valid whole n a i)) (Some n) below)

-- of a node without parts
first_of_leaf : (o : Option Props) (whole : Bool) (n : ℕ) → Agrees whole (vector_or n o) → numbered_first true whole n None ≡ invalid_number (vector_or n o)
first_of_leaf None whole n a = first_of_misfit whole n None a
first_of_leaf (Some v) whole n a = (λ i. cond (true && not (a.from v refl i)) (Some n) None)

-- of a node with two parts
first_of_two : (left right : Bool) (j k : Judgement) (n : ℕ) (finish : Props → Props → Option Props) (whole : Bool) (a b : Option ℕ) → Agrees left j → Agrees right k
    → Agrees whole (if_valid j (λ v. if_valid k (λ w. vector_or n (finish v w)))) → a ≡ invalid_number j → b ≡ invalid_number k
    → numbered_first (left && right) whole n (option_or a b) ≡ invalid_number (if_valid j (λ v. if_valid k (λ w. vector_or n (finish v w))))
first_of_two left right (FirstInvalid m) k n finish whole a b l r w e f = (λ i. cond (not_valid left m l i && right && not whole) (Some n) (option_or (e i) b))
first_of_two left right (Vector v) k n finish whole a b l r w e f =
    (λ i. cond (l.from v refl i && right && not whole) (Some n) (option_or (e i) b)) ∙ first_of_one right k n (finish v) whole b r w f

if_valid_vector : (j : Judgement) → if_valid j Vector ≡ j
if_valid_vector (Vector v) = refl
if_valid_vector (FirstInvalid n) = refl

module _ (q : Query) (rules : RuleFile) where
  abbrev first_in : List Node → Option ℕ
  first_in nodes = option_map (λ node. node.number) (find (λ node. is_invalid q rules node.tree node.against) nodes)

  top_first : (d : Deriv) (x : Expected) (n : ℕ) (nodes : List Node) → first_in (record { number = n; tree = d; against = x } ∷ nodes) ≡ numbered_first (parts_valid q rules d x) (is_valid q rules d x) n (first_in nodes)
  top_first d x n nodes = go (is_invalid q rules d x) (find (λ node. is_invalid q rules node.tree node.against) nodes)
    where
      go : (b : Bool) (o : Option Node) → option_map (λ node. node.number) (cond b (Some (record { number = n; tree = d; against = x })) o) ≡ cond b (Some n) (option_map (λ node. node.number) o)
      go true o = refl
      go false o = refl

  first_append : (xs ys : List Node) → first_in (xs ++ ys) ≡ option_or (first_in xs) (first_in ys)
  first_append xs ys = ap (option_map (λ node. node.number)) (find-append (λ node. is_invalid q rules node.tree node.against) xs ys) ∙ go _ _
    where
      go : (a b : Option Node) → option_map (λ node. node.number) (option_or a b) ≡ option_or (option_map (λ node. node.number) a) (option_map (λ node. node.number) b)
      go None b = refl
      go (Some x) b = refl

  agrees : (d : Deriv) (x : Expected) (n : ℕ) → Agrees (is_valid q rules d x) (judge q rules d x n)
  agrees d x n = record { to = valid_to q rules d x n; from = valid_from q rules d x n }

  abbrev IsFirst : Deriv → Type 0
  IsFirst d = (x : Expected) (n : ℕ) → first_invalid q rules d x n ≡ invalid_number (judge q rules d x n)

  -- a node with one part, where it fits
  one_part : {A : Type 0} (whole : Bool) (n : ℕ) (d : Deriv) (at : A → Expected) (finish : A → Props → Option Props) (o : Option A)
      → Agrees whole (fitting n o (λ y. if_valid (judge q rules d (at y) (n + 1)) (λ v. vector_or n (finish y v)))) → IsFirst d
      → numbered_first (option_map_or (λ y. is_valid q rules d (at y)) o true) whole n (first_in (option_map_or (λ y. judged_nodes q rules d (at y) (n + 1)) o []))
      ≡ invalid_number (fitting n o (λ y. if_valid (judge q rules d (at y) (n + 1)) (λ v. vector_or n (finish y v))))
  one_part whole n d at finish None a f = first_of_misfit whole n _ a
  one_part whole n d at finish (Some y) a f =
      first_of_one (is_valid q rules d (at y)) (judge q rules d (at y) (n + 1)) n (finish y) whole _ (agrees d (at y) (n + 1)) a (f (at y) (n + 1))

  -- a node whose vector is that of its part
  same_part : (whole : Bool) (n : ℕ) (d : Deriv) (o : Option Expected) → Agrees whole (fitting n o (λ y. judge q rules d y (n + 1))) → IsFirst d
      → numbered_first (option_map_or (is_valid q rules d) o true) whole n (first_in (option_map_or (λ y. judged_nodes q rules d y (n + 1)) o []))
      ≡ invalid_number (fitting n o (λ y. judge q rules d y (n + 1)))
  same_part whole n d None a f = first_of_misfit whole n _ a
  same_part whole n d (Some y) a f =
      let same : if_valid (judge q rules d y (n + 1)) Vector ≡ judge q rules d y (n + 1) = if_valid_vector (judge q rules d y (n + 1)) in
      first_of_one (is_valid q rules d y) (judge q rules d y (n + 1)) n (λ v. Some v) whole _ (agrees d y (n + 1)) (subst (Agrees whole) (sym same) a) (f y (n + 1)) ∙ ap invalid_number same

  two_parts : {A : Type 0} (whole : Bool) (n m : ℕ) (d e : Deriv) (at to : A → Expected) (finish : A → Props → Props → Option Props) (o : Option A)
      → Agrees whole (fitting n o (λ y. if_valid (judge q rules d (at y) (n + 1)) (λ v. if_valid (judge q rules e (to y) m) (λ w. vector_or n (finish y v w))))) → IsFirst d → IsFirst e
      → numbered_first (option_map_or (λ y. is_valid q rules d (at y) && is_valid q rules e (to y)) o true) whole n
      (first_in (option_map_or (λ y. judged_nodes q rules d (at y) (n + 1) ++ judged_nodes q rules e (to y) m) o []))
      ≡ invalid_number (fitting n o (λ y. if_valid (judge q rules d (at y) (n + 1)) (λ v. if_valid (judge q rules e (to y) m) (λ w. vector_or n (finish y v w)))))
  two_parts whole n m d e at to finish None a f g = first_of_misfit whole n _ a
  two_parts whole n m d e at to finish (Some y) a f g =
      ap (numbered_first (is_valid q rules d (at y) && is_valid q rules e (to y)) whole n) (first_append (judged_nodes q rules d (at y) (n + 1)) (judged_nodes q rules e (to y) m))
      ∙ first_of_two (is_valid q rules d (at y)) (is_valid q rules e (to y)) (judge q rules d (at y) (n + 1)) (judge q rules e (to y) m) n (finish y) whole _ _
      (agrees d (at y) (n + 1)) (agrees e (to y) m) a (f (at y) (n + 1)) (g (to y) m)

  no_part : (whole : Bool) (n : ℕ) (o : Option Op) → Agrees whole (fitting n o (λ y. vector_or n (step q (costs_of rules) y []))) → numbered_first true whole n None ≡ invalid_number (fitting n o (λ y. vector_or n (step q (costs_of rules) y [])))
  no_part whole n None a = first_of_misfit whole n None a
  no_part whole n (Some y) a = first_of_leaf (step q (costs_of rules) y []) whole n a

  -- the first invalid node of the text is the one at which the walk stops
  pub first : (d : Deriv) → IsFirst d
  unfolding judge judged_nodes parts_valid
  first (Glue chain d) x n =
      top_first (Glue chain d) x n (option_map_or (λ g. judged_nodes q rules d g.1 (n + 1)) (as_glue q chain x) [])
      ∙ one_part (is_valid q rules (Glue chain d) x) n d (λ g. g.1) (λ g v. option_and_then (only_if (λ w. satisfies q w g.0)) (chain_vector q (costs_of rules) g.0 chain v)) (as_glue q chain x) (agrees (Glue chain d) x n) (first d)
  first (Goal g split d) x n =
      top_first (Goal g split d) x n (option_map_or (λ y. judged_nodes q rules d y (n + 1)) (goal_body g split x) [])
      ∙ one_part (is_valid q rules (Goal g split d) x) n d (λ y. y) (λ y v. only_if (is_target q g.tables g.pushed) v) (goal_body g split x) (agrees (Goal g split d) x n) (first d)
  first (Reference star k picks d) x n =
      top_first (Reference star k picks d) x n (option_map_or (λ y. judged_nodes q rules d y (n + 1)) (reference_body q rules star k picks x) [])
      ∙ same_part (is_valid q rules (Reference star k picks d) x) n d (reference_body q rules star k picks x) (agrees (Reference star k picks d) x n) (first d)
  first (Leaf f) x n = top_first (Leaf f) x n [] ∙ no_part (is_valid q rules (Leaf f) x) n (as_leaf q f x) (agrees (Leaf f) x n)
  first (Unary f d) x n =
      top_first (Unary f d) x n (option_map_or (λ y. judged_nodes q rules d y.1 (n + 1)) (as_unary q f x) [])
      ∙ one_part (is_valid q rules (Unary f d) x) n d (λ y. y.1) (λ y v. step q (costs_of rules) y.0 (v ∷ [])) (as_unary q f x) (agrees (Unary f d) x n) (first d)
  first (Binary f d e) x n =
      top_first (Binary f d e) x n (option_map_or (λ y. judged_nodes q rules d y.1 (n + 1) ++ judged_nodes q rules e y.2 (n + 1 + node_count d)) (as_binary q f x) [])
      ∙ two_parts (is_valid q rules (Binary f d e) x) n (n + 1 + node_count d) d e (λ y. y.1) (λ y. y.2) (λ y v w. step q (costs_of rules) y.0 (v ∷ w ∷ [])) (as_binary q f x) (agrees (Binary f d e) x n) (first d) (first e)
