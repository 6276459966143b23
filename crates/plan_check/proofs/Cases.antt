-- What judging finds at each form of node: where the node doesn't fit, where one below is invalid, and what it makes of the vectors below.
use Rattle.std.proofs.Common.{◌≡◌, ℕ, ◌+◌, List, [], ◌∷◌, Option, Some, None, ap, sym, ◌∙◌, if◌then◌else◌}
use Rattle.std.specs.Prelude.{option_and_then}
use Rattle.star_model.specs.Costs.{costs_of}
use Rattle.star_model.specs.Expected.{Expected, Call, as_glue, goal_body, as_call, body_of, reference_body, as_leaf, as_unary, as_binary}
use Rattle.star_model.specs.Goals.{is_target}
use Rattle.star_model.specs.Judging.{Vector, FirstInvalid, vector_or, only_if, fitting, judge, node_count}
use Rattle.star_model.specs.JudgingEquations.{judge-Glue, judge-Goal, judge-Reference, judge-Leaf, judge-Unary, judge-Binary}
use Rattle.star_model.specs.Operators.{step}
use Rattle.star_model.specs.Plans.{chain_vector}
use Rattle.star_model.specs.Requirements.{satisfies}
use Rattle.star_model.specs.Vectors.{same_numbers}
use Rattle.star_model.specs.declared.derivations.Deriv.{Deriv}
use Rattle.star_model.specs.declared.derivations.Deriv.TheVariants as made
use Rattle.star_model.specs.declared.plans.Goal as goal
use Rattle.star_model.specs.declared.plans.GlueOp.{GlueOp}
use Rattle.star_model.specs.declared.plans.Op.{Op}
use Rattle.star_model.specs.declared.plans.Props.{Props}
use Rattle.star_model.specs.declared.plans.Require.{Require}
use Rattle.star_model.specs.declared.query.Query.{Query}
use Rattle.star_model.specs.declared.rules.Flavour.{Flavour}
use Rattle.star_model.specs.declared.rules.RuleFile.{RuleFile}
use Rattle.star_model.specs.declared.values.RuleValue.{RuleValue}
use Rattle.plan_check.proofs.Judgements.{unfit, fits, stops, goes}

module _ (q : Query) (rules : RuleFile) where
  pub leaf_unfit : (f : Flavour) (x : Expected) (n : ℕ) → as_leaf q f x ≡ None → judge q rules (made.Leaf f) x n ≡ FirstInvalid n
  leaf_unfit f x n h = unfit n (as_leaf q f x) _ _ (judge-Leaf q rules f x n) h

  pub leaf_fits : (f : Flavour) (x : Expected) (n : ℕ) (o : Op) → as_leaf q f x ≡ Some o → judge q rules (made.Leaf f) x n ≡ vector_or n (step q (costs_of rules) o [])
  leaf_fits f x n o h = fits n (as_leaf q f x) _ _ o (judge-Leaf q rules f x n) h

  pub unary_unfit : (f : Flavour) (d : Deriv) (x : Expected) (n : ℕ) → as_unary q f x ≡ None → judge q rules (made.Unary f d) x n ≡ FirstInvalid n
  unary_unfit f d x n h = unfit n (as_unary q f x) _ _ (judge-Unary q rules f d x n) h

  pub unary_stops : (f : Flavour) (d : Deriv) (x : Expected) (n : ℕ) (o : Op) (y : Expected) (m : ℕ) → as_unary q f x ≡ Some (o, y) → judge q rules d y (n + 1) ≡ FirstInvalid m
      → judge q rules (made.Unary f d) x n ≡ FirstInvalid m
  unary_stops f d x n o y m h e = stops (judge q rules d y (n + 1)) _ _ m (fits n (as_unary q f x) _ _ (o, y) (judge-Unary q rules f d x n) h) e

  pub unary_goes : (f : Flavour) (d : Deriv) (x : Expected) (n : ℕ) (o : Op) (y : Expected) (v : Props) → as_unary q f x ≡ Some (o, y) → judge q rules d y (n + 1) ≡ Vector v
      → judge q rules (made.Unary f d) x n ≡ vector_or n (step q (costs_of rules) o (v ∷ []))
  unary_goes f d x n o y v h e = goes (judge q rules d y (n + 1)) _ _ v (fits n (as_unary q f x) _ _ (o, y) (judge-Unary q rules f d x n) h) e

  pub binary_unfit : (f : Flavour) (d e : Deriv) (x : Expected) (n : ℕ) → as_binary q f x ≡ None → judge q rules (made.Binary f d e) x n ≡ FirstInvalid n
  binary_unfit f d e x n h = unfit n (as_binary q f x) _ _ (judge-Binary q rules f d e x n) h

  pub binary_stops_left : (f : Flavour) (d e : Deriv) (x : Expected) (n : ℕ) (o : Op) (y z : Expected) (m : ℕ) → as_binary q f x ≡ Some (o, y, z) → judge q rules d y (n + 1) ≡ FirstInvalid m
      → judge q rules (made.Binary f d e) x n ≡ FirstInvalid m
  binary_stops_left f d e x n o y z m h is = stops (judge q rules d y (n + 1)) _ _ m (fits n (as_binary q f x) _ _ (o, y, z) (judge-Binary q rules f d e x n) h) is

  pub binary_stops_right : (f : Flavour) (d e : Deriv) (x : Expected) (n : ℕ) (o : Op) (y z : Expected) (v : Props) (m : ℕ) → as_binary q f x ≡ Some (o, y, z) → judge q rules d y (n + 1) ≡ Vector v
      → judge q rules e z (n + 1 + node_count d) ≡ FirstInvalid m → judge q rules (made.Binary f d e) x n ≡ FirstInvalid m
  binary_stops_right f d e x n o y z v m h is after =
      stops (judge q rules e z (n + 1 + node_count d)) _ _ m (goes (judge q rules d y (n + 1)) _ _ v (fits n (as_binary q f x) _ _ (o, y, z) (judge-Binary q rules f d e x n) h) is) after

  pub binary_goes : (f : Flavour) (d e : Deriv) (x : Expected) (n : ℕ) (o : Op) (y z : Expected) (v w : Props) → as_binary q f x ≡ Some (o, y, z) → judge q rules d y (n + 1) ≡ Vector v
      → judge q rules e z (n + 1 + node_count d) ≡ Vector w → judge q rules (made.Binary f d e) x n ≡ vector_or n (step q (costs_of rules) o (v ∷ w ∷ []))
  binary_goes f d e x n o y z v w h is after =
      goes (judge q rules e z (n + 1 + node_count d)) _ _ w (goes (judge q rules d y (n + 1)) _ _ v (fits n (as_binary q f x) _ _ (o, y, z) (judge-Binary q rules f d e x n) h) is) after

  pub reference_unfit : (star : List ℕ) (k : ℕ) (picks : List ℕ) (d : Deriv) (x : Expected) (n : ℕ) → reference_body q rules star k picks x ≡ None
      → judge q rules (made.Reference star k picks d) x n ≡ FirstInvalid n
  reference_unfit star k picks d x n h = unfit n (reference_body q rules star k picks x) _ _ (judge-Reference q rules star k picks d x n) h

  pub reference_fits : (star : List ℕ) (k : ℕ) (picks : List ℕ) (d : Deriv) (x : Expected) (n : ℕ) (y : Expected) → reference_body q rules star k picks x ≡ Some y
      → judge q rules (made.Reference star k picks d) x n ≡ judge q rules d y (n + 1)
  reference_fits star k picks d x n y h = fits n (reference_body q rules star k picks x) _ _ y (judge-Reference q rules star k picks d x n) h

  pub reference_uncalled : (star : List ℕ) (k : ℕ) (picks : List ℕ) (d : Deriv) (x : Expected) (n : ℕ) → as_call q x ≡ None → judge q rules (made.Reference star k picks d) x n ≡ FirstInvalid n
  reference_uncalled star k picks d x n h =
      reference_unfit star k picks d x n (ap (option_and_then (λ (call : List ℕ × List RuleValue). if same_numbers star call.0 then body_of q rules star call.1 k picks else None)) h)

  pub reference_called : (star : List ℕ) (k : ℕ) (picks : List ℕ) (d : Deriv) (x : Expected) (n : ℕ) (letters : List ℕ) (b : List RuleValue) → as_call q x ≡ Some (letters, b)
      → judge q rules (made.Reference star k picks d) x n ≡ judge q rules (made.Reference star k picks d) (Call letters b) n
  reference_called star k picks d x n letters b h =
      judge-Reference q rules star k picks d x n
      ∙ ap (λ (o : Option (List ℕ × List RuleValue)). fitting n (option_and_then (λ (call : List ℕ × List RuleValue). if same_numbers star call.0 then body_of q rules star call.1 k picks else None) o) (λ y. judge q rules d y (n + 1))) h
      ∙ sym (judge-Reference q rules star k picks d (Call letters b) n)

  pub goal_unfit : (g : goal.Goal) (split : Option (ℕ × ℕ)) (d : Deriv) (x : Expected) (n : ℕ) → goal_body g split x ≡ None → judge q rules (made.Goal g split d) x n ≡ FirstInvalid n
  goal_unfit g split d x n h = unfit n (goal_body g split x) _ _ (judge-Goal q rules g split d x n) h

  pub goal_stops : (g : goal.Goal) (split : Option (ℕ × ℕ)) (d : Deriv) (x : Expected) (n : ℕ) (y : Expected) (m : ℕ) → goal_body g split x ≡ Some y → judge q rules d y (n + 1) ≡ FirstInvalid m
      → judge q rules (made.Goal g split d) x n ≡ FirstInvalid m
  goal_stops g split d x n y m h e = stops (judge q rules d y (n + 1)) _ _ m (fits n (goal_body g split x) _ _ y (judge-Goal q rules g split d x n) h) e

  pub goal_goes : (g : goal.Goal) (split : Option (ℕ × ℕ)) (d : Deriv) (x : Expected) (n : ℕ) (y : Expected) (v : Props) → goal_body g split x ≡ Some y → judge q rules d y (n + 1) ≡ Vector v
      → judge q rules (made.Goal g split d) x n ≡ vector_or n (only_if (is_target q g.tables g.pushed) v)
  goal_goes g split d x n y v h e = goes (judge q rules d y (n + 1)) _ _ v (fits n (goal_body g split x) _ _ y (judge-Goal q rules g split d x n) h) e

  pub glue_unfit : (chain : List GlueOp) (d : Deriv) (x : Expected) (n : ℕ) → as_glue q chain x ≡ None → judge q rules (made.Glue chain d) x n ≡ FirstInvalid n
  glue_unfit chain d x n h = unfit n (as_glue q chain x) _ _ (judge-Glue q rules chain d x n) h

  pub glue_stops : (chain : List GlueOp) (d : Deriv) (x : Expected) (n : ℕ) (r : Require) (y : Expected) (m : ℕ) → as_glue q chain x ≡ Some (r, y) → judge q rules d y (n + 1) ≡ FirstInvalid m
      → judge q rules (made.Glue chain d) x n ≡ FirstInvalid m
  glue_stops chain d x n r y m h e = stops (judge q rules d y (n + 1)) _ _ m (fits n (as_glue q chain x) _ _ (r, y) (judge-Glue q rules chain d x n) h) e

  pub glue_goes : (chain : List GlueOp) (d : Deriv) (x : Expected) (n : ℕ) (r : Require) (y : Expected) (v : Props) → as_glue q chain x ≡ Some (r, y) → judge q rules d y (n + 1) ≡ Vector v
      → judge q rules (made.Glue chain d) x n ≡ vector_or n (option_and_then (only_if (λ w. satisfies q w r)) (chain_vector q (costs_of rules) r chain v))
  glue_goes chain d x n r y v h e = goes (judge q rules d y (n + 1)) _ _ v (fits n (as_glue q chain x) _ _ (r, y) (judge-Glue q rules chain d x n) h) e
