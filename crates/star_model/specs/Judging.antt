-- One walk over a derivation that finds its vector, or its first invalid node in preorder.
use Rattle.std.specs.Prelude.{◌≡◌, Result, Ok, Err, ℕ, ◌+◌, Bool, if◌then◌else◌, [], ◌∷◌, Option, Some, None, option_and_then}
use Rattle.star_model.specs.Costs.{costs_of}
use Rattle.star_model.specs.Requirements.{satisfies}
use Rattle.star_model.specs.Operators.{step}
use Rattle.star_model.specs.Plans.{chain_vector}
use Rattle.star_model.specs.Goals.{is_target}
use Rattle.star_model.specs.Expected.{Expected, ForQuery, as_glue, goal_body, reference_body, as_leaf, as_unary, as_binary}
use Rattle.star_model.specs.DerivCases.{Glue, Goal, Reference, Leaf, Unary, Binary}
use Rattle.star_model.specs.declared.query.Query.{Query}
use Rattle.star_model.specs.declared.plans.Props.{Props}
use Rattle.star_model.specs.declared.rules.RuleFile.{RuleFile}
use Rattle.star_model.specs.declared.derivations.Deriv.{Deriv}

-- the vector of a valid tree, or the number of the first invalid node
pub data Judgement : Type 0 where
  Vector : Props → Judgement
  FirstInvalid : ℕ → Judgement

-- the vector, if there is one; else node n is invalid
abbrev pub vector_or : ℕ → Option Props → Judgement
vector_or n None = FirstInvalid n
vector_or n (Some v) = Vector v

-- what is made of a valid part's vector; an invalid part stays so
abbrev pub if_valid : Judgement → (Props → Judgement) → Judgement
if_valid (Vector v) f = f v
if_valid (FirstInvalid n) f = FirstInvalid n

-- what is made of a node that fits; else node n is invalid
abbrev pub fitting : {A : Type 0} → ℕ → Option A → (A → Judgement) → Judgement
fitting n None f = FirstInvalid n
fitting n (Some a) f = f a

abbrev pub only_if : (Props → Bool) → Props → Option Props
only_if test v = if test v then Some v else None

unfoldable pub node_count : Deriv → ℕ
node_count (Glue chain d) = 1 + node_count d
node_count (Goal g split d) = 1 + node_count d
node_count (Reference star k picks d) = 1 + node_count d
node_count (Leaf f) = 1
node_count (Unary f d) = 1 + node_count d
node_count (Binary f d e) = 1 + node_count d + node_count e

module _ (q : Query) (rules : RuleFile) where
  -- of a tree that stands against x, and whose top is node n
  unfoldable pub judge : Deriv → Expected → ℕ → Judgement
  judge (Glue chain d) x n =
      fitting n (as_glue q chain x) (λ g. if_valid (judge d g.1 (n + 1)) (λ v. vector_or n (option_and_then (only_if (λ w. satisfies q w g.0)) (chain_vector q (costs_of rules) g.0 chain v))))
  judge (Goal g split d) x n =
      fitting n (goal_body g split x) (λ y. if_valid (judge d y (n + 1)) (λ v. vector_or n (only_if (is_target q g.tables g.pushed) v)))
  judge (Reference star k picks d) x n = fitting n (reference_body q rules star k picks x) (λ y. judge d y (n + 1))
  judge (Leaf f) x n = fitting n (as_leaf q f x) (λ o. vector_or n (step q (costs_of rules) o []))
  judge (Unary f d) x n = fitting n (as_unary q f x) (λ y. if_valid (judge d y.1 (n + 1)) (λ v. vector_or n (step q (costs_of rules) y.0 (v ∷ []))))
  judge (Binary f d e) x n =
      fitting n (as_binary q f x) (λ y. if_valid (judge d y.1 (n + 1)) (λ v. if_valid (judge e y.2 (n + 1 + node_count d)) (λ w. vector_or n (step q (costs_of rules) y.0 (v ∷ w ∷ [])))))

  -- of a whole derivation
  abbrev pub judge_root : Deriv → Judgement
  judge_root tree = judge tree ForQuery 1

-- the number of an invalid node, if there is one
abbrev pub invalid_number : Judgement → Option ℕ
invalid_number (Vector v) = None
invalid_number (FirstInvalid n) = Some n

-- a checker's answer is the judgement
abbrev pub IsJudgement : Result Props ℕ → Judgement → Type 0
IsJudgement (Ok v) j = j ≡ Vector v
IsJudgement (Err n) j = j ≡ FirstInvalid n
