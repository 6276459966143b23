-- Which nodes of a derivation are invalid, in the words of the text.
use Rattle.std.specs.Prelude.{ℕ, ◌+◌, Bool, true, not, ◌&&◌, List, [], ◌∷◌, ◌++◌, Option}
use Rattle.std.specs.List.{find}
use Rattle.std.specs.Option.{option_map, option_map_or}
use Rattle.star_model.specs.Expected.{Expected, as_glue, goal_body, reference_body, as_unary, as_binary}
use Rattle.star_model.specs.Derivations.{is_valid}
use Rattle.star_model.specs.Judging.{node_count}
use Rattle.star_model.specs.DerivCases.{Glue, Goal, Reference, Leaf, Unary, Binary}
use Rattle.star_model.specs.declared.query.Query.{Query}
use Rattle.star_model.specs.declared.rules.RuleFile.{RuleFile}
use Rattle.star_model.specs.declared.derivations.Deriv.{Deriv}

-- a node: its number, the tree whose top it is, and what it stands against
pub record Node : Type 0 where
  pub number : ℕ
  pub tree : Deriv
  pub against : Expected

module _ (q : Query) (rules : RuleFile) where
  -- whether the trees right below the top are valid; where the top doesn't fit, none of them is judged
  unfoldable pub parts_valid : Deriv → Expected → Bool
  parts_valid (Glue chain d) x = option_map_or (λ g. is_valid q rules d g.1) (as_glue q chain x) true
  parts_valid (Goal g split d) x = option_map_or (is_valid q rules d) (goal_body g split x) true
  parts_valid (Reference star k picks d) x = option_map_or (is_valid q rules d) (reference_body q rules star k picks x) true
  parts_valid (Leaf f) x = true
  parts_valid (Unary f d) x = option_map_or (λ y. is_valid q rules d y.1) (as_unary q f x) true
  parts_valid (Binary f d e) x = option_map_or (λ y. is_valid q rules d y.1 && is_valid q rules e y.2) (as_binary q f x) true

  -- whether the top is an invalid node: what is judged below it is valid, and with it the tree isn't
  abbrev pub is_invalid : Deriv → Expected → Bool
  is_invalid d x = parts_valid d x && not (is_valid q rules d x)

  -- the nodes that are judged, in preorder: all but those below a node that doesn't fit
  unfoldable pub judged_nodes : Deriv → Expected → ℕ → List Node
  judged_nodes (Glue chain d) x n = record { number = n; tree = Glue chain d; against = x } ∷ option_map_or (λ g. judged_nodes d g.1 (n + 1)) (as_glue q chain x) []
  judged_nodes (Goal g split d) x n = record { number = n; tree = Goal g split d; against = x } ∷ option_map_or (λ y. judged_nodes d y (n + 1)) (goal_body g split x) []
  judged_nodes (Reference star k picks d) x n =
      record { number = n; tree = Reference star k picks d; against = x } ∷ option_map_or (λ y. judged_nodes d y (n + 1)) (reference_body q rules star k picks x) []
  judged_nodes (Leaf f) x n = record { number = n; tree = Leaf f; against = x } ∷ []
  judged_nodes (Unary f d) x n = record { number = n; tree = Unary f d; against = x } ∷ option_map_or (λ y. judged_nodes d y.1 (n + 1)) (as_unary q f x) []
  judged_nodes (Binary f d e) x n =
      record { number = n; tree = Binary f d e; against = x } ∷ option_map_or (λ y. judged_nodes d y.1 (n + 1) ++ judged_nodes e y.2 (n + 1 + node_count d)) (as_binary q f x) []

  -- the number of the first that is invalid, if one is
  abbrev pub first_invalid : Deriv → Expected → ℕ → Option ℕ
  first_invalid d x n = option_map (λ node. node.number) (find (λ node. is_invalid node.tree node.against) (judged_nodes d x n))
