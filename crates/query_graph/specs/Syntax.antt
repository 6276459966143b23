-- Which statement of a query's text isn't understood.
use Rattle.std.specs.Prelude.{◌≡◌, ℕ, ◌⊎◌, List, []}
use Rattle.star_model.specs.Every.{HasItem}
use Rattle.spelling.specs.Lexemes.{statements_in}
use Rattle.spelling.specs.Firsts.{FirstAt}
use Rattle.spelling.specs.Syntax.{IsUnderstood}
use Rattle.query_graph.specs.Queries.{SpellsQueryStatement}

-- the number, from 1, of the statement that isn't understood: the first one where there is none at all, one that spells no query, or
-- a second one
abbrev pub IsStrangeQueryAt : List ℕ → ℕ → Type 0
IsStrangeQueryAt text k =
    ((statements_in text ≡ []) × (k ≡ 1))
    ⊎ FirstAt (λ before statement. HasItem before ⊎ (IsUnderstood SpellsQueryStatement statement → ⊥)) (statements_in text) k
