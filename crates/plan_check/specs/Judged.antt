-- What an answer for a tree says of the tree's judgement.
use Rattle.std.specs.Prelude.{◌≡◌, ℕ, ◌+◌, Result, Ok, Err}
use Rattle.star_model.specs.Judging.{Judgement, Vector, FirstInvalid}
use Rattle.plan_check.specs.declared.answers.Judged.{Judged}
use Rattle.plan_check.specs.declared.answers.NotDerived.{NotDerived}

-- the answer is the judgement; where there is a vector, it also has the number before the next, which is that of the tree's last node
abbrev pub Tells : Result Judged NotDerived → Judgement → ℕ → Type 0
Tells (Ok a) j next = (j ≡ Vector a.props) × (a.last + 1 ≡ next)
Tells (Err e) j next = j ≡ FirstInvalid e.node
