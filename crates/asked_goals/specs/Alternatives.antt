-- For which goals an alternative asks, of whose for-all names some are bound.
use Rattle.std.specs.Prelude.{◌≡◌, ℕ, true, List, Some}
use Rattle.star_model.specs.Expected.{Expression, bound, meets}
use Rattle.star_model.specs.declared.query.Query.{Query}
use Rattle.star_model.specs.declared.rules.Alternative.{Alternative}
use Rattle.star_model.specs.declared.rules.ForAll.{ForAll}
use Rattle.star_model.specs.declared.rules.RuleFile.{RuleFile}
use Rattle.star_model.specs.declared.values.RuleValue.{RuleValue}
use Rattle.exchange.specs.Asking.{AsksFrom}
use Rattle.search_places.specs.declared.search.Search.{Search}
use Rattle.search_places.specs.Searching.{IsWithin}

-- with some values of the names that are still to be bound the condition holds, and the body asks for the goal
abbrev pub AsksOver : Query → RuleFile → Alternative → List ForAll → List RuleValue → ℕ → ℕ → Type 0
AsksOver q rules a ranges c t k = (more : List ℕ) × (e : List RuleValue) × (bound q ranges more c ≡ Some e) × (meets q e a.condition ≡ true) × AsksFrom q rules (Expression a.body e) t k

-- the search's goal leads to a call of the STAR, and it is one of the STAR's alternatives, of which these names are still to be bound
abbrev pub IsInside : Search → List ℕ → Alternative → List ForAll → List RuleValue → Type 0
IsInside s star a ranges c = (n : ℕ) × (picked : List ℕ) × IsWithin s star n a ranges picked c
