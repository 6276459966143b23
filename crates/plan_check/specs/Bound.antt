-- The value that a for-all clause is given by its number.
use Rattle.std.specs.Prelude.{ℕ, ◌-◌, not, ◌&&◌, nat_eq, List, Option, Some, None, if◌then◌else◌}
use Rattle.std.specs.List.{list_any}
use Rattle.star_model.specs.Meaning.{numbers_of, member_at}
use Rattle.star_model.specs.declared.query.Query.{Query}
use Rattle.star_model.specs.declared.rules.Range.{Range}
use Rattle.star_model.specs.declared.values.RuleValue.{RuleValue}

-- the member of the range that has the printed number, from 1
abbrev pub member_numbered : Query → List RuleValue → Range → ℕ → Option RuleValue
member_numbered q b r n = if not (nat_eq n 0) && list_any (nat_eq (n - 1)) (numbers_of q b r) then Some (member_at r (n - 1)) else None
