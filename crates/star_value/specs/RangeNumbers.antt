-- The numbers of a range's members that are left.
use Rattle.std.specs.Prelude.{◌≡◌, ℕ, ◌-◌, ◌<◌, Bool, true, false, List, Option, slice_get, filter, map}
use Rattle.std.specs.List.{range_with_len}
use Rattle.std.specs.Option.{option_map_or}
use Rattle.star_model.specs.Sets.{has, single}
use Rattle.star_model.specs.Meaning.{is_index_of}
use Rattle.star_model.specs.declared.query.Query.{Query}
use Rattle.star_model.specs.declared.values.RuleValue.{RuleValue}
use Rattle.star_model.specs.declared.values.RuleValue.TheVariants as is
use Rattle.star_value.specs.declared.ranges.Over.{Over}
use Rattle.star_value.specs.declared.ranges.Over.TheVariants as over

-- whether there is a quantifier, and index x is on its table
abbrev pub is_on_table_of : Query → Option ℕ → ℕ → Bool
is_on_table_of q quant x = option_map_or (λ n. option_map_or (is_index_of q n) (slice_get q.catalogue.indexes x) false) quant false

-- whether the number is that of a member
abbrev pub passes : Query → Over → ℕ → Bool
passes q (over.Indexes quant count) n = is_on_table_of q quant n
passes q (over.Sites count) n = true
passes q (over.Members s) n = has s n
passes q (over.Each s) n = has s n

-- no number from here on is that of a member
abbrev pub end_of : Over → ℕ
end_of (over.Indexes quant count) = count
end_of (over.Sites count) = count
end_of (over.Members s) = 32
end_of (over.Each s) = 32

-- the member that has the number
abbrev pub member_at : Over → ℕ → RuleValue
member_at (over.Indexes quant count) n = is.Index n
member_at (over.Sites count) n = is.Site (record { 0 = n })
member_at (over.Members s) n = is.Quants (single n)
member_at (over.Each s) n = is.Preds (single n)

-- the numbers from k up to end that pass
unfoldable pub passing : (ℕ → Bool) → ℕ → ℕ → List ℕ
passing test k end = filter test (range_with_len k (end - k))

-- the members whose numbers are k or more
abbrev pub members_from : Query → Over → ℕ → List RuleValue
members_from q o k = map (member_at o) (passing (passes q o) k (end_of o))

-- k is the first number from n on that passes, or where there is none before the end, not before the end
pub record NumberFrom (test : ℕ → Bool) (n end k : ℕ) : Type 0 where
  pub same : passing test n end ≡ passing test k end
  pub passes : k < end → test k ≡ true

-- the same, each with its number
abbrev pub numbered_from : Query → Over → ℕ → List (ℕ × RuleValue)
numbered_from q o k = map (λ n. (n, member_at o n)) (passing (passes q o) k (end_of o))
