-- Values, of which each that is a stream has quantifiers of some sort.
use Rattle.std.specs.Prelude.{ℕ, Bool, true, nat_lt}
use Rattle.star_model.specs.declared.values.RuleValue.{RuleValue}
use Rattle.star_model.specs.declared.values.RuleValue.TheVariants as is

-- whether the set of quantifiers passes, if the value is a stream
abbrev pub tables_pass : (ℕ → Bool) → RuleValue → Bool
tables_pass test (is.Stream t) = test t.tables
tables_pass test _ = true

-- whether the set of quantifiers isn't empty, if the value is a stream
abbrev pub has_tables : RuleValue → Bool
has_tables v = tables_pass (nat_lt 0) v
