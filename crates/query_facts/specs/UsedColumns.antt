-- Columns that are added to a set of columns, one after another.
use Rattle.std.specs.Prelude.{ℕ, Bool, ◌&&◌, nat_lt, if◌then◌else◌}
use Rattle.star_model.specs.Sets.{has}
use Rattle.star_model.specs.Columns.{Columns, with_column}
use Rattle.star_model.specs.declared.columns.Col.{Col}

-- whether a set of columns has a place for it
abbrev pub has_place : Col → Bool
has_place c = nat_lt c.quant.0 12 && nat_lt c.column 32

-- the set, with the column if its quantifier is one of these
abbrev pub adding : ℕ → Columns → Col → Columns
adding tables s c = if has tables c.quant.0 then with_column s c else s
