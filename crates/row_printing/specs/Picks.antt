-- What a row picks.
use Rattle.std.specs.Prelude.{ℕ}
use Rattle.row_printing.specs.declared.rows.Pick.{Pick}

-- the number of a quantifier and that of a row of its table
abbrev pub pair_of : Pick → ℕ × ℕ
pair_of p = (p.quant.0, p.row)
