-- The order of a frontier's lines: cost, rescan, site, temporary (those that lie in none first), order and path. A list of columns
-- stands behind its prefixes.
use Rattle.std.specs.Ordering.{nat_cmp, bool_cmp, ordering_then}
use Rattle.std.specs.declared.cmp.Ordering.{Ordering}
use Rattle.std.specs.Cmp.Lexicographic.{slice_cmp}
use Rattle.star_model.specs.declared.columns.Col.{Col}
use Rattle.star_model.specs.declared.plans.Props.{Props}

abbrev pub col_cmp : Col → Col → Ordering
col_cmp c d = ordering_then (nat_cmp c.quant.0 d.quant.0) (nat_cmp c.column d.column)

abbrev pub line_cmp : Props → Props → Ordering
line_cmp v w =
    ordering_then (nat_cmp v.cost w.cost) (ordering_then (nat_cmp v.rescan w.rescan) (ordering_then (nat_cmp v.site.0 w.site.0) (ordering_then (bool_cmp v.temp w.temp)
    (ordering_then (slice_cmp col_cmp v.order w.order) (slice_cmp col_cmp v.path w.path)))))
