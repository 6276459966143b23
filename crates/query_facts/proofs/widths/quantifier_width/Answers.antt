use Rattle.std.proofs.Common.{◌≡◌, ◌∙◌, sym, ap}
use Rattle.std.specs.Prelude.{slice_index, option_copied, sum_by, Some, None}
use Rattle.star_model.specs.Cardinality.{table_of}
use Rattle.star_model.specs.Numbers.{cut}
use Rattle.star_model.specs.Sets.{members}
use Rattle.query_facts.specs.Widths.{width_in}
use Rattle.query_facts.proofs.WidthSums.{table_width, no_table_width}
use Rattle.query_facts.proofs.widths.quantifier_width.Goals as goal

pub returns-in-Some : goal.returns-in-Some
returns-in-Some c =
    let there : table_of c.args.query.now c.args.quant ≡ Some c.in-Some.table.now = sym c.table_of.ensures ∙ ap option_copied c.in-Some.is in
    c.columns_width.ensures
    ∙ ap (λ columns. cut (sum_by (width_in columns) (members (slice_index c.args.cols.now c.args.quant)))) c.as_slice.ensures
    ∙ sym (ap cut (table_width c.args.query.now c.args.quant c.in-Some.table.now (members (slice_index c.args.cols.now c.args.quant)) there))

pub returns-in-None : goal.returns-in-None
returns-in-None c =
    let none : table_of c.args.query.now c.args.quant ≡ None = sym c.table_of.ensures ∙ ap option_copied c.in-None.is in
    c.cut.ensures ∙ sym (ap cut (no_table_width c.args.query.now c.args.quant (members (slice_index c.args.cols.now c.args.quant)) none))
