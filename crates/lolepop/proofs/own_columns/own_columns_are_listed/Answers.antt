use Rattle.std.proofs.Common.{◌∙◌}
use Rattle.lolepop.proofs.OwnColumns.{all_listed}
use Rattle.lolepop.proofs.own_columns.own_columns_are_listed.Goals as goal

pub returns : goal.returns
returns c = c.each_in_list.ensures ∙ all_listed c.args.query.now c.args.preds c.args.tables c.args.list.now
