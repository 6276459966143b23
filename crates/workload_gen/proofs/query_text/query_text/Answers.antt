use Rattle.std.proofs.Common.{[], ◌∙◌}
use Rattle.spelling.specs.Writing.{whole}
use Rattle.workload_gen.proofs.QueryLaws.{query_written, query_is}
use Rattle.workload_gen.proofs.query_text.query_text.Goals as goal

pub returns : goal.returns
returns c =
    c.into_bytes.ensures
    ∙ query_is c.end_statement.new.self c.args.size (
    query_written (whole []) c.word.new.self c.print_ids.new.out c.word-2.new.self c.print_items.new.out c.print_links.new.out c.word-3.new.self c.word-4.new.self c.print_id.new.out
    c.end_statement.new.self c.args.size (rw c.new-out.ensures at c.in_ok-word.ensures) c.in_ok-print_ids.ensures c.in_ok-word-2.ensures c.in_ok-print_items.ensures
    c.in_ok-print_links.ensures c.in_ok-word-3.ensures c.in_ok-word-4.ensures c.in_ok-print_id.ensures c.in_ok-end_statement.ensures
    )
