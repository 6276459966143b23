use Rattle.std.proofs.Common.{◌≡◌, ℕ, List, map, ap, ◌∙◌, subst}
use Rattle.std.specs.List.{range_with_len}
use Rattle.std.specs.Prelude.{OnOk}
use Rattle.spelling.specs.Lexemes.{comma, joined_by}
use Rattle.spelling.specs.Writing.{puts}
use Rattle.query_graph.specs.Queries.{column_lexemes}
use Rattle.workload_gen.specs.QueryText.{id_of}
use Rattle.workload_gen.proofs.QueryLaws.{joined_parts}
use Rattle.workload_gen.proofs.query_text.print_ids.Goals as goal

pub returns : goal.returns
returns c =
    subst (λ l. OnOk c.print_joined.result (c.print_joined.new.out ≡ puts c.args.out.now l))
    (ap (λ (ns : List ℕ). joined_by comma (map (λ n. column_lexemes (id_of n)) ns)) c.numbers.ensures ∙ joined_parts comma column_lexemes id_of (range_with_len 1 c.args.size))
    c.print_joined.ensures
