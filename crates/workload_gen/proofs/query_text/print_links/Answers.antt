use Rattle.std.proofs.Common.{◌≡◌, ℕ, List, map, sym, subst, get_or}
use Rattle.std.specs.Prelude.{OnOk}
use Rattle.std.proofs.lemmas.Grind.{get_or_default_zero}
use Rattle.std.proofs.lemmas.Result.{on_ok_weaker}
use Rattle.spelling.specs.Writing.{puts}
use Rattle.query_graph.specs.Queries.{where_lexemes}
use Rattle.workload_gen.specs.QueryText.{link_of}
use Rattle.workload_gen.proofs.QueryLaws.{no_links, links_written}
use Rattle.workload_gen.proofs.query_text.print_links.Goals as goal

pub returns-in_default : goal.returns-in_default
returns-in_default c = rw (← c.later_numbers.ensures) (no_links c.args.out.now c.later_numbers.result.now c.in_default.len_below)

pub returns : goal.returns
returns c =
    let numbers = c.later_numbers.result.now in
    let second = get_or numbers 0 0 in
    subst (λ (l : List ℕ). OnOk c.print_run.result (c.print_run.new.out ≡ puts c.args.out.now (where_lexemes (map link_of l)))) c.later_numbers.ensures
    (on_ok_weaker c.print_run.result (links_written c.args.out.now c.word.new.self c.print_link.new.out c.print_run.new.out numbers second
    c.in-len1-up.len_at_least (sym (get_or_default_zero numbers 0 second c.in-len1-up.len_at_least)) c.in_ok-word.ensures c.in_ok-print_link.ensures) c.print_run.ensures)
