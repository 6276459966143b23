use Rattle.std.proofs.Common.{sym, ◌∙◌}
use Rattle.query_graph.specs.Words.{said}
use Rattle.query_graph.proofs.LimitLaws.{limit_found, limits_kept}
use Rattle.query_graph.proofs.FormedQuery.{formed_query}
use Rattle.query_graph.proofs.FaultLaws.{limit_first, clash_first, accepted_query}
use Rattle.query_graph.proofs.Judging.{names_refused, names_clear}
use Rattle.query_graph.proofs.read.judge.Goals as goal

pub returns-in-Some : goal.returns-in-Some
returns-in-Some c = λ text accepted says. names_refused c.args.catalogue.now text (said c.args.words.now) accepted says c.in-Some.fault (sym c.in_ok-fault.ensures ∙ c.in-Some.is)

pub returns-in-Some-first_limit : goal.returns-in-Some-first_limit
returns-in-Some-first_limit c = λ text accepted says.
    let names = names_clear c.args.catalogue.now (said c.args.words.now) (sym c.in_ok-fault.ensures ∙ c.in_default.is) in
    limit_first c.args.catalogue.now text (said c.args.words.now) accepted says names.0 names.1 c.in-Some-first_limit.limit
    (limit_found c.args.words.now c.in-Some-first_limit.limit c.in-Some-first_limit.ensures)

pub meaning-requires-clause-known : goal.meaning-requires-clause-known
meaning-requires-clause-known c = (names_clear c.args.catalogue.now (said c.args.words.now) (sym c.in_ok-fault.ensures ∙ c.in_default.is)).0

pub meaning-requires-clause-once : goal.meaning-requires-clause-once
meaning-requires-clause-once c = (names_clear c.args.catalogue.now (said c.args.words.now) (sym c.in_ok-fault.ensures ∙ c.in_default.is)).1

pub meaning-requires-clause-keeps : goal.meaning-requires-clause-keeps
meaning-requires-clause-keeps c = limits_kept c.args.words.now c.in_default-first_limit.ensures

pub returns-in-Some-first_clash : goal.returns-in-Some-first_clash
returns-in-Some-first_clash c = λ text accepted says.
    let names = names_clear c.args.catalogue.now (said c.args.words.now) (sym c.in_ok-fault.ensures ∙ c.in_default.is) in
    clash_first c.args.catalogue.now text (said c.args.words.now) accepted says names.0 names.1 (limits_kept c.args.words.now c.in_default-first_limit.ensures)
    c.in_ok-query.query c.in_ok-query.ensures.means c.in-Some-first_clash.predicate c.in-Some-first_clash.ensures

pub returns-in-None : goal.returns-in-None
returns-in-None c = λ text accepted says.
    let names = names_clear c.args.catalogue.now (said c.args.words.now) (sym c.in_ok-fault.ensures ∙ c.in_default.is) in
    let keeps = limits_kept c.args.words.now c.in_default-first_limit.ensures in
    accepted_query c.args.catalogue.now text (said c.args.words.now) accepted says names.0 names.1 keeps c.in_ok-query.query c.in_ok-query.ensures.means c.in-None.ensures
    (formed_query c.args.catalogue.now text (said c.args.words.now) c.in_ok-query.query c.requires says names.1 keeps c.in_ok-query.ensures.means c.in-None.ensures)
