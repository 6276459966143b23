use Rattle.std.proofs.Common.{List, map, Err, subst, arith}
use Rattle.std.proofs.lemmas.List.{length-map}
use Rattle.std.proofs.lemmas.Result.{err_from_is_err_and}
use Rattle.catalogue.specs.declared.words.StatementWords.{StatementWords}
use Rattle.catalogue.specs.Words.{said}
use Rattle.catalogue.specs.Judged.{StatementsJudged}
use Rattle.catalogue.proofs.FaultOrder.{tokens_refused, syntax_refused, names_refused, accepted, few_statements}
use Rattle.catalogue.proofs.Formed.{formed}
use Rattle.catalogue.proofs.read.read_catalogue.Goals as goal

pub returns-in_err-tokens : goal.returns-in_err-tokens
returns-in_err-tokens c =
    let p = err_from_is_err_and c.from_residual.result c.from_residual.ensures.1 in
    rw (p.1, p.2) (tokens_refused c.args.source.now c.in_err-tokens.field-0.0 c.in_err-tokens.ensures)

pub returns-in_err-statements : goal.returns-in_err-statements
returns-in_err-statements c =
    let p = err_from_is_err_and c.from_residual-in_err-statements.result c.from_residual-in_err-statements.ensures.1 in
    rw (p.1, p.2) (syntax_refused c.args.source.now c.in_err-statements.field-0.0 c.in_ok-tokens.ensures.accepted c.in_err-statements.ensures)

pub judge-requires : goal.judge-requires
judge-requires c =
    let few = few_statements c.args.source.now (map said c.in_ok-statements.statements) c.in_ok-statements.ensures in
    rw c.as_slice-2.ensures (omega (arith, few, length-map c.in_ok-statements.statements said, c.requires))

pub returns-in_err-judge : goal.returns-in_err-judge
returns-in_err-judge c =
    let p = err_from_is_err_and c.from_residual-in_err-judge.result c.from_residual-in_err-judge.ensures.1 in
    let error = c.in_err-judge.field-0.0 in
    let judged = subst (λ (l : List StatementWords). StatementsJudged (map said l) (Err error)) c.as_slice-2.ensures c.in_err-judge.ensures in
    rw (p.1, p.2) (names_refused c.args.source.now (map said c.in_ok-statements.statements) error c.in_ok-tokens.ensures.accepted c.in_ok-statements.ensures judged)

pub returns : goal.returns
returns c =
    let text = c.args.source.now in
    let statements = map said c.in_ok-statements.statements in
    let clear = rw c.as_slice-2.ensures at c.in_ok-judge.ensures in
    let means = rw c.as_slice-3.ensures at c.in_ok-resolved.ensures in
    accepted text statements c.in_ok-resolved.field-0 c.in_ok-tokens.ensures.accepted c.in_ok-statements.ensures clear means
    (formed text statements c.in_ok-statements.ensures clear.once clear.within c.in_ok-resolved.field-0 means)
