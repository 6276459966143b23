use Rattle.std.proofs.lemmas.Result.{err_from_is_err_and}
use Rattle.std.proofs.Common.{◌∷◌}
use Rattle.stars_core.specs.declared.refusal.TextKind.TheVariants.{Catalogue, Query}
use Rattle.stars_core.proofs.Says.{says_case}
use Rattle.stars_core.proofs.Cases.{rules_not, catalogue_not, query_not, three_pass}
use Rattle.stars_core.proofs.texts.judge_case.Goals as goal

pub returns-in_err-rules : goal.returns-in_err-rules
returns-in_err-rules c =
    let p = err_from_is_err_and c.from_residual.result c.from_residual.ensures.1 in
    rw (p.1, p.2) (λ command later. rules_not command c.args.rules.now ((Catalogue, c.args.catalogue.now) ∷ (Query, c.args.query.now) ∷ later) _ c.in_err-rules.ensures)

pub returns-in_err-catalogue : goal.returns-in_err-catalogue
returns-in_err-catalogue c =
    let p = err_from_is_err_and c.from_residual-in_err-catalogue.result c.from_residual-in_err-catalogue.ensures.1 in
    rw (p.1, p.2) (λ command later. catalogue_not command c.args.rules.now c.args.catalogue.now ((Query, c.args.query.now) ∷ later) c.in_ok-rules.rules _
    c.in_ok-rules.ensures c.in_err-catalogue.ensures)

pub returns-in_err-query : goal.returns-in_err-query
returns-in_err-query c =
    let p = err_from_is_err_and c.from_residual-in_err-query.result c.from_residual-in_err-query.ensures.1 in
    rw (p.1, p.2) (λ command later. query_not command c.args.rules.now c.args.catalogue.now c.args.query.now later c.in_ok-rules.rules c.in_ok-catalogue.catalogue _
    c.in_ok-rules.ensures c.in_ok-catalogue.ensures c.in_err-query.ensures)

pub returns : goal.returns
returns c = (
  three_pass c.args.rules.now c.args.catalogue.now c.args.query.now c.in_ok-rules.rules c.in_ok-catalogue.catalogue c.in_ok-query.query c.in_ok-rules.ensures c.in_ok-catalogue.ensures c.in_ok-query.ensures,
  rw (c.new.ensures.rules, c.new.ensures.query) (says_case c.args.rules.now c.args.catalogue.now c.args.query.now c.in_ok-rules.rules c.in_ok-catalogue.catalogue c.in_ok-query.query c.in_ok-rules.ensures c.in_ok-catalogue.ensures c.in_ok-query.ensures),
)
