use Rattle.std.proofs.Common.{map}
use Rattle.std.proofs.lemmas.Result.{err_from_is_err_and}
use Rattle.derivation_reading.specs.Nodes.{said}
use Rattle.derivation_reading.proofs.FaultLaws.{tokens_refused, nodes_refused, height_refused, accepted, if_some, if_none}
use Rattle.derivation_reading.proofs.read.read_derivation.Goals as goal

pub returns-in_err-tokens : goal.returns-in_err-tokens
returns-in_err-tokens c =
    let p = err_from_is_err_and c.from_residual.result c.from_residual.ensures.1 in
    rw (p.1, p.2) (tokens_refused c.args.source.now c.in_err-tokens.field-0.0 c.in_err-tokens.ensures)

pub returns-in_err-nodes : goal.returns-in_err-nodes
returns-in_err-nodes c =
    let p = err_from_is_err_and c.from_residual-in_err-nodes.result c.from_residual-in_err-nodes.ensures.1 in
    rw (p.1, p.2) (nodes_refused c.args.source.now c.in_err-nodes.field-0.0 c.in_ok-tokens.ensures.accepted c.in_err-nodes.ensures)

pub returns-in-Some : goal.returns-in-Some
returns-in-Some c =
    let far = rw c.as_slice-2.ensures at c.in_ok-node.ensures in
    height_refused c.args.source.now (map said c.in_ok-nodes.nodes) c.in-Some.node c.in_ok-tokens.ensures.accepted c.in_ok-nodes.ensures.0 (if_some c.in_ok-node.field-0 c.in-Some.node _ _ c.in-Some.is far)

pub returns : goal.returns
returns c =
    let far = rw c.as_slice-2.ensures at c.in_ok-node.ensures in
    accepted c.args.source.now (map said c.in_ok-nodes.nodes) c.in_ok-derivation_of.field-0 c.in_ok-tokens.ensures.accepted c.in_ok-nodes.ensures.0
    c.in_ok-derivation_of.ensures.nodes c.in_ok-derivation_of.ensures.inputs (if_none c.in_ok-node.field-0 _ _ c.in_default.not-Some far)
