use Rattle.std.proofs.Common.{◌∙◌, ◌≡◌, ℕ, ◌+◌, ◌++◌, ◌∷◌, [], List, map, drop, replicate, reverse, sym, ap, subst, arith}
use Rattle.std.proofs.lemmas.List.{drop_all}
use Rattle.derivation_reading.specs.Derivations.{Step}
use Rattle.derivation_reading.specs.Nodes.{said}
use Rattle.derivation_reading.specs.Places.{inputs}
use Rattle.derivation_reading.specs.OpenPlaces.{ancestors_of}
use Rattle.derivation_reading.proofs.TooFar.{first_far, far_first, far_none, Searched, searched-end, searched-full, searched-far, searched-near, next_item}
use Rattle.derivation_reading.proofs.heights.first_too_far.Goals as goal

pub returns-in_default : goal.returns-in_default
returns-in_default c =
    let l = c.loop-node in
    let all = ancestors_of (0 ∷ []) (map said c.args.nodes.now) in
    let later = map said (drop (l.node-index + 1) c.args.nodes.now) in
    let next = next_item said c.args.nodes.now l.node-index c.node-item.result c.loop-node-test.true c.node-item.is in
    let here = subst (λ (steps : List Step). Searched l.number l.places steps (first_far 1 all)) next l.invariant.searched in
    let none = subst (λ (places : List ℕ). Searched l.number places (said c.node-item.result ∷ later) (first_far 1 all)) c.in_default.ensures.0 here in
    far_none all (sym (searched-full l.number (said c.node-item.result) later (first_far 1 all) none))

pub returns-then-ancestors-gt2047 : goal.returns-then-ancestors-gt2047
returns-then-ancestors-gt2047 c =
    let l = c.loop-node in
    let all = ancestors_of (0 ∷ []) (map said c.args.nodes.now) in
    let later = map said (drop (l.node-index + 1) c.args.nodes.now) in
    let next = next_item said c.args.nodes.now l.node-index c.node-item.result c.loop-node-test.true c.node-item.is in
    let here = subst (λ (steps : List Step). Searched l.number l.places steps (first_far 1 all)) next l.invariant.searched in
    far_first all l.number
    (sym (searched-far l.number c.in-Some.ancestors c.pop.new.self l.places (said c.node-item.result) later (first_far 1 all) c.in-Some.ensures c.if-ancestors-gt2047.true here))

pub loop-node-preserved : goal.loop-node-preserved
loop-node-preserved c =
    let l = c.loop-node in
    let n = c.in-Some.ancestors in
    let all = ancestors_of (0 ∷ []) (map said c.args.nodes.now) in
    let later = map said (drop (l.node-index + 1) c.args.nodes.now) in
    let next = next_item said c.args.nodes.now l.node-index c.node-item.result c.loop-node-test.true c.node-item.is in
    let here = subst (λ (steps : List Step). Searched l.number l.places steps (first_far 1 all)) next l.invariant.searched in
    let count : c.loop-input.input ≡ inputs (said c.node-item.result) = omega (arith, c.loop-input-test.false, c.loop-input.auto.input-end, c.inputs-input-end.ensures) in
    let opened : reverse c.loop-input.places ≡ replicate (inputs (said c.node-item.result)) (n + 1) ++ reverse c.pop.new.self =
    c.loop-input.invariant ∙ ap (λ (k : ℕ). replicate k (n + 1) ++ reverse c.pop.new.self) count in
    record {
      searched = searched-near l.number n c.pop.new.self l.places c.loop-input.places (said c.node-item.result) later (first_far 1 all) c.in-Some.ensures c.if-ancestors-gt2047.false opened here;
      number_is = omega (arith, l.invariant.number_is);
    }

pub returns : goal.returns
returns c =
    let l = c.loop-node in
    let all = ancestors_of (0 ∷ []) (map said c.args.nodes.now) in
    let none = ap (map said) (drop_all l.node-index c.args.nodes.now c.loop-node-test.false) in
    let end = subst (λ (steps : List Step). Searched l.number l.places steps (first_far 1 all)) none l.invariant.searched in
    far_none all (sym (searched-end l.number l.places (first_far 1 all) end))
