use Rattle.std.proofs.Common.{◌∙◌, List, [], ◌∷◌, map, ap, subst, arith}
use Rattle.std.proofs.lemmas.List.{map-append}
use Rattle.derivation_reading.specs.Derivations.{Step}
use Rattle.derivation_reading.specs.Nodes.{said}
use Rattle.derivation_reading.proofs.Piles.{Piled, pile_starts, pile_enough, pile_grows, pile_one, pile_all}
use Rattle.derivation_reading.proofs.build.derivation_of.Goals as goal

pub down-init : goal.down-init
down-init c = rw c.new-pile.ensures (pile_starts (map said c.args.nodes) c.requires)

pub grown-requires : goal.grown-requires
grown-requires c =
    let front = map said c.pop.new.self in
    let last = ap (map said) c.in-Some.ensures ∙ map-append said c.pop.new.self (c.in-Some.node ∷ []) in
    pile_enough (map said c.args.nodes) front (said c.in-Some.node) c.down.pile (subst (λ (l : List Step). Piled (map said c.args.nodes) l c.down.pile) last c.down.invariant)

pub down-preserved : goal.down-preserved
down-preserved c =
    let front = map said c.pop.new.self in
    let last = ap (map said) c.in-Some.ensures ∙ map-append said c.pop.new.self (c.in-Some.node ∷ []) in
    pile_grows (map said c.args.nodes) front (said c.in-Some.node) c.down.pile (subst (λ (l : List Step). Piled (map said c.args.nodes) l c.down.pile) last c.down.invariant)
    c.in_ok-tree.tree c.grown.new.pile c.push.new.self c.in_ok-tree.ensures c.in_ok-push.ensures.ok

pub taken-requires : goal.taken-requires
taken-requires c =
    let none = ap (map said) c.in_default.ensures.0 in
    omega (arith, pile_one (map said c.args.nodes) c.down.pile (subst (λ (l : List Step). Piled (map said c.args.nodes) l c.down.pile) none c.down.invariant))

pub returns : goal.returns
returns c =
    let none = ap (map said) c.in_default.ensures.0 in
    let all = pile_all (map said c.args.nodes) c.down.pile c.taken.new.pile c.taken.result (subst (λ (l : List Step). Piled (map said c.args.nodes) l c.down.pile) none c.down.invariant) c.taken.ensures in
    record { nodes = all.0; inputs = all.1 }
