use Rattle.std.proofs.Common.{◌∙◌, ◌+◌, List, [], ◌∷◌, map, sym, ap, subst}
use Rattle.std.proofs.lemmas.List.{map-append}
use Rattle.derivation_reading.specs.Derivations.{Step}
use Rattle.sb_text.specs.Statements.{Part, part_of, parts_of_iter}
use Rattle.derivation_reading.specs.Nodes.{said}
use Rattle.derivation_reading.proofs.SoFar.{SoFar, starts, strange_form, strange_place, goes}
use Rattle.derivation_reading.proofs.preorder.read_nodes.Goals as goal

pub loop-statement-init : goal.loop-statement-init
loop-statement-init c =
    let same = ap parts_of_iter c.into_iter-statement-iterator.ensures.into_iter_gives ∙ c.statements-statement-items.ensures in
    rw (c.new-nodes.ensures, same) (starts c.args.source.now c.args.tokens.now _ _ c.requires.tokens c.requires.size c.whole-places.ensures.left c.whole-places.ensures.awaited)

pub returns-in-Err-Strange : goal.returns-in-Err-Strange
returns-in-Err-Strange c =
    let l = c.loop-statement in
    let cut = subst (λ (left : List Part). SoFar c.args.source.now (map said l.nodes) left l.places.left l.places.awaited l.number) c.in-Some.ensures.steps l.invariant in
    strange_form c.args.source.now (map said l.nodes) (part_of c.in-Some.statement) (parts_of_iter c.next.new.self) l.places.left l.places.awaited l.number cut
    (rw c.in-Err-Strange.field-0-is at c.in-Err-Strange.ensures)

pub returns-then-not-takes : goal.returns-then-not-takes
returns-then-not-takes c =
    let l = c.loop-statement in
    let cut = subst (λ (left : List Part). SoFar c.args.source.now (map said l.nodes) left l.places.left l.places.awaited l.number) c.in-Some.ensures.steps l.invariant in
    strange_place c.args.source.now (map said l.nodes) (part_of c.in-Some.statement) (parts_of_iter c.next.new.self) l.places.left l.places.awaited l.number cut (said c.in-Ok.node) c.in-Ok.ensures
    (sym c.if-not-takes.ensures)

pub loop-statement-preserved : goal.loop-statement-preserved
loop-statement-preserved c =
    let l = c.loop-statement in
    let cut = subst (λ (left : List Part). SoFar c.args.source.now (map said l.nodes) left l.places.left l.places.awaited l.number) c.in-Some.ensures.steps l.invariant in
    let new = c.behind-places.result in
    let more = goes c.args.source.now (map said l.nodes) (part_of c.in-Some.statement) (parts_of_iter c.next.new.self) l.places.left l.places.awaited l.number cut (said c.in-Ok.node) new.left new.awaited
    c.in-Ok.ensures (sym c.if-not-takes.ensures) c.behind-places.ensures.left c.behind-places.ensures.awaited in
    let pushed = ap (map said) c.in_ok-push.ensures.ok ∙ map-append said l.nodes (c.in-Ok.node ∷ []) in
    subst (λ (nodes : List Step). SoFar c.args.source.now nodes (parts_of_iter c.next.new.self) new.left new.awaited (l.number + 1)) (sym pushed) more
