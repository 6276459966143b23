use Rattle.std.proofs.Common.{◌++◌, ◌∷◌, [], map, take, sym, ap, ◌∙◌}
use Rattle.std.specs.List.{list_any}
use Rattle.std.proofs.lemmas.List.{take_more, map-append}
use Rattle.query_graph.specs.Words.{said_item}
use Rattle.query_graph.proofs.Inserting.{is_item, is_key, one_more}
use Rattle.query_graph.proofs.names.quantifiers.Goals as goal

pub loop-item-preserved : goal.loop-item-preserved
loop-item-preserved c = λ name table.
    let item = c.item-item.result in
    let before = take c.loop-item.item-index c.args.items.now in
    ap (λ keys. list_any (is_key name table) keys) c.in_ok-insert.ensures.keys
    ∙ one_more c.loop-item.set.keys (c.quantifier_name.result, c.as_slice.result) (map said_item before) (said_item item) c.quantifier_name.ensures c.as_slice.ensures c.loop-item.invariant name table
    ∙ ap (λ items. list_any (is_item name table) items)
    (sym (map-append said_item before (item ∷ []))
    ∙ ap (λ xs. map said_item xs) (ap (λ x. before ++ x ∷ []) c.item-item.is ∙ sym (take_more c.args.items.now c.loop-item.item-index item c.loop-item-test.true)))
