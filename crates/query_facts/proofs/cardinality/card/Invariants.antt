use Rattle.std.proofs.Common.{◌≡◌, fold, length}
use Rattle.star_model.specs.Numbers.{cut_product}
use Rattle.star_model.specs.Cardinality.{card, preds_at, rows_of}
use Rattle.query_facts.proofs.MemberWalks.{members_from}
use Rattle.query_facts.proofs.cardinality.card.Given as goal

abbrev pub invariant-loop-quant : goal.invariant-loop-quant
invariant-loop-quant l =
    (length (members_from l.tables l.quant) ≡ l.left)
    × (fold (λ n quant. preds_at l.query l.tables l.preds quant (cut_product n (rows_of l.query quant))) l.rows (members_from l.tables l.quant) ≡ card l.query l.tables l.preds)
