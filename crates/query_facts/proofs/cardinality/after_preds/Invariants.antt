use Rattle.std.proofs.Common.{◌≡◌, fold, filter, drop}
use Rattle.star_model.specs.Numbers.{cut_product, cut_quotient}
use Rattle.star_model.specs.Predicates.{those_in}
use Rattle.star_model.specs.Cardinality.{preds_at, ends_at}
use Rattle.query_facts.proofs.cardinality.after_preds.Given as goal

abbrev pub invariant-loop-n : goal.invariant-loop-n
invariant-loop-n l =
    fold (λ m p. cut_quotient (cut_product m p.num) p.den) l.rows (filter (ends_at l.tables l.quant) (those_in l.preds l.n (drop l.n l.query.preds)))
    ≡ preds_at l.query l.tables l.preds l.quant l.fn.read
