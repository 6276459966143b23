-- Vectors of which each is better than the other.
use Rattle.std.proofs.Common.{◌≡◌, true, sym, ◌∙◌, ap}
use Rattle.star_model.proofs.Laws.{better_antisymmetric}
use Rattle.star_model.specs.Vectors.{is_better}
use Rattle.star_model.specs.Cardinality.{card}
use Rattle.star_model.specs.Exchange.{HasCard}
use Rattle.star_model.specs.declared.query.Query.{Query}
use Rattle.star_model.specs.declared.plans.Props.{Props}

pub equal_by_better : (q : Query) (v w : Props) → HasCard q v → HasCard q w → is_better v w ≡ true → is_better w v ≡ true → v ≡ w
equal_by_better q v w rows_v rows_w h k =
    let same = better_antisymmetric v w h k in
    let cards : v.card ≡ w.card = rows_v ∙ (λ i. card q (same i).tables (same i).preds) ∙ sym rows_w in
    ap (λ c. record v { card = c }) cards ∙ same
