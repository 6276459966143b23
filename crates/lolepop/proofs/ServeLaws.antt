-- Better inputs serve.
use Rattle.std.proofs.Common.{◌≡◌, true, List, [], ◌∷◌, Some}
use Rattle.star_model.proofs.Laws.{operators_exchange}
use Rattle.star_model.specs.Exchange.{CostsPass, MayStandFor}
use Rattle.star_model.specs.Operators.{step}
use Rattle.star_model.specs.Vectors.{is_better}
use Rattle.star_model.specs.declared.query.Query.{Query}
use Rattle.star_model.specs.declared.costs.CostEntry.{CostEntry}
use Rattle.star_model.specs.declared.plans.Op.{Op}
use Rattle.star_model.specs.declared.plans.Props.{Props}

pub one_serves : (q : Query) (costs : List CostEntry) → CostsPass costs → (o : Op) (u v : Props) → MayStandFor q u v
    → (r : Props) → step q costs o (v ∷ []) ≡ Some r → (s : Props) × (step q costs o (u ∷ []) ≡ Some s) × (is_better s r ≡ true)
one_serves q costs pass o u v serves r h = operators_exchange q costs pass o (u ∷ []) (v ∷ []) (serves, tt) r h

pub two_serve : (q : Query) (costs : List CostEntry) → CostsPass costs → (o : Op) (u v w x : Props) → MayStandFor q u v → MayStandFor q w x
    → (r : Props) → step q costs o (v ∷ x ∷ []) ≡ Some r → (s : Props) × (step q costs o (u ∷ w ∷ []) ≡ Some s) × (is_better s r ≡ true)
two_serve q costs pass o u v w x left right r h =
    operators_exchange q costs pass o (u ∷ w ∷ []) (v ∷ x ∷ []) (left, (right, tt)) r h
