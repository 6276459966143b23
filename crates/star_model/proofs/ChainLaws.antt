-- The vectors of plans and of chains: their numbers of rows, and that better inputs serve.
use Rattle.std.proofs.Common.{◌≡◌, true, ◌&&◌, List, [], ◌∷◌, refl, ap, sym, ◌∙◌, subst}
use Rattle.std.specs.Prelude.{Some, option_and_then}
use Rattle.std.proofs.lemmas.Bool.{eqb-true}
use Rattle.star_model.proofs.BoolLaws.{both, and}
use Rattle.star_model.proofs.BetterLaws.{parts, begins_trans, temp_trans}
use Rattle.star_model.proofs.ExchangeLaws.{has_price, if_some, operators_exchange}
use Rattle.star_model.proofs.JudgeLaws.{bind}
use Rattle.star_model.specs.Costs.{formula_of}
use Rattle.star_model.specs.Vectors.{begins, is_better}
use Rattle.star_model.specs.Canon.{canon}
use Rattle.star_model.specs.Requirements.{is_at, satisfies}
use Rattle.star_model.specs.Operators.{step, may_apply, each_touches, unpriced, vars_of, flavour_of}
use Rattle.star_model.specs.Plans.{vector, chain_vector, op_of}
use Rattle.star_model.specs.Exchange.{HasCard, MayStandFor, ChainsAreExchangeable}
use Rattle.star_model.specs.PlanCases.{Leaf, Unary, Binary}
use Rattle.star_model.specs.declared.query.Query.{Query}
use Rattle.star_model.specs.declared.costs.CostEntry.{CostEntry}
use Rattle.star_model.specs.declared.plans.Props.{Props}
use Rattle.star_model.specs.declared.plans.Plan.{Plan}
use Rattle.star_model.specs.declared.plans.Op.{Op}
use Rattle.star_model.specs.declared.plans.Require.{Require}
use Rattle.star_model.specs.declared.rules.Which.TheVariants as which

module _ (q : Query) (costs : List CostEntry) where
  -- the rows of a result are the estimate for its tables and predicates
  pub step_card : (o : Op) (ins : List Props) (r : Props) → step q costs o ins ≡ Some r → HasCard q r
  unfolding step
  step_card o ins r h =
      let s = unpriced q o ins in
      let a = if_some (may_apply q o ins && each_touches q o ins) _ r h in
      let p = has_price (vars_of q o ins s) s r (formula_of costs (flavour_of o) which.Cost) (formula_of costs (flavour_of o) which.Rescan) a.1 in
      subst (HasCard q) p.4 refl

  pub vector_card : (p : Plan) (v : Props) → vector q costs p ≡ Some v → HasCard q v
  unfolding vector
  vector_card (Leaf o) v h = step_card o [] v h
  vector_card (Unary o p) v h = let a = bind (λ u. step q costs o (u ∷ [])) (vector q costs p) v h in step_card o (a.0 ∷ []) v a.2
  vector_card (Binary o p r) v h =
      let a = bind (λ u. option_and_then (λ w. step q costs o (u ∷ w ∷ [])) (vector q costs r)) (vector q costs p) v h in
      let b = bind (λ w. step q costs o (a.0 ∷ w ∷ [])) (vector q costs r) v a.2 in
      step_card o (a.0 ∷ b.0 ∷ []) v b.2

pub chains_exchange : ChainsAreExchangeable
chains_exchange q costs pass r [] u v h w e = (u, refl, subst (λ x. is_better u x ≡ true) (some_is v w e) h.0)
  where
    some_is : (a b : Props) → Some a ≡ Some b → a ≡ b
    some_is a b e = cc
chains_exchange q costs pass r (o ∷ os) u v h w e =
    let a = bind (chain_vector q costs r os) (step q costs (op_of r o) (v ∷ [])) w e in
    let b = operators_exchange q costs pass (op_of r o) (u ∷ []) (v ∷ []) (h, tt) a.0 a.1 in
    let next : MayStandFor q b.0 a.0 = (b.2, step_card q costs (op_of r o) (u ∷ []) b.0 b.1, step_card q costs (op_of r o) (v ∷ []) a.0 a.1) in
    let c = chains_exchange q costs pass r os b.0 a.0 next w a.2 in
    (c.0, ap (option_and_then (chain_vector q costs r os)) b.1 ∙ c.1, c.2)

-- a better vector satisfies what the other does
pub better_satisfies : (q : Query) (u v : Props) (r : Require) → is_better u v ≡ true → satisfies q v r ≡ true → satisfies q u r ≡ true
unfolding satisfies
better_satisfies q u v r h k =
    let p = parts u v h in
    let a = both _ _ k in let b = both _ _ a.0 in let c = both _ _ b.0 in
    let site : v.site.0 ≡ u.site.0 = sym (eqb-true _ _ p.site) in
    let preds : v.preds ≡ u.preds = sym (eqb-true _ _ p.preds) in
    let tables : v.tables ≡ u.tables = sym (eqb-true _ _ p.tables) in
    let order : begins (canon q u.preds u.tables r.order) v.order ≡ true = (λ i. begins (canon q (sym preds i) (sym tables i) r.order) v.order) ∙ c.0 in
    and _ _ (and _ _ (and _ _ (begins_trans (canon q u.preds u.tables r.order) v.order u.order order p.order) ((λ i. is_at r.site (record { 0 = sym site i })) ∙ c.1)) (temp_trans u.temp v.temp r.temp p.temp b.1))
    (begins_trans r.path v.path u.path a.1 p.path)
