-- How the logic stores plans with their vectors: each node has its operator and vector, and the list of its inputs.
use Rattle.std.specs.Prelude.{◌≡◌}
use Rattle.std.specs.Coded.{Coded}
use base.Stored.{Gv, gnil, gcons}
use Rattle.star_model.specs.contracts.plans.Op as the_op
use Rattle.star_model.specs.contracts.plans.Props as the_props
use Rattle.star_model.specs.declared.plans.Op.{Op}
use Rattle.star_model.specs.declared.plans.Props.{Props}
use Rattle.lolepop.specs.PlanTrees.{PlanTree, Leaf, Unary, Binary}

abbrev op_code : Coded Op
op_code = the_op.the_row.coded

abbrev vector_code : Coded Props
vector_code = the_props.the_row.coded

abbrev top : Op → Props → Gv
top o v = gcons (op_code.code o) (vector_code.code v)

abbrev stored : PlanTree → Gv
stored (Leaf o v) = gcons (top o v) gnil
stored (Unary o v t) = gcons (top o v) (gcons (stored t) gnil)
stored (Binary o v s t) = gcons (top o v) (gcons (stored s) (gcons (stored t) gnil))

same_top : (o p : Op) (v w : Props) → top o v ≡ top p w → (o ≡ p) × (v ≡ w)
same_top o p v w h =
    let ops : op_code.code o ≡ op_code.code p = cc in
    let vectors : vector_code.code v ≡ vector_code.code w = cc in
    (op_code.inj o p ops, vector_code.inj v w vectors)

pub stored_once : (s t : PlanTree) → stored s ≡ stored t → s ≡ t
stored_once (Leaf o v) (Leaf p w) h =
    let tops = same_top o p v w (cc) in
    cc
stored_once (Unary o v s) (Unary p w t) h =
    let tops = same_top o p v w (cc) in
    let inputs = stored_once s t (cc) in
    cc
stored_once (Binary o v s r) (Binary p w t u) h =
    let tops = same_top o p v w (cc) in
    let lefts = stored_once s t (cc) in
    let rights = stored_once r u (cc) in
    cc
stored_once (Leaf o v) (Unary p w t) h = cc
stored_once (Leaf o v) (Binary p w t u) h = cc
stored_once (Unary o v s) (Leaf p w) h = cc
stored_once (Unary o v s) (Binary p w t u) h = cc
stored_once (Binary o v s r) (Leaf p w) h = cc
stored_once (Binary o v s r) (Unary p w t) h = cc

abbrev pub tree_code : Coded PlanTree
tree_code = record { code = stored; inj = stored_once }
