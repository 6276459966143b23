-- Written by tools/cases.py.
-- What the definitions of Accepted are of the values that code makes, for proofs about code.
use Rattle.std.specs.Prelude.{◌≡◌, refl, ℕ, List, []}
use denote.Hole.Carrier.{hidden}
use Rattle.star_model.specs.declared.rules.PlanExpr.TheBlock.{hidden-the_row-PlanExpr-0}
use Rattle.star_model.specs.declared.rules.PlanExpr.TheVariants as made_planexpr
use Rattle.star_model.specs.declared.rules.Condition.TheBlock.{hidden-the_row-Condition-0}
use Rattle.star_model.specs.declared.rules.Condition.TheVariants as made_condition
use Rattle.star_model.specs.declared.rules.ValueExpr.TheBlock.{hidden-the_row-ValueExpr-0}
use Rattle.star_model.specs.declared.rules.ValueExpr.TheVariants as made_value
use Rattle.std.specs.Prelude.{◌∷◌, ◌++◌}
use Rattle.star_model.specs.declared.rules.ValueExpr.{ValueExpr}
use Rattle.star_model.specs.declared.rules.Condition.{Condition}
use Rattle.star_model.specs.declared.rules.PlanExpr.{PlanExpr}
use Rattle.star_model.specs.declared.rules.Flavour.{Flavour}
use Rattle.star_model.specs.Accepted.{values_in, references_in, operators_in, glues_in, values_of_condition, variables_in}

pub values_in-Reference : (star : List ℕ) (args : List ValueExpr) → values_in (made_planexpr.Reference star args) ≡ args
unfolding values_in
values_in-Reference star args = refl

pub values_in-Glue : (t : ValueExpr) (p : ValueExpr) → values_in (made_planexpr.Glue t p) ≡ (t ∷ p ∷ [])
unfolding values_in
values_in-Glue t p = refl

pub values_in-Leaf : (f : Flavour) (args : List ValueExpr) → values_in (made_planexpr.Leaf f args) ≡ args
unfolding values_in
values_in-Leaf f args = refl

pub values_in-Unary : (f : Flavour) (args : List ValueExpr) (e : PlanExpr) → values_in (made_planexpr.Unary f args e) ≡ (args ++ values_in e)
unfolding values_in hidden-the_row-PlanExpr-0 hidden
values_in-Unary f args e = refl

pub values_in-Binary : (f : Flavour) (args : List ValueExpr) (d : PlanExpr) (e : PlanExpr) → values_in (made_planexpr.Binary f args d e) ≡ (args ++ values_in d ++ values_in e)
unfolding values_in hidden-the_row-PlanExpr-0 hidden
values_in-Binary f args d e = refl

pub references_in-Reference : (star : List ℕ) (args : List ValueExpr) → references_in (made_planexpr.Reference star args) ≡ ((star, args) ∷ [])
unfolding references_in
references_in-Reference star args = refl

pub references_in-Glue : (t : ValueExpr) (p : ValueExpr) → references_in (made_planexpr.Glue t p) ≡ []
unfolding references_in
references_in-Glue t p = refl

pub references_in-Leaf : (f : Flavour) (args : List ValueExpr) → references_in (made_planexpr.Leaf f args) ≡ []
unfolding references_in
references_in-Leaf f args = refl

pub references_in-Unary : (f : Flavour) (args : List ValueExpr) (e : PlanExpr) → references_in (made_planexpr.Unary f args e) ≡ (references_in e)
unfolding references_in hidden-the_row-PlanExpr-0 hidden
references_in-Unary f args e = refl

pub references_in-Binary : (f : Flavour) (args : List ValueExpr) (d : PlanExpr) (e : PlanExpr) → references_in (made_planexpr.Binary f args d e) ≡ (references_in d ++ references_in e)
unfolding references_in hidden-the_row-PlanExpr-0 hidden
references_in-Binary f args d e = refl

pub operators_in-Reference : (star : List ℕ) (args : List ValueExpr) → operators_in (made_planexpr.Reference star args) ≡ []
unfolding operators_in
operators_in-Reference star args = refl

pub operators_in-Glue : (t : ValueExpr) (p : ValueExpr) → operators_in (made_planexpr.Glue t p) ≡ []
unfolding operators_in
operators_in-Glue t p = refl

pub operators_in-Leaf : (f : Flavour) (args : List ValueExpr) → operators_in (made_planexpr.Leaf f args) ≡ ((f, args) ∷ [])
unfolding operators_in
operators_in-Leaf f args = refl

pub operators_in-Unary : (f : Flavour) (args : List ValueExpr) (e : PlanExpr) → operators_in (made_planexpr.Unary f args e) ≡ ((f, args) ∷ operators_in e)
unfolding operators_in hidden-the_row-PlanExpr-0 hidden
operators_in-Unary f args e = refl

pub operators_in-Binary : (f : Flavour) (args : List ValueExpr) (d : PlanExpr) (e : PlanExpr) → operators_in (made_planexpr.Binary f args d e) ≡ ((f, args) ∷ (operators_in d ++ operators_in e))
unfolding operators_in hidden-the_row-PlanExpr-0 hidden
operators_in-Binary f args d e = refl

pub glues_in-Reference : (star : List ℕ) (args : List ValueExpr) → glues_in (made_planexpr.Reference star args) ≡ []
unfolding glues_in
glues_in-Reference star args = refl

pub glues_in-Glue : (t : ValueExpr) (p : ValueExpr) → glues_in (made_planexpr.Glue t p) ≡ ((t, p) ∷ [])
unfolding glues_in
glues_in-Glue t p = refl

pub glues_in-Leaf : (f : Flavour) (args : List ValueExpr) → glues_in (made_planexpr.Leaf f args) ≡ []
unfolding glues_in
glues_in-Leaf f args = refl

pub glues_in-Unary : (f : Flavour) (args : List ValueExpr) (e : PlanExpr) → glues_in (made_planexpr.Unary f args e) ≡ (glues_in e)
unfolding glues_in hidden-the_row-PlanExpr-0 hidden
glues_in-Unary f args e = refl

pub glues_in-Binary : (f : Flavour) (args : List ValueExpr) (d : PlanExpr) (e : PlanExpr) → glues_in (made_planexpr.Binary f args d e) ≡ (glues_in d ++ glues_in e)
unfolding glues_in hidden-the_row-PlanExpr-0 hidden
glues_in-Binary f args d e = refl

pub values_of_condition-Empty : (v : ValueExpr) → values_of_condition (made_condition.Empty v) ≡ (v ∷ [])
unfolding values_of_condition
values_of_condition-Empty v = refl

pub values_of_condition-Single : (v : ValueExpr) → values_of_condition (made_condition.Single v) ≡ (v ∷ [])
unfolding values_of_condition
values_of_condition-Single v = refl

pub values_of_condition-Same : (v : ValueExpr) (w : ValueExpr) → values_of_condition (made_condition.Same v w) ≡ (v ∷ w ∷ [])
unfolding values_of_condition
values_of_condition-Same v w = refl

pub values_of_condition-Within : (v : ValueExpr) (w : ValueExpr) → values_of_condition (made_condition.Within v w) ≡ (v ∷ w ∷ [])
unfolding values_of_condition
values_of_condition-Within v w = refl

pub values_of_condition-Begins : (v : ValueExpr) (w : ValueExpr) → values_of_condition (made_condition.Begins v w) ≡ (v ∷ w ∷ [])
unfolding values_of_condition
values_of_condition-Begins v w = refl

pub values_of_condition-Not : (c : Condition) → values_of_condition (made_condition.Not c) ≡ (values_of_condition c)
unfolding values_of_condition hidden-the_row-Condition-0 hidden
values_of_condition-Not c = refl

pub values_of_condition-And : (c : Condition) (d : Condition) → values_of_condition (made_condition.And c d) ≡ (values_of_condition c ++ values_of_condition d)
unfolding values_of_condition hidden-the_row-Condition-0 hidden
values_of_condition-And c d = refl

pub values_of_condition-Or : (c : Condition) (d : Condition) → values_of_condition (made_condition.Or c d) ≡ (values_of_condition c ++ values_of_condition d)
unfolding values_of_condition hidden-the_row-Condition-0 hidden
values_of_condition-Or c d = refl

pub variables_in-Variable : (name : List ℕ) (place : ℕ) → variables_in (made_value.Variable name place) ≡ (place ∷ [])
unfolding variables_in
variables_in-Variable name place = refl

pub variables_in-WithOrder : (t : ValueExpr) (c : ValueExpr) → variables_in (made_value.WithOrder t c) ≡ (variables_in t ++ variables_in c)
unfolding variables_in hidden-the_row-ValueExpr-0 hidden
variables_in-WithOrder t c = refl

pub variables_in-WithSite : (t : ValueExpr) (c : ValueExpr) → variables_in (made_value.WithSite t c) ≡ (variables_in t ++ variables_in c)
unfolding variables_in hidden-the_row-ValueExpr-0 hidden
variables_in-WithSite t c = refl

pub variables_in-WithTemp : (t : ValueExpr) → variables_in (made_value.WithTemp t) ≡ (variables_in t)
unfolding variables_in hidden-the_row-ValueExpr-0 hidden
variables_in-WithTemp t = refl

pub variables_in-WithPath : (t : ValueExpr) (c : ValueExpr) → variables_in (made_value.WithPath t c) ≡ (variables_in t ++ variables_in c)
unfolding variables_in hidden-the_row-ValueExpr-0 hidden
variables_in-WithPath t c = refl

pub variables_in-Tables : (t : ValueExpr) → variables_in (made_value.Tables t) ≡ (variables_in t)
unfolding variables_in hidden-the_row-ValueExpr-0 hidden
variables_in-Tables t = refl

pub variables_in-All : variables_in made_value.All ≡ []
unfolding variables_in
variables_in-All = refl

pub variables_in-NoPreds : variables_in made_value.NoPreds ≡ []
unfolding variables_in
variables_in-NoPreds = refl

pub variables_in-Inside : (s : ValueExpr) → variables_in (made_value.Inside s) ≡ (variables_in s)
unfolding variables_in hidden-the_row-ValueExpr-0 hidden
variables_in-Inside s = refl

pub variables_in-Crossing : (s : ValueExpr) → variables_in (made_value.Crossing s) ≡ (variables_in s)
unfolding variables_in hidden-the_row-ValueExpr-0 hidden
variables_in-Crossing s = refl

pub variables_in-Between : (s : ValueExpr) (t : ValueExpr) → variables_in (made_value.Between s t) ≡ (variables_in s ++ variables_in t)
unfolding variables_in hidden-the_row-ValueExpr-0 hidden
variables_in-Between s t = refl

pub variables_in-Equalities : (p : ValueExpr) → variables_in (made_value.Equalities p) ≡ (variables_in p)
unfolding variables_in hidden-the_row-ValueExpr-0 hidden
variables_in-Equalities p = refl

pub variables_in-Indexable : (t : ValueExpr) (x : ValueExpr) (p : ValueExpr) → variables_in (made_value.Indexable t x p) ≡ (variables_in t ++ variables_in x ++ variables_in p)
unfolding variables_in hidden-the_row-ValueExpr-0 hidden
variables_in-Indexable t x p = refl

pub variables_in-NoCols : variables_in made_value.NoCols ≡ []
unfolding variables_in
variables_in-NoCols = refl

pub variables_in-OrderBy : variables_in made_value.OrderBy ≡ []
unfolding variables_in
variables_in-OrderBy = refl

pub variables_in-Columns : (t : ValueExpr) (x : ValueExpr) → variables_in (made_value.Columns t x) ≡ (variables_in t ++ variables_in x)
unfolding variables_in hidden-the_row-ValueExpr-0 hidden
variables_in-Columns t x = refl

pub variables_in-Keys : (p : ValueExpr) (s : ValueExpr) → variables_in (made_value.Keys p s) ≡ (variables_in p ++ variables_in s)
unfolding variables_in hidden-the_row-ValueExpr-0 hidden
variables_in-Keys p s = refl

pub variables_in-Home : (t : ValueExpr) → variables_in (made_value.Home t) ≡ (variables_in t)
unfolding variables_in hidden-the_row-ValueExpr-0 hidden
variables_in-Home t = refl

pub variables_in-QuerySite : variables_in made_value.QuerySite ≡ []
unfolding variables_in
variables_in-QuerySite = refl

pub variables_in-Union : (v : ValueExpr) (w : ValueExpr) → variables_in (made_value.Union v w) ≡ (variables_in v ++ variables_in w)
unfolding variables_in hidden-the_row-ValueExpr-0 hidden
variables_in-Union v w = refl

pub variables_in-Minus : (v : ValueExpr) (w : ValueExpr) → variables_in (made_value.Minus v w) ≡ (variables_in v ++ variables_in w)
unfolding variables_in hidden-the_row-ValueExpr-0 hidden
variables_in-Minus v w = refl

pub variables_in-Meet : (v : ValueExpr) (w : ValueExpr) → variables_in (made_value.Meet v w) ≡ (variables_in v ++ variables_in w)
unfolding variables_in hidden-the_row-ValueExpr-0 hidden
variables_in-Meet v w = refl

pub ruleset values_in_cases = (values_in-Reference, values_in-Glue, values_in-Leaf, values_in-Unary, values_in-Binary)

pub ruleset references_in_cases = (references_in-Reference, references_in-Glue, references_in-Leaf, references_in-Unary, references_in-Binary)

pub ruleset operators_in_cases = (operators_in-Reference, operators_in-Glue, operators_in-Leaf, operators_in-Unary, operators_in-Binary)

pub ruleset glues_in_cases = (glues_in-Reference, glues_in-Glue, glues_in-Leaf, glues_in-Unary, glues_in-Binary)

pub ruleset values_of_condition_cases = (values_of_condition-Empty, values_of_condition-Single, values_of_condition-Same, values_of_condition-Within, values_of_condition-Begins, values_of_condition-Not, values_of_condition-And, values_of_condition-Or)

pub ruleset variables_in_cases = (variables_in-Variable, variables_in-WithOrder, variables_in-WithSite, variables_in-WithTemp, variables_in-WithPath, variables_in-Tables, variables_in-All, variables_in-NoPreds, variables_in-Inside, variables_in-Crossing, variables_in-Between, variables_in-Equalities, variables_in-Indexable, variables_in-NoCols, variables_in-OrderBy, variables_in-Columns, variables_in-Keys, variables_in-Home, variables_in-QuerySite, variables_in-Union, variables_in-Minus, variables_in-Meet)
