-- The selectivities of predicates: those that a rule file gives, and else those of Selinger 1979.
use Rattle.std.specs.Prelude.{ℕ, Bool, max, nat_eq, List, Option, map}
use Rattle.std.specs.List.{find}
use Rattle.std.specs.Option.{option_map_or}
use Rattle.star_model.specs.Formulas.{value}
use Rattle.star_model.specs.Cardinality.{rows_of, distinct_of}
use Rattle.star_model.specs.declared.formula.Vars.{Vars}
use Rattle.star_model.specs.declared.query.Query.{Query}
use Rattle.star_model.specs.declared.query.Pred.{Pred}
use Rattle.star_model.specs.declared.query.Operand.{Operand}
use Rattle.star_model.specs.declared.query.Operand.TheVariants.{Column, Constant}
use Rattle.star_model.specs.declared.query.Cmp.{Cmp}
use Rattle.star_model.specs.declared.query.Cmp.TheVariants as cmp
use Rattle.star_model.specs.declared.rules.Class.{Class}
use Rattle.star_model.specs.declared.rules.Class.TheVariants as class
use Rattle.star_model.specs.declared.rules.RuleFile.{RuleFile}
use Rattle.star_model.specs.declared.selects.SelectEntry.{SelectEntry}

-- the place of a class in the list of classes
abbrev pub place_of_class : Class → ℕ
place_of_class class.EqConst = 0
place_of_class class.EqColumn = 1
place_of_class class.Ne = 2
place_of_class class.Less = 3

abbrev pub same_class : Class → Class → Bool
same_class c d = nat_eq (place_of_class c) (place_of_class d)

-- the formulas of a class
unfoldable pub select_of : List SelectEntry → Class → Option SelectEntry
select_of selects c = find (λ e. same_class e.class c) selects

-- those of a rule file
abbrev pub selects_of : RuleFile → List SelectEntry
selects_of rules = map (λ d. record { class = d.class; num = d.num; den = d.den }) rules.selects

-- the class of a predicate
abbrev pub class_of : Cmp → Operand → Class
class_of cmp.Eq (Constant v) = class.EqConst
class_of cmp.Eq (Column c) = class.EqColumn
class_of cmp.Ne right = class.Ne
class_of _ right = class.Less

-- the distinct values of the right side, and the rows of its table
abbrev pub distinct_right : Query → Operand → ℕ
distinct_right q (Column c) = distinct_of q c
distinct_right q (Constant v) = 0

abbrev pub rows_right : Query → Operand → ℕ
rows_right q (Column c) = rows_of q c.quant.0
rows_right q (Constant v) = 0

-- the values of the variables of a selectivity's formulas
abbrev pub select_vars : Query → Pred → Vars
select_vars q p =
    record {
      cost1 = 0;
      rescan1 = 0;
      card1 = 0;
      width1 = 0;
      cost2 = 0;
      rescan2 = 0;
      card2 = 0;
      width2 = 0;
      card = 0;
      width = 0;
      rows = 0;
      pages = 0;
      preds = 0;
      cpu = 0;
      net = 0;
      distinct1 = distinct_of q p.left;
      rows1 = rows_of q p.left.quant.0;
      distinct2 = distinct_right q p.right;
      rows2 = rows_right q p.right;
    }

-- Where the file has no formulas for the class, one row in so many makes the predicate true.
abbrev pub usual_den : Query → Pred → Class → ℕ
usual_den q p class.EqConst = max 1 (distinct_of q p.left)
usual_den q p class.EqColumn = max 1 (max (distinct_of q p.left) (distinct_right q p.right))
usual_den q p class.Ne = 1
usual_den q p class.Less = 3

abbrev pub num_of : List SelectEntry → Query → Pred → ℕ
num_of selects q p = option_map_or (λ e. value e.num (select_vars q p)) (select_of selects (class_of p.cmp p.right)) 1

abbrev pub den_of : List SelectEntry → Query → Pred → ℕ
den_of selects q p =
    let c = class_of p.cmp p.right in
    option_map_or (λ e. value e.den (select_vars q p)) (select_of selects c) (usual_den q p c)

abbrev pub weighed_pred : List SelectEntry → Query → Pred → Pred
weighed_pred selects q p = record p { num = num_of selects q p; den = den_of selects q p }

-- the query, each predicate with its selectivity
unfoldable pub weighed : List SelectEntry → Query → Query
weighed selects q = record q { preds = map (weighed_pred selects q) q.preds }
