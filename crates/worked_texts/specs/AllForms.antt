-- Written by tools/worked_texts.
-- Trees with each form of their grammar.
use Rattle.std.specs.Prelude.{[], ◌∷◌, Some, None, codes, pos, neg_ℤ}
use Rattle.star_model.specs.FormulaCases as f
use Rattle.star_model.specs.ValueCases as v
use Rattle.star_model.specs.ConditionCases as c
use Rattle.star_model.specs.PlanExprCases as e
use Rattle.star_model.specs.declared.formula.Formula.TheVariants as formula
use Rattle.star_model.specs.declared.formula.Test.TheVariants as test
use Rattle.star_model.specs.declared.formula.Var.TheVariants as var
use Rattle.star_model.specs.declared.rules.ValueExpr.TheVariants as value
use Rattle.star_model.specs.declared.rules.Condition.TheVariants as condition
use Rattle.star_model.specs.declared.rules.PlanExpr.TheVariants as plan
use Rattle.star_model.specs.declared.rules.Flavour.TheVariants as flavour
use Rattle.star_model.specs.declared.rules.Which.TheVariants as which
use Rattle.star_model.specs.declared.rules.Kind.TheVariants as kind
use Rattle.star_model.specs.declared.rules.Range.TheVariants as range
use Rattle.star_model.specs.DerivCases as d
use Rattle.star_model.specs.declared.derivations.Deriv.TheVariants as derivation
use Rattle.star_model.specs.declared.plans.GlueOp.TheVariants as glue
use Rattle.star_model.specs.declared.catalogue.Value.TheVariants as constant
use Rattle.star_model.specs.declared.query.Cmp.TheVariants as cmp
use Rattle.star_model.specs.declared.query.Operand.TheVariants as operand
use Rattle.star_model.specs.declared.rules.RuleFile.{RuleFile}
use Rattle.star_model.specs.declared.query.Query.{Query}
use Rattle.star_model.specs.declared.derivations.Deriv.{Deriv}
use Rattle.worked_plans.specs.Catalogues as catalogue

abbrev pub forms_of_rules : RuleFile
forms_of_rules = record {
  version = 1;
  selects = [];
  formulas = (record { statement = 2; flavour = flavour.JoinNl; which = which.Cost; formula = (f.If test.Le (f.Mul (formula.Variable var.Card1) (formula.Number 2)) (f.Sub (formula.Variable var.Cost1) (f.Sub (formula.Variable var.Card2) (formula.Number 1))) (f.Min (formula.Variable var.Cost1) (formula.Variable var.Cost2)) (f.If test.Eq (formula.Variable var.Card) (formula.Number 007) (f.Mul (f.Max (formula.Variable var.One) (formula.Variable var.Net)) (f.Add (formula.Variable var.Cpu) (formula.Variable var.Width))) (f.Div (formula.Variable var.Preds) (f.Div (formula.Variable var.Rows) (formula.Variable var.Width1))))) } ∷ record { statement = 3; flavour = flavour.JoinNl; which = which.Rescan; formula = (f.Sub (f.Add (formula.Variable var.Rescan1) (f.Mul (formula.Variable var.Rescan2) (formula.Variable var.Width2))) (formula.Variable var.Pages)) } ∷ record { statement = 4; flavour = flavour.Sort; which = which.Cost; formula = (f.If test.Eq (f.Mul (f.Add (formula.Variable var.Card1) (formula.Number 1)) (formula.Number 2)) (formula.Number 3) (f.Add (f.If test.Lt (formula.Number 1) (formula.Number 2) (formula.Number 1) (formula.Number 2)) (formula.Number 1)) (f.Sub (f.Div (f.Sub (formula.Number 7) (formula.Number 1)) (f.Mul (formula.Number 2) (formula.Number 3))) (f.Sub (formula.Number 1) (formula.Number 1)))) } ∷ []);
  stars = (record { statement = 1; name = codes "AllForms"; params = (record { name = codes "A"; kind = kind.Stream } ∷ record { name = codes "Q"; kind = kind.Quants } ∷ record { name = codes "P"; kind = kind.Preds } ∷ record { name = codes "C"; kind = kind.Cols } ∷ record { name = codes "S"; kind = kind.Site } ∷ record { name = codes "x"; kind = kind.Index } ∷ []); alternatives = (record { ranges = (record { name = codes "q"; range = range.Members value.All } ∷ record { name = codes "p"; range = range.Each (v.Indexable (value.Variable (codes "A") 0) (value.Variable (codes "x") 5) (v.Equalities (v.Crossing (v.Tables (value.Variable (codes "A") 0))))) } ∷ []); condition = Some (c.And (condition.Single (value.Variable (codes "q") 6)) (c.Or (condition.Within (value.Variable (codes "q") 6) (value.Variable (codes "Q") 1)) (condition.Begins (value.Variable (codes "C") 3) (v.Columns (value.Variable (codes "A") 0) (value.Variable (codes "x") 5))))); body = (e.Binary flavour.JoinMerge ((value.Variable (codes "P") 2) ∷ (v.Minus (value.Variable (codes "P") 2) (v.Between (value.Variable (codes "Q") 1) (value.Variable (codes "Q") 1))) ∷ []) (e.Unary flavour.Ship ((v.Home (value.Variable (codes "A") 0)) ∷ []) (e.Unary flavour.Probe ((v.Keys (value.Variable (codes "P") 2) (value.Variable (codes "Q") 1)) ∷ (v.Union (value.Variable (codes "P") 2) (v.Meet (value.Variable (codes "P") 2) (v.Inside (value.Variable (codes "Q") 1)))) ∷ []) (e.Unary flavour.Filter ((value.Variable (codes "p") 7) ∷ []) (e.Unary flavour.Get ((value.Variable (codes "A") 0) ∷ value.NoPreds ∷ []) (plan.Leaf flavour.AccessIndex ((value.Variable (codes "A") 0) ∷ (value.Variable (codes "x") 5) ∷ (value.Variable (codes "P") 2) ∷ [])))))) (e.Unary flavour.Sort (value.OrderBy ∷ []) (e.Unary flavour.Store ((value.Variable (codes "C") 3) ∷ []) (plan.Glue (v.WithPath (v.WithTemp (v.WithSite (v.WithOrder (value.Variable (codes "A") 0) value.OrderBy) value.QuerySite)) value.NoCols) (value.Variable (codes "P") 2))))) } ∷ record { ranges = (record { name = codes "t"; range = range.Indexes (value.Variable (codes "A") 0) } ∷ record { name = codes "s"; range = range.Sites } ∷ []); condition = None; body = (plan.Reference (codes "AllForms") ((v.WithSite (value.Variable (codes "A") 0) (value.Variable (codes "s") 7)) ∷ (value.Variable (codes "Q") 1) ∷ (value.Variable (codes "P") 2) ∷ (value.Variable (codes "C") 3) ∷ (value.Variable (codes "S") 4) ∷ (value.Variable (codes "t") 6) ∷ [])) } ∷ record { ranges = []; condition = Some (c.Not (condition.Same (value.Variable (codes "Q") 1) value.All)); body = (e.Binary flavour.JoinHash ((value.Variable (codes "P") 2) ∷ (value.Variable (codes "empty_one") 255) ∷ []) (plan.Glue (v.WithTemp (v.Tables (value.Variable (codes "J") 255))) (value.Variable (codes "P") 2)) (e.Binary flavour.JoinNl ((value.Variable (codes "P") 2) ∷ []) (plan.Reference (codes "Other") ((value.Variable (codes "A") 0) ∷ [])) (plan.Leaf flavour.AccessHeap ((value.Variable (codes "A") 0) ∷ (value.Variable (codes "P") 2) ∷ [])))) } ∷ record { ranges = []; condition = Some (condition.Empty (v.Tables (value.Variable (codes "A") 0))); body = (plan.Glue (value.Variable (codes "A") 0) (value.Variable (codes "Q") 1)) } ∷ []) } ∷ []);
}

abbrev pub forms_of_query : Query
forms_of_query = record {
  catalogue = catalogue.employees;
  quants = (record { name = codes "emp"; table = 0 } ∷ record { name = codes "e"; table = 0 } ∷ []);
  select = (record { quant = record { 0 = 1 }; column = 0 } ∷ record { quant = record { 0 = 0 }; column = 1 } ∷ []);
  preds = (record { left = record { quant = record { 0 = 1 }; column = 0 }; cmp = cmp.Ne; right = operand.Constant (constant.Int (pos 3)); num = 1; den = 1 } ∷ record { left = record { quant = record { 0 = 1 }; column = 0 }; cmp = cmp.Lt; right = operand.Column (record { quant = record { 0 = 0 }; column = 0 }); num = 1; den = 3 } ∷ record { left = record { quant = record { 0 = 0 }; column = 2 }; cmp = cmp.Eq; right = operand.Constant (constant.Text (codes "O'Hara")); num = 1; den = 1000 } ∷ record { left = record { quant = record { 0 = 0 }; column = 0 }; cmp = cmp.Le; right = operand.Constant (constant.Int (pos 007)); num = 1; den = 3 } ∷ record { left = record { quant = record { 0 = 1 }; column = 1 }; cmp = cmp.Gt; right = operand.Constant (constant.Int (neg_ℤ (pos 5))); num = 1; den = 3 } ∷ record { left = record { quant = record { 0 = 1 }; column = 1 }; cmp = cmp.Ge; right = operand.Constant (constant.Int (pos 0)); num = 1; den = 3 } ∷ []);
  order = (record { quant = record { 0 = 1 }; column = 0 } ∷ record { quant = record { 0 = 1 }; column = 1 } ∷ []);
  site = Some (record { 0 = 0 });
}

abbrev pub forms_of_derivation : Deriv
forms_of_derivation = (d.Glue (glue.Ship ∷ glue.Sort ∷ glue.Store ∷ []) (d.Goal (record { tables = 2147483653; pushed = 10 }) (Some (1, 2147483652)) (d.Reference (codes "JoinRoot") 1 (2 ∷ 65535 ∷ []) (d.Binary flavour.JoinNl (d.Glue [] (d.Goal (record { tables = 0; pushed = 0 }) None (d.Unary flavour.Get (derivation.Leaf flavour.AccessIndex)))) (d.Unary flavour.Sort (derivation.Leaf flavour.AccessHeap))))))
