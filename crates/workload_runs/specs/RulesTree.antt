-- The rule file that the text of each workload's rules spells. Written by tools/generator_rules.
use Rattle.std.specs.Prelude.{List, [], ◌∷◌, None, Some, codes}
use Rattle.star_model.specs.FormulaCases as f
use Rattle.star_model.specs.ValueCases as v
use Rattle.star_model.specs.ConditionCases as c
use Rattle.star_model.specs.PlanExprCases as e
use Rattle.star_model.specs.declared.formula.Formula.TheVariants as formula
use Rattle.star_model.specs.declared.formula.Var.TheVariants as var
use Rattle.star_model.specs.declared.rules.Flavour.TheVariants as flavour
use Rattle.star_model.specs.declared.rules.Which.TheVariants as which
use Rattle.star_model.specs.declared.rules.Kind.TheVariants as kind
use Rattle.star_model.specs.declared.rules.Range.TheVariants as range
use Rattle.star_model.specs.declared.rules.ValueExpr.TheVariants as value
use Rattle.star_model.specs.declared.rules.Condition.TheVariants as condition
use Rattle.star_model.specs.declared.rules.PlanExpr.TheVariants as plan
use Rattle.star_model.specs.declared.rules.FormulaDef.{FormulaDef}
use Rattle.star_model.specs.declared.rules.StarDef.{StarDef}
use Rattle.star_model.specs.declared.rules.RuleFile.{RuleFile}

unfoldable pub formulas : List FormulaDef
formulas =
    record { statement = 1; flavour = flavour.AccessHeap; which = which.Cost; formula = (f.Add (f.Mul (formula.Number 10) (formula.Variable var.Pages)) (f.Mul (formula.Variable var.Cpu) (formula.Variable var.Rows))) }
    ∷ record { statement = 2; flavour = flavour.AccessHeap; which = which.Rescan; formula = (f.Add (f.Mul (formula.Number 10) (formula.Variable var.Pages)) (f.Mul (formula.Variable var.Cpu) (formula.Variable var.Rows))) }
    ∷ record { statement = 3; flavour = flavour.AccessIndex; which = which.Cost; formula = (f.Add (f.Add (formula.Number 10) (f.Div (f.Mul (f.Mul (formula.Number 10) (formula.Variable var.Pages)) (formula.Variable var.Card)) (formula.Variable var.Rows))) (f.Mul (formula.Variable var.Cpu) (formula.Variable var.Card))) }
    ∷ record { statement = 4; flavour = flavour.AccessIndex; which = which.Rescan; formula = (f.Add (f.Add (formula.Number 10) (f.Div (f.Mul (f.Mul (formula.Number 10) (formula.Variable var.Pages)) (formula.Variable var.Card)) (formula.Variable var.Rows))) (f.Mul (formula.Variable var.Cpu) (formula.Variable var.Card))) }
    ∷ record { statement = 5; flavour = flavour.Get; which = which.Cost; formula = (f.Add (f.Add (formula.Variable var.Cost1) (f.Mul (formula.Number 10) (formula.Variable var.Card1))) (f.Mul (f.Mul (formula.Variable var.Cpu) (formula.Variable var.Card1)) (formula.Variable var.Preds))) }
    ∷ record { statement = 6; flavour = flavour.Get; which = which.Rescan; formula = (f.Add (f.Add (formula.Variable var.Rescan1) (f.Mul (formula.Number 10) (formula.Variable var.Card1))) (f.Mul (f.Mul (formula.Variable var.Cpu) (formula.Variable var.Card1)) (formula.Variable var.Preds))) }
    ∷ record { statement = 7; flavour = flavour.Filter; which = which.Cost; formula = (f.Add (formula.Variable var.Cost1) (f.Mul (f.Mul (formula.Variable var.Cpu) (formula.Variable var.Card1)) (formula.Variable var.Preds))) }
    ∷ record { statement = 8; flavour = flavour.Filter; which = which.Rescan; formula = (f.Add (formula.Variable var.Rescan1) (f.Mul (f.Mul (formula.Variable var.Cpu) (formula.Variable var.Card1)) (formula.Variable var.Preds))) }
    ∷ record { statement = 9; flavour = flavour.Sort; which = which.Cost; formula = (f.Add (formula.Variable var.Cost1) (f.Mul (f.Mul (formula.Number 4) (formula.Variable var.Cpu)) (formula.Variable var.Card1))) }
    ∷ record { statement = 10; flavour = flavour.Sort; which = which.Rescan; formula = (f.Add (formula.Variable var.Rescan1) (f.Mul (f.Mul (formula.Number 4) (formula.Variable var.Cpu)) (formula.Variable var.Card1))) }
    ∷ record { statement = 11; flavour = flavour.Store; which = which.Cost; formula = (f.Add (formula.Variable var.Cost1) (f.Mul (f.Mul (formula.Number 2) (formula.Variable var.Cpu)) (formula.Variable var.Card1))) }
    ∷ record { statement = 12; flavour = flavour.Store; which = which.Rescan; formula = (f.Mul (formula.Variable var.Cpu) (formula.Variable var.Card1)) }
    ∷ record { statement = 13; flavour = flavour.Ship; which = which.Cost; formula = (f.Add (formula.Variable var.Cost1) (f.Mul (f.Mul (formula.Variable var.Net) (formula.Variable var.Card1)) (formula.Variable var.Width1))) }
    ∷ record { statement = 14; flavour = flavour.Ship; which = which.Rescan; formula = (f.Add (formula.Variable var.Rescan1) (f.Mul (f.Mul (formula.Variable var.Net) (formula.Variable var.Card1)) (formula.Variable var.Width1))) }
    ∷ record { statement = 15; flavour = flavour.Probe; which = which.Cost; formula = (f.Add (formula.Variable var.Cost1) (f.Mul (formula.Variable var.Cpu) (f.Add (formula.Number 1) (formula.Variable var.Card)))) }
    ∷ record { statement = 16; flavour = flavour.Probe; which = which.Rescan; formula = (f.Mul (formula.Variable var.Cpu) (f.Add (formula.Number 1) (formula.Variable var.Card))) }
    ∷ record { statement = 17; flavour = flavour.JoinNl; which = which.Cost; formula = (f.Add (f.Add (formula.Variable var.Cost1) (formula.Variable var.Cost2)) (f.Mul (f.Sub (formula.Variable var.Card1) (formula.Number 1)) (formula.Variable var.Rescan2))) }
    ∷ record { statement = 18; flavour = flavour.JoinNl; which = which.Rescan; formula = (f.Add (formula.Variable var.Rescan1) (f.Mul (formula.Variable var.Card1) (formula.Variable var.Rescan2))) }
    ∷ record { statement = 19; flavour = flavour.JoinMerge; which = which.Cost; formula = (f.Add (f.Add (formula.Variable var.Cost1) (formula.Variable var.Cost2)) (f.Mul (formula.Variable var.Cpu) (f.Add (formula.Variable var.Card1) (formula.Variable var.Card2)))) }
    ∷ record { statement = 20; flavour = flavour.JoinMerge; which = which.Rescan; formula = (f.Add (f.Add (formula.Variable var.Rescan1) (formula.Variable var.Rescan2)) (f.Mul (formula.Variable var.Cpu) (f.Add (formula.Variable var.Card1) (formula.Variable var.Card2)))) }
    ∷ record { statement = 21; flavour = flavour.JoinHash; which = which.Cost; formula = (f.Add (f.Add (formula.Variable var.Cost1) (formula.Variable var.Cost2)) (f.Mul (formula.Variable var.Cpu) (f.Add (formula.Variable var.Card1) (f.Mul (formula.Number 2) (formula.Variable var.Card2))))) }
    ∷ record { statement = 22; flavour = flavour.JoinHash; which = which.Rescan; formula = (f.Add (f.Add (formula.Variable var.Rescan1) (formula.Variable var.Rescan2)) (f.Mul (formula.Variable var.Cpu) (f.Add (formula.Variable var.Card1) (f.Mul (formula.Number 2) (formula.Variable var.Card2))))) }
    ∷ []

unfoldable pub access_root : StarDef
access_root = record { statement = 23; name = codes "AccessRoot"; params = (record { name = codes "A"; kind = kind.Stream } ∷ record { name = codes "J"; kind = kind.Preds } ∷ []); alternatives = (record { ranges = []; condition = None; body = (plan.Leaf flavour.AccessHeap ((value.Variable (codes "A") 0) ∷ (v.Union (v.Inside (v.Tables (value.Variable (codes "A") 0))) (value.Variable (codes "J") 1)) ∷ [])) } ∷ record { ranges = (record { name = codes "x"; range = range.Indexes (value.Variable (codes "A") 0) } ∷ []); condition = None; body = (plan.Leaf flavour.AccessIndex ((value.Variable (codes "A") 0) ∷ (value.Variable (codes "x") 2) ∷ (v.Union (v.Inside (v.Tables (value.Variable (codes "A") 0))) (value.Variable (codes "J") 1)) ∷ [])) } ∷ []) }

unfoldable pub join_root : StarDef
join_root = record { statement = 24; name = codes "JoinRoot"; params = (record { name = codes "A"; kind = kind.Stream } ∷ record { name = codes "B"; kind = kind.Stream } ∷ record { name = codes "J"; kind = kind.Preds } ∷ []); alternatives = (record { ranges = []; condition = None; body = (plan.Reference (codes "Both") ((value.Variable (codes "A") 0) ∷ (value.Variable (codes "B") 1) ∷ (value.Variable (codes "J") 2) ∷ (v.Between (v.Tables (value.Variable (codes "A") 0)) (v.Tables (value.Variable (codes "B") 1))) ∷ [])) } ∷ []) }

unfoldable pub both : StarDef
both = record { statement = 25; name = codes "Both"; params = (record { name = codes "A"; kind = kind.Stream } ∷ record { name = codes "B"; kind = kind.Stream } ∷ record { name = codes "J"; kind = kind.Preds } ∷ record { name = codes "P"; kind = kind.Preds } ∷ []); alternatives = (record { ranges = []; condition = Some (c.Not (condition.Empty (value.Variable (codes "P") 3))); body = (e.Binary flavour.JoinNl (value.NoPreds ∷ []) (plan.Glue (value.Variable (codes "A") 0) (value.Variable (codes "J") 2)) (plan.Glue (value.Variable (codes "B") 1) (v.Union (value.Variable (codes "J") 2) (value.Variable (codes "P") 3)))) } ∷ record { ranges = []; condition = Some (c.Not (condition.Empty (v.Equalities (value.Variable (codes "P") 3)))); body = (e.Binary flavour.JoinHash ((v.Equalities (value.Variable (codes "P") 3)) ∷ (v.Minus (value.Variable (codes "P") 3) (v.Equalities (value.Variable (codes "P") 3))) ∷ []) (plan.Glue (value.Variable (codes "A") 0) (value.Variable (codes "J") 2)) (plan.Glue (value.Variable (codes "B") 1) (value.Variable (codes "J") 2))) } ∷ []) }

abbrev pub generator_rules : RuleFile
generator_rules = record { version = 1; selects = []; formulas = formulas; stars = access_root ∷ join_root ∷ both ∷ [] }
