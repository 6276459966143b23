-- Written by tools/worked_plans.
-- The rule files of the worked plans.
use Rattle.std.specs.Prelude.{List, [], ◌∷◌, Some, None, codes}
use Rattle.star_model.specs.FormulaCases as f
use Rattle.star_model.specs.ValueCases as v
use Rattle.star_model.specs.ConditionCases as c
use Rattle.star_model.specs.PlanExprCases as e
use Rattle.star_model.specs.declared.formula.Formula.TheVariants as formula
use Rattle.star_model.specs.declared.formula.Var.TheVariants as var
use Rattle.star_model.specs.declared.rules.ValueExpr.TheVariants as value
use Rattle.star_model.specs.declared.rules.Condition.TheVariants as condition
use Rattle.star_model.specs.declared.rules.PlanExpr.TheVariants as plan
use Rattle.star_model.specs.declared.rules.Flavour.TheVariants as flavour
use Rattle.star_model.specs.declared.rules.Which.TheVariants as which
use Rattle.star_model.specs.declared.rules.Class.TheVariants as class
use Rattle.star_model.specs.declared.rules.Kind.TheVariants as kind
use Rattle.star_model.specs.declared.rules.Range.TheVariants as range
use Rattle.star_model.specs.declared.rules.FormulaDef.{FormulaDef}
use Rattle.star_model.specs.declared.rules.RuleFile.{RuleFile}

abbrev pub formulas_of_generator : List FormulaDef
formulas_of_generator =
    record { statement = 1; flavour = flavour.AccessHeap; which = which.Cost; formula = (f.Add (f.Mul (formula.Number 10) (formula.Variable var.Pages)) (f.Mul (formula.Variable var.Cpu) (formula.Variable var.Rows))) }
    ∷ record { statement = 2; flavour = flavour.AccessHeap; which = which.Rescan; formula = (f.Add (f.Mul (formula.Number 10) (formula.Variable var.Pages)) (f.Mul (formula.Variable var.Cpu) (formula.Variable var.Rows))) }
    ∷ record { statement = 3; flavour = flavour.AccessIndex; which = which.Cost; formula = (f.Add (f.Add (formula.Number 10) (f.Div (f.Mul (f.Mul (formula.Number 10) (formula.Variable var.Pages)) (formula.Variable var.Card)) (formula.Variable var.Rows))) (f.Mul (formula.Variable var.Cpu) (formula.Variable var.Card))) }
    ∷ record { statement = 4; flavour = flavour.AccessIndex; which = which.Rescan; formula = (f.Add (f.Add (formula.Number 10) (f.Div (f.Mul (f.Mul (formula.Number 10) (formula.Variable var.Pages)) (formula.Variable var.Card)) (formula.Variable var.Rows))) (f.Mul (formula.Variable var.Cpu) (formula.Variable var.Card))) }
    ∷ record { statement = 5; flavour = flavour.Get; which = which.Cost; formula = (f.Add (f.Add (formula.Variable var.Cost1) (f.Mul (formula.Number 10) (formula.Variable var.Card1))) (f.Mul (f.Mul (formula.Variable var.Cpu) (formula.Variable var.Card1)) (formula.Variable var.Preds))) }
    ∷ record { statement = 6; flavour = flavour.Get; which = which.Rescan; formula = (f.Add (f.Add (formula.Variable var.Rescan1) (f.Mul (formula.Number 10) (formula.Variable var.Card1))) (f.Mul (f.Mul (formula.Variable var.Cpu) (formula.Variable var.Card1)) (formula.Variable var.Preds))) }
    ∷ record { statement = 7; flavour = flavour.Filter; which = which.Cost; formula = (f.Add (formula.Variable var.Cost1) (f.Mul (f.Mul (formula.Variable var.Cpu) (formula.Variable var.Card1)) (formula.Variable var.Preds))) }
    ∷ record { statement = 8; flavour = flavour.Filter; which = which.Rescan; formula = (f.Add (formula.Variable var.Rescan1) (f.Mul (f.Mul (formula.Variable var.Cpu) (formula.Variable var.Card1)) (formula.Variable var.Preds))) }
    ∷ record { statement = 9; flavour = flavour.Sort; which = which.Cost; formula = (f.Add (formula.Variable var.Cost1) (f.Mul (f.Mul (formula.Number 4) (formula.Variable var.Cpu)) (formula.Variable var.Card1))) }
    ∷ record { statement = 10; flavour = flavour.Sort; which = which.Rescan; formula = (f.Add (formula.Variable var.Rescan1) (f.Mul (f.Mul (formula.Number 4) (formula.Variable var.Cpu)) (formula.Variable var.Card1))) }
    ∷ record { statement = 11; flavour = flavour.Store; which = which.Cost; formula = (f.Add (formula.Variable var.Cost1) (f.Mul (f.Mul (formula.Number 2) (formula.Variable var.Cpu)) (formula.Variable var.Card1))) }
    ∷ record { statement = 12; flavour = flavour.Store; which = which.Rescan; formula = (f.Mul (formula.Variable var.Cpu) (formula.Variable var.Card1)) }
    ∷ record { statement = 13; flavour = flavour.Ship; which = which.Cost; formula = (f.Add (formula.Variable var.Cost1) (f.Mul (f.Mul (formula.Variable var.Net) (formula.Variable var.Card1)) (formula.Variable var.Width1))) }
    ∷ record { statement = 14; flavour = flavour.Ship; which = which.Rescan; formula = (f.Add (formula.Variable var.Rescan1) (f.Mul (f.Mul (formula.Variable var.Net) (formula.Variable var.Card1)) (formula.Variable var.Width1))) }
    ∷ record { statement = 15; flavour = flavour.Probe; which = which.Cost; formula = (f.Add (formula.Variable var.Cost1) (f.Mul (formula.Variable var.Cpu) (f.Add (formula.Number 1) (formula.Variable var.Card)))) }
    ∷ record { statement = 16; flavour = flavour.Probe; which = which.Rescan; formula = (f.Mul (formula.Variable var.Cpu) (f.Add (formula.Number 1) (formula.Variable var.Card))) }
    ∷ record { statement = 17; flavour = flavour.JoinNl; which = which.Cost; formula = (f.Add (f.Add (formula.Variable var.Cost1) (formula.Variable var.Cost2)) (f.Mul (f.Sub (formula.Variable var.Card1) (formula.Number 1)) (formula.Variable var.Rescan2))) }
    ∷ record { statement = 18; flavour = flavour.JoinNl; which = which.Rescan; formula = (f.Add (formula.Variable var.Rescan1) (f.Mul (formula.Variable var.Card1) (formula.Variable var.Rescan2))) }
    ∷ record { statement = 19; flavour = flavour.JoinMerge; which = which.Cost; formula = (f.Add (f.Add (formula.Variable var.Cost1) (formula.Variable var.Cost2)) (f.Mul (formula.Variable var.Cpu) (f.Add (formula.Variable var.Card1) (formula.Variable var.Card2)))) }
    ∷ record { statement = 20; flavour = flavour.JoinMerge; which = which.Rescan; formula = (f.Add (f.Add (formula.Variable var.Rescan1) (formula.Variable var.Rescan2)) (f.Mul (formula.Variable var.Cpu) (f.Add (formula.Variable var.Card1) (formula.Variable var.Card2)))) }
    ∷ record { statement = 21; flavour = flavour.JoinHash; which = which.Cost; formula = (f.Add (f.Add (formula.Variable var.Cost1) (formula.Variable var.Cost2)) (f.Mul (formula.Variable var.Cpu) (f.Add (formula.Variable var.Card1) (f.Mul (formula.Number 2) (formula.Variable var.Card2))))) }
    ∷ record { statement = 22; flavour = flavour.JoinHash; which = which.Rescan; formula = (f.Add (f.Add (formula.Variable var.Rescan1) (formula.Variable var.Rescan2)) (f.Mul (formula.Variable var.Cpu) (f.Add (formula.Variable var.Card1) (f.Mul (formula.Number 2) (formula.Variable var.Card2))))) }
    ∷ []

abbrev pub generator : RuleFile
generator = record {
  version = 1;
  selects = [];
  formulas = formulas_of_generator;
  stars =
      record { statement = 23; name = codes "AccessRoot"; params = (record { name = codes "A"; kind = kind.Stream } ∷ record { name = codes "J"; kind = kind.Preds } ∷ []); alternatives = (record { ranges = []; condition = None; body = (plan.Leaf flavour.AccessHeap ((value.Variable (codes "A") 0) ∷ (v.Union (v.Inside (v.Tables (value.Variable (codes "A") 0))) (value.Variable (codes "J") 1)) ∷ [])) } ∷ record { ranges = (record { name = codes "x"; range = range.Indexes (value.Variable (codes "A") 0) } ∷ []); condition = None; body = (plan.Leaf flavour.AccessIndex ((value.Variable (codes "A") 0) ∷ (value.Variable (codes "x") 2) ∷ (v.Union (v.Inside (v.Tables (value.Variable (codes "A") 0))) (value.Variable (codes "J") 1)) ∷ [])) } ∷ []) }
      ∷ record { statement = 24; name = codes "JoinRoot"; params = (record { name = codes "A"; kind = kind.Stream } ∷ record { name = codes "B"; kind = kind.Stream } ∷ record { name = codes "J"; kind = kind.Preds } ∷ []); alternatives = (record { ranges = []; condition = None; body = (plan.Reference (codes "Both") ((value.Variable (codes "A") 0) ∷ (value.Variable (codes "B") 1) ∷ (value.Variable (codes "J") 2) ∷ (v.Between (v.Tables (value.Variable (codes "A") 0)) (v.Tables (value.Variable (codes "B") 1))) ∷ [])) } ∷ []) }
      ∷ record { statement = 25; name = codes "Both"; params = (record { name = codes "A"; kind = kind.Stream } ∷ record { name = codes "B"; kind = kind.Stream } ∷ record { name = codes "J"; kind = kind.Preds } ∷ record { name = codes "P"; kind = kind.Preds } ∷ []); alternatives = (record { ranges = []; condition = Some (c.Not (condition.Empty (value.Variable (codes "P") 3))); body = (e.Binary flavour.JoinNl (value.NoPreds ∷ []) (plan.Glue (value.Variable (codes "A") 0) (value.Variable (codes "J") 2)) (plan.Glue (value.Variable (codes "B") 1) (v.Union (value.Variable (codes "J") 2) (value.Variable (codes "P") 3)))) } ∷ record { ranges = []; condition = Some (c.Not (condition.Empty (v.Equalities (value.Variable (codes "P") 3)))); body = (e.Binary flavour.JoinHash ((v.Equalities (value.Variable (codes "P") 3)) ∷ (v.Minus (value.Variable (codes "P") 3) (v.Equalities (value.Variable (codes "P") 3))) ∷ []) (plan.Glue (value.Variable (codes "A") 0) (value.Variable (codes "J") 2)) (plan.Glue (value.Variable (codes "B") 1) (value.Variable (codes "J") 2))) } ∷ []) }
      ∷ [];
}

abbrev pub hash : RuleFile
hash = record {
  version = 1;
  selects = [];
  formulas = formulas_of_generator;
  stars =
      record { statement = 23; name = codes "AccessRoot"; params = (record { name = codes "A"; kind = kind.Stream } ∷ record { name = codes "J"; kind = kind.Preds } ∷ []); alternatives = (record { ranges = []; condition = None; body = (plan.Leaf flavour.AccessHeap ((value.Variable (codes "A") 0) ∷ (v.Union (v.Inside (v.Tables (value.Variable (codes "A") 0))) (value.Variable (codes "J") 1)) ∷ [])) } ∷ []) }
      ∷ record { statement = 24; name = codes "JoinRoot"; params = (record { name = codes "A"; kind = kind.Stream } ∷ record { name = codes "B"; kind = kind.Stream } ∷ record { name = codes "J"; kind = kind.Preds } ∷ []); alternatives = (record { ranges = []; condition = Some (c.Not (condition.Empty (v.Equalities (v.Between (v.Tables (value.Variable (codes "A") 0)) (v.Tables (value.Variable (codes "B") 1)))))); body = (e.Binary flavour.JoinHash ((v.Equalities (v.Between (v.Tables (value.Variable (codes "A") 0)) (v.Tables (value.Variable (codes "B") 1)))) ∷ (v.Minus (v.Between (v.Tables (value.Variable (codes "A") 0)) (v.Tables (value.Variable (codes "B") 1))) (v.Equalities (v.Between (v.Tables (value.Variable (codes "A") 0)) (v.Tables (value.Variable (codes "B") 1))))) ∷ []) (plan.Glue (value.Variable (codes "A") 0) (value.Variable (codes "J") 2)) (plan.Glue (value.Variable (codes "B") 1) (value.Variable (codes "J") 2))) } ∷ []) }
      ∷ [];
}

abbrev pub heaps : RuleFile
heaps = record {
  version = 1;
  selects = [];
  formulas = formulas_of_generator;
  stars =
      record { statement = 23; name = codes "AccessRoot"; params = (record { name = codes "A"; kind = kind.Stream } ∷ record { name = codes "J"; kind = kind.Preds } ∷ []); alternatives = (record { ranges = []; condition = None; body = (plan.Leaf flavour.AccessHeap ((value.Variable (codes "A") 0) ∷ (v.Union (v.Inside (v.Tables (value.Variable (codes "A") 0))) (value.Variable (codes "J") 1)) ∷ [])) } ∷ []) }
      ∷ record { statement = 24; name = codes "JoinRoot"; params = (record { name = codes "A"; kind = kind.Stream } ∷ record { name = codes "B"; kind = kind.Stream } ∷ record { name = codes "J"; kind = kind.Preds } ∷ []); alternatives = (record { ranges = []; condition = None; body = (e.Binary flavour.JoinNl ((v.Between (v.Tables (value.Variable (codes "A") 0)) (v.Tables (value.Variable (codes "B") 1))) ∷ []) (plan.Glue (value.Variable (codes "A") 0) (value.Variable (codes "J") 2)) (plan.Glue (value.Variable (codes "B") 1) (value.Variable (codes "J") 2))) } ∷ []) }
      ∷ [];
}

abbrev pub formulas_of_intersect : List FormulaDef
formulas_of_intersect =
    record { statement = 2; flavour = flavour.AccessHeap; which = which.Cost; formula = (f.Add (f.Mul (formula.Number 10) (formula.Variable var.Pages)) (f.Mul (formula.Variable var.Cpu) (formula.Variable var.Rows))) }
    ∷ record { statement = 3; flavour = flavour.AccessHeap; which = which.Rescan; formula = (f.Add (f.Mul (formula.Number 10) (formula.Variable var.Pages)) (f.Mul (formula.Variable var.Cpu) (formula.Variable var.Rows))) }
    ∷ record { statement = 4; flavour = flavour.AccessIndex; which = which.Cost; formula = (f.Add (f.Add (formula.Number 10) (f.Div (f.Mul (f.Mul (formula.Number 10) (formula.Variable var.Pages)) (formula.Variable var.Card)) (formula.Variable var.Rows))) (f.Mul (formula.Variable var.Cpu) (formula.Variable var.Card))) }
    ∷ record { statement = 5; flavour = flavour.AccessIndex; which = which.Rescan; formula = (f.Add (f.Add (formula.Number 10) (f.Div (f.Mul (f.Mul (formula.Number 10) (formula.Variable var.Pages)) (formula.Variable var.Card)) (formula.Variable var.Rows))) (f.Mul (formula.Variable var.Cpu) (formula.Variable var.Card))) }
    ∷ record { statement = 6; flavour = flavour.Get; which = which.Cost; formula = (f.Add (f.Add (formula.Variable var.Cost1) (f.Mul (formula.Number 10) (formula.Variable var.Card1))) (f.Mul (f.Mul (formula.Variable var.Cpu) (formula.Variable var.Card1)) (formula.Variable var.Preds))) }
    ∷ record { statement = 7; flavour = flavour.Get; which = which.Rescan; formula = (f.Add (f.Add (formula.Variable var.Rescan1) (f.Mul (formula.Number 10) (formula.Variable var.Card1))) (f.Mul (f.Mul (formula.Variable var.Cpu) (formula.Variable var.Card1)) (formula.Variable var.Preds))) }
    ∷ record { statement = 8; flavour = flavour.Filter; which = which.Cost; formula = (f.Add (formula.Variable var.Cost1) (f.Mul (f.Mul (formula.Variable var.Cpu) (formula.Variable var.Card1)) (formula.Variable var.Preds))) }
    ∷ record { statement = 9; flavour = flavour.Filter; which = which.Rescan; formula = (f.Add (formula.Variable var.Rescan1) (f.Mul (f.Mul (formula.Variable var.Cpu) (formula.Variable var.Card1)) (formula.Variable var.Preds))) }
    ∷ record { statement = 10; flavour = flavour.Sort; which = which.Cost; formula = (f.Add (formula.Variable var.Cost1) (f.Mul (f.Mul (formula.Number 4) (formula.Variable var.Cpu)) (formula.Variable var.Card1))) }
    ∷ record { statement = 11; flavour = flavour.Sort; which = which.Rescan; formula = (f.Add (formula.Variable var.Rescan1) (f.Mul (f.Mul (formula.Number 4) (formula.Variable var.Cpu)) (formula.Variable var.Card1))) }
    ∷ record { statement = 12; flavour = flavour.Store; which = which.Cost; formula = (f.Add (formula.Variable var.Cost1) (f.Mul (f.Mul (formula.Number 2) (formula.Variable var.Cpu)) (formula.Variable var.Card1))) }
    ∷ record { statement = 13; flavour = flavour.Store; which = which.Rescan; formula = (f.Mul (formula.Variable var.Cpu) (formula.Variable var.Card1)) }
    ∷ record { statement = 14; flavour = flavour.Ship; which = which.Cost; formula = (f.Add (formula.Variable var.Cost1) (f.Mul (f.Mul (formula.Variable var.Net) (formula.Variable var.Card1)) (formula.Variable var.Width1))) }
    ∷ record { statement = 15; flavour = flavour.Ship; which = which.Rescan; formula = (f.Add (formula.Variable var.Rescan1) (f.Mul (f.Mul (formula.Variable var.Net) (formula.Variable var.Card1)) (formula.Variable var.Width1))) }
    ∷ record { statement = 16; flavour = flavour.Probe; which = which.Cost; formula = (f.Add (formula.Variable var.Cost1) (f.Mul (formula.Variable var.Cpu) (f.Add (formula.Number 1) (formula.Variable var.Card)))) }
    ∷ record { statement = 17; flavour = flavour.Probe; which = which.Rescan; formula = (f.Mul (formula.Variable var.Cpu) (f.Add (formula.Number 1) (formula.Variable var.Card))) }
    ∷ record { statement = 18; flavour = flavour.JoinNl; which = which.Cost; formula = (f.Add (f.Add (formula.Variable var.Cost1) (formula.Variable var.Cost2)) (f.Mul (f.Sub (formula.Variable var.Card1) (formula.Number 1)) (formula.Variable var.Rescan2))) }
    ∷ record { statement = 19; flavour = flavour.JoinNl; which = which.Rescan; formula = (f.Add (formula.Variable var.Rescan1) (f.Mul (formula.Variable var.Card1) (formula.Variable var.Rescan2))) }
    ∷ record { statement = 20; flavour = flavour.JoinMerge; which = which.Cost; formula = (f.Add (f.Add (formula.Variable var.Cost1) (formula.Variable var.Cost2)) (f.Mul (formula.Variable var.Cpu) (f.Add (formula.Variable var.Card1) (formula.Variable var.Card2)))) }
    ∷ record { statement = 21; flavour = flavour.JoinMerge; which = which.Rescan; formula = (f.Add (f.Add (formula.Variable var.Rescan1) (formula.Variable var.Rescan2)) (f.Mul (formula.Variable var.Cpu) (f.Add (formula.Variable var.Card1) (formula.Variable var.Card2)))) }
    ∷ record { statement = 22; flavour = flavour.JoinHash; which = which.Cost; formula = (f.Add (f.Add (formula.Variable var.Cost1) (formula.Variable var.Cost2)) (f.Mul (formula.Variable var.Cpu) (f.Add (formula.Variable var.Card1) (f.Mul (formula.Number 2) (formula.Variable var.Card2))))) }
    ∷ record { statement = 23; flavour = flavour.JoinHash; which = which.Rescan; formula = (f.Add (f.Add (formula.Variable var.Rescan1) (formula.Variable var.Rescan2)) (f.Mul (formula.Variable var.Cpu) (f.Add (formula.Variable var.Card1) (f.Mul (formula.Number 2) (formula.Variable var.Card2))))) }
    ∷ record { statement = 25; flavour = flavour.Intersect; which = which.Cost; formula = (f.Add (f.Add (formula.Variable var.Cost1) (formula.Variable var.Cost2)) (f.Mul (formula.Variable var.Cpu) (f.Add (formula.Variable var.Card1) (formula.Variable var.Card2)))) }
    ∷ record { statement = 26; flavour = flavour.Intersect; which = which.Rescan; formula = (f.Add (f.Add (formula.Variable var.Rescan1) (formula.Variable var.Rescan2)) (f.Mul (formula.Variable var.Cpu) (f.Add (formula.Variable var.Card1) (formula.Variable var.Card2)))) }
    ∷ []

abbrev pub intersect : RuleFile
intersect = record {
  version = 2;
  selects = [];
  formulas = formulas_of_intersect;
  stars =
      record { statement = 24; name = codes "JoinRoot"; params = (record { name = codes "A"; kind = kind.Stream } ∷ record { name = codes "B"; kind = kind.Stream } ∷ record { name = codes "J"; kind = kind.Preds } ∷ []); alternatives = (record { ranges = []; condition = None; body = (e.Binary flavour.JoinNl ((v.Between (v.Tables (value.Variable (codes "A") 0)) (v.Tables (value.Variable (codes "B") 1))) ∷ []) (plan.Glue (value.Variable (codes "A") 0) (value.Variable (codes "J") 2)) (plan.Glue (value.Variable (codes "B") 1) (value.Variable (codes "J") 2))) } ∷ []) }
      ∷ record { statement = 27; name = codes "AccessRoot"; params = (record { name = codes "A"; kind = kind.Stream } ∷ record { name = codes "J"; kind = kind.Preds } ∷ []); alternatives = (record { ranges = []; condition = None; body = (plan.Reference (codes "Paths") ((value.Variable (codes "A") 0) ∷ (v.Union (v.Inside (v.Tables (value.Variable (codes "A") 0))) (value.Variable (codes "J") 1)) ∷ [])) } ∷ []) }
      ∷ record { statement = 28; name = codes "Paths"; params = (record { name = codes "A"; kind = kind.Stream } ∷ record { name = codes "P"; kind = kind.Preds } ∷ []); alternatives = (record { ranges = []; condition = None; body = (plan.Leaf flavour.AccessHeap ((value.Variable (codes "A") 0) ∷ (value.Variable (codes "P") 1) ∷ [])) } ∷ record { ranges = (record { name = codes "x"; range = range.Indexes (value.Variable (codes "A") 0) } ∷ []); condition = None; body = (e.Unary flavour.Get ((value.Variable (codes "A") 0) ∷ (v.Minus (value.Variable (codes "P") 1) (v.Indexable (value.Variable (codes "A") 0) (value.Variable (codes "x") 2) (value.Variable (codes "P") 1))) ∷ []) (plan.Leaf flavour.AccessIndex ((value.Variable (codes "A") 0) ∷ (value.Variable (codes "x") 2) ∷ (v.Indexable (value.Variable (codes "A") 0) (value.Variable (codes "x") 2) (value.Variable (codes "P") 1)) ∷ []))) } ∷ record { ranges = (record { name = codes "x"; range = range.Indexes (value.Variable (codes "A") 0) } ∷ record { name = codes "y"; range = range.Indexes (value.Variable (codes "A") 0) } ∷ []); condition = Some (c.Not (condition.Same (value.Variable (codes "x") 2) (value.Variable (codes "y") 3))); body = (e.Unary flavour.Get ((value.Variable (codes "A") 0) ∷ (v.Minus (value.Variable (codes "P") 1) (v.Union (v.Indexable (value.Variable (codes "A") 0) (value.Variable (codes "x") 2) (value.Variable (codes "P") 1)) (v.Indexable (value.Variable (codes "A") 0) (value.Variable (codes "y") 3) (value.Variable (codes "P") 1)))) ∷ []) (e.Binary flavour.Intersect [] (plan.Leaf flavour.AccessIndex ((value.Variable (codes "A") 0) ∷ (value.Variable (codes "x") 2) ∷ (v.Indexable (value.Variable (codes "A") 0) (value.Variable (codes "x") 2) (value.Variable (codes "P") 1)) ∷ [])) (plan.Leaf flavour.AccessIndex ((value.Variable (codes "A") 0) ∷ (value.Variable (codes "y") 3) ∷ (v.Indexable (value.Variable (codes "A") 0) (value.Variable (codes "y") 3) (value.Variable (codes "P") 1)) ∷ [])))) } ∷ []) }
      ∷ [];
}

abbrev pub merge : RuleFile
merge = record {
  version = 1;
  selects = [];
  formulas = formulas_of_generator;
  stars =
      record { statement = 23; name = codes "AccessRoot"; params = (record { name = codes "A"; kind = kind.Stream } ∷ record { name = codes "J"; kind = kind.Preds } ∷ []); alternatives = (record { ranges = []; condition = None; body = (plan.Leaf flavour.AccessHeap ((value.Variable (codes "A") 0) ∷ (v.Union (v.Inside (v.Tables (value.Variable (codes "A") 0))) (value.Variable (codes "J") 1)) ∷ [])) } ∷ []) }
      ∷ record { statement = 24; name = codes "JoinRoot"; params = (record { name = codes "A"; kind = kind.Stream } ∷ record { name = codes "B"; kind = kind.Stream } ∷ record { name = codes "J"; kind = kind.Preds } ∷ []); alternatives = (record { ranges = []; condition = None; body = (plan.Reference (codes "Keyed") ((value.Variable (codes "A") 0) ∷ (value.Variable (codes "B") 1) ∷ (value.Variable (codes "J") 2) ∷ (v.Equalities (v.Between (v.Tables (value.Variable (codes "A") 0)) (v.Tables (value.Variable (codes "B") 1)))) ∷ [])) } ∷ []) }
      ∷ record { statement = 25; name = codes "Keyed"; params = (record { name = codes "A"; kind = kind.Stream } ∷ record { name = codes "B"; kind = kind.Stream } ∷ record { name = codes "J"; kind = kind.Preds } ∷ record { name = codes "M"; kind = kind.Preds } ∷ []); alternatives = (record { ranges = []; condition = Some (c.Not (condition.Empty (value.Variable (codes "M") 3))); body = (e.Binary flavour.JoinMerge ((value.Variable (codes "M") 3) ∷ value.NoPreds ∷ []) (plan.Glue (v.WithOrder (value.Variable (codes "A") 0) (v.Keys (value.Variable (codes "M") 3) (v.Tables (value.Variable (codes "A") 0)))) (value.Variable (codes "J") 2)) (plan.Glue (v.WithOrder (value.Variable (codes "B") 1) (v.Keys (value.Variable (codes "M") 3) (v.Tables (value.Variable (codes "B") 1)))) (value.Variable (codes "J") 2))) } ∷ []) }
      ∷ [];
}

abbrev pub pushdown : RuleFile
pushdown = record {
  version = 1;
  selects = [];
  formulas = formulas_of_generator;
  stars =
      record { statement = 23; name = codes "AccessRoot"; params = (record { name = codes "A"; kind = kind.Stream } ∷ record { name = codes "J"; kind = kind.Preds } ∷ []); alternatives = (record { ranges = []; condition = None; body = (plan.Leaf flavour.AccessHeap ((value.Variable (codes "A") 0) ∷ (v.Union (v.Inside (v.Tables (value.Variable (codes "A") 0))) (value.Variable (codes "J") 1)) ∷ [])) } ∷ record { ranges = (record { name = codes "x"; range = range.Indexes (value.Variable (codes "A") 0) } ∷ []); condition = None; body = (plan.Leaf flavour.AccessIndex ((value.Variable (codes "A") 0) ∷ (value.Variable (codes "x") 2) ∷ (v.Union (v.Inside (v.Tables (value.Variable (codes "A") 0))) (value.Variable (codes "J") 1)) ∷ [])) } ∷ []) }
      ∷ record { statement = 24; name = codes "JoinRoot"; params = (record { name = codes "A"; kind = kind.Stream } ∷ record { name = codes "B"; kind = kind.Stream } ∷ record { name = codes "J"; kind = kind.Preds } ∷ []); alternatives = (record { ranges = []; condition = None; body = (e.Binary flavour.JoinNl (value.NoPreds ∷ []) (plan.Glue (value.Variable (codes "A") 0) (value.Variable (codes "J") 2)) (plan.Glue (value.Variable (codes "B") 1) (v.Union (value.Variable (codes "J") 2) (v.Between (v.Tables (value.Variable (codes "A") 0)) (v.Tables (value.Variable (codes "B") 1)))))) } ∷ record { ranges = []; condition = None; body = (e.Binary flavour.JoinNl ((v.Between (v.Tables (value.Variable (codes "A") 0)) (v.Tables (value.Variable (codes "B") 1))) ∷ []) (plan.Glue (value.Variable (codes "A") 0) (value.Variable (codes "J") 2)) (plan.Glue (value.Variable (codes "B") 1) (value.Variable (codes "J") 2))) } ∷ []) }
      ∷ [];
}

abbrev pub formulas_of_skewed : List FormulaDef
formulas_of_skewed =
    record { statement = 2; flavour = flavour.AccessHeap; which = which.Cost; formula = (f.Add (f.Mul (formula.Number 10) (formula.Variable var.Pages)) (f.Mul (formula.Variable var.Cpu) (formula.Variable var.Rows))) }
    ∷ record { statement = 3; flavour = flavour.AccessHeap; which = which.Rescan; formula = (f.Add (f.Mul (formula.Number 10) (formula.Variable var.Pages)) (f.Mul (formula.Variable var.Cpu) (formula.Variable var.Rows))) }
    ∷ record { statement = 4; flavour = flavour.AccessIndex; which = which.Cost; formula = (f.Add (f.Add (formula.Number 10) (f.Div (f.Mul (f.Mul (formula.Number 10) (formula.Variable var.Pages)) (formula.Variable var.Card)) (formula.Variable var.Rows))) (f.Mul (formula.Variable var.Cpu) (formula.Variable var.Card))) }
    ∷ record { statement = 5; flavour = flavour.AccessIndex; which = which.Rescan; formula = (f.Add (f.Add (formula.Number 10) (f.Div (f.Mul (f.Mul (formula.Number 10) (formula.Variable var.Pages)) (formula.Variable var.Card)) (formula.Variable var.Rows))) (f.Mul (formula.Variable var.Cpu) (formula.Variable var.Card))) }
    ∷ record { statement = 6; flavour = flavour.Get; which = which.Cost; formula = (f.Add (f.Add (formula.Variable var.Cost1) (f.Mul (formula.Number 10) (formula.Variable var.Card1))) (f.Mul (f.Mul (formula.Variable var.Cpu) (formula.Variable var.Card1)) (formula.Variable var.Preds))) }
    ∷ record { statement = 7; flavour = flavour.Get; which = which.Rescan; formula = (f.Add (f.Add (formula.Variable var.Rescan1) (f.Mul (formula.Number 10) (formula.Variable var.Card1))) (f.Mul (f.Mul (formula.Variable var.Cpu) (formula.Variable var.Card1)) (formula.Variable var.Preds))) }
    ∷ record { statement = 8; flavour = flavour.Filter; which = which.Cost; formula = (f.Add (formula.Variable var.Cost1) (f.Mul (f.Mul (formula.Variable var.Cpu) (formula.Variable var.Card1)) (formula.Variable var.Preds))) }
    ∷ record { statement = 9; flavour = flavour.Filter; which = which.Rescan; formula = (f.Add (formula.Variable var.Rescan1) (f.Mul (f.Mul (formula.Variable var.Cpu) (formula.Variable var.Card1)) (formula.Variable var.Preds))) }
    ∷ record { statement = 10; flavour = flavour.Sort; which = which.Cost; formula = (f.Add (formula.Variable var.Cost1) (f.Mul (f.Mul (formula.Number 4) (formula.Variable var.Cpu)) (formula.Variable var.Card1))) }
    ∷ record { statement = 11; flavour = flavour.Sort; which = which.Rescan; formula = (f.Add (formula.Variable var.Rescan1) (f.Mul (f.Mul (formula.Number 4) (formula.Variable var.Cpu)) (formula.Variable var.Card1))) }
    ∷ record { statement = 12; flavour = flavour.Store; which = which.Cost; formula = (f.Add (formula.Variable var.Cost1) (f.Mul (f.Mul (formula.Number 2) (formula.Variable var.Cpu)) (formula.Variable var.Card1))) }
    ∷ record { statement = 13; flavour = flavour.Store; which = which.Rescan; formula = (f.Mul (formula.Variable var.Cpu) (formula.Variable var.Card1)) }
    ∷ record { statement = 14; flavour = flavour.Ship; which = which.Cost; formula = (f.Add (formula.Variable var.Cost1) (f.Mul (f.Mul (formula.Variable var.Net) (formula.Variable var.Card1)) (formula.Variable var.Width1))) }
    ∷ record { statement = 15; flavour = flavour.Ship; which = which.Rescan; formula = (f.Add (formula.Variable var.Rescan1) (f.Mul (f.Mul (formula.Variable var.Net) (formula.Variable var.Card1)) (formula.Variable var.Width1))) }
    ∷ record { statement = 16; flavour = flavour.Probe; which = which.Cost; formula = (f.Add (formula.Variable var.Cost1) (f.Mul (formula.Variable var.Cpu) (f.Add (formula.Number 1) (formula.Variable var.Card)))) }
    ∷ record { statement = 17; flavour = flavour.Probe; which = which.Rescan; formula = (f.Mul (formula.Variable var.Cpu) (f.Add (formula.Number 1) (formula.Variable var.Card))) }
    ∷ record { statement = 18; flavour = flavour.JoinNl; which = which.Cost; formula = (f.Add (f.Add (formula.Variable var.Cost1) (formula.Variable var.Cost2)) (f.Mul (f.Sub (formula.Variable var.Card1) (formula.Number 1)) (formula.Variable var.Rescan2))) }
    ∷ record { statement = 19; flavour = flavour.JoinNl; which = which.Rescan; formula = (f.Add (formula.Variable var.Rescan1) (f.Mul (formula.Variable var.Card1) (formula.Variable var.Rescan2))) }
    ∷ record { statement = 20; flavour = flavour.JoinMerge; which = which.Cost; formula = (f.Add (f.Add (formula.Variable var.Cost1) (formula.Variable var.Cost2)) (f.Mul (formula.Variable var.Cpu) (f.Add (formula.Variable var.Card1) (formula.Variable var.Card2)))) }
    ∷ record { statement = 21; flavour = flavour.JoinMerge; which = which.Rescan; formula = (f.Add (f.Add (formula.Variable var.Rescan1) (formula.Variable var.Rescan2)) (f.Mul (formula.Variable var.Cpu) (f.Add (formula.Variable var.Card1) (formula.Variable var.Card2)))) }
    ∷ record { statement = 22; flavour = flavour.JoinHash; which = which.Cost; formula = (f.Add (f.Add (formula.Variable var.Cost1) (formula.Variable var.Cost2)) (f.Mul (formula.Variable var.Cpu) (f.Add (formula.Variable var.Card1) (f.Mul (formula.Number 2) (formula.Variable var.Card2))))) }
    ∷ record { statement = 23; flavour = flavour.JoinHash; which = which.Rescan; formula = (f.Add (f.Add (formula.Variable var.Rescan1) (formula.Variable var.Rescan2)) (f.Mul (formula.Variable var.Cpu) (f.Add (formula.Variable var.Card1) (f.Mul (formula.Number 2) (formula.Variable var.Card2))))) }
    ∷ []

abbrev pub skewed : RuleFile
skewed = record {
  version = 2;
  selects = (record { statement = 26; class = class.EqConst; num = (formula.Number 2); den = (formula.Variable var.Distinct1) } ∷ []);
  formulas = formulas_of_skewed;
  stars =
      record { statement = 24; name = codes "AccessRoot"; params = (record { name = codes "A"; kind = kind.Stream } ∷ record { name = codes "J"; kind = kind.Preds } ∷ []); alternatives = (record { ranges = []; condition = None; body = (plan.Leaf flavour.AccessHeap ((value.Variable (codes "A") 0) ∷ (v.Union (v.Inside (v.Tables (value.Variable (codes "A") 0))) (value.Variable (codes "J") 1)) ∷ [])) } ∷ []) }
      ∷ record { statement = 25; name = codes "JoinRoot"; params = (record { name = codes "A"; kind = kind.Stream } ∷ record { name = codes "B"; kind = kind.Stream } ∷ record { name = codes "J"; kind = kind.Preds } ∷ []); alternatives = (record { ranges = []; condition = None; body = (e.Binary flavour.JoinNl ((v.Between (v.Tables (value.Variable (codes "A") 0)) (v.Tables (value.Variable (codes "B") 1))) ∷ []) (plan.Glue (value.Variable (codes "A") 0) (value.Variable (codes "J") 2)) (plan.Glue (value.Variable (codes "B") 1) (value.Variable (codes "J") 2))) } ∷ []) }
      ∷ [];
}

abbrev pub standard : RuleFile
standard = record {
  version = 1;
  selects = [];
  formulas = formulas_of_generator;
  stars =
      record { statement = 23; name = codes "AccessRoot"; params = (record { name = codes "A"; kind = kind.Stream } ∷ record { name = codes "J"; kind = kind.Preds } ∷ []); alternatives = (record { ranges = []; condition = None; body = (plan.Leaf flavour.AccessHeap ((value.Variable (codes "A") 0) ∷ (v.Union (v.Inside (v.Tables (value.Variable (codes "A") 0))) (value.Variable (codes "J") 1)) ∷ [])) } ∷ record { ranges = (record { name = codes "x"; range = range.Indexes (value.Variable (codes "A") 0) } ∷ []); condition = None; body = (plan.Leaf flavour.AccessIndex ((value.Variable (codes "A") 0) ∷ (value.Variable (codes "x") 2) ∷ (v.Indexable (value.Variable (codes "A") 0) (value.Variable (codes "x") 2) (v.Union (v.Inside (v.Tables (value.Variable (codes "A") 0))) (value.Variable (codes "J") 1))) ∷ [])) } ∷ record { ranges = (record { name = codes "x"; range = range.Indexes (value.Variable (codes "A") 0) } ∷ []); condition = None; body = (e.Unary flavour.Get ((value.Variable (codes "A") 0) ∷ (v.Minus (v.Union (v.Inside (v.Tables (value.Variable (codes "A") 0))) (value.Variable (codes "J") 1)) (v.Indexable (value.Variable (codes "A") 0) (value.Variable (codes "x") 2) (v.Union (v.Inside (v.Tables (value.Variable (codes "A") 0))) (value.Variable (codes "J") 1)))) ∷ []) (plan.Leaf flavour.AccessIndex ((value.Variable (codes "A") 0) ∷ (value.Variable (codes "x") 2) ∷ (v.Indexable (value.Variable (codes "A") 0) (value.Variable (codes "x") 2) (v.Union (v.Inside (v.Tables (value.Variable (codes "A") 0))) (value.Variable (codes "J") 1))) ∷ []))) } ∷ []) }
      ∷ record { statement = 24; name = codes "JoinRoot"; params = (record { name = codes "A"; kind = kind.Stream } ∷ record { name = codes "B"; kind = kind.Stream } ∷ record { name = codes "J"; kind = kind.Preds } ∷ []); alternatives = (record { ranges = (record { name = codes "s"; range = range.Sites } ∷ []); condition = None; body = (plan.Reference (codes "JoinAt") ((v.WithSite (value.Variable (codes "A") 0) (value.Variable (codes "s") 3)) ∷ (v.WithSite (value.Variable (codes "B") 1) (value.Variable (codes "s") 3)) ∷ (value.Variable (codes "J") 2) ∷ (v.Between (v.Tables (value.Variable (codes "A") 0)) (v.Tables (value.Variable (codes "B") 1))) ∷ [])) } ∷ []) }
      ∷ record { statement = 25; name = codes "JoinAt"; params = (record { name = codes "A"; kind = kind.Stream } ∷ record { name = codes "B"; kind = kind.Stream } ∷ record { name = codes "J"; kind = kind.Preds } ∷ record { name = codes "P"; kind = kind.Preds } ∷ []); alternatives = (record { ranges = []; condition = None; body = (e.Binary flavour.JoinNl (value.NoPreds ∷ []) (plan.Glue (value.Variable (codes "A") 0) (value.Variable (codes "J") 2)) (plan.Glue (value.Variable (codes "B") 1) (v.Union (value.Variable (codes "J") 2) (value.Variable (codes "P") 3)))) } ∷ record { ranges = []; condition = None; body = (e.Binary flavour.JoinNl ((value.Variable (codes "P") 3) ∷ []) (plan.Glue (value.Variable (codes "A") 0) (value.Variable (codes "J") 2)) (plan.Glue (v.WithTemp (value.Variable (codes "B") 1)) (value.Variable (codes "J") 2))) } ∷ record { ranges = []; condition = Some (c.Not (condition.Empty (v.Equalities (value.Variable (codes "P") 3)))); body = (plan.Reference (codes "Keyed") ((value.Variable (codes "A") 0) ∷ (value.Variable (codes "B") 1) ∷ (value.Variable (codes "J") 2) ∷ (value.Variable (codes "P") 3) ∷ (v.Equalities (value.Variable (codes "P") 3)) ∷ [])) } ∷ []) }
      ∷ record { statement = 26; name = codes "Keyed"; params = (record { name = codes "A"; kind = kind.Stream } ∷ record { name = codes "B"; kind = kind.Stream } ∷ record { name = codes "J"; kind = kind.Preds } ∷ record { name = codes "P"; kind = kind.Preds } ∷ record { name = codes "M"; kind = kind.Preds } ∷ []); alternatives = (record { ranges = []; condition = None; body = (e.Binary flavour.JoinMerge ((value.Variable (codes "M") 4) ∷ (v.Minus (value.Variable (codes "P") 3) (value.Variable (codes "M") 4)) ∷ []) (plan.Glue (v.WithOrder (value.Variable (codes "A") 0) (v.Keys (value.Variable (codes "M") 4) (v.Tables (value.Variable (codes "A") 0)))) (value.Variable (codes "J") 2)) (plan.Glue (v.WithOrder (value.Variable (codes "B") 1) (v.Keys (value.Variable (codes "M") 4) (v.Tables (value.Variable (codes "B") 1)))) (value.Variable (codes "J") 2))) } ∷ record { ranges = []; condition = None; body = (e.Binary flavour.JoinHash ((value.Variable (codes "M") 4) ∷ (v.Minus (value.Variable (codes "P") 3) (value.Variable (codes "M") 4)) ∷ []) (plan.Glue (value.Variable (codes "A") 0) (value.Variable (codes "J") 2)) (plan.Glue (value.Variable (codes "B") 1) (value.Variable (codes "J") 2))) } ∷ record { ranges = []; condition = None; body = (e.Binary flavour.JoinNl (value.NoPreds ∷ []) (plan.Glue (value.Variable (codes "A") 0) (value.Variable (codes "J") 2)) (e.Unary flavour.Probe ((v.Keys (value.Variable (codes "M") 4) (v.Tables (value.Variable (codes "B") 1))) ∷ (v.Union (value.Variable (codes "P") 3) (v.Meet (value.Variable (codes "J") 2) (v.Crossing (v.Tables (value.Variable (codes "B") 1))))) ∷ []) (plan.Glue (v.WithPath (value.Variable (codes "B") 1) (v.Keys (value.Variable (codes "M") 4) (v.Tables (value.Variable (codes "B") 1)))) value.NoPreds))) } ∷ []) }
      ∷ [];
}

abbrev pub stored_heaps : RuleFile
stored_heaps = record {
  version = 1;
  selects = [];
  formulas = formulas_of_generator;
  stars =
      record { statement = 23; name = codes "AccessRoot"; params = (record { name = codes "A"; kind = kind.Stream } ∷ record { name = codes "J"; kind = kind.Preds } ∷ []); alternatives = (record { ranges = []; condition = None; body = (plan.Leaf flavour.AccessHeap ((value.Variable (codes "A") 0) ∷ (v.Union (v.Inside (v.Tables (value.Variable (codes "A") 0))) (value.Variable (codes "J") 1)) ∷ [])) } ∷ record { ranges = []; condition = None; body = (e.Unary flavour.Store (value.NoCols ∷ []) (plan.Leaf flavour.AccessHeap ((value.Variable (codes "A") 0) ∷ (v.Union (v.Inside (v.Tables (value.Variable (codes "A") 0))) (value.Variable (codes "J") 1)) ∷ []))) } ∷ []) }
      ∷ record { statement = 24; name = codes "JoinRoot"; params = (record { name = codes "A"; kind = kind.Stream } ∷ record { name = codes "B"; kind = kind.Stream } ∷ record { name = codes "J"; kind = kind.Preds } ∷ []); alternatives = (record { ranges = []; condition = None; body = (e.Binary flavour.JoinNl ((v.Between (v.Tables (value.Variable (codes "A") 0)) (v.Tables (value.Variable (codes "B") 1))) ∷ []) (plan.Glue (value.Variable (codes "A") 0) (value.Variable (codes "J") 2)) (plan.Glue (value.Variable (codes "B") 1) (value.Variable (codes "J") 2))) } ∷ []) }
      ∷ [];
}

abbrev pub formulas_of_stored_tiny : List FormulaDef
formulas_of_stored_tiny =
    record { statement = 1; flavour = flavour.AccessHeap; which = which.Cost; formula = (f.Add (f.Mul (formula.Number 10) (formula.Variable var.Pages)) (f.Mul (formula.Variable var.Cpu) (formula.Variable var.Rows))) }
    ∷ record { statement = 2; flavour = flavour.AccessHeap; which = which.Rescan; formula = (f.Add (f.Mul (formula.Number 10) (formula.Variable var.Pages)) (f.Mul (formula.Variable var.Cpu) (formula.Variable var.Rows))) }
    ∷ record { statement = 3; flavour = flavour.Sort; which = which.Cost; formula = (f.Add (formula.Variable var.Cost1) (f.Mul (formula.Number 4) (formula.Variable var.Card1))) }
    ∷ record { statement = 4; flavour = flavour.Sort; which = which.Rescan; formula = (f.Add (formula.Variable var.Rescan1) (f.Mul (formula.Number 4) (formula.Variable var.Card1))) }
    ∷ record { statement = 5; flavour = flavour.Store; which = which.Cost; formula = (f.Add (formula.Variable var.Cost1) (f.Mul (formula.Number 2) (formula.Variable var.Card1))) }
    ∷ record { statement = 6; flavour = flavour.Store; which = which.Rescan; formula = (formula.Variable var.Card1) }
    ∷ record { statement = 7; flavour = flavour.Ship; which = which.Cost; formula = (f.Add (formula.Variable var.Cost1) (f.Mul (f.Mul (formula.Variable var.Net) (formula.Variable var.Card1)) (formula.Variable var.Width1))) }
    ∷ record { statement = 8; flavour = flavour.Ship; which = which.Rescan; formula = (f.Add (formula.Variable var.Rescan1) (f.Mul (f.Mul (formula.Variable var.Net) (formula.Variable var.Card1)) (formula.Variable var.Width1))) }
    ∷ []

abbrev pub stored_tiny : RuleFile
stored_tiny = record {
  version = 1;
  selects = [];
  formulas = formulas_of_stored_tiny;
  stars =
      record { statement = 9; name = codes "AccessRoot"; params = (record { name = codes "A"; kind = kind.Stream } ∷ record { name = codes "J"; kind = kind.Preds } ∷ []); alternatives = (record { ranges = []; condition = None; body = (e.Unary flavour.Store (value.NoCols ∷ []) (plan.Leaf flavour.AccessHeap ((value.Variable (codes "A") 0) ∷ (value.Variable (codes "J") 1) ∷ []))) } ∷ record { ranges = []; condition = None; body = (plan.Leaf flavour.AccessHeap ((value.Variable (codes "A") 0) ∷ (value.Variable (codes "J") 1) ∷ [])) } ∷ []) }
      ∷ record { statement = 10; name = codes "JoinRoot"; params = (record { name = codes "A"; kind = kind.Stream } ∷ record { name = codes "B"; kind = kind.Stream } ∷ record { name = codes "J"; kind = kind.Preds } ∷ []); alternatives = (record { ranges = []; condition = None; body = (plan.Leaf flavour.AccessHeap ((value.Variable (codes "A") 0) ∷ (value.Variable (codes "J") 2) ∷ [])) } ∷ []) }
      ∷ [];
}

abbrev pub storing : RuleFile
storing = record {
  version = 1;
  selects = [];
  formulas = formulas_of_stored_tiny;
  stars =
      record { statement = 9; name = codes "AccessRoot"; params = (record { name = codes "A"; kind = kind.Stream } ∷ record { name = codes "J"; kind = kind.Preds } ∷ []); alternatives = (record { ranges = []; condition = None; body = (plan.Leaf flavour.AccessHeap ((value.Variable (codes "A") 0) ∷ (value.Variable (codes "J") 1) ∷ [])) } ∷ record { ranges = []; condition = None; body = (e.Unary flavour.Store (value.NoCols ∷ []) (plan.Leaf flavour.AccessHeap ((value.Variable (codes "A") 0) ∷ (value.Variable (codes "J") 1) ∷ []))) } ∷ record { ranges = []; condition = None; body = (e.Unary flavour.Store (value.NoCols ∷ []) (e.Unary flavour.Store (value.NoCols ∷ []) (plan.Leaf flavour.AccessHeap ((value.Variable (codes "A") 0) ∷ (value.Variable (codes "J") 1) ∷ [])))) } ∷ []) }
      ∷ record { statement = 10; name = codes "JoinRoot"; params = (record { name = codes "A"; kind = kind.Stream } ∷ record { name = codes "B"; kind = kind.Stream } ∷ record { name = codes "J"; kind = kind.Preds } ∷ []); alternatives = (record { ranges = []; condition = None; body = (plan.Leaf flavour.AccessHeap ((value.Variable (codes "A") 0) ∷ (value.Variable (codes "J") 2) ∷ [])) } ∷ []) }
      ∷ [];
}

abbrev pub tie : RuleFile
tie = record {
  version = 1;
  selects = [];
  formulas = formulas_of_stored_tiny;
  stars =
      record { statement = 9; name = codes "AccessRoot"; params = (record { name = codes "A"; kind = kind.Stream } ∷ record { name = codes "J"; kind = kind.Preds } ∷ []); alternatives = (record { ranges = []; condition = None; body = (plan.Leaf flavour.AccessHeap ((value.Variable (codes "A") 0) ∷ (value.Variable (codes "J") 1) ∷ [])) } ∷ record { ranges = []; condition = None; body = (plan.Leaf flavour.AccessHeap ((value.Variable (codes "A") 0) ∷ (value.Variable (codes "J") 1) ∷ [])) } ∷ []) }
      ∷ record { statement = 10; name = codes "JoinRoot"; params = (record { name = codes "A"; kind = kind.Stream } ∷ record { name = codes "B"; kind = kind.Stream } ∷ record { name = codes "J"; kind = kind.Preds } ∷ []); alternatives = (record { ranges = []; condition = None; body = (plan.Leaf flavour.AccessHeap ((value.Variable (codes "A") 0) ∷ (value.Variable (codes "J") 2) ∷ [])) } ∷ []) }
      ∷ [];
}

abbrev pub tiny : RuleFile
tiny = record {
  version = 1;
  selects = [];
  formulas = formulas_of_stored_tiny;
  stars =
      record { statement = 9; name = codes "AccessRoot"; params = (record { name = codes "A"; kind = kind.Stream } ∷ record { name = codes "J"; kind = kind.Preds } ∷ []); alternatives = (record { ranges = []; condition = None; body = (plan.Leaf flavour.AccessHeap ((value.Variable (codes "A") 0) ∷ (value.Variable (codes "J") 1) ∷ [])) } ∷ []) }
      ∷ record { statement = 10; name = codes "JoinRoot"; params = (record { name = codes "A"; kind = kind.Stream } ∷ record { name = codes "B"; kind = kind.Stream } ∷ record { name = codes "J"; kind = kind.Preds } ∷ []); alternatives = (record { ranges = []; condition = None; body = (plan.Leaf flavour.AccessHeap ((value.Variable (codes "A") 0) ∷ (value.Variable (codes "J") 2) ∷ [])) } ∷ []) }
      ∷ [];
}

abbrev pub tall : RuleFile
tall = record {
  version = 1;
  selects = [];
  formulas = formulas_of_stored_tiny;
  stars =
      record { statement = 9; name = codes "AccessRoot"; params = (record { name = codes "A"; kind = kind.Stream } ∷ record { name = codes "J"; kind = kind.Preds } ∷ []); alternatives = (record { ranges = []; condition = None; body = (plan.Reference (codes "H2") ((value.Variable (codes "A") 0) ∷ (value.Variable (codes "J") 1) ∷ [])) } ∷ []) }
      ∷ record { statement = 10; name = codes "JoinRoot"; params = (record { name = codes "A"; kind = kind.Stream } ∷ record { name = codes "B"; kind = kind.Stream } ∷ record { name = codes "J"; kind = kind.Preds } ∷ []); alternatives = (record { ranges = []; condition = None; body = (plan.Leaf flavour.AccessHeap ((value.Variable (codes "A") 0) ∷ (value.Variable (codes "J") 2) ∷ [])) } ∷ []) }
      ∷ record { statement = 11; name = codes "H2"; params = (record { name = codes "A"; kind = kind.Stream } ∷ record { name = codes "J"; kind = kind.Preds } ∷ []); alternatives = (record { ranges = []; condition = None; body = (plan.Reference (codes "H3") ((value.Variable (codes "A") 0) ∷ (value.Variable (codes "J") 1) ∷ [])) } ∷ []) }
      ∷ record { statement = 12; name = codes "H3"; params = (record { name = codes "A"; kind = kind.Stream } ∷ record { name = codes "J"; kind = kind.Preds } ∷ []); alternatives = (record { ranges = []; condition = None; body = (plan.Reference (codes "H4") ((value.Variable (codes "A") 0) ∷ (value.Variable (codes "J") 1) ∷ [])) } ∷ []) }
      ∷ record { statement = 13; name = codes "H4"; params = (record { name = codes "A"; kind = kind.Stream } ∷ record { name = codes "J"; kind = kind.Preds } ∷ []); alternatives = (record { ranges = []; condition = None; body = (plan.Reference (codes "H5") ((value.Variable (codes "A") 0) ∷ (value.Variable (codes "J") 1) ∷ [])) } ∷ []) }
      ∷ record { statement = 14; name = codes "H5"; params = (record { name = codes "A"; kind = kind.Stream } ∷ record { name = codes "J"; kind = kind.Preds } ∷ []); alternatives = (record { ranges = []; condition = None; body = (plan.Reference (codes "H6") ((value.Variable (codes "A") 0) ∷ (value.Variable (codes "J") 1) ∷ [])) } ∷ []) }
      ∷ record { statement = 15; name = codes "H6"; params = (record { name = codes "A"; kind = kind.Stream } ∷ record { name = codes "J"; kind = kind.Preds } ∷ []); alternatives = (record { ranges = []; condition = None; body = (plan.Reference (codes "H7") ((value.Variable (codes "A") 0) ∷ (value.Variable (codes "J") 1) ∷ [])) } ∷ []) }
      ∷ record { statement = 16; name = codes "H7"; params = (record { name = codes "A"; kind = kind.Stream } ∷ record { name = codes "J"; kind = kind.Preds } ∷ []); alternatives = (record { ranges = []; condition = None; body = (plan.Reference (codes "H8") ((value.Variable (codes "A") 0) ∷ (value.Variable (codes "J") 1) ∷ [])) } ∷ []) }
      ∷ record { statement = 17; name = codes "H8"; params = (record { name = codes "A"; kind = kind.Stream } ∷ record { name = codes "J"; kind = kind.Preds } ∷ []); alternatives = (record { ranges = []; condition = None; body = (plan.Reference (codes "H9") ((value.Variable (codes "A") 0) ∷ (value.Variable (codes "J") 1) ∷ [])) } ∷ []) }
      ∷ record { statement = 18; name = codes "H9"; params = (record { name = codes "A"; kind = kind.Stream } ∷ record { name = codes "J"; kind = kind.Preds } ∷ []); alternatives = (record { ranges = []; condition = None; body = (plan.Reference (codes "H10") ((value.Variable (codes "A") 0) ∷ (value.Variable (codes "J") 1) ∷ [])) } ∷ []) }
      ∷ record { statement = 19; name = codes "H10"; params = (record { name = codes "A"; kind = kind.Stream } ∷ record { name = codes "J"; kind = kind.Preds } ∷ []); alternatives = (record { ranges = []; condition = None; body = (plan.Reference (codes "H11") ((value.Variable (codes "A") 0) ∷ (value.Variable (codes "J") 1) ∷ [])) } ∷ []) }
      ∷ record { statement = 20; name = codes "H11"; params = (record { name = codes "A"; kind = kind.Stream } ∷ record { name = codes "J"; kind = kind.Preds } ∷ []); alternatives = (record { ranges = []; condition = None; body = (plan.Reference (codes "H12") ((value.Variable (codes "A") 0) ∷ (value.Variable (codes "J") 1) ∷ [])) } ∷ []) }
      ∷ record { statement = 21; name = codes "H12"; params = (record { name = codes "A"; kind = kind.Stream } ∷ record { name = codes "J"; kind = kind.Preds } ∷ []); alternatives = (record { ranges = []; condition = None; body = (plan.Reference (codes "H13") ((value.Variable (codes "A") 0) ∷ (value.Variable (codes "J") 1) ∷ [])) } ∷ []) }
      ∷ record { statement = 22; name = codes "H13"; params = (record { name = codes "A"; kind = kind.Stream } ∷ record { name = codes "J"; kind = kind.Preds } ∷ []); alternatives = (record { ranges = []; condition = None; body = (plan.Reference (codes "H14") ((value.Variable (codes "A") 0) ∷ (value.Variable (codes "J") 1) ∷ [])) } ∷ []) }
      ∷ record { statement = 23; name = codes "H14"; params = (record { name = codes "A"; kind = kind.Stream } ∷ record { name = codes "J"; kind = kind.Preds } ∷ []); alternatives = (record { ranges = []; condition = None; body = (plan.Reference (codes "H15") ((value.Variable (codes "A") 0) ∷ (value.Variable (codes "J") 1) ∷ [])) } ∷ []) }
      ∷ record { statement = 24; name = codes "H15"; params = (record { name = codes "A"; kind = kind.Stream } ∷ record { name = codes "J"; kind = kind.Preds } ∷ []); alternatives = (record { ranges = []; condition = None; body = (plan.Reference (codes "H16") ((value.Variable (codes "A") 0) ∷ (value.Variable (codes "J") 1) ∷ [])) } ∷ []) }
      ∷ record { statement = 25; name = codes "H16"; params = (record { name = codes "A"; kind = kind.Stream } ∷ record { name = codes "J"; kind = kind.Preds } ∷ []); alternatives = (record { ranges = []; condition = None; body = (plan.Leaf flavour.AccessHeap ((value.Variable (codes "A") 0) ∷ (value.Variable (codes "J") 1) ∷ [])) } ∷ []) }
      ∷ [];
}

abbrev pub formulas_of_variables : List FormulaDef
formulas_of_variables =
    record { statement = 1; flavour = flavour.AccessHeap; which = which.Cost; formula = (f.Add (formula.Variable var.Cpu) (f.Mul (formula.Number 1000) (f.Add (formula.Variable var.Net) (f.Mul (formula.Number 1000) (f.Add (formula.Variable var.Preds) (f.Mul (formula.Number 1000) (f.Add (formula.Variable var.Rows) (f.Mul (formula.Number 1000) (f.Add (formula.Variable var.Pages) (f.Mul (formula.Number 1000) (formula.Variable var.Card))))))))))) }
    ∷ record { statement = 2; flavour = flavour.AccessHeap; which = which.Rescan; formula = (f.Add (formula.Variable var.Width) (f.Mul (formula.Number 1000) (f.Add (formula.Variable var.Width1) (f.Mul (formula.Number 1000) (f.Add (formula.Variable var.Width2) (f.Mul (formula.Number 1000) (f.Add (formula.Variable var.Card1) (f.Mul (formula.Number 1000) (f.Add (formula.Variable var.Card2) (f.Mul (formula.Number 1000) (formula.Variable var.One))))))))))) }
    ∷ record { statement = 3; flavour = flavour.AccessIndex; which = which.Cost; formula = (f.Add (formula.Variable var.Cpu) (f.Mul (formula.Number 1000) (f.Add (formula.Variable var.Net) (f.Mul (formula.Number 1000) (f.Add (formula.Variable var.Preds) (f.Mul (formula.Number 1000) (f.Add (formula.Variable var.Rows) (f.Mul (formula.Number 1000) (f.Add (formula.Variable var.Pages) (f.Mul (formula.Number 1000) (formula.Variable var.Card))))))))))) }
    ∷ record { statement = 4; flavour = flavour.AccessIndex; which = which.Rescan; formula = (f.Add (formula.Variable var.Width) (f.Mul (formula.Number 1000) (f.Add (formula.Variable var.Width1) (f.Mul (formula.Number 1000) (f.Add (formula.Variable var.Width2) (f.Mul (formula.Number 1000) (f.Add (formula.Variable var.Card1) (f.Mul (formula.Number 1000) (f.Add (formula.Variable var.Card2) (f.Mul (formula.Number 1000) (formula.Variable var.One))))))))))) }
    ∷ record { statement = 5; flavour = flavour.Get; which = which.Cost; formula = (f.Add (formula.Variable var.Cpu) (f.Mul (formula.Number 1000) (f.Add (formula.Variable var.Net) (f.Mul (formula.Number 1000) (f.Add (formula.Variable var.Preds) (f.Mul (formula.Number 1000) (f.Add (formula.Variable var.Rows) (f.Mul (formula.Number 1000) (f.Add (formula.Variable var.Pages) (f.Mul (formula.Number 1000) (formula.Variable var.Card))))))))))) }
    ∷ record { statement = 6; flavour = flavour.Get; which = which.Rescan; formula = (f.Add (formula.Variable var.Width) (f.Mul (formula.Number 1000) (f.Add (formula.Variable var.Width1) (f.Mul (formula.Number 1000) (f.Add (formula.Variable var.Width2) (f.Mul (formula.Number 1000) (f.Add (formula.Variable var.Card1) (f.Mul (formula.Number 1000) (f.Add (formula.Variable var.Card2) (f.Mul (formula.Number 1000) (formula.Variable var.One))))))))))) }
    ∷ record { statement = 7; flavour = flavour.Filter; which = which.Cost; formula = (f.Add (formula.Variable var.Cpu) (f.Mul (formula.Number 1000) (f.Add (formula.Variable var.Net) (f.Mul (formula.Number 1000) (f.Add (formula.Variable var.Preds) (f.Mul (formula.Number 1000) (f.Add (formula.Variable var.Rows) (f.Mul (formula.Number 1000) (f.Add (formula.Variable var.Pages) (f.Mul (formula.Number 1000) (formula.Variable var.Card))))))))))) }
    ∷ record { statement = 8; flavour = flavour.Filter; which = which.Rescan; formula = (f.Add (formula.Variable var.Width) (f.Mul (formula.Number 1000) (f.Add (formula.Variable var.Width1) (f.Mul (formula.Number 1000) (f.Add (formula.Variable var.Width2) (f.Mul (formula.Number 1000) (f.Add (formula.Variable var.Card1) (f.Mul (formula.Number 1000) (f.Add (formula.Variable var.Card2) (f.Mul (formula.Number 1000) (formula.Variable var.One))))))))))) }
    ∷ record { statement = 9; flavour = flavour.Sort; which = which.Cost; formula = (f.Add (formula.Variable var.Cpu) (f.Mul (formula.Number 1000) (f.Add (formula.Variable var.Net) (f.Mul (formula.Number 1000) (f.Add (formula.Variable var.Preds) (f.Mul (formula.Number 1000) (f.Add (formula.Variable var.Rows) (f.Mul (formula.Number 1000) (f.Add (formula.Variable var.Pages) (f.Mul (formula.Number 1000) (formula.Variable var.Card))))))))))) }
    ∷ record { statement = 10; flavour = flavour.Sort; which = which.Rescan; formula = (f.Add (formula.Variable var.Width) (f.Mul (formula.Number 1000) (f.Add (formula.Variable var.Width1) (f.Mul (formula.Number 1000) (f.Add (formula.Variable var.Width2) (f.Mul (formula.Number 1000) (f.Add (formula.Variable var.Card1) (f.Mul (formula.Number 1000) (f.Add (formula.Variable var.Card2) (f.Mul (formula.Number 1000) (formula.Variable var.One))))))))))) }
    ∷ record { statement = 11; flavour = flavour.Store; which = which.Cost; formula = (f.Add (formula.Variable var.Cpu) (f.Mul (formula.Number 1000) (f.Add (formula.Variable var.Net) (f.Mul (formula.Number 1000) (f.Add (formula.Variable var.Preds) (f.Mul (formula.Number 1000) (f.Add (formula.Variable var.Rows) (f.Mul (formula.Number 1000) (f.Add (formula.Variable var.Pages) (f.Mul (formula.Number 1000) (formula.Variable var.Card))))))))))) }
    ∷ record { statement = 12; flavour = flavour.Store; which = which.Rescan; formula = (f.Add (formula.Variable var.Width) (f.Mul (formula.Number 1000) (f.Add (formula.Variable var.Width1) (f.Mul (formula.Number 1000) (f.Add (formula.Variable var.Width2) (f.Mul (formula.Number 1000) (f.Add (formula.Variable var.Card1) (f.Mul (formula.Number 1000) (f.Add (formula.Variable var.Card2) (f.Mul (formula.Number 1000) (formula.Variable var.One))))))))))) }
    ∷ record { statement = 13; flavour = flavour.Ship; which = which.Cost; formula = (f.Add (formula.Variable var.Cpu) (f.Mul (formula.Number 1000) (f.Add (formula.Variable var.Net) (f.Mul (formula.Number 1000) (f.Add (formula.Variable var.Preds) (f.Mul (formula.Number 1000) (f.Add (formula.Variable var.Rows) (f.Mul (formula.Number 1000) (f.Add (formula.Variable var.Pages) (f.Mul (formula.Number 1000) (formula.Variable var.Card))))))))))) }
    ∷ record { statement = 14; flavour = flavour.Ship; which = which.Rescan; formula = (f.Add (formula.Variable var.Width) (f.Mul (formula.Number 1000) (f.Add (formula.Variable var.Width1) (f.Mul (formula.Number 1000) (f.Add (formula.Variable var.Width2) (f.Mul (formula.Number 1000) (f.Add (formula.Variable var.Card1) (f.Mul (formula.Number 1000) (f.Add (formula.Variable var.Card2) (f.Mul (formula.Number 1000) (formula.Variable var.One))))))))))) }
    ∷ record { statement = 15; flavour = flavour.Probe; which = which.Cost; formula = (f.Add (formula.Variable var.Cpu) (f.Mul (formula.Number 1000) (f.Add (formula.Variable var.Net) (f.Mul (formula.Number 1000) (f.Add (formula.Variable var.Preds) (f.Mul (formula.Number 1000) (f.Add (formula.Variable var.Rows) (f.Mul (formula.Number 1000) (f.Add (formula.Variable var.Pages) (f.Mul (formula.Number 1000) (formula.Variable var.Card))))))))))) }
    ∷ record { statement = 16; flavour = flavour.Probe; which = which.Rescan; formula = (f.Add (formula.Variable var.Width) (f.Mul (formula.Number 1000) (f.Add (formula.Variable var.Width1) (f.Mul (formula.Number 1000) (f.Add (formula.Variable var.Width2) (f.Mul (formula.Number 1000) (f.Add (formula.Variable var.Card1) (f.Mul (formula.Number 1000) (f.Add (formula.Variable var.Card2) (f.Mul (formula.Number 1000) (formula.Variable var.One))))))))))) }
    ∷ record { statement = 17; flavour = flavour.JoinNl; which = which.Cost; formula = (f.Add (formula.Variable var.Cpu) (f.Mul (formula.Number 1000) (f.Add (formula.Variable var.Net) (f.Mul (formula.Number 1000) (f.Add (formula.Variable var.Preds) (f.Mul (formula.Number 1000) (f.Add (formula.Variable var.Rows) (f.Mul (formula.Number 1000) (f.Add (formula.Variable var.Pages) (f.Mul (formula.Number 1000) (formula.Variable var.Card))))))))))) }
    ∷ record { statement = 18; flavour = flavour.JoinNl; which = which.Rescan; formula = (f.Add (formula.Variable var.Width) (f.Mul (formula.Number 1000) (f.Add (formula.Variable var.Width1) (f.Mul (formula.Number 1000) (f.Add (formula.Variable var.Width2) (f.Mul (formula.Number 1000) (f.Add (formula.Variable var.Card1) (f.Mul (formula.Number 1000) (f.Add (formula.Variable var.Card2) (f.Mul (formula.Number 1000) (formula.Variable var.One))))))))))) }
    ∷ record { statement = 19; flavour = flavour.JoinMerge; which = which.Cost; formula = (f.Add (formula.Variable var.Cpu) (f.Mul (formula.Number 1000) (f.Add (formula.Variable var.Net) (f.Mul (formula.Number 1000) (f.Add (formula.Variable var.Preds) (f.Mul (formula.Number 1000) (f.Add (formula.Variable var.Rows) (f.Mul (formula.Number 1000) (f.Add (formula.Variable var.Pages) (f.Mul (formula.Number 1000) (formula.Variable var.Card))))))))))) }
    ∷ record { statement = 20; flavour = flavour.JoinMerge; which = which.Rescan; formula = (f.Add (formula.Variable var.Width) (f.Mul (formula.Number 1000) (f.Add (formula.Variable var.Width1) (f.Mul (formula.Number 1000) (f.Add (formula.Variable var.Width2) (f.Mul (formula.Number 1000) (f.Add (formula.Variable var.Card1) (f.Mul (formula.Number 1000) (f.Add (formula.Variable var.Card2) (f.Mul (formula.Number 1000) (formula.Variable var.One))))))))))) }
    ∷ record { statement = 21; flavour = flavour.JoinHash; which = which.Cost; formula = (f.Add (formula.Variable var.Cpu) (f.Mul (formula.Number 1000) (f.Add (formula.Variable var.Net) (f.Mul (formula.Number 1000) (f.Add (formula.Variable var.Preds) (f.Mul (formula.Number 1000) (f.Add (formula.Variable var.Rows) (f.Mul (formula.Number 1000) (f.Add (formula.Variable var.Pages) (f.Mul (formula.Number 1000) (formula.Variable var.Card))))))))))) }
    ∷ record { statement = 22; flavour = flavour.JoinHash; which = which.Rescan; formula = (f.Add (formula.Variable var.Width) (f.Mul (formula.Number 1000) (f.Add (formula.Variable var.Width1) (f.Mul (formula.Number 1000) (f.Add (formula.Variable var.Width2) (f.Mul (formula.Number 1000) (f.Add (formula.Variable var.Card1) (f.Mul (formula.Number 1000) (f.Add (formula.Variable var.Card2) (f.Mul (formula.Number 1000) (formula.Variable var.One))))))))))) }
    ∷ []

abbrev pub variables : RuleFile
variables = record {
  version = 1;
  selects = [];
  formulas = formulas_of_variables;
  stars =
      record { statement = 23; name = codes "AccessRoot"; params = (record { name = codes "A"; kind = kind.Stream } ∷ record { name = codes "J"; kind = kind.Preds } ∷ []); alternatives = (record { ranges = []; condition = None; body = (plan.Leaf flavour.AccessHeap ((value.Variable (codes "A") 0) ∷ (v.Union (v.Inside (v.Tables (value.Variable (codes "A") 0))) (value.Variable (codes "J") 1)) ∷ [])) } ∷ []) }
      ∷ record { statement = 24; name = codes "JoinRoot"; params = (record { name = codes "A"; kind = kind.Stream } ∷ record { name = codes "B"; kind = kind.Stream } ∷ record { name = codes "J"; kind = kind.Preds } ∷ []); alternatives = (record { ranges = []; condition = None; body = (e.Binary flavour.JoinNl ((v.Between (v.Tables (value.Variable (codes "A") 0)) (v.Tables (value.Variable (codes "B") 1))) ∷ []) (plan.Glue (value.Variable (codes "A") 0) (value.Variable (codes "J") 2)) (plan.Glue (value.Variable (codes "B") 1) (value.Variable (codes "J") 2))) } ∷ []) }
      ∷ [];
}

abbrev pub wide : RuleFile
wide = record {
  version = 1;
  selects = [];
  formulas = formulas_of_stored_tiny;
  stars =
      record { statement = 9; name = codes "AccessRoot"; params = (record { name = codes "A"; kind = kind.Stream } ∷ record { name = codes "J"; kind = kind.Preds } ∷ []); alternatives = (record { ranges = []; condition = None; body = (plan.Reference (codes "Sb") ((value.Variable (codes "A") 0) ∷ (value.Variable (codes "J") 1) ∷ [])) } ∷ record { ranges = []; condition = None; body = (plan.Reference (codes "Sb") ((value.Variable (codes "A") 0) ∷ (value.Variable (codes "J") 1) ∷ [])) } ∷ record { ranges = []; condition = None; body = (plan.Reference (codes "Sb") ((value.Variable (codes "A") 0) ∷ (value.Variable (codes "J") 1) ∷ [])) } ∷ record { ranges = []; condition = None; body = (plan.Reference (codes "Sb") ((value.Variable (codes "A") 0) ∷ (value.Variable (codes "J") 1) ∷ [])) } ∷ record { ranges = []; condition = None; body = (plan.Reference (codes "Sb") ((value.Variable (codes "A") 0) ∷ (value.Variable (codes "J") 1) ∷ [])) } ∷ record { ranges = []; condition = None; body = (plan.Reference (codes "Sb") ((value.Variable (codes "A") 0) ∷ (value.Variable (codes "J") 1) ∷ [])) } ∷ record { ranges = []; condition = None; body = (plan.Reference (codes "Sb") ((value.Variable (codes "A") 0) ∷ (value.Variable (codes "J") 1) ∷ [])) } ∷ record { ranges = []; condition = None; body = (plan.Reference (codes "Sb") ((value.Variable (codes "A") 0) ∷ (value.Variable (codes "J") 1) ∷ [])) } ∷ record { ranges = []; condition = None; body = (plan.Reference (codes "Sb") ((value.Variable (codes "A") 0) ∷ (value.Variable (codes "J") 1) ∷ [])) } ∷ record { ranges = []; condition = None; body = (plan.Reference (codes "Sb") ((value.Variable (codes "A") 0) ∷ (value.Variable (codes "J") 1) ∷ [])) } ∷ record { ranges = []; condition = None; body = (plan.Reference (codes "Sb") ((value.Variable (codes "A") 0) ∷ (value.Variable (codes "J") 1) ∷ [])) } ∷ record { ranges = []; condition = None; body = (plan.Reference (codes "Sb") ((value.Variable (codes "A") 0) ∷ (value.Variable (codes "J") 1) ∷ [])) } ∷ record { ranges = []; condition = None; body = (plan.Reference (codes "Sb") ((value.Variable (codes "A") 0) ∷ (value.Variable (codes "J") 1) ∷ [])) } ∷ record { ranges = []; condition = None; body = (plan.Reference (codes "Sb") ((value.Variable (codes "A") 0) ∷ (value.Variable (codes "J") 1) ∷ [])) } ∷ record { ranges = []; condition = None; body = (plan.Reference (codes "Sb") ((value.Variable (codes "A") 0) ∷ (value.Variable (codes "J") 1) ∷ [])) } ∷ record { ranges = []; condition = None; body = (plan.Reference (codes "Sc") ((value.Variable (codes "A") 0) ∷ (value.Variable (codes "J") 1) ∷ [])) } ∷ []) }
      ∷ record { statement = 10; name = codes "JoinRoot"; params = (record { name = codes "A"; kind = kind.Stream } ∷ record { name = codes "B"; kind = kind.Stream } ∷ record { name = codes "J"; kind = kind.Preds } ∷ []); alternatives = (record { ranges = []; condition = None; body = (plan.Leaf flavour.AccessHeap ((value.Variable (codes "A") 0) ∷ (value.Variable (codes "J") 2) ∷ [])) } ∷ []) }
      ∷ record { statement = 11; name = codes "Sa"; params = (record { name = codes "A"; kind = kind.Stream } ∷ record { name = codes "J"; kind = kind.Preds } ∷ []); alternatives = (record { ranges = []; condition = None; body = (plan.Leaf flavour.AccessHeap ((value.Variable (codes "A") 0) ∷ (value.Variable (codes "J") 1) ∷ [])) } ∷ record { ranges = []; condition = None; body = (plan.Leaf flavour.AccessHeap ((value.Variable (codes "A") 0) ∷ (value.Variable (codes "J") 1) ∷ [])) } ∷ record { ranges = []; condition = None; body = (plan.Leaf flavour.AccessHeap ((value.Variable (codes "A") 0) ∷ (value.Variable (codes "J") 1) ∷ [])) } ∷ record { ranges = []; condition = None; body = (plan.Leaf flavour.AccessHeap ((value.Variable (codes "A") 0) ∷ (value.Variable (codes "J") 1) ∷ [])) } ∷ record { ranges = []; condition = None; body = (plan.Leaf flavour.AccessHeap ((value.Variable (codes "A") 0) ∷ (value.Variable (codes "J") 1) ∷ [])) } ∷ record { ranges = []; condition = None; body = (plan.Leaf flavour.AccessHeap ((value.Variable (codes "A") 0) ∷ (value.Variable (codes "J") 1) ∷ [])) } ∷ record { ranges = []; condition = None; body = (plan.Leaf flavour.AccessHeap ((value.Variable (codes "A") 0) ∷ (value.Variable (codes "J") 1) ∷ [])) } ∷ record { ranges = []; condition = None; body = (plan.Leaf flavour.AccessHeap ((value.Variable (codes "A") 0) ∷ (value.Variable (codes "J") 1) ∷ [])) } ∷ record { ranges = []; condition = None; body = (plan.Leaf flavour.AccessHeap ((value.Variable (codes "A") 0) ∷ (value.Variable (codes "J") 1) ∷ [])) } ∷ record { ranges = []; condition = None; body = (plan.Leaf flavour.AccessHeap ((value.Variable (codes "A") 0) ∷ (value.Variable (codes "J") 1) ∷ [])) } ∷ record { ranges = []; condition = None; body = (plan.Leaf flavour.AccessHeap ((value.Variable (codes "A") 0) ∷ (value.Variable (codes "J") 1) ∷ [])) } ∷ record { ranges = []; condition = None; body = (plan.Leaf flavour.AccessHeap ((value.Variable (codes "A") 0) ∷ (value.Variable (codes "J") 1) ∷ [])) } ∷ record { ranges = []; condition = None; body = (plan.Leaf flavour.AccessHeap ((value.Variable (codes "A") 0) ∷ (value.Variable (codes "J") 1) ∷ [])) } ∷ record { ranges = []; condition = None; body = (plan.Leaf flavour.AccessHeap ((value.Variable (codes "A") 0) ∷ (value.Variable (codes "J") 1) ∷ [])) } ∷ record { ranges = []; condition = None; body = (plan.Leaf flavour.AccessHeap ((value.Variable (codes "A") 0) ∷ (value.Variable (codes "J") 1) ∷ [])) } ∷ []) }
      ∷ record { statement = 12; name = codes "Sb"; params = (record { name = codes "A"; kind = kind.Stream } ∷ record { name = codes "J"; kind = kind.Preds } ∷ []); alternatives = (record { ranges = []; condition = None; body = (plan.Reference (codes "Sa") ((value.Variable (codes "A") 0) ∷ (value.Variable (codes "J") 1) ∷ [])) } ∷ record { ranges = []; condition = None; body = (plan.Reference (codes "Sa") ((value.Variable (codes "A") 0) ∷ (value.Variable (codes "J") 1) ∷ [])) } ∷ record { ranges = []; condition = None; body = (plan.Reference (codes "Sa") ((value.Variable (codes "A") 0) ∷ (value.Variable (codes "J") 1) ∷ [])) } ∷ record { ranges = []; condition = None; body = (plan.Reference (codes "Sa") ((value.Variable (codes "A") 0) ∷ (value.Variable (codes "J") 1) ∷ [])) } ∷ record { ranges = []; condition = None; body = (plan.Reference (codes "Sa") ((value.Variable (codes "A") 0) ∷ (value.Variable (codes "J") 1) ∷ [])) } ∷ record { ranges = []; condition = None; body = (plan.Reference (codes "Sa") ((value.Variable (codes "A") 0) ∷ (value.Variable (codes "J") 1) ∷ [])) } ∷ record { ranges = []; condition = None; body = (plan.Reference (codes "Sa") ((value.Variable (codes "A") 0) ∷ (value.Variable (codes "J") 1) ∷ [])) } ∷ record { ranges = []; condition = None; body = (plan.Reference (codes "Sa") ((value.Variable (codes "A") 0) ∷ (value.Variable (codes "J") 1) ∷ [])) } ∷ record { ranges = []; condition = None; body = (plan.Reference (codes "Sa") ((value.Variable (codes "A") 0) ∷ (value.Variable (codes "J") 1) ∷ [])) } ∷ record { ranges = []; condition = None; body = (plan.Reference (codes "Sa") ((value.Variable (codes "A") 0) ∷ (value.Variable (codes "J") 1) ∷ [])) } ∷ record { ranges = []; condition = None; body = (plan.Reference (codes "Sa") ((value.Variable (codes "A") 0) ∷ (value.Variable (codes "J") 1) ∷ [])) } ∷ record { ranges = []; condition = None; body = (plan.Reference (codes "Sa") ((value.Variable (codes "A") 0) ∷ (value.Variable (codes "J") 1) ∷ [])) } ∷ record { ranges = []; condition = None; body = (plan.Reference (codes "Sa") ((value.Variable (codes "A") 0) ∷ (value.Variable (codes "J") 1) ∷ [])) } ∷ record { ranges = []; condition = None; body = (plan.Reference (codes "Sa") ((value.Variable (codes "A") 0) ∷ (value.Variable (codes "J") 1) ∷ [])) } ∷ record { ranges = []; condition = None; body = (plan.Reference (codes "Sa") ((value.Variable (codes "A") 0) ∷ (value.Variable (codes "J") 1) ∷ [])) } ∷ record { ranges = []; condition = None; body = (plan.Reference (codes "Sa") ((value.Variable (codes "A") 0) ∷ (value.Variable (codes "J") 1) ∷ [])) } ∷ []) }
      ∷ record { statement = 13; name = codes "Sc"; params = (record { name = codes "A"; kind = kind.Stream } ∷ record { name = codes "J"; kind = kind.Preds } ∷ []); alternatives = (record { ranges = []; condition = None; body = (plan.Reference (codes "Sa") ((value.Variable (codes "A") 0) ∷ (value.Variable (codes "J") 1) ∷ [])) } ∷ record { ranges = []; condition = None; body = (plan.Reference (codes "Sa") ((value.Variable (codes "A") 0) ∷ (value.Variable (codes "J") 1) ∷ [])) } ∷ record { ranges = []; condition = None; body = (plan.Reference (codes "Sa") ((value.Variable (codes "A") 0) ∷ (value.Variable (codes "J") 1) ∷ [])) } ∷ record { ranges = []; condition = None; body = (plan.Reference (codes "Sa") ((value.Variable (codes "A") 0) ∷ (value.Variable (codes "J") 1) ∷ [])) } ∷ record { ranges = []; condition = None; body = (plan.Reference (codes "Sa") ((value.Variable (codes "A") 0) ∷ (value.Variable (codes "J") 1) ∷ [])) } ∷ record { ranges = []; condition = None; body = (plan.Reference (codes "Sa") ((value.Variable (codes "A") 0) ∷ (value.Variable (codes "J") 1) ∷ [])) } ∷ record { ranges = []; condition = None; body = (plan.Reference (codes "Sa") ((value.Variable (codes "A") 0) ∷ (value.Variable (codes "J") 1) ∷ [])) } ∷ record { ranges = []; condition = None; body = (plan.Reference (codes "Sa") ((value.Variable (codes "A") 0) ∷ (value.Variable (codes "J") 1) ∷ [])) } ∷ record { ranges = []; condition = None; body = (plan.Reference (codes "Sa") ((value.Variable (codes "A") 0) ∷ (value.Variable (codes "J") 1) ∷ [])) } ∷ record { ranges = []; condition = None; body = (plan.Reference (codes "Sa") ((value.Variable (codes "A") 0) ∷ (value.Variable (codes "J") 1) ∷ [])) } ∷ record { ranges = []; condition = None; body = (plan.Reference (codes "Sa") ((value.Variable (codes "A") 0) ∷ (value.Variable (codes "J") 1) ∷ [])) } ∷ record { ranges = []; condition = None; body = (plan.Reference (codes "Sa") ((value.Variable (codes "A") 0) ∷ (value.Variable (codes "J") 1) ∷ [])) } ∷ record { ranges = []; condition = None; body = (plan.Reference (codes "Sa") ((value.Variable (codes "A") 0) ∷ (value.Variable (codes "J") 1) ∷ [])) } ∷ record { ranges = []; condition = None; body = (plan.Reference (codes "Sa") ((value.Variable (codes "A") 0) ∷ (value.Variable (codes "J") 1) ∷ [])) } ∷ record { ranges = []; condition = None; body = (plan.Reference (codes "Sa") ((value.Variable (codes "A") 0) ∷ (value.Variable (codes "J") 1) ∷ [])) } ∷ []) }
      ∷ [];
}

abbrev pub cycle : RuleFile
cycle = record {
  version = 1;
  selects = [];
  formulas = formulas_of_stored_tiny;
  stars =
      record { statement = 9; name = codes "AccessRoot"; params = (record { name = codes "A"; kind = kind.Stream } ∷ record { name = codes "J"; kind = kind.Preds } ∷ []); alternatives = (record { ranges = []; condition = None; body = (plan.Reference (codes "Other") ((value.Variable (codes "A") 0) ∷ (value.Variable (codes "J") 1) ∷ [])) } ∷ []) }
      ∷ record { statement = 10; name = codes "JoinRoot"; params = (record { name = codes "A"; kind = kind.Stream } ∷ record { name = codes "B"; kind = kind.Stream } ∷ record { name = codes "J"; kind = kind.Preds } ∷ []); alternatives = (record { ranges = []; condition = None; body = (plan.Leaf flavour.AccessHeap ((value.Variable (codes "A") 0) ∷ (value.Variable (codes "J") 2) ∷ [])) } ∷ []) }
      ∷ record { statement = 11; name = codes "Other"; params = (record { name = codes "A"; kind = kind.Stream } ∷ record { name = codes "J"; kind = kind.Preds } ∷ []); alternatives = (record { ranges = []; condition = None; body = (plan.Reference (codes "AccessRoot") ((value.Variable (codes "A") 0) ∷ (value.Variable (codes "J") 1) ∷ [])) } ∷ []) }
      ∷ [];
}

abbrev pub for_all_name : RuleFile
for_all_name = record {
  version = 1;
  selects = [];
  formulas = formulas_of_stored_tiny;
  stars =
      record { statement = 9; name = codes "AccessRoot"; params = (record { name = codes "A"; kind = kind.Stream } ∷ record { name = codes "J"; kind = kind.Preds } ∷ []); alternatives = (record { ranges = (record { name = codes "J"; range = range.Sites } ∷ []); condition = None; body = (plan.Leaf flavour.AccessHeap ((value.Variable (codes "A") 0) ∷ value.NoPreds ∷ [])) } ∷ []) }
      ∷ record { statement = 10; name = codes "JoinRoot"; params = (record { name = codes "A"; kind = kind.Stream } ∷ record { name = codes "B"; kind = kind.Stream } ∷ record { name = codes "J"; kind = kind.Preds } ∷ []); alternatives = (record { ranges = []; condition = None; body = (plan.Leaf flavour.AccessHeap ((value.Variable (codes "A") 0) ∷ (value.Variable (codes "J") 2) ∷ [])) } ∷ []) }
      ∷ [];
}

abbrev pub for_all_twice : RuleFile
for_all_twice = record {
  version = 1;
  selects = [];
  formulas = formulas_of_stored_tiny;
  stars =
      record { statement = 9; name = codes "AccessRoot"; params = (record { name = codes "A"; kind = kind.Stream } ∷ record { name = codes "J"; kind = kind.Preds } ∷ []); alternatives = (record { ranges = []; condition = None; body = (plan.Leaf flavour.AccessHeap ((value.Variable (codes "A") 0) ∷ (value.Variable (codes "J") 1) ∷ [])) } ∷ []) }
      ∷ record { statement = 10; name = codes "JoinRoot"; params = (record { name = codes "A"; kind = kind.Stream } ∷ record { name = codes "B"; kind = kind.Stream } ∷ record { name = codes "J"; kind = kind.Preds } ∷ []); alternatives = (record { ranges = (record { name = codes "x"; range = range.Sites } ∷ record { name = codes "x"; range = range.Sites } ∷ []); condition = None; body = (plan.Leaf flavour.AccessHeap ((value.Variable (codes "A") 0) ∷ (value.Variable (codes "J") 2) ∷ [])) } ∷ []) }
      ∷ [];
}

abbrev pub formulas_of_formula_twice : List FormulaDef
formulas_of_formula_twice =
    record { statement = 1; flavour = flavour.AccessHeap; which = which.Cost; formula = (f.Add (f.Mul (formula.Number 10) (formula.Variable var.Pages)) (f.Mul (formula.Variable var.Cpu) (formula.Variable var.Rows))) }
    ∷ record { statement = 2; flavour = flavour.AccessHeap; which = which.Rescan; formula = (f.Add (f.Mul (formula.Number 10) (formula.Variable var.Pages)) (f.Mul (formula.Variable var.Cpu) (formula.Variable var.Rows))) }
    ∷ record { statement = 3; flavour = flavour.Sort; which = which.Cost; formula = (f.Add (formula.Variable var.Cost1) (f.Mul (formula.Number 4) (formula.Variable var.Card1))) }
    ∷ record { statement = 4; flavour = flavour.Sort; which = which.Rescan; formula = (f.Add (formula.Variable var.Rescan1) (f.Mul (formula.Number 4) (formula.Variable var.Card1))) }
    ∷ record { statement = 5; flavour = flavour.Store; which = which.Cost; formula = (f.Add (formula.Variable var.Cost1) (f.Mul (formula.Number 2) (formula.Variable var.Card1))) }
    ∷ record { statement = 6; flavour = flavour.Store; which = which.Rescan; formula = (formula.Variable var.Card1) }
    ∷ record { statement = 7; flavour = flavour.Ship; which = which.Cost; formula = (f.Add (formula.Variable var.Cost1) (f.Mul (f.Mul (formula.Variable var.Net) (formula.Variable var.Card1)) (formula.Variable var.Width1))) }
    ∷ record { statement = 8; flavour = flavour.Ship; which = which.Rescan; formula = (f.Add (formula.Variable var.Rescan1) (f.Mul (f.Mul (formula.Variable var.Net) (formula.Variable var.Card1)) (formula.Variable var.Width1))) }
    ∷ record { statement = 11; flavour = flavour.Sort; which = which.Cost; formula = (formula.Number 1) }
    ∷ []

abbrev pub formula_twice : RuleFile
formula_twice = record {
  version = 1;
  selects = [];
  formulas = formulas_of_formula_twice;
  stars =
      record { statement = 9; name = codes "AccessRoot"; params = (record { name = codes "A"; kind = kind.Stream } ∷ record { name = codes "J"; kind = kind.Preds } ∷ []); alternatives = (record { ranges = []; condition = None; body = (plan.Leaf flavour.AccessHeap ((value.Variable (codes "A") 0) ∷ (value.Variable (codes "J") 1) ∷ [])) } ∷ []) }
      ∷ record { statement = 10; name = codes "JoinRoot"; params = (record { name = codes "A"; kind = kind.Stream } ∷ record { name = codes "B"; kind = kind.Stream } ∷ record { name = codes "J"; kind = kind.Preds } ∷ []); alternatives = (record { ranges = []; condition = None; body = (plan.Leaf flavour.AccessHeap ((value.Variable (codes "A") 0) ∷ (value.Variable (codes "J") 2) ∷ [])) } ∷ []) }
      ∷ [];
}

abbrev pub glue_in_access : RuleFile
glue_in_access = record {
  version = 1;
  selects = [];
  formulas = formulas_of_stored_tiny;
  stars =
      record { statement = 9; name = codes "AccessRoot"; params = (record { name = codes "A"; kind = kind.Stream } ∷ record { name = codes "J"; kind = kind.Preds } ∷ []); alternatives = (record { ranges = []; condition = None; body = (plan.Glue (value.Variable (codes "A") 0) (value.Variable (codes "J") 1)) } ∷ []) }
      ∷ record { statement = 10; name = codes "JoinRoot"; params = (record { name = codes "A"; kind = kind.Stream } ∷ record { name = codes "B"; kind = kind.Stream } ∷ record { name = codes "J"; kind = kind.Preds } ∷ []); alternatives = (record { ranges = []; condition = None; body = (plan.Leaf flavour.AccessHeap ((value.Variable (codes "A") 0) ∷ (value.Variable (codes "J") 2) ∷ [])) } ∷ []) }
      ∷ [];
}

abbrev pub glue_in_join_of_access : RuleFile
glue_in_join_of_access = record {
  version = 1;
  selects = [];
  formulas = formulas_of_stored_tiny;
  stars =
      record { statement = 9; name = codes "AccessRoot"; params = (record { name = codes "A"; kind = kind.Stream } ∷ record { name = codes "J"; kind = kind.Preds } ∷ []); alternatives = (record { ranges = []; condition = None; body = (e.Binary flavour.JoinNl (value.NoPreds ∷ []) (plan.Leaf flavour.AccessHeap ((value.Variable (codes "A") 0) ∷ (value.Variable (codes "J") 1) ∷ [])) (plan.Glue (value.Variable (codes "A") 0) (value.Variable (codes "J") 1))) } ∷ []) }
      ∷ record { statement = 10; name = codes "JoinRoot"; params = (record { name = codes "A"; kind = kind.Stream } ∷ record { name = codes "B"; kind = kind.Stream } ∷ record { name = codes "J"; kind = kind.Preds } ∷ []); alternatives = (record { ranges = []; condition = None; body = (plan.Leaf flavour.AccessHeap ((value.Variable (codes "A") 0) ∷ (value.Variable (codes "J") 2) ∷ [])) } ∷ []) }
      ∷ [];
}

abbrev pub formulas_of_no_access_root : List FormulaDef
formulas_of_no_access_root =
    []

abbrev pub no_access_root : RuleFile
no_access_root = record {
  version = 1;
  selects = [];
  formulas = formulas_of_no_access_root;
  stars =
      [];
}

abbrev pub no_formula : RuleFile
no_formula = record {
  version = 1;
  selects = [];
  formulas = formulas_of_stored_tiny;
  stars =
      record { statement = 9; name = codes "AccessRoot"; params = (record { name = codes "A"; kind = kind.Stream } ∷ record { name = codes "J"; kind = kind.Preds } ∷ []); alternatives = (record { ranges = []; condition = None; body = (e.Unary flavour.Filter (value.NoPreds ∷ []) (plan.Leaf flavour.AccessHeap ((value.Variable (codes "A") 0) ∷ (value.Variable (codes "J") 1) ∷ []))) } ∷ []) }
      ∷ record { statement = 10; name = codes "JoinRoot"; params = (record { name = codes "A"; kind = kind.Stream } ∷ record { name = codes "B"; kind = kind.Stream } ∷ record { name = codes "J"; kind = kind.Preds } ∷ []); alternatives = (record { ranges = []; condition = None; body = (plan.Leaf flavour.AccessHeap ((value.Variable (codes "A") 0) ∷ (value.Variable (codes "J") 2) ∷ [])) } ∷ []) }
      ∷ [];
}

abbrev pub no_join_root : RuleFile
no_join_root = record {
  version = 1;
  selects = [];
  formulas = formulas_of_stored_tiny;
  stars =
      record { statement = 9; name = codes "AccessRoot"; params = (record { name = codes "A"; kind = kind.Stream } ∷ record { name = codes "J"; kind = kind.Preds } ∷ []); alternatives = (record { ranges = []; condition = None; body = (plan.Leaf flavour.AccessHeap ((value.Variable (codes "A") 0) ∷ (value.Variable (codes "J") 1) ∷ [])) } ∷ []) }
      ∷ [];
}

abbrev pub formulas_of_no_rescan : List FormulaDef
formulas_of_no_rescan =
    record { statement = 1; flavour = flavour.AccessHeap; which = which.Cost; formula = (f.Add (f.Mul (formula.Number 10) (formula.Variable var.Pages)) (f.Mul (formula.Variable var.Cpu) (formula.Variable var.Rows))) }
    ∷ record { statement = 2; flavour = flavour.AccessHeap; which = which.Rescan; formula = (f.Add (f.Mul (formula.Number 10) (formula.Variable var.Pages)) (f.Mul (formula.Variable var.Cpu) (formula.Variable var.Rows))) }
    ∷ record { statement = 3; flavour = flavour.Sort; which = which.Cost; formula = (f.Add (formula.Variable var.Cost1) (f.Mul (formula.Number 4) (formula.Variable var.Card1))) }
    ∷ record { statement = 4; flavour = flavour.Sort; which = which.Rescan; formula = (f.Add (formula.Variable var.Rescan1) (f.Mul (formula.Number 4) (formula.Variable var.Card1))) }
    ∷ record { statement = 5; flavour = flavour.Store; which = which.Cost; formula = (f.Add (formula.Variable var.Cost1) (f.Mul (formula.Number 2) (formula.Variable var.Card1))) }
    ∷ record { statement = 6; flavour = flavour.Ship; which = which.Cost; formula = (f.Add (formula.Variable var.Cost1) (f.Mul (f.Mul (formula.Variable var.Net) (formula.Variable var.Card1)) (formula.Variable var.Width1))) }
    ∷ record { statement = 7; flavour = flavour.Ship; which = which.Rescan; formula = (f.Add (formula.Variable var.Rescan1) (f.Mul (f.Mul (formula.Variable var.Net) (formula.Variable var.Card1)) (formula.Variable var.Width1))) }
    ∷ []

abbrev pub no_rescan : RuleFile
no_rescan = record {
  version = 1;
  selects = [];
  formulas = formulas_of_no_rescan;
  stars =
      record { statement = 8; name = codes "AccessRoot"; params = (record { name = codes "A"; kind = kind.Stream } ∷ record { name = codes "J"; kind = kind.Preds } ∷ []); alternatives = (record { ranges = []; condition = None; body = (plan.Leaf flavour.AccessHeap ((value.Variable (codes "A") 0) ∷ (value.Variable (codes "J") 1) ∷ [])) } ∷ []) }
      ∷ record { statement = 9; name = codes "JoinRoot"; params = (record { name = codes "A"; kind = kind.Stream } ∷ record { name = codes "B"; kind = kind.Stream } ∷ record { name = codes "J"; kind = kind.Preds } ∷ []); alternatives = (record { ranges = []; condition = None; body = (plan.Leaf flavour.AccessHeap ((value.Variable (codes "A") 0) ∷ (value.Variable (codes "J") 2) ∷ [])) } ∷ []) }
      ∷ [];
}

abbrev pub formulas_of_no_ship : List FormulaDef
formulas_of_no_ship =
    record { statement = 1; flavour = flavour.AccessHeap; which = which.Cost; formula = (f.Add (f.Mul (formula.Number 10) (formula.Variable var.Pages)) (f.Mul (formula.Variable var.Cpu) (formula.Variable var.Rows))) }
    ∷ record { statement = 2; flavour = flavour.AccessHeap; which = which.Rescan; formula = (f.Add (f.Mul (formula.Number 10) (formula.Variable var.Pages)) (f.Mul (formula.Variable var.Cpu) (formula.Variable var.Rows))) }
    ∷ record { statement = 3; flavour = flavour.Sort; which = which.Cost; formula = (f.Add (formula.Variable var.Cost1) (f.Mul (formula.Number 4) (formula.Variable var.Card1))) }
    ∷ record { statement = 4; flavour = flavour.Sort; which = which.Rescan; formula = (f.Add (formula.Variable var.Rescan1) (f.Mul (formula.Number 4) (formula.Variable var.Card1))) }
    ∷ record { statement = 5; flavour = flavour.Store; which = which.Cost; formula = (f.Add (formula.Variable var.Cost1) (f.Mul (formula.Number 2) (formula.Variable var.Card1))) }
    ∷ record { statement = 6; flavour = flavour.Store; which = which.Rescan; formula = (formula.Variable var.Card1) }
    ∷ []

abbrev pub no_ship : RuleFile
no_ship = record {
  version = 1;
  selects = [];
  formulas = formulas_of_no_ship;
  stars =
      record { statement = 7; name = codes "AccessRoot"; params = (record { name = codes "A"; kind = kind.Stream } ∷ record { name = codes "J"; kind = kind.Preds } ∷ []); alternatives = (record { ranges = []; condition = None; body = (plan.Leaf flavour.AccessHeap ((value.Variable (codes "A") 0) ∷ (value.Variable (codes "J") 1) ∷ [])) } ∷ []) }
      ∷ record { statement = 8; name = codes "JoinRoot"; params = (record { name = codes "A"; kind = kind.Stream } ∷ record { name = codes "B"; kind = kind.Stream } ∷ record { name = codes "J"; kind = kind.Preds } ∷ []); alternatives = (record { ranges = []; condition = None; body = (plan.Leaf flavour.AccessHeap ((value.Variable (codes "A") 0) ∷ (value.Variable (codes "J") 2) ∷ [])) } ∷ []) }
      ∷ [];
}

abbrev pub formulas_of_no_sort : List FormulaDef
formulas_of_no_sort =
    record { statement = 1; flavour = flavour.AccessHeap; which = which.Cost; formula = (f.Add (f.Mul (formula.Number 10) (formula.Variable var.Pages)) (f.Mul (formula.Variable var.Cpu) (formula.Variable var.Rows))) }
    ∷ record { statement = 2; flavour = flavour.AccessHeap; which = which.Rescan; formula = (f.Add (f.Mul (formula.Number 10) (formula.Variable var.Pages)) (f.Mul (formula.Variable var.Cpu) (formula.Variable var.Rows))) }
    ∷ record { statement = 3; flavour = flavour.Store; which = which.Cost; formula = (f.Add (formula.Variable var.Cost1) (f.Mul (formula.Number 2) (formula.Variable var.Card1))) }
    ∷ record { statement = 4; flavour = flavour.Store; which = which.Rescan; formula = (formula.Variable var.Card1) }
    ∷ record { statement = 5; flavour = flavour.Ship; which = which.Cost; formula = (f.Add (formula.Variable var.Cost1) (f.Mul (f.Mul (formula.Variable var.Net) (formula.Variable var.Card1)) (formula.Variable var.Width1))) }
    ∷ record { statement = 6; flavour = flavour.Ship; which = which.Rescan; formula = (f.Add (formula.Variable var.Rescan1) (f.Mul (f.Mul (formula.Variable var.Net) (formula.Variable var.Card1)) (formula.Variable var.Width1))) }
    ∷ []

abbrev pub no_sort : RuleFile
no_sort = record {
  version = 1;
  selects = [];
  formulas = formulas_of_no_sort;
  stars =
      record { statement = 7; name = codes "AccessRoot"; params = (record { name = codes "A"; kind = kind.Stream } ∷ record { name = codes "J"; kind = kind.Preds } ∷ []); alternatives = (record { ranges = []; condition = None; body = (plan.Leaf flavour.AccessHeap ((value.Variable (codes "A") 0) ∷ (value.Variable (codes "J") 1) ∷ [])) } ∷ []) }
      ∷ record { statement = 8; name = codes "JoinRoot"; params = (record { name = codes "A"; kind = kind.Stream } ∷ record { name = codes "B"; kind = kind.Stream } ∷ record { name = codes "J"; kind = kind.Preds } ∷ []); alternatives = (record { ranges = []; condition = None; body = (plan.Leaf flavour.AccessHeap ((value.Variable (codes "A") 0) ∷ (value.Variable (codes "J") 2) ∷ [])) } ∷ []) }
      ∷ [];
}

abbrev pub formulas_of_not_monotone : List FormulaDef
formulas_of_not_monotone =
    record { statement = 1; flavour = flavour.AccessHeap; which = which.Cost; formula = (f.Add (f.Mul (formula.Number 10) (formula.Variable var.Pages)) (f.Mul (formula.Variable var.Cpu) (formula.Variable var.Rows))) }
    ∷ record { statement = 2; flavour = flavour.AccessHeap; which = which.Rescan; formula = (f.Add (f.Mul (formula.Number 10) (formula.Variable var.Pages)) (f.Mul (formula.Variable var.Cpu) (formula.Variable var.Rows))) }
    ∷ record { statement = 3; flavour = flavour.Sort; which = which.Cost; formula = (f.Add (formula.Number 5) (f.Sub (formula.Variable var.Cost1) (formula.Variable var.Cost1))) }
    ∷ record { statement = 4; flavour = flavour.Sort; which = which.Rescan; formula = (f.Add (formula.Variable var.Rescan1) (f.Mul (formula.Number 4) (formula.Variable var.Card1))) }
    ∷ record { statement = 5; flavour = flavour.Store; which = which.Cost; formula = (f.Add (formula.Variable var.Cost1) (f.Mul (formula.Number 2) (formula.Variable var.Card1))) }
    ∷ record { statement = 6; flavour = flavour.Store; which = which.Rescan; formula = (formula.Variable var.Card1) }
    ∷ record { statement = 7; flavour = flavour.Ship; which = which.Cost; formula = (f.Add (formula.Variable var.Cost1) (f.Mul (f.Mul (formula.Variable var.Net) (formula.Variable var.Card1)) (formula.Variable var.Width1))) }
    ∷ record { statement = 8; flavour = flavour.Ship; which = which.Rescan; formula = (f.Add (formula.Variable var.Rescan1) (f.Mul (f.Mul (formula.Variable var.Net) (formula.Variable var.Card1)) (formula.Variable var.Width1))) }
    ∷ []

abbrev pub not_monotone : RuleFile
not_monotone = record {
  version = 1;
  selects = [];
  formulas = formulas_of_not_monotone;
  stars =
      record { statement = 9; name = codes "AccessRoot"; params = (record { name = codes "A"; kind = kind.Stream } ∷ record { name = codes "J"; kind = kind.Preds } ∷ []); alternatives = (record { ranges = []; condition = None; body = (plan.Leaf flavour.AccessHeap ((value.Variable (codes "A") 0) ∷ (value.Variable (codes "J") 1) ∷ [])) } ∷ []) }
      ∷ record { statement = 10; name = codes "JoinRoot"; params = (record { name = codes "A"; kind = kind.Stream } ∷ record { name = codes "B"; kind = kind.Stream } ∷ record { name = codes "J"; kind = kind.Preds } ∷ []); alternatives = (record { ranges = []; condition = None; body = (plan.Leaf flavour.AccessHeap ((value.Variable (codes "A") 0) ∷ (value.Variable (codes "J") 2) ∷ [])) } ∷ []) }
      ∷ [];
}

abbrev pub formulas_of_rescan_not_monotone : List FormulaDef
formulas_of_rescan_not_monotone =
    record { statement = 1; flavour = flavour.AccessHeap; which = which.Cost; formula = (f.Add (f.Mul (formula.Number 10) (formula.Variable var.Pages)) (f.Mul (formula.Variable var.Cpu) (formula.Variable var.Rows))) }
    ∷ record { statement = 2; flavour = flavour.AccessHeap; which = which.Rescan; formula = (f.Add (f.Mul (formula.Number 10) (formula.Variable var.Pages)) (f.Mul (formula.Variable var.Cpu) (formula.Variable var.Rows))) }
    ∷ record { statement = 3; flavour = flavour.Sort; which = which.Cost; formula = (f.Add (formula.Variable var.Cost1) (f.Mul (formula.Number 4) (formula.Variable var.Card1))) }
    ∷ record { statement = 4; flavour = flavour.Sort; which = which.Rescan; formula = (f.Div (formula.Number 1) (formula.Variable var.Rescan1)) }
    ∷ record { statement = 5; flavour = flavour.Store; which = which.Cost; formula = (f.Add (formula.Variable var.Cost1) (f.Mul (formula.Number 2) (formula.Variable var.Card1))) }
    ∷ record { statement = 6; flavour = flavour.Store; which = which.Rescan; formula = (formula.Variable var.Card1) }
    ∷ record { statement = 7; flavour = flavour.Ship; which = which.Cost; formula = (f.Add (formula.Variable var.Cost1) (f.Mul (f.Mul (formula.Variable var.Net) (formula.Variable var.Card1)) (formula.Variable var.Width1))) }
    ∷ record { statement = 8; flavour = flavour.Ship; which = which.Rescan; formula = (f.Add (formula.Variable var.Rescan1) (f.Mul (f.Mul (formula.Variable var.Net) (formula.Variable var.Card1)) (formula.Variable var.Width1))) }
    ∷ []

abbrev pub rescan_not_monotone : RuleFile
rescan_not_monotone = record {
  version = 1;
  selects = [];
  formulas = formulas_of_rescan_not_monotone;
  stars =
      record { statement = 9; name = codes "AccessRoot"; params = (record { name = codes "A"; kind = kind.Stream } ∷ record { name = codes "J"; kind = kind.Preds } ∷ []); alternatives = (record { ranges = []; condition = None; body = (plan.Leaf flavour.AccessHeap ((value.Variable (codes "A") 0) ∷ (value.Variable (codes "J") 1) ∷ [])) } ∷ []) }
      ∷ record { statement = 10; name = codes "JoinRoot"; params = (record { name = codes "A"; kind = kind.Stream } ∷ record { name = codes "B"; kind = kind.Stream } ∷ record { name = codes "J"; kind = kind.Preds } ∷ []); alternatives = (record { ranges = []; condition = None; body = (plan.Leaf flavour.AccessHeap ((value.Variable (codes "A") 0) ∷ (value.Variable (codes "J") 2) ∷ [])) } ∷ []) }
      ∷ [];
}

abbrev pub same_names : RuleFile
same_names = record {
  version = 1;
  selects = [];
  formulas = formulas_of_stored_tiny;
  stars =
      record { statement = 9; name = codes "AccessRoot"; params = (record { name = codes "A"; kind = kind.Stream } ∷ record { name = codes "A"; kind = kind.Preds } ∷ []); alternatives = (record { ranges = []; condition = None; body = (plan.Leaf flavour.AccessHeap ((value.Variable (codes "A") 0) ∷ (value.Variable (codes "A") 0) ∷ [])) } ∷ []) }
      ∷ record { statement = 10; name = codes "JoinRoot"; params = (record { name = codes "A"; kind = kind.Stream } ∷ record { name = codes "B"; kind = kind.Stream } ∷ record { name = codes "J"; kind = kind.Preds } ∷ []); alternatives = (record { ranges = []; condition = None; body = (plan.Leaf flavour.AccessHeap ((value.Variable (codes "A") 0) ∷ (value.Variable (codes "J") 2) ∷ [])) } ∷ []) }
      ∷ [];
}

abbrev pub selectivity_twice : RuleFile
selectivity_twice = record {
  version = 2;
  selects = (record { statement = 26; class = class.EqConst; num = (formula.Number 2); den = (formula.Variable var.Distinct1) } ∷ record { statement = 27; class = class.EqConst; num = (formula.Number 2); den = (formula.Variable var.Distinct1) } ∷ []);
  formulas = formulas_of_skewed;
  stars =
      record { statement = 24; name = codes "AccessRoot"; params = (record { name = codes "A"; kind = kind.Stream } ∷ record { name = codes "J"; kind = kind.Preds } ∷ []); alternatives = (record { ranges = []; condition = None; body = (plan.Leaf flavour.AccessHeap ((value.Variable (codes "A") 0) ∷ (v.Union (v.Inside (v.Tables (value.Variable (codes "A") 0))) (value.Variable (codes "J") 1)) ∷ [])) } ∷ []) }
      ∷ record { statement = 25; name = codes "JoinRoot"; params = (record { name = codes "A"; kind = kind.Stream } ∷ record { name = codes "B"; kind = kind.Stream } ∷ record { name = codes "J"; kind = kind.Preds } ∷ []); alternatives = (record { ranges = []; condition = None; body = (e.Binary flavour.JoinNl ((v.Between (v.Tables (value.Variable (codes "A") 0)) (v.Tables (value.Variable (codes "B") 1))) ∷ []) (plan.Glue (value.Variable (codes "A") 0) (value.Variable (codes "J") 2)) (plan.Glue (value.Variable (codes "B") 1) (value.Variable (codes "J") 2))) } ∷ []) }
      ∷ [];
}

abbrev pub star_twice : RuleFile
star_twice = record {
  version = 1;
  selects = [];
  formulas = formulas_of_stored_tiny;
  stars =
      record { statement = 9; name = codes "AccessRoot"; params = (record { name = codes "A"; kind = kind.Stream } ∷ record { name = codes "J"; kind = kind.Preds } ∷ []); alternatives = (record { ranges = []; condition = None; body = (plan.Leaf flavour.AccessHeap ((value.Variable (codes "A") 0) ∷ (value.Variable (codes "J") 1) ∷ [])) } ∷ []) }
      ∷ record { statement = 10; name = codes "JoinRoot"; params = (record { name = codes "A"; kind = kind.Stream } ∷ record { name = codes "B"; kind = kind.Stream } ∷ record { name = codes "J"; kind = kind.Preds } ∷ []); alternatives = (record { ranges = []; condition = None; body = (plan.Leaf flavour.AccessHeap ((value.Variable (codes "A") 0) ∷ (value.Variable (codes "J") 2) ∷ [])) } ∷ []) }
      ∷ record { statement = 11; name = codes "AccessRoot"; params = (record { name = codes "A"; kind = kind.Stream } ∷ record { name = codes "J"; kind = kind.Preds } ∷ []); alternatives = (record { ranges = []; condition = None; body = (plan.Leaf flavour.AccessHeap ((value.Variable (codes "A") 0) ∷ (value.Variable (codes "J") 1) ∷ [])) } ∷ []) }
      ∷ [];
}

abbrev pub too_tall : RuleFile
too_tall = record {
  version = 1;
  selects = [];
  formulas = formulas_of_stored_tiny;
  stars =
      record { statement = 9; name = codes "AccessRoot"; params = (record { name = codes "A"; kind = kind.Stream } ∷ record { name = codes "J"; kind = kind.Preds } ∷ []); alternatives = (record { ranges = []; condition = None; body = (plan.Reference (codes "H2") ((value.Variable (codes "A") 0) ∷ (value.Variable (codes "J") 1) ∷ [])) } ∷ []) }
      ∷ record { statement = 10; name = codes "JoinRoot"; params = (record { name = codes "A"; kind = kind.Stream } ∷ record { name = codes "B"; kind = kind.Stream } ∷ record { name = codes "J"; kind = kind.Preds } ∷ []); alternatives = (record { ranges = []; condition = None; body = (plan.Leaf flavour.AccessHeap ((value.Variable (codes "A") 0) ∷ (value.Variable (codes "J") 2) ∷ [])) } ∷ []) }
      ∷ record { statement = 11; name = codes "H2"; params = (record { name = codes "A"; kind = kind.Stream } ∷ record { name = codes "J"; kind = kind.Preds } ∷ []); alternatives = (record { ranges = []; condition = None; body = (plan.Reference (codes "H3") ((value.Variable (codes "A") 0) ∷ (value.Variable (codes "J") 1) ∷ [])) } ∷ []) }
      ∷ record { statement = 12; name = codes "H3"; params = (record { name = codes "A"; kind = kind.Stream } ∷ record { name = codes "J"; kind = kind.Preds } ∷ []); alternatives = (record { ranges = []; condition = None; body = (plan.Reference (codes "H4") ((value.Variable (codes "A") 0) ∷ (value.Variable (codes "J") 1) ∷ [])) } ∷ []) }
      ∷ record { statement = 13; name = codes "H4"; params = (record { name = codes "A"; kind = kind.Stream } ∷ record { name = codes "J"; kind = kind.Preds } ∷ []); alternatives = (record { ranges = []; condition = None; body = (plan.Reference (codes "H5") ((value.Variable (codes "A") 0) ∷ (value.Variable (codes "J") 1) ∷ [])) } ∷ []) }
      ∷ record { statement = 14; name = codes "H5"; params = (record { name = codes "A"; kind = kind.Stream } ∷ record { name = codes "J"; kind = kind.Preds } ∷ []); alternatives = (record { ranges = []; condition = None; body = (plan.Reference (codes "H6") ((value.Variable (codes "A") 0) ∷ (value.Variable (codes "J") 1) ∷ [])) } ∷ []) }
      ∷ record { statement = 15; name = codes "H6"; params = (record { name = codes "A"; kind = kind.Stream } ∷ record { name = codes "J"; kind = kind.Preds } ∷ []); alternatives = (record { ranges = []; condition = None; body = (plan.Reference (codes "H7") ((value.Variable (codes "A") 0) ∷ (value.Variable (codes "J") 1) ∷ [])) } ∷ []) }
      ∷ record { statement = 16; name = codes "H7"; params = (record { name = codes "A"; kind = kind.Stream } ∷ record { name = codes "J"; kind = kind.Preds } ∷ []); alternatives = (record { ranges = []; condition = None; body = (plan.Reference (codes "H8") ((value.Variable (codes "A") 0) ∷ (value.Variable (codes "J") 1) ∷ [])) } ∷ []) }
      ∷ record { statement = 17; name = codes "H8"; params = (record { name = codes "A"; kind = kind.Stream } ∷ record { name = codes "J"; kind = kind.Preds } ∷ []); alternatives = (record { ranges = []; condition = None; body = (plan.Reference (codes "H9") ((value.Variable (codes "A") 0) ∷ (value.Variable (codes "J") 1) ∷ [])) } ∷ []) }
      ∷ record { statement = 18; name = codes "H9"; params = (record { name = codes "A"; kind = kind.Stream } ∷ record { name = codes "J"; kind = kind.Preds } ∷ []); alternatives = (record { ranges = []; condition = None; body = (plan.Reference (codes "H10") ((value.Variable (codes "A") 0) ∷ (value.Variable (codes "J") 1) ∷ [])) } ∷ []) }
      ∷ record { statement = 19; name = codes "H10"; params = (record { name = codes "A"; kind = kind.Stream } ∷ record { name = codes "J"; kind = kind.Preds } ∷ []); alternatives = (record { ranges = []; condition = None; body = (plan.Reference (codes "H11") ((value.Variable (codes "A") 0) ∷ (value.Variable (codes "J") 1) ∷ [])) } ∷ []) }
      ∷ record { statement = 20; name = codes "H11"; params = (record { name = codes "A"; kind = kind.Stream } ∷ record { name = codes "J"; kind = kind.Preds } ∷ []); alternatives = (record { ranges = []; condition = None; body = (plan.Reference (codes "H12") ((value.Variable (codes "A") 0) ∷ (value.Variable (codes "J") 1) ∷ [])) } ∷ []) }
      ∷ record { statement = 21; name = codes "H12"; params = (record { name = codes "A"; kind = kind.Stream } ∷ record { name = codes "J"; kind = kind.Preds } ∷ []); alternatives = (record { ranges = []; condition = None; body = (plan.Reference (codes "H13") ((value.Variable (codes "A") 0) ∷ (value.Variable (codes "J") 1) ∷ [])) } ∷ []) }
      ∷ record { statement = 22; name = codes "H13"; params = (record { name = codes "A"; kind = kind.Stream } ∷ record { name = codes "J"; kind = kind.Preds } ∷ []); alternatives = (record { ranges = []; condition = None; body = (plan.Reference (codes "H14") ((value.Variable (codes "A") 0) ∷ (value.Variable (codes "J") 1) ∷ [])) } ∷ []) }
      ∷ record { statement = 23; name = codes "H14"; params = (record { name = codes "A"; kind = kind.Stream } ∷ record { name = codes "J"; kind = kind.Preds } ∷ []); alternatives = (record { ranges = []; condition = None; body = (plan.Reference (codes "H15") ((value.Variable (codes "A") 0) ∷ (value.Variable (codes "J") 1) ∷ [])) } ∷ []) }
      ∷ record { statement = 24; name = codes "H15"; params = (record { name = codes "A"; kind = kind.Stream } ∷ record { name = codes "J"; kind = kind.Preds } ∷ []); alternatives = (record { ranges = []; condition = None; body = (plan.Reference (codes "H16") ((value.Variable (codes "A") 0) ∷ (value.Variable (codes "J") 1) ∷ [])) } ∷ []) }
      ∷ record { statement = 25; name = codes "H16"; params = (record { name = codes "A"; kind = kind.Stream } ∷ record { name = codes "J"; kind = kind.Preds } ∷ []); alternatives = (record { ranges = []; condition = None; body = (plan.Reference (codes "H17") ((value.Variable (codes "A") 0) ∷ (value.Variable (codes "J") 1) ∷ [])) } ∷ []) }
      ∷ record { statement = 26; name = codes "H17"; params = (record { name = codes "A"; kind = kind.Stream } ∷ record { name = codes "J"; kind = kind.Preds } ∷ []); alternatives = (record { ranges = []; condition = None; body = (plan.Leaf flavour.AccessHeap ((value.Variable (codes "A") 0) ∷ (value.Variable (codes "J") 1) ∷ [])) } ∷ []) }
      ∷ [];
}

abbrev pub too_wide : RuleFile
too_wide = record {
  version = 1;
  selects = [];
  formulas = formulas_of_stored_tiny;
  stars =
      record { statement = 9; name = codes "AccessRoot"; params = (record { name = codes "A"; kind = kind.Stream } ∷ record { name = codes "J"; kind = kind.Preds } ∷ []); alternatives = (record { ranges = []; condition = None; body = (plan.Reference (codes "Sb") ((value.Variable (codes "A") 0) ∷ (value.Variable (codes "J") 1) ∷ [])) } ∷ record { ranges = []; condition = None; body = (plan.Reference (codes "Sb") ((value.Variable (codes "A") 0) ∷ (value.Variable (codes "J") 1) ∷ [])) } ∷ record { ranges = []; condition = None; body = (plan.Reference (codes "Sb") ((value.Variable (codes "A") 0) ∷ (value.Variable (codes "J") 1) ∷ [])) } ∷ record { ranges = []; condition = None; body = (plan.Reference (codes "Sb") ((value.Variable (codes "A") 0) ∷ (value.Variable (codes "J") 1) ∷ [])) } ∷ record { ranges = []; condition = None; body = (plan.Reference (codes "Sb") ((value.Variable (codes "A") 0) ∷ (value.Variable (codes "J") 1) ∷ [])) } ∷ record { ranges = []; condition = None; body = (plan.Reference (codes "Sb") ((value.Variable (codes "A") 0) ∷ (value.Variable (codes "J") 1) ∷ [])) } ∷ record { ranges = []; condition = None; body = (plan.Reference (codes "Sb") ((value.Variable (codes "A") 0) ∷ (value.Variable (codes "J") 1) ∷ [])) } ∷ record { ranges = []; condition = None; body = (plan.Reference (codes "Sb") ((value.Variable (codes "A") 0) ∷ (value.Variable (codes "J") 1) ∷ [])) } ∷ record { ranges = []; condition = None; body = (plan.Reference (codes "Sb") ((value.Variable (codes "A") 0) ∷ (value.Variable (codes "J") 1) ∷ [])) } ∷ record { ranges = []; condition = None; body = (plan.Reference (codes "Sb") ((value.Variable (codes "A") 0) ∷ (value.Variable (codes "J") 1) ∷ [])) } ∷ record { ranges = []; condition = None; body = (plan.Reference (codes "Sb") ((value.Variable (codes "A") 0) ∷ (value.Variable (codes "J") 1) ∷ [])) } ∷ record { ranges = []; condition = None; body = (plan.Reference (codes "Sb") ((value.Variable (codes "A") 0) ∷ (value.Variable (codes "J") 1) ∷ [])) } ∷ record { ranges = []; condition = None; body = (plan.Reference (codes "Sb") ((value.Variable (codes "A") 0) ∷ (value.Variable (codes "J") 1) ∷ [])) } ∷ record { ranges = []; condition = None; body = (plan.Reference (codes "Sb") ((value.Variable (codes "A") 0) ∷ (value.Variable (codes "J") 1) ∷ [])) } ∷ record { ranges = []; condition = None; body = (plan.Reference (codes "Sb") ((value.Variable (codes "A") 0) ∷ (value.Variable (codes "J") 1) ∷ [])) } ∷ record { ranges = []; condition = None; body = (plan.Reference (codes "Sc") ((value.Variable (codes "A") 0) ∷ (value.Variable (codes "J") 1) ∷ [])) } ∷ []) }
      ∷ record { statement = 10; name = codes "JoinRoot"; params = (record { name = codes "A"; kind = kind.Stream } ∷ record { name = codes "B"; kind = kind.Stream } ∷ record { name = codes "J"; kind = kind.Preds } ∷ []); alternatives = (record { ranges = []; condition = None; body = (plan.Leaf flavour.AccessHeap ((value.Variable (codes "A") 0) ∷ (value.Variable (codes "J") 2) ∷ [])) } ∷ []) }
      ∷ record { statement = 11; name = codes "Sa"; params = (record { name = codes "A"; kind = kind.Stream } ∷ record { name = codes "J"; kind = kind.Preds } ∷ []); alternatives = (record { ranges = []; condition = None; body = (plan.Leaf flavour.AccessHeap ((value.Variable (codes "A") 0) ∷ (value.Variable (codes "J") 1) ∷ [])) } ∷ record { ranges = []; condition = None; body = (plan.Leaf flavour.AccessHeap ((value.Variable (codes "A") 0) ∷ (value.Variable (codes "J") 1) ∷ [])) } ∷ record { ranges = []; condition = None; body = (plan.Leaf flavour.AccessHeap ((value.Variable (codes "A") 0) ∷ (value.Variable (codes "J") 1) ∷ [])) } ∷ record { ranges = []; condition = None; body = (plan.Leaf flavour.AccessHeap ((value.Variable (codes "A") 0) ∷ (value.Variable (codes "J") 1) ∷ [])) } ∷ record { ranges = []; condition = None; body = (plan.Leaf flavour.AccessHeap ((value.Variable (codes "A") 0) ∷ (value.Variable (codes "J") 1) ∷ [])) } ∷ record { ranges = []; condition = None; body = (plan.Leaf flavour.AccessHeap ((value.Variable (codes "A") 0) ∷ (value.Variable (codes "J") 1) ∷ [])) } ∷ record { ranges = []; condition = None; body = (plan.Leaf flavour.AccessHeap ((value.Variable (codes "A") 0) ∷ (value.Variable (codes "J") 1) ∷ [])) } ∷ record { ranges = []; condition = None; body = (plan.Leaf flavour.AccessHeap ((value.Variable (codes "A") 0) ∷ (value.Variable (codes "J") 1) ∷ [])) } ∷ record { ranges = []; condition = None; body = (plan.Leaf flavour.AccessHeap ((value.Variable (codes "A") 0) ∷ (value.Variable (codes "J") 1) ∷ [])) } ∷ record { ranges = []; condition = None; body = (plan.Leaf flavour.AccessHeap ((value.Variable (codes "A") 0) ∷ (value.Variable (codes "J") 1) ∷ [])) } ∷ record { ranges = []; condition = None; body = (plan.Leaf flavour.AccessHeap ((value.Variable (codes "A") 0) ∷ (value.Variable (codes "J") 1) ∷ [])) } ∷ record { ranges = []; condition = None; body = (plan.Leaf flavour.AccessHeap ((value.Variable (codes "A") 0) ∷ (value.Variable (codes "J") 1) ∷ [])) } ∷ record { ranges = []; condition = None; body = (plan.Leaf flavour.AccessHeap ((value.Variable (codes "A") 0) ∷ (value.Variable (codes "J") 1) ∷ [])) } ∷ record { ranges = []; condition = None; body = (plan.Leaf flavour.AccessHeap ((value.Variable (codes "A") 0) ∷ (value.Variable (codes "J") 1) ∷ [])) } ∷ record { ranges = []; condition = None; body = (plan.Leaf flavour.AccessHeap ((value.Variable (codes "A") 0) ∷ (value.Variable (codes "J") 1) ∷ [])) } ∷ []) }
      ∷ record { statement = 12; name = codes "Sb"; params = (record { name = codes "A"; kind = kind.Stream } ∷ record { name = codes "J"; kind = kind.Preds } ∷ []); alternatives = (record { ranges = []; condition = None; body = (plan.Reference (codes "Sa") ((value.Variable (codes "A") 0) ∷ (value.Variable (codes "J") 1) ∷ [])) } ∷ record { ranges = []; condition = None; body = (plan.Reference (codes "Sa") ((value.Variable (codes "A") 0) ∷ (value.Variable (codes "J") 1) ∷ [])) } ∷ record { ranges = []; condition = None; body = (plan.Reference (codes "Sa") ((value.Variable (codes "A") 0) ∷ (value.Variable (codes "J") 1) ∷ [])) } ∷ record { ranges = []; condition = None; body = (plan.Reference (codes "Sa") ((value.Variable (codes "A") 0) ∷ (value.Variable (codes "J") 1) ∷ [])) } ∷ record { ranges = []; condition = None; body = (plan.Reference (codes "Sa") ((value.Variable (codes "A") 0) ∷ (value.Variable (codes "J") 1) ∷ [])) } ∷ record { ranges = []; condition = None; body = (plan.Reference (codes "Sa") ((value.Variable (codes "A") 0) ∷ (value.Variable (codes "J") 1) ∷ [])) } ∷ record { ranges = []; condition = None; body = (plan.Reference (codes "Sa") ((value.Variable (codes "A") 0) ∷ (value.Variable (codes "J") 1) ∷ [])) } ∷ record { ranges = []; condition = None; body = (plan.Reference (codes "Sa") ((value.Variable (codes "A") 0) ∷ (value.Variable (codes "J") 1) ∷ [])) } ∷ record { ranges = []; condition = None; body = (plan.Reference (codes "Sa") ((value.Variable (codes "A") 0) ∷ (value.Variable (codes "J") 1) ∷ [])) } ∷ record { ranges = []; condition = None; body = (plan.Reference (codes "Sa") ((value.Variable (codes "A") 0) ∷ (value.Variable (codes "J") 1) ∷ [])) } ∷ record { ranges = []; condition = None; body = (plan.Reference (codes "Sa") ((value.Variable (codes "A") 0) ∷ (value.Variable (codes "J") 1) ∷ [])) } ∷ record { ranges = []; condition = None; body = (plan.Reference (codes "Sa") ((value.Variable (codes "A") 0) ∷ (value.Variable (codes "J") 1) ∷ [])) } ∷ record { ranges = []; condition = None; body = (plan.Reference (codes "Sa") ((value.Variable (codes "A") 0) ∷ (value.Variable (codes "J") 1) ∷ [])) } ∷ record { ranges = []; condition = None; body = (plan.Reference (codes "Sa") ((value.Variable (codes "A") 0) ∷ (value.Variable (codes "J") 1) ∷ [])) } ∷ record { ranges = []; condition = None; body = (plan.Reference (codes "Sa") ((value.Variable (codes "A") 0) ∷ (value.Variable (codes "J") 1) ∷ [])) } ∷ record { ranges = []; condition = None; body = (plan.Reference (codes "Sa") ((value.Variable (codes "A") 0) ∷ (value.Variable (codes "J") 1) ∷ [])) } ∷ []) }
      ∷ record { statement = 13; name = codes "Sc"; params = (record { name = codes "A"; kind = kind.Stream } ∷ record { name = codes "J"; kind = kind.Preds } ∷ []); alternatives = (record { ranges = []; condition = None; body = (plan.Reference (codes "Sa") ((value.Variable (codes "A") 0) ∷ (value.Variable (codes "J") 1) ∷ [])) } ∷ record { ranges = []; condition = None; body = (plan.Reference (codes "Sa") ((value.Variable (codes "A") 0) ∷ (value.Variable (codes "J") 1) ∷ [])) } ∷ record { ranges = []; condition = None; body = (plan.Reference (codes "Sa") ((value.Variable (codes "A") 0) ∷ (value.Variable (codes "J") 1) ∷ [])) } ∷ record { ranges = []; condition = None; body = (plan.Reference (codes "Sa") ((value.Variable (codes "A") 0) ∷ (value.Variable (codes "J") 1) ∷ [])) } ∷ record { ranges = []; condition = None; body = (plan.Reference (codes "Sa") ((value.Variable (codes "A") 0) ∷ (value.Variable (codes "J") 1) ∷ [])) } ∷ record { ranges = []; condition = None; body = (plan.Reference (codes "Sa") ((value.Variable (codes "A") 0) ∷ (value.Variable (codes "J") 1) ∷ [])) } ∷ record { ranges = []; condition = None; body = (plan.Reference (codes "Sa") ((value.Variable (codes "A") 0) ∷ (value.Variable (codes "J") 1) ∷ [])) } ∷ record { ranges = []; condition = None; body = (plan.Reference (codes "Sa") ((value.Variable (codes "A") 0) ∷ (value.Variable (codes "J") 1) ∷ [])) } ∷ record { ranges = []; condition = None; body = (plan.Reference (codes "Sa") ((value.Variable (codes "A") 0) ∷ (value.Variable (codes "J") 1) ∷ [])) } ∷ record { ranges = []; condition = None; body = (plan.Reference (codes "Sa") ((value.Variable (codes "A") 0) ∷ (value.Variable (codes "J") 1) ∷ [])) } ∷ record { ranges = []; condition = None; body = (plan.Reference (codes "Sa") ((value.Variable (codes "A") 0) ∷ (value.Variable (codes "J") 1) ∷ [])) } ∷ record { ranges = []; condition = None; body = (plan.Reference (codes "Sa") ((value.Variable (codes "A") 0) ∷ (value.Variable (codes "J") 1) ∷ [])) } ∷ record { ranges = []; condition = None; body = (plan.Reference (codes "Sa") ((value.Variable (codes "A") 0) ∷ (value.Variable (codes "J") 1) ∷ [])) } ∷ record { ranges = []; condition = None; body = (plan.Reference (codes "Sa") ((value.Variable (codes "A") 0) ∷ (value.Variable (codes "J") 1) ∷ [])) } ∷ record { ranges = []; condition = None; body = (plan.Reference (codes "Sa") ((value.Variable (codes "A") 0) ∷ (value.Variable (codes "J") 1) ∷ [])) } ∷ record { ranges = []; condition = None; body = (plan.Leaf flavour.AccessHeap ((value.Variable (codes "A") 0) ∷ (value.Variable (codes "J") 1) ∷ [])) } ∷ []) }
      ∷ [];
}

abbrev pub unknown_in_condition : RuleFile
unknown_in_condition = record {
  version = 1;
  selects = [];
  formulas = formulas_of_stored_tiny;
  stars =
      record { statement = 9; name = codes "AccessRoot"; params = (record { name = codes "A"; kind = kind.Stream } ∷ record { name = codes "J"; kind = kind.Preds } ∷ []); alternatives = (record { ranges = []; condition = None; body = (plan.Leaf flavour.AccessHeap ((value.Variable (codes "A") 0) ∷ (value.Variable (codes "J") 1) ∷ [])) } ∷ []) }
      ∷ record { statement = 10; name = codes "JoinRoot"; params = (record { name = codes "A"; kind = kind.Stream } ∷ record { name = codes "B"; kind = kind.Stream } ∷ record { name = codes "J"; kind = kind.Preds } ∷ []); alternatives = (record { ranges = []; condition = Some (condition.Empty (value.Variable (codes "K") 255)); body = (plan.Leaf flavour.AccessHeap ((value.Variable (codes "A") 0) ∷ (value.Variable (codes "J") 2) ∷ [])) } ∷ []) }
      ∷ [];
}

abbrev pub unknown_in_input : RuleFile
unknown_in_input = record {
  version = 1;
  selects = [];
  formulas = formulas_of_stored_tiny;
  stars =
      record { statement = 9; name = codes "AccessRoot"; params = (record { name = codes "A"; kind = kind.Stream } ∷ record { name = codes "J"; kind = kind.Preds } ∷ []); alternatives = (record { ranges = []; condition = None; body = (e.Unary flavour.Store (value.NoCols ∷ []) (plan.Leaf flavour.AccessHeap ((value.Variable (codes "A") 0) ∷ (value.Variable (codes "K") 255) ∷ []))) } ∷ []) }
      ∷ record { statement = 10; name = codes "JoinRoot"; params = (record { name = codes "A"; kind = kind.Stream } ∷ record { name = codes "B"; kind = kind.Stream } ∷ record { name = codes "J"; kind = kind.Preds } ∷ []); alternatives = (record { ranges = []; condition = None; body = (plan.Leaf flavour.AccessHeap ((value.Variable (codes "A") 0) ∷ (value.Variable (codes "J") 2) ∷ [])) } ∷ []) }
      ∷ [];
}

abbrev pub unknown_in_range : RuleFile
unknown_in_range = record {
  version = 1;
  selects = [];
  formulas = formulas_of_stored_tiny;
  stars =
      record { statement = 9; name = codes "AccessRoot"; params = (record { name = codes "A"; kind = kind.Stream } ∷ record { name = codes "J"; kind = kind.Preds } ∷ []); alternatives = (record { ranges = []; condition = None; body = (plan.Leaf flavour.AccessHeap ((value.Variable (codes "A") 0) ∷ (value.Variable (codes "J") 1) ∷ [])) } ∷ []) }
      ∷ record { statement = 10; name = codes "JoinRoot"; params = (record { name = codes "A"; kind = kind.Stream } ∷ record { name = codes "B"; kind = kind.Stream } ∷ record { name = codes "J"; kind = kind.Preds } ∷ []); alternatives = (record { ranges = (record { name = codes "x"; range = range.Indexes (value.Variable (codes "x") 255) } ∷ []); condition = None; body = (plan.Leaf flavour.AccessHeap ((value.Variable (codes "A") 0) ∷ (value.Variable (codes "J") 2) ∷ [])) } ∷ []) }
      ∷ [];
}

abbrev pub unknown_name : RuleFile
unknown_name = record {
  version = 1;
  selects = [];
  formulas = formulas_of_stored_tiny;
  stars =
      record { statement = 9; name = codes "AccessRoot"; params = (record { name = codes "A"; kind = kind.Stream } ∷ record { name = codes "J"; kind = kind.Preds } ∷ []); alternatives = (record { ranges = []; condition = None; body = (plan.Leaf flavour.AccessHeap ((value.Variable (codes "A") 0) ∷ (value.Variable (codes "K") 255) ∷ [])) } ∷ []) }
      ∷ record { statement = 10; name = codes "JoinRoot"; params = (record { name = codes "A"; kind = kind.Stream } ∷ record { name = codes "B"; kind = kind.Stream } ∷ record { name = codes "J"; kind = kind.Preds } ∷ []); alternatives = (record { ranges = []; condition = None; body = (plan.Leaf flavour.AccessHeap ((value.Variable (codes "A") 0) ∷ (value.Variable (codes "J") 2) ∷ [])) } ∷ []) }
      ∷ [];
}

abbrev pub unknown_star : RuleFile
unknown_star = record {
  version = 1;
  selects = [];
  formulas = formulas_of_stored_tiny;
  stars =
      record { statement = 9; name = codes "AccessRoot"; params = (record { name = codes "A"; kind = kind.Stream } ∷ record { name = codes "J"; kind = kind.Preds } ∷ []); alternatives = (record { ranges = []; condition = None; body = (plan.Reference (codes "Other") ((value.Variable (codes "A") 0) ∷ (value.Variable (codes "J") 1) ∷ [])) } ∷ []) }
      ∷ record { statement = 10; name = codes "JoinRoot"; params = (record { name = codes "A"; kind = kind.Stream } ∷ record { name = codes "B"; kind = kind.Stream } ∷ record { name = codes "J"; kind = kind.Preds } ∷ []); alternatives = (record { ranges = []; condition = None; body = (plan.Leaf flavour.AccessHeap ((value.Variable (codes "A") 0) ∷ (value.Variable (codes "J") 2) ∷ [])) } ∷ []) }
      ∷ [];
}

abbrev pub unknown_star_in_join : RuleFile
unknown_star_in_join = record {
  version = 1;
  selects = [];
  formulas = formulas_of_stored_tiny;
  stars =
      record { statement = 9; name = codes "AccessRoot"; params = (record { name = codes "A"; kind = kind.Stream } ∷ record { name = codes "J"; kind = kind.Preds } ∷ []); alternatives = (record { ranges = []; condition = None; body = (plan.Leaf flavour.AccessHeap ((value.Variable (codes "A") 0) ∷ (value.Variable (codes "J") 1) ∷ [])) } ∷ []) }
      ∷ record { statement = 10; name = codes "JoinRoot"; params = (record { name = codes "A"; kind = kind.Stream } ∷ record { name = codes "B"; kind = kind.Stream } ∷ record { name = codes "J"; kind = kind.Preds } ∷ []); alternatives = (record { ranges = []; condition = None; body = (e.Binary flavour.JoinNl (value.NoPreds ∷ []) (plan.Glue (value.Variable (codes "A") 0) (value.Variable (codes "J") 2)) (plan.Reference (codes "Other") ((value.Variable (codes "B") 1) ∷ (value.Variable (codes "J") 2) ∷ []))) } ∷ []) }
      ∷ [];
}

abbrev pub wrong_count : RuleFile
wrong_count = record {
  version = 1;
  selects = [];
  formulas = formulas_of_stored_tiny;
  stars =
      record { statement = 9; name = codes "AccessRoot"; params = (record { name = codes "A"; kind = kind.Stream } ∷ []); alternatives = (record { ranges = []; condition = None; body = (plan.Leaf flavour.AccessHeap ((value.Variable (codes "A") 0) ∷ value.NoPreds ∷ [])) } ∷ []) }
      ∷ record { statement = 10; name = codes "JoinRoot"; params = (record { name = codes "A"; kind = kind.Stream } ∷ record { name = codes "B"; kind = kind.Stream } ∷ record { name = codes "J"; kind = kind.Preds } ∷ []); alternatives = (record { ranges = []; condition = None; body = (plan.Leaf flavour.AccessHeap ((value.Variable (codes "A") 0) ∷ (value.Variable (codes "J") 2) ∷ [])) } ∷ []) }
      ∷ [];
}

abbrev pub wrong_count_in_join : RuleFile
wrong_count_in_join = record {
  version = 1;
  selects = [];
  formulas = formulas_of_stored_tiny;
  stars =
      record { statement = 9; name = codes "AccessRoot"; params = (record { name = codes "A"; kind = kind.Stream } ∷ record { name = codes "J"; kind = kind.Preds } ∷ []); alternatives = (record { ranges = []; condition = None; body = (plan.Leaf flavour.AccessHeap ((value.Variable (codes "A") 0) ∷ (value.Variable (codes "J") 1) ∷ [])) } ∷ []) }
      ∷ record { statement = 10; name = codes "JoinRoot"; params = (record { name = codes "A"; kind = kind.Stream } ∷ record { name = codes "B"; kind = kind.Stream } ∷ record { name = codes "J"; kind = kind.Preds } ∷ []); alternatives = (record { ranges = []; condition = None; body = (e.Binary flavour.JoinNl (value.NoPreds ∷ []) (plan.Reference (codes "Other") ((value.Variable (codes "A") 0) ∷ (value.Variable (codes "J") 2) ∷ [])) (plan.Reference (codes "Other") ((value.Variable (codes "B") 1) ∷ []))) } ∷ []) }
      ∷ record { statement = 11; name = codes "Other"; params = (record { name = codes "A"; kind = kind.Stream } ∷ record { name = codes "J"; kind = kind.Preds } ∷ []); alternatives = (record { ranges = []; condition = None; body = (plan.Leaf flavour.AccessHeap ((value.Variable (codes "A") 0) ∷ (value.Variable (codes "J") 1) ∷ [])) } ∷ []) }
      ∷ [];
}

abbrev pub wrong_count_of_arguments : RuleFile
wrong_count_of_arguments = record {
  version = 1;
  selects = [];
  formulas = formulas_of_stored_tiny;
  stars =
      record { statement = 9; name = codes "AccessRoot"; params = (record { name = codes "A"; kind = kind.Stream } ∷ record { name = codes "J"; kind = kind.Preds } ∷ []); alternatives = (record { ranges = []; condition = None; body = (plan.Reference (codes "Other") ((value.Variable (codes "A") 0) ∷ [])) } ∷ []) }
      ∷ record { statement = 10; name = codes "JoinRoot"; params = (record { name = codes "A"; kind = kind.Stream } ∷ record { name = codes "B"; kind = kind.Stream } ∷ record { name = codes "J"; kind = kind.Preds } ∷ []); alternatives = (record { ranges = []; condition = None; body = (plan.Leaf flavour.AccessHeap ((value.Variable (codes "A") 0) ∷ (value.Variable (codes "J") 2) ∷ [])) } ∷ []) }
      ∷ record { statement = 11; name = codes "Other"; params = (record { name = codes "A"; kind = kind.Stream } ∷ record { name = codes "J"; kind = kind.Preds } ∷ []); alternatives = (record { ranges = []; condition = None; body = (plan.Leaf flavour.AccessHeap ((value.Variable (codes "A") 0) ∷ (value.Variable (codes "J") 1) ∷ [])) } ∷ []) }
      ∷ [];
}

abbrev pub wrong_count_of_join : RuleFile
wrong_count_of_join = record {
  version = 1;
  selects = [];
  formulas = formulas_of_stored_tiny;
  stars =
      record { statement = 9; name = codes "AccessRoot"; params = (record { name = codes "A"; kind = kind.Stream } ∷ record { name = codes "J"; kind = kind.Preds } ∷ []); alternatives = (record { ranges = []; condition = None; body = (plan.Leaf flavour.AccessHeap ((value.Variable (codes "A") 0) ∷ (value.Variable (codes "J") 1) ∷ [])) } ∷ []) }
      ∷ record { statement = 10; name = codes "JoinRoot"; params = (record { name = codes "A"; kind = kind.Stream } ∷ record { name = codes "J"; kind = kind.Preds } ∷ []); alternatives = (record { ranges = []; condition = None; body = (plan.Leaf flavour.AccessHeap ((value.Variable (codes "A") 0) ∷ (value.Variable (codes "J") 1) ∷ [])) } ∷ []) }
      ∷ [];
}

abbrev pub wrong_kind : RuleFile
wrong_kind = record {
  version = 1;
  selects = [];
  formulas = formulas_of_stored_tiny;
  stars =
      record { statement = 9; name = codes "AccessRoot"; params = (record { name = codes "A"; kind = kind.Stream } ∷ record { name = codes "J"; kind = kind.Preds } ∷ []); alternatives = (record { ranges = []; condition = None; body = (plan.Leaf flavour.AccessHeap ((value.Variable (codes "A") 0) ∷ (value.Variable (codes "A") 0) ∷ [])) } ∷ []) }
      ∷ record { statement = 10; name = codes "JoinRoot"; params = (record { name = codes "A"; kind = kind.Stream } ∷ record { name = codes "B"; kind = kind.Stream } ∷ record { name = codes "J"; kind = kind.Preds } ∷ []); alternatives = (record { ranges = []; condition = None; body = (plan.Leaf flavour.AccessHeap ((value.Variable (codes "A") 0) ∷ (value.Variable (codes "J") 2) ∷ [])) } ∷ []) }
      ∷ [];
}

abbrev pub wrong_kind_in_condition : RuleFile
wrong_kind_in_condition = record {
  version = 1;
  selects = [];
  formulas = formulas_of_stored_tiny;
  stars =
      record { statement = 9; name = codes "AccessRoot"; params = (record { name = codes "A"; kind = kind.Stream } ∷ record { name = codes "J"; kind = kind.Preds } ∷ []); alternatives = (record { ranges = []; condition = None; body = (plan.Leaf flavour.AccessHeap ((value.Variable (codes "A") 0) ∷ (value.Variable (codes "J") 1) ∷ [])) } ∷ []) }
      ∷ record { statement = 10; name = codes "JoinRoot"; params = (record { name = codes "A"; kind = kind.Stream } ∷ record { name = codes "B"; kind = kind.Stream } ∷ record { name = codes "J"; kind = kind.Preds } ∷ []); alternatives = (record { ranges = []; condition = Some (condition.Single (value.Variable (codes "A") 0)); body = (plan.Leaf flavour.AccessHeap ((value.Variable (codes "A") 0) ∷ (value.Variable (codes "J") 2) ∷ [])) } ∷ []) }
      ∷ [];
}

abbrev pub wrong_kind_in_glue : RuleFile
wrong_kind_in_glue = record {
  version = 1;
  selects = [];
  formulas = formulas_of_stored_tiny;
  stars =
      record { statement = 9; name = codes "AccessRoot"; params = (record { name = codes "A"; kind = kind.Stream } ∷ record { name = codes "J"; kind = kind.Preds } ∷ []); alternatives = (record { ranges = []; condition = None; body = (plan.Leaf flavour.AccessHeap ((value.Variable (codes "A") 0) ∷ (value.Variable (codes "J") 1) ∷ [])) } ∷ []) }
      ∷ record { statement = 10; name = codes "JoinRoot"; params = (record { name = codes "A"; kind = kind.Stream } ∷ record { name = codes "B"; kind = kind.Stream } ∷ record { name = codes "J"; kind = kind.Preds } ∷ []); alternatives = (record { ranges = []; condition = None; body = (plan.Glue (value.Variable (codes "J") 2) (value.Variable (codes "J") 2)) } ∷ []) }
      ∷ [];
}

abbrev pub wrong_kind_in_input : RuleFile
wrong_kind_in_input = record {
  version = 1;
  selects = [];
  formulas = formulas_of_stored_tiny;
  stars =
      record { statement = 9; name = codes "AccessRoot"; params = (record { name = codes "A"; kind = kind.Stream } ∷ record { name = codes "J"; kind = kind.Preds } ∷ []); alternatives = (record { ranges = []; condition = None; body = (e.Unary flavour.Store (value.NoCols ∷ []) (plan.Leaf flavour.AccessHeap ((value.Variable (codes "A") 0) ∷ (value.Variable (codes "A") 0) ∷ []))) } ∷ []) }
      ∷ record { statement = 10; name = codes "JoinRoot"; params = (record { name = codes "A"; kind = kind.Stream } ∷ record { name = codes "B"; kind = kind.Stream } ∷ record { name = codes "J"; kind = kind.Preds } ∷ []); alternatives = (record { ranges = []; condition = None; body = (plan.Leaf flavour.AccessHeap ((value.Variable (codes "A") 0) ∷ (value.Variable (codes "J") 2) ∷ [])) } ∷ []) }
      ∷ [];
}

abbrev pub wrong_kind_in_range : RuleFile
wrong_kind_in_range = record {
  version = 1;
  selects = [];
  formulas = formulas_of_stored_tiny;
  stars =
      record { statement = 9; name = codes "AccessRoot"; params = (record { name = codes "A"; kind = kind.Stream } ∷ record { name = codes "J"; kind = kind.Preds } ∷ []); alternatives = (record { ranges = []; condition = None; body = (plan.Leaf flavour.AccessHeap ((value.Variable (codes "A") 0) ∷ (value.Variable (codes "J") 1) ∷ [])) } ∷ []) }
      ∷ record { statement = 10; name = codes "JoinRoot"; params = (record { name = codes "A"; kind = kind.Stream } ∷ record { name = codes "B"; kind = kind.Stream } ∷ record { name = codes "J"; kind = kind.Preds } ∷ []); alternatives = (record { ranges = (record { name = codes "x"; range = range.Indexes (value.Variable (codes "J") 2) } ∷ []); condition = None; body = (plan.Leaf flavour.AccessHeap ((value.Variable (codes "A") 0) ∷ (value.Variable (codes "J") 2) ∷ [])) } ∷ []) }
      ∷ [];
}

abbrev pub wrong_kind_of_argument : RuleFile
wrong_kind_of_argument = record {
  version = 1;
  selects = [];
  formulas = formulas_of_stored_tiny;
  stars =
      record { statement = 9; name = codes "AccessRoot"; params = (record { name = codes "A"; kind = kind.Stream } ∷ record { name = codes "J"; kind = kind.Preds } ∷ []); alternatives = (record { ranges = []; condition = None; body = (plan.Reference (codes "Other") ((value.Variable (codes "J") 1) ∷ (value.Variable (codes "J") 1) ∷ [])) } ∷ []) }
      ∷ record { statement = 10; name = codes "JoinRoot"; params = (record { name = codes "A"; kind = kind.Stream } ∷ record { name = codes "B"; kind = kind.Stream } ∷ record { name = codes "J"; kind = kind.Preds } ∷ []); alternatives = (record { ranges = []; condition = None; body = (plan.Leaf flavour.AccessHeap ((value.Variable (codes "A") 0) ∷ (value.Variable (codes "J") 2) ∷ [])) } ∷ []) }
      ∷ record { statement = 11; name = codes "Other"; params = (record { name = codes "A"; kind = kind.Stream } ∷ record { name = codes "J"; kind = kind.Preds } ∷ []); alternatives = (record { ranges = []; condition = None; body = (plan.Leaf flavour.AccessHeap ((value.Variable (codes "A") 0) ∷ (value.Variable (codes "J") 1) ∷ [])) } ∷ []) }
      ∷ [];
}

abbrev pub wrong_kind_of_bracket : RuleFile
wrong_kind_of_bracket = record {
  version = 1;
  selects = [];
  formulas = formulas_of_stored_tiny;
  stars =
      record { statement = 9; name = codes "AccessRoot"; params = (record { name = codes "A"; kind = kind.Stream } ∷ record { name = codes "J"; kind = kind.Preds } ∷ []); alternatives = (record { ranges = []; condition = None; body = (plan.Leaf flavour.AccessHeap ((value.Variable (codes "A") 0) ∷ (value.Variable (codes "J") 1) ∷ [])) } ∷ []) }
      ∷ record { statement = 10; name = codes "JoinRoot"; params = (record { name = codes "A"; kind = kind.Stream } ∷ record { name = codes "B"; kind = kind.Stream } ∷ record { name = codes "J"; kind = kind.Preds } ∷ []); alternatives = (record { ranges = []; condition = None; body = (plan.Glue (v.WithOrder (value.Variable (codes "A") 0) (value.Variable (codes "J") 2)) (value.Variable (codes "J") 2)) } ∷ []) }
      ∷ [];
}

abbrev pub wrong_kind_of_join : RuleFile
wrong_kind_of_join = record {
  version = 1;
  selects = [];
  formulas = formulas_of_stored_tiny;
  stars =
      record { statement = 9; name = codes "AccessRoot"; params = (record { name = codes "A"; kind = kind.Stream } ∷ record { name = codes "J"; kind = kind.Preds } ∷ []); alternatives = (record { ranges = []; condition = None; body = (plan.Leaf flavour.AccessHeap ((value.Variable (codes "A") 0) ∷ (value.Variable (codes "J") 1) ∷ [])) } ∷ []) }
      ∷ record { statement = 10; name = codes "JoinRoot"; params = (record { name = codes "A"; kind = kind.Stream } ∷ record { name = codes "B"; kind = kind.Quants } ∷ record { name = codes "J"; kind = kind.Preds } ∷ []); alternatives = (record { ranges = []; condition = None; body = (plan.Leaf flavour.AccessHeap ((value.Variable (codes "A") 0) ∷ value.NoPreds ∷ [])) } ∷ []) }
      ∷ [];
}

abbrev pub wrong_kind_of_root : RuleFile
wrong_kind_of_root = record {
  version = 1;
  selects = [];
  formulas = formulas_of_stored_tiny;
  stars =
      record { statement = 9; name = codes "AccessRoot"; params = (record { name = codes "A"; kind = kind.Stream } ∷ record { name = codes "J"; kind = kind.Cols } ∷ []); alternatives = (record { ranges = []; condition = None; body = (plan.Leaf flavour.AccessHeap ((value.Variable (codes "A") 0) ∷ value.NoPreds ∷ [])) } ∷ []) }
      ∷ record { statement = 10; name = codes "JoinRoot"; params = (record { name = codes "A"; kind = kind.Stream } ∷ record { name = codes "B"; kind = kind.Stream } ∷ record { name = codes "J"; kind = kind.Preds } ∷ []); alternatives = (record { ranges = []; condition = None; body = (plan.Leaf flavour.AccessHeap ((value.Variable (codes "A") 0) ∷ (value.Variable (codes "J") 2) ∷ [])) } ∷ []) }
      ∷ [];
}

abbrev pub wrong_kind_of_set : RuleFile
wrong_kind_of_set = record {
  version = 1;
  selects = [];
  formulas = formulas_of_stored_tiny;
  stars =
      record { statement = 9; name = codes "AccessRoot"; params = (record { name = codes "A"; kind = kind.Stream } ∷ record { name = codes "J"; kind = kind.Preds } ∷ []); alternatives = (record { ranges = []; condition = None; body = (plan.Leaf flavour.AccessHeap ((value.Variable (codes "A") 0) ∷ (value.Variable (codes "J") 1) ∷ [])) } ∷ []) }
      ∷ record { statement = 10; name = codes "JoinRoot"; params = (record { name = codes "A"; kind = kind.Stream } ∷ record { name = codes "B"; kind = kind.Stream } ∷ record { name = codes "J"; kind = kind.Preds } ∷ []); alternatives = (record { ranges = []; condition = None; body = (plan.Leaf flavour.AccessHeap ((value.Variable (codes "A") 0) ∷ (v.Union (value.Variable (codes "J") 2) (v.Tables (value.Variable (codes "A") 0))) ∷ [])) } ∷ []) }
      ∷ [];
}
