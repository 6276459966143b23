-- Written by tools/worked_plans.
-- Formulas with their values, and formulas with their first offending nodes.
use Rattle.std.specs.Prelude.{ℕ, List, [], ◌∷◌}
use Rattle.star_model.specs.FormulaCases as f
use Rattle.star_model.specs.declared.formula.Formula.TheVariants as formula
use Rattle.star_model.specs.declared.formula.Test.TheVariants as test
use Rattle.star_model.specs.declared.formula.Var.TheVariants as var
use Rattle.star_model.specs.declared.formula.Formula.{Formula}

abbrev pub worth : List (Formula × ℕ)
worth =
    ((formula.Variable var.Cost1), 1)
    ∷ ((formula.Variable var.Rescan1), 2)
    ∷ ((formula.Variable var.Card1), 3)
    ∷ ((formula.Variable var.Width1), 4)
    ∷ ((formula.Variable var.Cost2), 5)
    ∷ ((formula.Variable var.Rescan2), 6)
    ∷ ((formula.Variable var.Card2), 7)
    ∷ ((formula.Variable var.Width2), 8)
    ∷ ((formula.Variable var.Card), 9)
    ∷ ((formula.Variable var.Width), 10)
    ∷ ((formula.Variable var.Rows), 11)
    ∷ ((formula.Variable var.Pages), 12)
    ∷ ((formula.Variable var.Preds), 13)
    ∷ ((formula.Variable var.Cpu), 14)
    ∷ ((formula.Variable var.Net), 15)
    ∷ ((formula.Variable var.Distinct1), 16)
    ∷ ((formula.Variable var.Rows1), 17)
    ∷ ((formula.Variable var.Distinct2), 18)
    ∷ ((formula.Variable var.Rows2), 19)
    ∷ ((formula.Variable var.One), 1)
    ∷ ((f.Div (formula.Number 7) (formula.Number 2)), 4)
    ∷ ((f.Div (formula.Number 8) (formula.Number 2)), 4)
    ∷ ((f.Div (formula.Number 7) (formula.Number 0)), 7)
    ∷ ((f.Div (formula.Number 0) (formula.Number 7)), 0)
    ∷ ((f.Sub (formula.Number 3) (formula.Number 5)), 0)
    ∷ ((f.Sub (formula.Number 5) (formula.Number 3)), 2)
    ∷ ((f.Add (f.Mul (formula.Number 2) (formula.Number 3)) (formula.Number 4)), 10)
    ∷ ((f.Mul (f.Add (formula.Number 2) (formula.Number 3)) (formula.Number 4)), 20)
    ∷ ((f.Sub (f.Sub (formula.Number 2) (formula.Number 1)) (formula.Number 1)), 0)
    ∷ ((f.Div (f.Div (formula.Number 8) (formula.Number 4)) (formula.Number 2)), 1)
    ∷ ((f.Add (formula.Number 1000000000000000000) (formula.Number 1)), 1000000000000000000)
    ∷ ((formula.Number 1000000000000000001), 1000000000000000000)
    ∷ ((f.Mul (formula.Number 1000000000) (formula.Number 1000000001)), 1000000000000000000)
    ∷ ((f.Div (f.Mul (formula.Number 1000000000000000000) (formula.Number 1000000000000000000)) (formula.Number 1000000000000000000)), 1)
    ∷ ((f.Min (formula.Number 3) (formula.Number 5)), 3)
    ∷ ((f.Max (formula.Number 3) (formula.Number 5)), 5)
    ∷ ((f.If test.Le (formula.Number 2) (formula.Number 2) (formula.Number 1) (formula.Number 0)), 1)
    ∷ ((f.If test.Lt (formula.Number 2) (formula.Number 2) (formula.Number 1) (formula.Number 0)), 0)
    ∷ ((f.If test.Lt (formula.Number 1) (formula.Number 2) (formula.Number 1) (formula.Number 0)), 1)
    ∷ ((f.If test.Eq (formula.Number 2) (formula.Number 2) (formula.Number 1) (formula.Number 0)), 1)
    ∷ ((f.If test.Eq (formula.Number 2) (formula.Number 3) (formula.Number 1) (formula.Number 0)), 0)
    ∷ ((f.If test.Le (formula.Number 3) (formula.Number 2) (formula.Number 1) (formula.Number 0)), 0)
    ∷ ((f.Add (f.Add (formula.Number 10) (f.Div (f.Mul (f.Mul (formula.Number 10) (formula.Variable var.Pages)) (formula.Variable var.Card)) (formula.Variable var.Rows))) (f.Mul (formula.Variable var.Cpu) (formula.Variable var.Card))), 235)
    ∷ ((f.Sub (formula.Variable var.Cost1) (formula.Variable var.Card2)), 0)
    ∷ ((f.Div (formula.Variable var.Rescan2) (f.Sub (formula.Variable var.Card1) (formula.Variable var.Pages))), 6)
    ∷ ((f.If test.Lt (formula.Variable var.Card1) (formula.Variable var.Card2) (f.Mul (formula.Variable var.Cost1) (formula.Variable var.Rescan2)) (f.Min (formula.Variable var.Cost2) (formula.Variable var.Rescan1))), 6)
    ∷ []

abbrev pub offending : List (Formula × ℕ)
offending =
    ((f.Div (formula.Variable var.Cost1) (formula.Variable var.Rescan2)), 1)
    ∷ ((f.Div (formula.Variable var.Cost1) (formula.Variable var.Cost2)), 1)
    ∷ ((f.Sub (formula.Variable var.Card1) (formula.Variable var.Rescan1)), 1)
    ∷ ((f.If test.Lt (formula.Variable var.Cost2) (formula.Number 5) (formula.Number 1) (formula.Number 2)), 1)
    ∷ ((f.If test.Lt (formula.Number 5) (formula.Variable var.Cost1) (formula.Number 1) (formula.Number 2)), 1)
    ∷ ((f.If test.Lt (formula.Number 5) (formula.Number 6) (f.Sub (formula.Number 1) (formula.Variable var.Cost1)) (f.Sub (formula.Number 2) (formula.Variable var.Cost1))), 4)
    ∷ ((f.If test.Lt (formula.Number 5) (formula.Number 6) (formula.Number 1) (f.Sub (formula.Number 2) (formula.Variable var.Cost1))), 5)
    ∷ ((f.Min (formula.Variable var.Card1) (f.Mul (formula.Number 3) (f.Sub (formula.Number 10) (formula.Variable var.Cost2)))), 5)
    ∷ ((f.Max (f.Add (f.Mul (formula.Variable var.Cost1) (formula.Variable var.Rescan1)) (formula.Variable var.Cost2)) (f.Div (formula.Number 4) (f.Add (formula.Variable var.Card) (formula.Variable var.Rescan2)))), 7)
    ∷ ((f.Add (formula.Number 5) (f.Sub (formula.Variable var.Cost1) (formula.Variable var.Cost1))), 3)
    ∷ ((f.Div (formula.Number 1) (f.Sub (formula.Number 2) (f.Sub (formula.Number 3) (formula.Variable var.Cost1)))), 1)
    ∷ []
