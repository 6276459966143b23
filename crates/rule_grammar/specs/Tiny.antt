-- The smallest rule file that is accepted: its lexemes, and what they spell. Written by tools/tiny.
use Rattle.std.specs.Prelude.{List, [], ◌∷◌, None, codes}
use Rattle.star_model.specs.FormulaCases as f
use Rattle.star_model.specs.declared.formula.Formula.TheVariants as formula
use Rattle.star_model.specs.declared.formula.Var.TheVariants as var
use Rattle.star_model.specs.declared.rules.Flavour.TheVariants as flavour
use Rattle.star_model.specs.declared.rules.Which.TheVariants as which
use Rattle.star_model.specs.declared.rules.Kind.TheVariants as kind
use Rattle.star_model.specs.declared.rules.ValueExpr.TheVariants as value
use Rattle.star_model.specs.declared.rules.PlanExpr.TheVariants as plan
use Rattle.star_model.specs.declared.rules.RuleFile.{RuleFile}
use Rattle.spelling.specs.Lexemes.{Lexeme, Word, Number, Symbol, left_bracket, right_bracket, comma, equals}

unfoldable pub tiny_lexemes : List (List Lexeme)
tiny_lexemes =
    (Word (codes "cost") ∷ Word (codes "ACCESS_HEAP") ∷ equals ∷ Number 10 ∷ Symbol (codes "*") ∷ Word (codes "pages") ∷ Symbol (codes "+") ∷ Word (codes "cpu") ∷ Symbol (codes "*") ∷ Word (codes "rows") ∷ [])
    ∷ (Word (codes "rescan") ∷ Word (codes "ACCESS_HEAP") ∷ equals ∷ Number 10 ∷ Symbol (codes "*") ∷ Word (codes "pages") ∷ Symbol (codes "+") ∷ Word (codes "cpu") ∷ Symbol (codes "*") ∷ Word (codes "rows") ∷ [])
    ∷ (Word (codes "cost") ∷ Word (codes "SORT") ∷ equals ∷ Word (codes "cost1") ∷ Symbol (codes "+") ∷ Number 4 ∷ Symbol (codes "*") ∷ Word (codes "card1") ∷ [])
    ∷ (Word (codes "rescan") ∷ Word (codes "SORT") ∷ equals ∷ Word (codes "rescan1") ∷ Symbol (codes "+") ∷ Number 4 ∷ Symbol (codes "*") ∷ Word (codes "card1") ∷ [])
    ∷ (Word (codes "cost") ∷ Word (codes "STORE") ∷ equals ∷ Word (codes "cost1") ∷ Symbol (codes "+") ∷ Number 2 ∷ Symbol (codes "*") ∷ Word (codes "card1") ∷ [])
    ∷ (Word (codes "rescan") ∷ Word (codes "STORE") ∷ equals ∷ Word (codes "card1") ∷ [])
    ∷ (Word (codes "cost") ∷ Word (codes "SHIP") ∷ equals ∷ Word (codes "cost1") ∷ Symbol (codes "+") ∷ Word (codes "net") ∷ Symbol (codes "*") ∷ Word (codes "card1") ∷ Symbol (codes "*") ∷ Word (codes "width1") ∷ [])
    ∷ (Word (codes "rescan") ∷ Word (codes "SHIP") ∷ equals ∷ Word (codes "rescan1") ∷ Symbol (codes "+") ∷ Word (codes "net") ∷ Symbol (codes "*") ∷ Word (codes "card1") ∷ Symbol (codes "*") ∷ Word (codes "width1") ∷ [])
    ∷ (Word (codes "star") ∷ Word (codes "AccessRoot") ∷ left_bracket ∷ Word (codes "A") ∷ Word (codes "stream") ∷ comma ∷ Word (codes "J") ∷ Word (codes "preds") ∷ right_bracket ∷ equals ∷ Word (codes "give") ∷ Word (codes "ACCESS_HEAP") ∷ left_bracket ∷ Word (codes "A") ∷ comma ∷ Word (codes "J") ∷ right_bracket ∷ [])
    ∷ (Word (codes "star") ∷ Word (codes "JoinRoot") ∷ left_bracket ∷ Word (codes "A") ∷ Word (codes "stream") ∷ comma ∷ Word (codes "B") ∷ Word (codes "stream") ∷ comma ∷ Word (codes "J") ∷ Word (codes "preds") ∷ right_bracket ∷ equals ∷ Word (codes "give") ∷ Word (codes "ACCESS_HEAP") ∷ left_bracket ∷ Word (codes "A") ∷ comma ∷ Word (codes "J") ∷ right_bracket ∷ [])
    ∷ []

unfoldable pub tiny_rules : RuleFile
tiny_rules = record {
  version = 1;
  selects = [];
  formulas =
      record { statement = 1; flavour = flavour.AccessHeap; which = which.Cost; formula = (f.Add (f.Mul (formula.Number 10) (formula.Variable var.Pages)) (f.Mul (formula.Variable var.Cpu) (formula.Variable var.Rows))) }
      ∷ record { statement = 2; flavour = flavour.AccessHeap; which = which.Rescan; formula = (f.Add (f.Mul (formula.Number 10) (formula.Variable var.Pages)) (f.Mul (formula.Variable var.Cpu) (formula.Variable var.Rows))) }
      ∷ record { statement = 3; flavour = flavour.Sort; which = which.Cost; formula = (f.Add (formula.Variable var.Cost1) (f.Mul (formula.Number 4) (formula.Variable var.Card1))) }
      ∷ record { statement = 4; flavour = flavour.Sort; which = which.Rescan; formula = (f.Add (formula.Variable var.Rescan1) (f.Mul (formula.Number 4) (formula.Variable var.Card1))) }
      ∷ record { statement = 5; flavour = flavour.Store; which = which.Cost; formula = (f.Add (formula.Variable var.Cost1) (f.Mul (formula.Number 2) (formula.Variable var.Card1))) }
      ∷ record { statement = 6; flavour = flavour.Store; which = which.Rescan; formula = (formula.Variable var.Card1) }
      ∷ record { statement = 7; flavour = flavour.Ship; which = which.Cost; formula = (f.Add (formula.Variable var.Cost1) (f.Mul (f.Mul (formula.Variable var.Net) (formula.Variable var.Card1)) (formula.Variable var.Width1))) }
      ∷ record { statement = 8; flavour = flavour.Ship; which = which.Rescan; formula = (f.Add (formula.Variable var.Rescan1) (f.Mul (f.Mul (formula.Variable var.Net) (formula.Variable var.Card1)) (formula.Variable var.Width1))) }
      ∷ [];
  stars =
      record { statement = 9; name = codes "AccessRoot"; params = (record { name = codes "A"; kind = kind.Stream } ∷ record { name = codes "J"; kind = kind.Preds } ∷ []); alternatives = (record { ranges = []; condition = None; body = (plan.Leaf flavour.AccessHeap ((value.Variable (codes "A") 0) ∷ (value.Variable (codes "J") 1) ∷ [])) } ∷ []) }
      ∷ record { statement = 10; name = codes "JoinRoot"; params = (record { name = codes "A"; kind = kind.Stream } ∷ record { name = codes "B"; kind = kind.Stream } ∷ record { name = codes "J"; kind = kind.Preds } ∷ []); alternatives = (record { ranges = []; condition = None; body = (plan.Leaf flavour.AccessHeap ((value.Variable (codes "A") 0) ∷ (value.Variable (codes "J") 2) ∷ [])) } ∷ []) }
      ∷ [];
}
