use Rattle.std.proofs.Common.{◌+◌, List, length, Option, Some, None}
use Rattle.std.specs.Prelude.{Result, Ok, Err, IfOk, IfSome, IfNone}
use Rattle.std.specs.declared.alloc.AllocError.{AllocError}
use Rattle.star_model.specs.declared.formula.Formula.{Formula}
use Rattle.cost_formula.specs.declared.formula_word.FormulaWord.{FormulaWord}
use Rattle.cost_formula.specs.FormulaGrammar.{Spells, Whole}
use Rattle.cost_formula.specs.FormulaReading.{whole_at}
use Rattle.cost_formula.proofs.Laws.{formula_reads}
use Rattle.cost_formula.specs.Reading.{IsAllOf}
use Rattle.cost_formula.proofs.read.read_words.Goals as goal

some_is : (ws : List FormulaWord) (r : Result (Option Formula) AllocError) → IfOk r (IsAllOf (whole_at (length ws + 1) ws)) → IfOk r (λ o. IfSome o (λ x. Spells Whole ws x))
some_is ws (Ok (Some x)) h = (formula_reads ws x).0 h
some_is ws (Ok None) h = tt
some_is ws (Err e) h = tt

none_is : (ws : List FormulaWord) (r : Result (Option Formula) AllocError) → IfOk r (IsAllOf (whole_at (length ws + 1) ws)) → IfOk r (λ o. IfNone o ((x : Formula) → Spells Whole ws x → ⊥))
none_is ws (Ok (Some x)) h = tt
none_is ws (Ok None) h = λ x s. h x ((formula_reads ws x).1 s)
none_is ws (Err e) h = tt

pub returns-clause-some : goal.returns-clause-some
returns-clause-some c = some_is c.args.words.now c.read_all.result c.read_all.ensures

pub returns-clause-none : goal.returns-clause-none
returns-clause-none c = none_is c.args.words.now c.read_all.result c.read_all.ensures
