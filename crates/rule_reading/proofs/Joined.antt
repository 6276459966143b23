-- Parts that are read one after the other, where the last decides.
use Rattle.std.proofs.Common.{◌≡◌, ℕ, List, Option, Some, Result, Ok, Err, refl}
use Rattle.star_model.specs.declared.rules.Condition.{Condition}
use Rattle.star_model.specs.declared.rules.PlanExpr.{PlanExpr}
use Rattle.star_model.specs.WellFormedRules.{Scope}
use Rattle.spelling.specs.Lexemes.{Lexeme}
use Rattle.rule_grammar.specs.StarReading.{when_at, body_at, conditional_body_at}
use Rattle.spelling.specs.declared.unread.Unread.{Unread}
use Rattle.spelling.specs.declared.unread.Unread.TheVariants.{Strange, Memory}
use Rattle.spelling.specs.Answers.{Answers}
use Rattle.spelling.specs.Joining.{paired}

pub conditional : (scope : Scope) (depth : ℕ) (l0 l1 l2 : List Lexeme) (c : Option Condition) (body : Result PlanExpr Unread) → when_at scope depth l0 ≡ Some (c, l1)
    → Answers (body_at scope depth l1) body l2 → Answers (conditional_body_at scope depth l0) (paired c body) l2
unfolding conditional_body_at
conditional scope depth l0 l1 l2 c (Ok body) first next = rw (first, next) refl
conditional scope depth l0 l1 l2 c (Err Strange) first next = rw (first, next) refl
conditional scope depth l0 l1 l2 c (Err Memory) first next = tt
