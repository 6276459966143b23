-- The lexemes of a condition that code takes apart.
use Rattle.std.specs.Prelude.{◌≡◌, refl, [], ◌∷◌, codes}
use Rattle.std.proofs.Common.{length-append}
use denote.Hole.Carrier.{hidden}
use Rattle.star_model.specs.declared.rules.ValueExpr.{ValueExpr}
use Rattle.star_model.specs.declared.rules.Condition.{Condition}
use Rattle.star_model.specs.declared.rules.Condition.TheBlock.{hidden-the_row-Condition-0}
use Rattle.star_model.specs.declared.rules.Condition.TheVariants as made
use Rattle.rule_grammar.specs.Values.{value_lexemes, condition_lexemes}
use Rattle.spelling.specs.Lexemes.{call}
use Rattle.spelling.proofs.Laws.{puts-none, puts-more, puts-append}

pub lexemes-Empty : (v : ValueExpr) → condition_lexemes (made.Empty v) ≡ call (codes "empty") (value_lexemes v ∷ [])
unfolding condition_lexemes
lexemes-Empty v = refl

pub lexemes-Single : (v : ValueExpr) → condition_lexemes (made.Single v) ≡ call (codes "single") (value_lexemes v ∷ [])
unfolding condition_lexemes
lexemes-Single v = refl

pub lexemes-Same : (v w : ValueExpr) → condition_lexemes (made.Same v w) ≡ call (codes "same") (value_lexemes v ∷ value_lexemes w ∷ [])
unfolding condition_lexemes
lexemes-Same v w = refl

pub lexemes-Within : (v w : ValueExpr) → condition_lexemes (made.Within v w) ≡ call (codes "within") (value_lexemes v ∷ value_lexemes w ∷ [])
unfolding condition_lexemes
lexemes-Within v w = refl

pub lexemes-Begins : (v w : ValueExpr) → condition_lexemes (made.Begins v w) ≡ call (codes "begins") (value_lexemes v ∷ value_lexemes w ∷ [])
unfolding condition_lexemes
lexemes-Begins v w = refl

pub lexemes-Not : (c : Condition) → condition_lexemes (made.Not c) ≡ call (codes "not") (condition_lexemes c ∷ [])
unfolding condition_lexemes hidden-the_row-Condition-0 hidden
lexemes-Not c = refl

pub lexemes-And : (c d : Condition) → condition_lexemes (made.And c d) ≡ call (codes "and") (condition_lexemes c ∷ condition_lexemes d ∷ [])
unfolding condition_lexemes hidden-the_row-Condition-0 hidden
lexemes-And c d = refl

pub lexemes-Or : (c d : Condition) → condition_lexemes (made.Or c d) ≡ call (codes "or") (condition_lexemes c ∷ condition_lexemes d ∷ [])
unfolding condition_lexemes hidden-the_row-Condition-0 hidden
lexemes-Or c d = refl

pub ruleset conditions = (lexemes-Empty, lexemes-Single, lexemes-Same, lexemes-Within, lexemes-Begins, lexemes-Not, lexemes-And, lexemes-Or, puts-none, puts-more, puts-append, length-append)
