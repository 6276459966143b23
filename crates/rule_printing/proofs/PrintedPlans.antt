-- The lexemes of a plan that code takes apart.
use Rattle.std.specs.Prelude.{◌≡◌, refl, ℕ, List, [], ◌∷◌, ◌++◌, map, codes}
use Rattle.std.proofs.Common.{ap, ◌∙◌}
use Rattle.std.proofs.lemmas.List.Folds.{flat_map-map}
use denote.Hole.Carrier.{hidden}
use Rattle.star_model.specs.declared.rules.Flavour.{Flavour}
use Rattle.star_model.specs.declared.rules.ValueExpr.{ValueExpr}
use Rattle.star_model.specs.declared.rules.PlanExpr.{PlanExpr}
use Rattle.star_model.specs.declared.rules.PlanExpr.TheBlock.{hidden-the_row-PlanExpr-0}
use Rattle.star_model.specs.declared.rules.PlanExpr.TheVariants as made
use Rattle.spelling.specs.Lexemes.{Lexeme, Word, comma, joined_by, bracketed, call}
use Rattle.star_model.specs.FlavourWords.{flavour_word}
use Rattle.rule_grammar.specs.Values.{value_lexemes}
use Rattle.rule_grammar.specs.Rules.{plan_lexemes}
use Rattle.spelling.proofs.Laws.{puts-none, puts-more, puts-append, joined-first}
use Rattle.rule_printing.specs.Printing.{further_lexemes}

-- what stands before arguments, and then these
behind : (first : List Lexeme) (arguments : List ValueExpr) → joined_by comma (first ∷ map value_lexemes arguments) ≡ first ++ further_lexemes arguments
unfolding further_lexemes
behind first arguments = joined-first comma first (map value_lexemes arguments) ∙ ap (λ l. first ++ l) (flat_map-map (λ part. comma ∷ part) value_lexemes arguments)

pub lexemes-Reference : (star : List ℕ) (arguments : List ValueExpr) → plan_lexemes (made.Reference star arguments) ≡ call star (map value_lexemes arguments)
unfolding plan_lexemes
lexemes-Reference star arguments = refl

pub lexemes-Glue : (stream preds : ValueExpr) → plan_lexemes (made.Glue stream preds) ≡ call (codes "Glue") (value_lexemes stream ∷ value_lexemes preds ∷ [])
unfolding plan_lexemes
lexemes-Glue stream preds = refl

pub lexemes-Leaf : (f : Flavour) (arguments : List ValueExpr) → plan_lexemes (made.Leaf f arguments) ≡ call (flavour_word f) (map value_lexemes arguments)
unfolding plan_lexemes
lexemes-Leaf f arguments = refl

pub lexemes-Unary : (f : Flavour) (arguments : List ValueExpr) (input : PlanExpr)
    → plan_lexemes (made.Unary f arguments input) ≡ Word (flavour_word f) ∷ bracketed (plan_lexemes input ++ further_lexemes arguments)
unfolding plan_lexemes hidden-the_row-PlanExpr-0 hidden
lexemes-Unary f arguments input = ap (λ l. Word (flavour_word f) ∷ bracketed l) (behind (plan_lexemes input) arguments)

pub lexemes-Binary : (f : Flavour) (arguments : List ValueExpr) (left right : PlanExpr)
    → plan_lexemes (made.Binary f arguments left right) ≡ Word (flavour_word f) ∷ bracketed (plan_lexemes left ++ comma ∷ (plan_lexemes right ++ further_lexemes arguments))
unfolding plan_lexemes hidden-the_row-PlanExpr-0 hidden
lexemes-Binary f arguments left right =
    ap (λ l. Word (flavour_word f) ∷ bracketed (plan_lexemes left ++ comma ∷ l)) (behind (plan_lexemes right) arguments)

pub ruleset plans = (lexemes-Reference, lexemes-Glue, lexemes-Leaf, lexemes-Unary, lexemes-Binary, puts-none, puts-more, puts-append)
