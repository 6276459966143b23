-- What is written of a derivation is what is written of its first statement, and then of its parts.
use Rattle.std.proofs.Common.{◌≡◌, ℕ, List, [], ◌∷◌, ◌++◌, map, Option, ap, ◌∙◌}
use Rattle.std.proofs.lemmas.List.{map-append}
use Rattle.star_model.specs.declared.plans.GlueOp.{GlueOp}
use Rattle.star_model.specs.declared.plans.Goal as model
use Rattle.star_model.specs.declared.rules.Flavour.{Flavour}
use Rattle.star_model.specs.declared.derivations.Deriv.{Deriv}
use Rattle.star_model.specs.declared.derivations.Deriv.TheVariants as made
use Rattle.derivation_reading.specs.Derivations.{Step, Glue, Goal, Reference, Operator, steps, statement_of, statements_of, steps-Glue, steps-Goal, steps-Reference, steps-Leaf, steps-Unary, steps-Binary}
use Rattle.spelling.specs.Writing.{Written, puts, ended, lines}
use Rattle.spelling.proofs.Laws.{lines-more, lines-none, lines-append, lines-layout}

abbrev first : Written → Step → Written
first w step = ended (puts w (statement_of step))

abbrev write : Written → List Step → Written
write w list = lines w (map statement_of list)

more : (w : Written) (step : Step) (later : List Step) → write w (step ∷ later) ≡ write (first w step) later
more w step later = lines-more w (statement_of step) (map statement_of later)

pub lines-Glue : (w : Written) (chain : List GlueOp) (goal : Deriv) → lines w (statements_of (made.Glue chain goal)) ≡ lines (ended (puts w (statement_of (Glue chain)))) (statements_of goal)
lines-Glue w chain goal = ap (write w) (steps-Glue chain goal) ∙ more w (Glue chain) (steps goal)

pub lines-Goal : (w : Written) (goal : model.Goal) (split : Option (ℕ × ℕ)) (body : Deriv) → lines w (statements_of (made.Goal goal split body)) ≡ lines (ended (puts w (statement_of (Goal goal split)))) (statements_of body)
lines-Goal w goal split body = ap (write w) (steps-Goal goal split body) ∙ more w (Goal goal split) (steps body)

pub lines-Reference : (w : Written) (star : List ℕ) (alternative : ℕ) (values : List ℕ) (body : Deriv)
    → lines w (statements_of (made.Reference star alternative values body)) ≡ lines (ended (puts w (statement_of (Reference star alternative values)))) (statements_of body)
lines-Reference w star alternative values body = ap (write w) (steps-Reference star alternative values body) ∙ more w (Reference star alternative values) (steps body)

pub lines-Leaf : (w : Written) (f : Flavour) → lines w (statements_of (made.Leaf f)) ≡ ended (puts w (statement_of (Operator f)))
lines-Leaf w f = ap (write w) (steps-Leaf f) ∙ more w (Operator f) [] ∙ lines-none (first w (Operator f))

pub lines-Unary : (w : Written) (f : Flavour) (input : Deriv) → lines w (statements_of (made.Unary f input)) ≡ lines (ended (puts w (statement_of (Operator f)))) (statements_of input)
lines-Unary w f input = ap (write w) (steps-Unary f input) ∙ more w (Operator f) (steps input)

pub lines-Binary : (w : Written) (f : Flavour) (left right : Deriv)
    → lines w (statements_of (made.Binary f left right)) ≡ lines (lines (ended (puts w (statement_of (Operator f)))) (statements_of left)) (statements_of right)
lines-Binary w f left right =
    ap (write w) (steps-Binary f left right) ∙ more w (Operator f) (steps left ++ steps right)
    ∙ ap (lines (first w (Operator f))) (map-append statement_of (steps left) (steps right))
    ∙ lines-append (first w (Operator f)) (statements_of left) (statements_of right)

pub ruleset nodes = (lines-Glue, lines-Goal, lines-Reference, lines-Leaf, lines-Unary, lines-Binary)

pub ruleset whole_text = (lines-layout)
