-- Where the brackets behind the parts of a plan close.
use Rattle.std.proofs.Common.{◌≡◌, ℕ, suc, List, [], ◌∷◌, ◌++◌, map, length, ◌≤◌, refl, sym, ap, ◌∙◌, arith, append_assoc, append-nil}
use Rattle.star_model.specs.declared.rules.ValueExpr.{ValueExpr}
use Rattle.star_model.specs.declared.rules.Flavour.{Flavour}
use Rattle.star_model.specs.declared.rules.Flavour.TheVariants as flavour
use Rattle.spelling.specs.Lexemes.{Lexeme, comma, right_bracket, joined_by}
use Rattle.star_model.specs.Every.{HasItem}
use Rattle.star_model.specs.Kinds.{inputs_of}
use Rattle.rule_grammar.specs.Values.{value_lexemes}
use Rattle.rule_grammar.proofs.Bracketed.{one_ends, two_ends}

abbrev pub values : List ValueExpr → List Lexeme
values arguments = joined_by comma (map value_lexemes arguments)

-- what stands behind an operator's plans
abbrev pub further : List ValueExpr → List Lexeme
further [] = []
further (x ∷ xs) = comma ∷ values (x ∷ xs)

pub behind_one : (a : List Lexeme) (arguments : List ValueExpr) → joined_by comma (a ∷ map value_lexemes arguments) ≡ a ++ further arguments
behind_one a [] = sym (append-nil a)
behind_one a (x ∷ xs) = refl

pub further_some : (arguments : List ValueExpr) → HasItem arguments → further arguments ≡ comma ∷ values arguments
further_some [] h = absurd h
further_some (x ∷ xs) h = refl

pub values_within : (arguments : List ValueExpr) → length (values arguments) ≤ length (further arguments)
values_within [] = omega arith
values_within (x ∷ xs) = omega arith

-- a plan, or two, and then arguments
pub unary_ends : (a : List Lexeme) (xs : List ValueExpr) (rest : List Lexeme) → (joined_by comma (a ∷ map value_lexemes xs) ++ right_bracket ∷ []) ++ rest ≡ a ++ (further xs ++ right_bracket ∷ rest)
unary_ends a xs rest =
    ap (λ l. (l ++ right_bracket ∷ []) ++ rest) (behind_one a xs) ∙ one_ends (a ++ further xs) rest ∙ append_assoc a (further xs) (right_bracket ∷ rest)

pub binary_ends : (a b : List Lexeme) (xs : List ValueExpr) (rest : List Lexeme)
    → (joined_by comma (a ∷ b ∷ map value_lexemes xs) ++ right_bracket ∷ []) ++ rest ≡ a ++ comma ∷ (b ++ (further xs ++ right_bracket ∷ rest))
binary_ends a b xs rest =
    ap (λ l. ((a ++ comma ∷ l) ++ right_bracket ∷ []) ++ rest) (behind_one b xs) ∙ two_ends a (b ++ further xs) rest
    ∙ ap (λ l. a ++ comma ∷ l) (append_assoc b (further xs) (right_bracket ∷ rest))

-- no operator takes more than two plans
pub at_most_two : (f : Flavour) (n : ℕ) → inputs_of f ≡ suc (suc n) → inputs_of f ≡ 2
at_most_two flavour.AccessHeap n takes = absurd (omega (arith, takes))
at_most_two flavour.AccessIndex n takes = absurd (omega (arith, takes))
at_most_two flavour.Get n takes = absurd (omega (arith, takes))
at_most_two flavour.Filter n takes = absurd (omega (arith, takes))
at_most_two flavour.Sort n takes = absurd (omega (arith, takes))
at_most_two flavour.Store n takes = absurd (omega (arith, takes))
at_most_two flavour.Ship n takes = absurd (omega (arith, takes))
at_most_two flavour.Probe n takes = absurd (omega (arith, takes))
at_most_two flavour.JoinNl n takes = refl
at_most_two flavour.JoinMerge n takes = refl
at_most_two flavour.JoinHash n takes = refl
at_most_two flavour.Intersect n takes = refl
