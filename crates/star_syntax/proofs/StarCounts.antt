-- How many STARs statements define, with one more.
use Rattle.std.proofs.Common.{◌≡◌, ◌+◌, ℕ, List, [], ◌∷◌, ◌++◌, cond, length, refl, arith}
use Rattle.std.proofs.lemmas.List.Sums.{sum_by-append}
use Rattle.rule_grammar.specs.Rules.{Definition, OfVersion, OfSelect, OfFormula, OfStar}
use Rattle.rule_grammar.specs.RuleLimits.{RuleStatement, is_of_star, is_star, count_of_stars}
use Rattle.star_syntax.specs.Statements.{with_star, stars_of}

abbrev one_if_star : RuleStatement → ℕ
one_if_star s = cond (is_star s) 1 0

pub count_more : (statements : List RuleStatement) (x : RuleStatement) → count_of_stars (statements ++ x ∷ []) ≡ count_of_stars statements + cond (is_star x) 1 0
count_more statements x = omega (arith, sum_by-append one_if_star statements (x ∷ []))

one_star : (d : Definition) (later : List RuleStatement) → length (stars_of later) ≡ count_of_stars later → length (with_star d (stars_of later)) ≡ cond (is_of_star d) 1 0 + count_of_stars later
one_star OfVersion later is = omega (arith, is)
one_star (OfSelect d) later is = omega (arith, is)
one_star (OfFormula d) later is = omega (arith, is)
one_star (OfStar s) later is = omega (arith, is)

-- as many as are in the rule file
pub count_of : (statements : List RuleStatement) → length (stars_of statements) ≡ count_of_stars statements
count_of [] = refl
count_of (s ∷ later) = omega (arith, one_star s.defines later (count_of later), sum_by-append one_if_star (s ∷ []) later)
