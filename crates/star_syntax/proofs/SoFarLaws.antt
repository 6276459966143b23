-- One statement more, behind those so far.
use Rattle.std.proofs.Common.{◌≡◌, ◌≤◌, ◌+◌, ◌-◌, ℕ, zero, suc, List, [], ◌∷◌, ◌++◌, length, take, Option, Some, None, refl, sym, ap, ◌∙◌, subst, arith}
use Rattle.std.specs.Prelude.{slice_get, option_map}
use Rattle.std.proofs.lemmas.List.{take-append-le}
use Rattle.std.proofs.Math.Seq.{take-append_seam}
use Rattle.std.proofs.lemmas.Option.{slice_get_within}
use Rattle.star_model.specs.declared.faults.LimitKind.{LimitKind}
use Rattle.star_model.specs.declared.rules.RuleFile.{RuleFile}
use Rattle.spelling.specs.Lexemes.{MaybeEnded}
use Rattle.spelling.specs.Firsts.{NoneHas}
use Rattle.spelling.specs.FirstsCases.{none_more, first_is_new, first_stays}
use Rattle.rule_grammar.specs.RuleLimits.{RuleStatement, SpellsNumbered, AreSpelled, BeyondFirst, IsBeyond, count_of_stars}
use Rattle.star_syntax.specs.declared.statements.RulesSoFar.{RulesSoFar}
use Rattle.star_syntax.specs.Faults.{IsLimitAt}
use Rattle.star_syntax.specs.LimitTests.{limit_beyond}
use Rattle.star_syntax.specs.Statements.{found_or, with_definition, IsFirstLimit, AreSoFar, GoesOn}
use Rattle.star_syntax.proofs.StarCounts.{count_of}
use Rattle.star_syntax.proofs.RulesMore.{rules_more}
use Rattle.star_syntax.proofs.LimitLaws.{Finds, limit_found}

-- ---- what is spelled

next : (n : ℕ) (x : RuleStatement) (xs : List RuleStatement) (number : ℕ) → number ≡ n + length (x ∷ xs) → number ≡ n + 1 + length xs
next n x xs number is = omega (arith, is)

spelled_more : (version n number : ℕ) (statements : List RuleStatement) (x : RuleStatement) → AreSpelled version n statements → number ≡ n + length statements
    → SpellsNumbered version number x.lexemes x.defines → AreSpelled version n (statements ++ x ∷ [])
spelled_more version n number [] x are is spells =
    let same : number ≡ n = omega (arith, is) in
    (subst (λ (k : ℕ). SpellsNumbered version k x.lexemes x.defines) same spells, tt)
spelled_more version n number (y ∷ statements) x are is spells = (are.0, spelled_more version (n + 1) number statements x are.1 (next n y statements number is) spells)

-- ---- the first limit

slice_get_seam : {A : Type 0} (xs : List A) (x : A) → slice_get (xs ++ x ∷ []) (length xs) ≡ Some x
slice_get_seam [] x = refl
slice_get_seam (y ∷ xs) x = slice_get_seam xs x

slice_get_stays : {A : Type 0} (xs ys : List A) (i : ℕ) (x : A) → slice_get xs i ≡ Some x → slice_get (xs ++ ys) i ≡ Some x
slice_get_stays [] ys i x is = absurd cc
slice_get_stays (y ∷ xs) ys zero x is = is
slice_get_stays (y ∷ xs) ys (suc i) x is = slice_get_stays xs ys i x is

back : (i : ℕ) → i + 1 - 1 ≡ i
back i = omega arith

limit_stays : (statements later : List RuleStatement) (k : ℕ) (what : LimitKind) → IsLimitAt statements k what → IsLimitAt (statements ++ later) k what
limit_stays statements later k what at =
    let less : k - 1 ≤ length statements = omega (arith, slice_get_within statements (k - 1) at.statement at.is) in
    record {
      first = first_stays IsBeyond statements later k at.first;
      statement = at.statement;
      is = slice_get_stays statements later (k - 1) at.statement at.is;
      limit = rw (take-append-le (k - 1) statements later less) at.limit;
    }

limit_here : (statements : List RuleStatement) (x : RuleStatement) (what : LimitKind) → NoneHas IsBeyond statements → BeyondFirst what statements x
    → IsLimitAt (statements ++ x ∷ []) (length statements + 1) what
limit_here statements x what none limit =
    let front : take (length statements + 1 - 1) (statements ++ x ∷ []) ≡ statements = rw (back (length statements)) (take-append_seam statements (x ∷ [])) in
    record {
      first = first_is_new IsBeyond statements x none (what, limit.beyond);
      statement = x;
      is = rw (back (length statements)) (slice_get_seam statements x);
      limit = rw front limit;
    }

limit_found_here : (statements : List RuleStatement) (x : RuleStatement) (number : ℕ) (found : Option LimitKind) → number ≡ length statements + 1 → NoneHas IsBeyond statements
    → Finds statements x found → IsFirstLimit (statements ++ x ∷ []) (option_map (λ what. (number, what)) found)
limit_found_here statements x number None is none finds = none_more IsBeyond statements x none finds
limit_found_here statements x number (Some what) is none finds = rw is (limit_here statements x what none finds)

limit_more : (statements : List RuleStatement) (x : RuleStatement) (number : ℕ) (before : Option (ℕ × LimitKind)) (found : Option LimitKind) → number ≡ length statements + 1
    → IsFirstLimit statements before → Finds statements x found → IsFirstLimit (statements ++ x ∷ []) (found_or before (option_map (λ what. (number, what)) found))
limit_more statements x number (Some at) found is limit finds = limit_stays statements (x ∷ []) at.0 at.1 limit
limit_more statements x number None found is none finds = limit_found_here statements x number found is none finds

-- ---- all of it

pub more_so_far : (version : ℕ) (statements : List RuleStatement) (n : ℕ) (statement : MaybeEnded) (before after : RulesSoFar) → AreSoFar version statements before
    → n ≡ length statements + 1 → (on : GoesOn n statement before after)
    → AreSoFar version (statements ++ record { lexemes = statement.0; defines = on.defines } ∷ []) after
more_so_far version statements n statement before after so is on =
    let x : RuleStatement = record { lexemes = statement.0; defines = on.defines } in
    let same : before.rules.version ≡ version = ap (λ (r : RuleFile). r.version) so.rules in
    let spelled : SpellsNumbered version n x.lexemes x.defines = subst (λ v. SpellsNumbered v n x.lexemes x.defines) same on.spelled in
    let stars : length before.rules.stars ≡ count_of_stars statements = ap (λ (r : RuleFile). length r.stars) so.rules ∙ count_of statements in
    let finds : Finds statements x (limit_beyond (length before.rules.stars) x) = rw stars (limit_found statements x) in
    record {
      spelled = spelled_more version 1 n statements x so.spelled (omega (arith, is)) spelled;
      rules = on.rules ∙ ap (λ (r : RuleFile). with_definition r on.defines) so.rules ∙ sym (rules_more version statements x);
      limit = rw on.beyond (limit_more statements x n before.beyond (limit_beyond (length before.rules.stars) x) is so.limit finds);
    }
