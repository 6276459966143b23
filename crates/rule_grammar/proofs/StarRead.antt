-- What spells a STAR is read as it.
use Rattle.std.proofs.Common.{◌≡◌, ℕ, zero, suc, ◌+◌, ◌<◌, ◌≤◌, List, [], ◌∷◌, ◌++◌, map, length, Option, Some, None, codes, flat_map, refl, sym, ap, ◌∙◌, subst, arith, append_assoc, append-nil, length-append}
use Rattle.star_model.specs.declared.rules.Condition.{Condition}
use Rattle.star_model.specs.declared.rules.ForAll.{ForAll}
use Rattle.star_model.specs.declared.rules.Alternative.{Alternative}
use Rattle.star_model.specs.declared.rules.Param.{Param}
use Rattle.star_model.specs.declared.rules.StarDef.{StarDef}
use Rattle.spelling.specs.Lexemes.{Lexeme, Word, comma, bar, equals, right_bracket, joined_by, bracketed}
use Rattle.star_model.specs.Every.{Every, HasItem}
use Rattle.star_model.specs.FlavourWords.{kind_word}
use Rattle.star_model.specs.WellFormedRules.{Scope, IsName, IsRange, AreRanges, IsConditionIfAny, IsAlternative, scope_of_star, IsStar}
use Rattle.rule_grammar.specs.Values.{range_lexemes}
use Rattle.rule_grammar.specs.Rules.{plan_lexemes, for_lexemes, when_lexemes, alternative_lexemes, parameter_lexemes, star_lexemes, SpellsStar}
use Rattle.spelling.specs.Reading.{the_word, the_symbol, only}
use Rattle.spelling.specs.SeriesReadingCases.{IsRead, series_read, each_short}
use Rattle.rule_grammar.specs.StarReading.{with_ranges, for_all_at, ranges_behind, ranges_at, when_at, body_at, conditional_body_at, alternative_at, alternatives_at, parameter_at, parameters_at, head_at, star_at, star_of}
use Rattle.spelling.proofs.Laws.{the_symbol_reads}
use Rattle.rule_grammar.proofs.RuleWordLaws.{name_read, kind_read}
use Rattle.rule_grammar.proofs.RangeLaws.{range_is_read}
use Rattle.rule_grammar.proofs.ConditionLaws.{Anything, condition_is_read}
use Rattle.rule_grammar.proofs.Bracketed.{one_ends}
use Rattle.rule_grammar.proofs.PlanRead.{plan_read}
use Rattle.rule_grammar.proofs.StarSpelled.{more_ranges, no_ranges, range_ends, behind_ranges}

-- ---- ranges

for_all_read : (scope : Scope) (depth : ℕ) (f : ForAll) (rest : List Lexeme) → IsName scope.version f.name → IsRange scope f.range → length (range_lexemes f.range) < depth
    → for_all_at scope depth (Word f.name ∷ Word (codes "in") ∷ (range_lexemes f.range ++ rest)) ≡ Some (f, rest)
unfolding for_all_at
for_all_read scope depth f rest name stands few =
    rw (name_read scope.version f.name (Word (codes "in") ∷ (range_lexemes f.range ++ rest)) name) (rw (range_is_read scope depth f.range rest stands few) refl)

ranges_read : (parameters : Scope) (depth n : ℕ) (done fs : List ForAll) (rest : List Lexeme) → AreRanges (with_ranges parameters done) fs → length (flat_map for_lexemes fs) < depth
    → length (flat_map for_lexemes fs ++ rest) ≤ n → the_word (codes "for") rest ≡ None → ranges_behind parameters depth n done (flat_map for_lexemes fs ++ rest) ≡ Some (done ++ fs, rest)
unfolding ranges_behind
ranges_read parameters depth zero done [] rest stand few enough none = ap (λ l. Some (l, rest)) (sym (append-nil done))
ranges_read parameters depth (suc n) done [] rest stand few enough none = rw none (ap (λ l. Some (l, rest)) (sym (append-nil done)))
ranges_read parameters depth zero done (f ∷ fs) rest stand few enough none = absurd (omega (arith, enough))
ranges_read parameters depth (suc n) done (f ∷ fs) rest stand few enough none =
    let later : List Lexeme = flat_map for_lexemes fs ++ rest in
    let ends = range_ends f fs rest in
    let count : length (for_lexemes f ++ later) ≤ suc n = subst (λ (l : List Lexeme). length l ≤ suc n) ends enough in
    let parts = length-append (for_lexemes f) later in
    let whole = length-append (for_lexemes f) (flat_map for_lexemes fs) in
    let first = for_all_read (with_ranges parameters done) depth f later stand.0 stand.1 (omega (arith, few, whole)) in
    let more = ranges_read parameters depth n (done ++ f ∷ []) fs rest (subst (λ s. AreRanges s fs) (sym (more_ranges parameters done f)) stand.2) (omega (arith, few, whole)) (omega (arith, count, parts)) none in
    ap (λ l. ranges_behind parameters depth (suc n) done l) ends ∙ rw first (more ∙ ap (λ l. Some (l, rest)) (append_assoc done (f ∷ []) fs))

-- ---- alternatives

no_for : (c : Option Condition) (rest : List Lexeme) → the_word (codes "for") (when_lexemes c ++ Word (codes "give") ∷ rest) ≡ None
no_for None rest = refl
no_for (Some c) rest = refl

when_read : (scope : Scope) (depth : ℕ) (c : Option Condition) (rest : List Lexeme) → IsConditionIfAny scope c → length (when_lexemes c) < depth
    → when_at scope depth (when_lexemes c ++ Word (codes "give") ∷ rest) ≡ Some (c, Word (codes "give") ∷ rest)
unfolding when_at
when_read scope depth None rest is few = refl
when_read scope depth (Some c) rest is few = rw (condition_is_read scope depth c (Word (codes "give") ∷ rest) is (omega (arith, few))) refl

alternative_read : (parameters : Scope) (depth : ℕ) → IsRead (alternative_at parameters depth) alternative_lexemes (λ a. IsAlternative parameters a × (length (alternative_lexemes a) < depth)) Anything
unfolding alternative_at ranges_at conditional_body_at body_at
alternative_read parameters depth a rest good _ =
    let scope = with_ranges parameters a.ranges in
    let is = good.0 in
    let behind : List Lexeme = when_lexemes a.condition ++ Word (codes "give") ∷ (plan_lexemes a.body ++ rest) in
    let whole = length-append (flat_map for_lexemes a.ranges) (when_lexemes a.condition ++ Word (codes "give") ∷ plan_lexemes a.body) in
    let part = length-append (when_lexemes a.condition) (Word (codes "give") ∷ plan_lexemes a.body) in
    let stand : AreRanges (with_ranges parameters []) a.ranges = subst (λ s. AreRanges s a.ranges) (sym (no_ranges parameters)) is.ranges in
    let ranges = ranges_read parameters depth (length (flat_map for_lexemes a.ranges ++ behind)) [] a.ranges behind stand (omega (arith, good.1, whole)) (omega arith) (no_for a.condition (plan_lexemes a.body ++ rest)) in
    let condition_ = when_read scope depth a.condition (plan_lexemes a.body ++ rest) is.condition (omega (arith, good.1, whole, part)) in
    let body = plan_read scope a.body is.body depth rest (omega (arith, good.1, whole, part)) in
    rw (behind_ranges a rest) (rw ranges (rw condition_ (rw body refl)))

-- ---- statements

parameter_read : (version : ℕ) → IsRead (parameter_at version) parameter_lexemes (λ p. IsName version p.name) Anything
unfolding parameter_at
parameter_read version p rest name _ = rw (name_read version p.name (Word (kind_word p.kind) ∷ rest) name) (rw (kind_read p.kind rest) refl)

parameters_read : (version : ℕ) (ps : List Param) (rest : List Lexeme) → HasItem ps → Every (λ p. IsName version p.name) ps → parameters_at version (joined_by comma (map parameter_lexemes ps) ++ right_bracket ∷ rest) ≡ Some (ps, right_bracket ∷ rest)
unfolding parameters_at
parameters_read version ps rest some stand =
    series_read (parameter_at version) parameter_lexemes (λ p. IsName version p.name) (the_symbol (codes ",")) comma (the_symbol_reads (codes ",")) Anything (parameter_read version) (λ rest. tt) ps (right_bracket ∷ rest) some stand tt refl

alternatives_read : (parameters : Scope) (depth : ℕ) (as_ : List Alternative) → HasItem as_ → Every (IsAlternative parameters) as_ → length (joined_by bar (map alternative_lexemes as_)) < depth
    → alternatives_at parameters depth (joined_by bar (map alternative_lexemes as_)) ≡ Some (as_, [])
unfolding alternatives_at
alternatives_read parameters depth as_ some stand few =
    let read = series_read (alternative_at parameters depth) alternative_lexemes (λ a. IsAlternative parameters a × (length (alternative_lexemes a) < depth)) (the_symbol (codes "|")) bar (the_symbol_reads (codes "|")) Anything
    (alternative_read parameters depth) (λ rest. tt) as_ [] some (each_short alternative_lexemes (IsAlternative parameters) bar depth as_ stand few) tt refl in
    rw (append-nil (joined_by bar (map alternative_lexemes as_))) at read

each_named : (version : ℕ) (ps : List Param) → Every (IsName version) (map (λ p. p.name) ps) → Every (λ p. IsName version p.name) ps
each_named version [] all = tt
each_named version (p ∷ ps) all = (all.0, each_named version ps all.1)

star_read : (version depth : ℕ) (s : StarDef) → IsStar version s → length (star_lexemes s) < depth → star_at version s.statement depth (star_lexemes s) ≡ Some (s, [])
unfolding star_at head_at
star_read version depth s is few =
    let alternatives : List Lexeme = joined_by bar (map alternative_lexemes s.alternatives) in
    let parameters : List Lexeme = joined_by comma (map parameter_lexemes s.params) in
    let inner = length-append parameters (right_bracket ∷ []) in
    let outer = length-append (parameters ++ right_bracket ∷ []) (equals ∷ alternatives) in
    rw (name_read version s.name (bracketed parameters ++ equals ∷ alternatives) is.name) (
    rw (one_ends parameters (equals ∷ alternatives)) (
    rw (parameters_read version s.params (equals ∷ alternatives) is.some_parameters (each_named version s.params is.parameters)) (
    rw (alternatives_read (scope_of_star version s) depth s.alternatives is.some_alternatives is.alternatives (omega (arith, few, inner, outer))) refl)))

pub read_star : (version number : ℕ) (lexemes : List Lexeme) (s : StarDef) → SpellsStar version number lexemes s → star_of version number lexemes ≡ Some s
unfolding star_of
read_star version number lexemes s spells =
    let read = star_read version (length (star_lexemes s) + 1) s spells.stands (omega arith) in
    rw (sym spells.number, spells.are) (ap (λ found. only found) read)
