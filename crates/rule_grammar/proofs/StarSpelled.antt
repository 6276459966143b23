-- What is read as a STAR spells it.
use Rattle.std.proofs.Common.{◌≡◌, ℕ, zero, suc, ◌+◌, List, [], ◌∷◌, ◌++◌, map, length, Option, Some, None, codes, flat_map, refl, sym, ap, ◌∙◌, subst, append_assoc, append-nil}
use Rattle.std.proofs.lemmas.List.{map-append}
use Rattle.std.proofs.lemmas.Option.{some_pair_parts}
use Rattle.star_model.specs.declared.rules.Condition.{Condition}
use Rattle.star_model.specs.declared.rules.PlanExpr.{PlanExpr}
use Rattle.star_model.specs.declared.rules.ForAll.{ForAll}
use Rattle.star_model.specs.declared.rules.Alternative.{Alternative}
use Rattle.star_model.specs.declared.rules.Param.{Param}
use Rattle.star_model.specs.declared.rules.StarDef.{StarDef}
use Rattle.spelling.specs.Lexemes.{Lexeme, Word, comma, bar, equals, left_bracket, right_bracket, joined_by}
use Rattle.star_model.specs.Every.{Every, HasItem}
use Rattle.star_model.specs.FlavourWords.{kind_word}
use Rattle.star_model.specs.WellFormedRules.{Scope, with_name, IsName, IsRange, IsPlan, AreRanges, IsConditionIfAny, IsAlternative}
use Rattle.rule_grammar.specs.Values.{range_lexemes, condition_lexemes}
use Rattle.rule_grammar.specs.Rules.{plan_lexemes, for_lexemes, when_lexemes, alternative_lexemes, parameter_lexemes, SpellsStar}
use Rattle.spelling.specs.Reading.{pure, the_word, the_symbol}
use Rattle.spelling.specs.ReadingCases.{then_reads, pass, choose, only_reads}
use Rattle.spelling.specs.SeriesReadingCases.{Spells, series_spelled}
use Rattle.rule_grammar.specs.RuleWords.{free_word, kind_at}
use Rattle.rule_grammar.specs.ValueReading.{range_at}
use Rattle.rule_grammar.specs.ConditionReading.{condition_at}
use Rattle.rule_grammar.specs.PlanReading.{plan_at}
use Rattle.rule_grammar.specs.StarReading.{with_ranges, for_all_at, ranges_behind, ranges_at, when_at, body_at, conditional_body_at, alternative_at, alternatives_at, parameter_at, parameters_at, names_of, head_at, star_at, star_of}
use Rattle.spelling.proofs.Laws.{the_word_reads, the_symbol_reads}
use Rattle.rule_grammar.proofs.RuleWordLaws.{name_spelled, kind_spelled}
use Rattle.rule_grammar.proofs.RangeLaws.{range_is_spelled}
use Rattle.rule_grammar.proofs.ConditionLaws.{condition_is_spelled}
use Rattle.rule_grammar.proofs.Bracketed.{one_ends}
use Rattle.rule_grammar.proofs.PlanSpelled.{plan_spelled}

-- ---- the names that may be used

-- other names in the same version
abbrev in_version : Scope → List (List ℕ) → Scope
in_version scope names = record { version = scope.version; names = names }

pub more_ranges : (parameters : Scope) (done : List ForAll) (f : ForAll) → with_ranges parameters (done ++ f ∷ []) ≡ with_name (with_ranges parameters done) f.name
more_ranges parameters done f =
    ap (λ l. in_version parameters l) (ap (λ l. parameters.names ++ l) (map-append (λ (g : ForAll). g.name) done (f ∷ [])) ∙ sym (append_assoc parameters.names (map (λ (g : ForAll). g.name) done) (f.name ∷ [])))

pub no_ranges : (parameters : Scope) → with_ranges parameters [] ≡ parameters
no_ranges parameters = ap (λ l. in_version parameters l) (append-nil parameters.names)

-- what stands behind a range
pub range_ends : (f : ForAll) (later : List ForAll) (rest : List Lexeme) → flat_map for_lexemes (f ∷ later) ++ rest ≡ for_lexemes f ++ (flat_map for_lexemes later ++ rest)
range_ends f later rest = append_assoc (for_lexemes f) (flat_map for_lexemes later) rest

-- and behind the ranges of an alternative
pub behind_ranges : (a : Alternative) (rest : List Lexeme) → alternative_lexemes a ++ rest ≡ flat_map for_lexemes a.ranges ++ (when_lexemes a.condition ++ Word (codes "give") ∷ (plan_lexemes a.body ++ rest))
behind_ranges a rest =
    append_assoc (flat_map for_lexemes a.ranges) (when_lexemes a.condition ++ Word (codes "give") ∷ plan_lexemes a.body) rest
    ∙ ap (λ l. flat_map for_lexemes a.ranges ++ l) (append_assoc (when_lexemes a.condition) (Word (codes "give") ∷ plan_lexemes a.body) rest)

-- ---- ranges

pub for_all_spelled : (scope : Scope) (depth : ℕ) (l0 : List Lexeme) (f : ForAll) (rest : List Lexeme) → for_all_at scope depth l0 ≡ Some (f, rest)
    → (l0 ≡ Word f.name ∷ Word (codes "in") ∷ (range_lexemes f.range ++ rest)) × IsName scope.version f.name × IsRange scope f.range
unfolding for_all_at
for_all_spelled scope depth l0 f rest read =
    then_reads (free_word scope.version) _ l0 f rest read (λ name l1 e1 read1.
    pass (the_word (codes "in")) _ l1 f rest read1 (λ l2 e2 read2.
    then_reads (range_at scope depth) _ l2 f rest read2 (λ r l3 e3 read3.
    let end = some_pair_parts _ f l3 rest read3 in
    let first = name_spelled scope.version l0 name l1 e1 in
    let second = range_is_spelled scope depth l2 r l3 e3 in
    rw (sym end.0) (
      first.0 ∙ ap (λ l. Word name ∷ l) ((the_word_reads (codes "in") l1 l2).0 e2 ∙ ap (λ l. Word (codes "in") ∷ l) (second.0 ∙ ap (λ l. range_lexemes r ++ l) end.1)),
      first.1,
      second.1,
    ))))

record Ranges (parameters : Scope) (done : List ForAll) (lexemes : List Lexeme) (all : List ForAll) (rest : List Lexeme) : Type 0 where
  ranges : List ForAll
  are : all ≡ done ++ ranges
  spelled : lexemes ≡ flat_map for_lexemes ranges ++ rest
  stand : AreRanges (with_ranges parameters done) ranges

no_more : (parameters : Scope) (done : List ForAll) (lexemes : List Lexeme) (all : List ForAll) (rest : List Lexeme) → pure done lexemes ≡ Some (all, rest) → Ranges parameters done lexemes all rest
no_more parameters done lexemes all rest read =
    let end = some_pair_parts done all lexemes rest read in
    record { ranges = []; are = sym end.0 ∙ sym (append-nil done); spelled = end.1; stand = tt }

ranges_spelled : (parameters : Scope) (depth n : ℕ) (done : List ForAll) (l0 : List Lexeme) (all : List ForAll) (rest : List Lexeme) → ranges_behind parameters depth n done l0 ≡ Some (all, rest)
    → Ranges parameters done l0 all rest
unfolding ranges_behind
ranges_spelled parameters depth zero done l0 all rest read = no_more parameters done l0 all rest read
ranges_spelled parameters depth (suc n) done l0 all rest read =
    choose (the_word (codes "for")) _ _ l0 all rest read
    (λ _ l1 e1 read1.
    then_reads (for_all_at (with_ranges parameters done) depth) _ l1 all rest read1 (λ f l2 e2 read2.
    let first = for_all_spelled (with_ranges parameters done) depth l1 f l2 e2 in
    let more = ranges_spelled parameters depth n (done ++ f ∷ []) l2 all rest read2 in
    record {
      ranges = f ∷ more.ranges;
      are = more.are ∙ append_assoc done (f ∷ []) more.ranges;
      spelled = (the_word_reads (codes "for") l0 l1).0 e1 ∙ ap (λ l. Word (codes "for") ∷ l) (first.0 ∙ ap (λ l. Word f.name ∷ Word (codes "in") ∷ (range_lexemes f.range ++ l)) more.spelled) ∙ sym (range_ends f more.ranges rest);
      stand = (first.1, first.2, subst (λ scope. AreRanges scope more.ranges) (more_ranges parameters done f) more.stand);
    }))
    (λ read1. no_more parameters done l0 all rest read1)

-- ---- alternatives

when_spelled : (scope : Scope) (depth : ℕ) (l0 : List Lexeme) (c : Option Condition) (rest : List Lexeme) → when_at scope depth l0 ≡ Some (c, rest)
    → (l0 ≡ when_lexemes c ++ rest) × IsConditionIfAny scope c
unfolding when_at
when_spelled scope depth l0 c rest read =
    choose (the_word (codes "when")) _ _ l0 c rest read
    (λ _ l1 e1 read1.
    then_reads (condition_at scope depth) _ l1 c rest read1 (λ x l2 e2 read2.
    let end = some_pair_parts (Some x) c l2 rest read2 in
    let found = condition_is_spelled scope depth l1 x l2 e2 in
    rw (sym end.0) ((the_word_reads (codes "when") l0 l1).0 e1 ∙ ap (λ l. Word (codes "when") ∷ l) (found.0 ∙ ap (λ l. condition_lexemes x ++ l) end.1), found.1)))
    (λ read1. let end = some_pair_parts None c l0 rest read1 in rw (sym end.0) (end.1, tt))

body_spelled : (scope : Scope) (depth : ℕ) (l0 : List Lexeme) (p : Option Condition × PlanExpr) (rest : List Lexeme) → conditional_body_at scope depth l0 ≡ Some (p, rest)
    → (l0 ≡ when_lexemes p.0 ++ Word (codes "give") ∷ (plan_lexemes p.1 ++ rest)) × IsConditionIfAny scope p.0 × IsPlan scope p.1
unfolding conditional_body_at body_at
body_spelled scope depth l0 p rest read =
    then_reads (when_at scope depth) _ l0 p rest read (λ c l1 e1 read1.
    then_reads (body_at scope depth) _ l1 p rest read1 (λ body l2 e2 read2.
    pass (the_word (codes "give")) (plan_at scope depth) l1 body l2 e2 (λ l3 e3 read3.
    let end = some_pair_parts _ p l2 rest read2 in
    let first = when_spelled scope depth l0 c l1 e1 in
    let second = plan_spelled scope depth l3 body l2 read3 in
    rw (sym end.0) (
      first.0 ∙ ap (λ l. when_lexemes c ++ l) ((the_word_reads (codes "give") l1 l3).0 e3 ∙ ap (λ l. Word (codes "give") ∷ l) (second.0 ∙ ap (λ l. plan_lexemes body ++ l) end.1)),
      first.1,
      second.1,
    ))))

pub alternative_spelled : (parameters : Scope) (depth : ℕ) → Spells (alternative_at parameters depth) alternative_lexemes (IsAlternative parameters)
unfolding alternative_at ranges_at
alternative_spelled parameters depth l0 a rest read =
    then_reads (ranges_at parameters depth) _ l0 a rest read (λ ranges l1 e1 read1.
    then_reads (conditional_body_at (with_ranges parameters ranges) depth) _ l1 a rest read1 (λ p l2 e2 read2.
    let end = some_pair_parts _ a l2 rest read2 in
    let found = ranges_spelled parameters depth (length l0) [] l0 ranges l1 e1 in
    let behind = body_spelled (with_ranges parameters ranges) depth l1 p l2 e2 in
    let a' : Alternative = record { ranges = ranges; condition = p.0; body = p.1 } in
    let are : flat_map for_lexemes found.ranges ≡ flat_map for_lexemes ranges = ap (λ l. flat_map for_lexemes l) (sym found.are) in
    let stand : AreRanges parameters ranges = subst (λ s. AreRanges s ranges) (no_ranges parameters) (rw found.are found.stand) in
    rw (sym end.0) (
      found.spelled ∙ ap (λ l. l ++ l1) are
          ∙ ap (λ l. flat_map for_lexemes ranges ++ l) (behind.0 ∙ ap (λ l. when_lexemes p.0 ++ Word (codes "give") ∷ (plan_lexemes p.1 ++ l)) end.1) ∙ sym (behind_ranges a' rest),
      record { ranges = stand; condition = behind.1; body = behind.2 },
    )))

-- ---- statements

pub parameter_spelled : (version : ℕ) → Spells (parameter_at version) parameter_lexemes (λ p. IsName version p.name)
unfolding parameter_at
parameter_spelled version l0 p rest read =
    then_reads (free_word version) _ l0 p rest read (λ name l1 e1 read1.
    then_reads kind_at _ l1 p rest read1 (λ kind l2 e2 read2.
    let end = some_pair_parts _ p l2 rest read2 in
    let first = name_spelled version l0 name l1 e1 in
    rw (sym end.0) (first.0 ∙ ap (λ l. Word name ∷ l) (kind_spelled l1 kind l2 e2 ∙ ap (λ l. Word (kind_word kind) ∷ l) end.1), first.1)))

parameters_spelled : (version : ℕ) (lexemes : List Lexeme) (ps : List Param) (rest : List Lexeme) → parameters_at version lexemes ≡ Some (ps, rest)
    → (lexemes ≡ joined_by comma (map parameter_lexemes ps) ++ rest) × HasItem ps × Every (λ p. IsName version p.name) ps
unfolding parameters_at
parameters_spelled version lexemes ps rest read =
    series_spelled (parameter_at version) parameter_lexemes (λ p. IsName version p.name) (the_symbol (codes ",")) comma (the_symbol_reads (codes ",")) (parameter_spelled version) lexemes ps rest read

alternatives_spelled : (parameters : Scope) (depth : ℕ) (lexemes : List Lexeme) (as_ : List Alternative) (rest : List Lexeme) → alternatives_at parameters depth lexemes ≡ Some (as_, rest)
    → (lexemes ≡ joined_by bar (map alternative_lexemes as_) ++ rest) × HasItem as_ × Every (IsAlternative parameters) as_
unfolding alternatives_at
alternatives_spelled parameters depth lexemes as_ rest read =
    series_spelled (alternative_at parameters depth) alternative_lexemes (IsAlternative parameters) (the_symbol (codes "|")) bar (the_symbol_reads (codes "|")) (alternative_spelled parameters depth) lexemes as_ rest read

all_names : (version : ℕ) (ps : List Param) → Every (λ p. IsName version p.name) ps → Every (IsName version) (map (λ p. p.name) ps)
all_names version [] all = tt
all_names version (p ∷ ps) all = (all.0, all_names version ps all.1)

record Head (version : ℕ) (lexemes : List Lexeme) (h : List ℕ × List Param) (rest : List Lexeme) : Type 0 where
  are : lexemes ≡ Word (codes "star") ∷ Word h.0 ∷ left_bracket ∷ (joined_by comma (map parameter_lexemes h.1) ++ right_bracket ∷ equals ∷ rest)
  name : IsName version h.0
  some : HasItem h.1
  named : Every (λ p. IsName version p.name) h.1

head_spelled : (version : ℕ) (l0 : List Lexeme) (h : List ℕ × List Param) (rest : List Lexeme) → head_at version l0 ≡ Some (h, rest) → Head version l0 h rest
unfolding head_at
head_spelled version l0 h rest read =
    pass (the_word (codes "star")) _ l0 h rest read (λ l1 e1 read1.
    then_reads (free_word version) _ l1 h rest read1 (λ name l2 e2 read2.
    pass (the_symbol (codes "(")) _ l2 h rest read2 (λ l3 e3 read3.
    then_reads (parameters_at version) _ l3 h rest read3 (λ ps l4 e4 read4.
    pass (the_symbol (codes ")")) _ l4 h rest read4 (λ l5 e5 read5.
    pass (the_symbol (codes "=")) _ l5 h rest read5 (λ l6 e6 read6.
    let end = some_pair_parts _ h l6 rest read6 in
    let named = name_spelled version l1 name l2 e2 in
    let parameters = parameters_spelled version l3 ps l4 e4 in
    rw (sym end.0) (record {
      are = (the_word_reads (codes "star") l0 l1).0 e1 ∙ ap (λ l. Word (codes "star") ∷ l) (
          named.0 ∙ ap (λ l. Word name ∷ l) (
          (the_symbol_reads (codes "(") l2 l3).0 e3 ∙ ap (λ l. left_bracket ∷ l) (
          parameters.0 ∙ ap (λ l. joined_by comma (map parameter_lexemes ps) ++ l) (
          (the_symbol_reads (codes ")") l4 l5).0 e5 ∙ ap (λ l. right_bracket ∷ l) ((the_symbol_reads (codes "=") l5 l6).0 e6 ∙ ap (λ l. equals ∷ l) end.1)))));
      name = named.1;
      some = parameters.1;
      named = parameters.2;
    })))))))

star_spelled : (version number depth : ℕ) (l0 : List Lexeme) (s : StarDef) → star_at version number depth l0 ≡ Some (s, []) → SpellsStar version number l0 s
unfolding star_at
star_spelled version number depth l0 s read =
    then_reads (head_at version) _ l0 s [] read (λ h l1 e1 read1.
    then_reads (alternatives_at (names_of version h.1) depth) _ l1 s [] read1 (λ as_ l2 e2 read2.
    let end = some_pair_parts _ s l2 [] read2 in
    let head = head_spelled version l0 h l1 e1 in
    let alternatives = alternatives_spelled (names_of version h.1) depth l1 as_ l2 e2 in
    rw (sym end.0) (record {
      number = refl;
      are = head.are
          ∙ ap (λ l. Word (codes "star") ∷ Word h.0 ∷ left_bracket ∷ (joined_by comma (map parameter_lexemes h.1) ++ right_bracket ∷ equals ∷ l)) (
          alternatives.0 ∙ ap (λ l. joined_by bar (map alternative_lexemes as_) ++ l) end.1 ∙ append-nil (joined_by bar (map alternative_lexemes as_)))
          ∙ ap (λ l. Word (codes "star") ∷ Word h.0 ∷ left_bracket ∷ l) (sym (one_ends (joined_by comma (map parameter_lexemes h.1)) (equals ∷ joined_by bar (map alternative_lexemes as_))));
      stands = record {
        name = head.name;
        some_parameters = head.some;
        parameters = all_names version h.1 head.named;
        some_alternatives = alternatives.1;
        alternatives = alternatives.2;
      };
    })))

pub spelled_star : (version number : ℕ) (lexemes : List Lexeme) (s : StarDef) → star_of version number lexemes ≡ Some s → SpellsStar version number lexemes s
unfolding star_of
spelled_star version number lexemes s read = star_spelled version number (length lexemes + 1) lexemes s (only_reads (star_at version number (length lexemes + 1) lexemes) s read)
