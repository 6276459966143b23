-- Rule files of version 1 that keep the limits by far: what a text with such rules is read as.
use Rattle.std.proofs.Common.{◌≡◌, ◌+◌, ◌≤◌, ◌<◌, ℕ, zero, suc, Bool, true, false, ◌&&◌, List, [], ◌∷◌, ◌++◌, length, map, refl, ap, sym, ◌∙◌, arith, inl, inr}
use Rattle.std.specs.Prelude.{nat_le, Contains}
use Rattle.std.specs.List.{list_all}
use Rattle.std.proofs.lemmas.Bool.{leb-true}
use Rattle.std.proofs.lemmas.List.{length-append}
use Rattle.std.proofs.lemmas.List.Sums.{count_by-le-length}
use Rattle.star_model.specs.Monotone.{nodes}
use Rattle.star_model.specs.Numbers.{top}
use Rattle.star_model.specs.declared.faults.LimitKind.{LimitKind}
use Rattle.star_model.specs.declared.faults.LimitKind.TheVariants as limit
use Rattle.star_model.specs.declared.rules.Alternative.{Alternative}
use Rattle.star_model.specs.declared.rules.FormulaDef.{FormulaDef}
use Rattle.star_model.specs.declared.rules.SelectDef.{SelectDef}
use Rattle.star_model.specs.declared.rules.StarDef.{StarDef}
use Rattle.spelling.specs.Firsts.{NoneFrom}
use Rattle.spelling.specs.Lexemes.{Lexeme, Word, Number, Text, Symbol}
use Rattle.star_model.specs.Every.{Every}
use Rattle.spelling.specs.Limits.{HasGreatNumber, HasLongWord}
use Rattle.rule_grammar.specs.Rules.{Definition, OfVersion, OfSelect, OfFormula, OfStar, SpellsDefinitions}
use Rattle.rule_grammar.specs.Rules as spec
use Rattle.rule_grammar.specs.RuleLimits.{RuleStatement, SpellsNumbered, AreSpelled, version_of, version_said, count_of_stars, is_star, Beyond, IsBeyond}
use Rattle.star_model.specs.WellFormedRules.{nesting}

left : (a b : Bool) → (a && b) ≡ true → a ≡ true
left true b h = refl
left false b h = h

right : (a b : Bool) → (a && b) ≡ true → b ≡ true
right true b h = h
right false b h = cc

-- ---- the limits as tests

abbrev pub lexeme_fits : Lexeme → Bool
lexeme_fits (Word bytes) = nat_le (length bytes) 64
lexeme_fits (Number n) = nat_le n top
lexeme_fits (Text bytes) = true
lexeme_fits (Symbol bytes) = true

abbrev pub lexemes_fit : List Lexeme → Bool
lexemes_fit lexemes = list_all lexeme_fits lexemes

abbrev pub formula_fits : FormulaDef → Bool
formula_fits d = nat_le (length (nodes d.formula)) 256

abbrev pub alternative_fits : Alternative → Bool
alternative_fits a = nat_le (length a.ranges) 2 && nat_le (nesting a.body) 8

abbrev pub star_fits : StarDef → Bool
star_fits s = nat_le (length s.params) 8 && nat_le (length s.alternatives) 16 && list_all alternative_fits s.alternatives

-- version 1 has no statements of the first two kinds
abbrev definition_fits : Definition → Bool
definition_fits OfVersion = false
definition_fits (OfSelect d) = false
definition_fits (OfFormula d) = formula_fits d
definition_fits (OfStar s) = star_fits s

-- ---- what passes goes beyond none

no_great : (lexemes : List Lexeme) → lexemes_fit lexemes ≡ true → HasGreatNumber lexemes → ⊥
no_great [] h great = great
no_great (Word bytes ∷ rest) h great = no_great rest (right (nat_le (length bytes) 64) _ h) great
no_great (Number n ∷ rest) h (inl great) = omega (arith, leb-true n top (left (nat_le n top) _ h), great)
no_great (Number n ∷ rest) h (inr great) = no_great rest (right (nat_le n top) _ h) great
no_great (Text bytes ∷ rest) h great = no_great rest h great
no_great (Symbol bytes ∷ rest) h great = no_great rest h great

no_long : (lexemes : List Lexeme) → lexemes_fit lexemes ≡ true → HasLongWord lexemes → ⊥
no_long [] h long = long
no_long (Word bytes ∷ rest) h (inl long) = omega (arith, leb-true (length bytes) 64 (left (nat_le (length bytes) 64) _ h), long)
no_long (Word bytes ∷ rest) h (inr long) = no_long rest (right (nat_le (length bytes) 64) _ h) long
no_long (Number n ∷ rest) h long = no_long rest (right (nat_le n top) _ h) long
no_long (Text bytes ∷ rest) h long = no_long rest h long
no_long (Symbol bytes ∷ rest) h long = no_long rest h long

passes : {A : Type 0} (test : A → Bool) (xs : List A) (x : A) → list_all test xs ≡ true → Contains xs x → test x ≡ true
passes test [] x h (k, lt, is) = absurd (omega (arith, lt))
passes test (y ∷ xs) x h (zero, lt, is) = ap (λ z. test z) (sym is) ∙ left (test y) _ h
passes test (y ∷ xs) x h (suc k, lt, is) = passes test xs x (right (test y) _ h) (k, omega (arith, lt), is)

module _ (earlier : List RuleStatement) (few : length earlier < 64) (lexemes : List Lexeme) (words : lexemes_fit lexemes ≡ true) where
  few_stars : count_of_stars earlier < 64
  few_stars = omega (arith, few, count_by-le-length is_star earlier)

  formula_within : (d : FormulaDef) → formula_fits d ≡ true → (what : LimitKind) → Beyond earlier (record { lexemes = lexemes; defines = OfFormula d }) what → ⊥
  formula_within d h limit.Number b = no_great lexemes words b
  formula_within d h limit.Name b = no_long lexemes words b
  formula_within d h limit.File b = b
  formula_within d h limit.Params b = b
  formula_within d h limit.Alternatives b = b
  formula_within d h limit.ForAlls b = b
  formula_within d h limit.Stars b = b
  formula_within d h limit.Depth b = b
  formula_within d h limit.Formula b = omega (arith, leb-true (length (nodes d.formula)) 256 h, b)
  formula_within d h limit.Sites b = b
  formula_within d h limit.Tables b = b
  formula_within d h limit.Columns b = b
  formula_within d h limit.Indexes b = b
  formula_within d h limit.IndexColumns b = b
  formula_within d h limit.Quantifiers b = b
  formula_within d h limit.Predicates b = b
  formula_within d h limit.Select b = b
  formula_within d h limit.OrderBy b = b

  star_within : (s : StarDef) → star_fits s ≡ true → (what : LimitKind) → Beyond earlier (record { lexemes = lexemes; defines = OfStar s }) what → ⊥
  star_within s h limit.Number b = no_great lexemes words b
  star_within s h limit.Name b = no_long lexemes words b
  star_within s h limit.File b = b
  star_within s h limit.Params b =
      omega (arith, leb-true (length s.params) 8 (left (nat_le (length s.params) 8) _ (left (nat_le (length s.params) 8 && nat_le (length s.alternatives) 16) _ h)), b)
  star_within s h limit.Alternatives b =
      omega (arith, leb-true (length s.alternatives) 16 (right (nat_le (length s.params) 8) _ (left (nat_le (length s.params) 8 && nat_le (length s.alternatives) 16) _ h)), b)
  star_within s h limit.ForAlls b =
      let fits = passes alternative_fits s.alternatives b.0 (right (nat_le (length s.params) 8 && nat_le (length s.alternatives) 16) _ h) b.1 in
      omega (arith, leb-true (length (b.0).ranges) 2 (left (nat_le (length (b.0).ranges) 2) _ fits), b.2)
  star_within s h limit.Stars b = omega (arith, few_stars, b)
  star_within s h limit.Depth b =
      let fits = passes alternative_fits s.alternatives b.0 (right (nat_le (length s.params) 8 && nat_le (length s.alternatives) 16) _ h) b.1 in
      omega (arith, leb-true (nesting (b.0).body) 8 (right (nat_le (length (b.0).ranges) 2) _ fits), b.2)
  star_within s h limit.Formula b = b
  star_within s h limit.Sites b = b
  star_within s h limit.Tables b = b
  star_within s h limit.Columns b = b
  star_within s h limit.Indexes b = b
  star_within s h limit.IndexColumns b = b
  star_within s h limit.Quantifiers b = b
  star_within s h limit.Predicates b = b
  star_within s h limit.Select b = b
  star_within s h limit.OrderBy b = b

-- ---- all statements

pub record Fits (statement : RuleStatement) : Type 0 where
  pub words : lexemes_fit statement.lexemes ≡ true
  pub definition : definition_fits statement.defines ≡ true

statement_within : (earlier : List RuleStatement) → length earlier < 64 → (statement : RuleStatement) → Fits statement → IsBeyond earlier statement → ⊥
statement_within earlier few statement fits beyond = go statement.defines fits.definition beyond.1
  where
    go : (d : Definition) → definition_fits d ≡ true → Beyond earlier (record { lexemes = statement.lexemes; defines = d }) beyond.0 → ⊥
    go OfVersion h b = cc
    go (OfSelect d) h b = cc
    go (OfFormula d) h b = formula_within earlier few statement.lexemes fits.words d h beyond.0 b
    go (OfStar s) h b = star_within earlier few statement.lexemes fits.words s h beyond.0 b

pub none_beyond : (before statements : List RuleStatement) → length before + length statements ≤ 64 → Every Fits statements → NoneFrom IsBeyond before statements
none_beyond before [] few fits = tt
none_beyond before (s ∷ later) few fits =
    let longer : length (before ++ s ∷ []) ≡ length before + 1 = length-append before (s ∷ []) in
    (statement_within before (omega (arith, few)) s fits.0, none_beyond (before ++ s ∷ []) later (omega (arith, few, longer)) fits.1)

-- the statements of a text, as what they define
abbrev pub Statements : ℕ → List (List Lexeme) → Type 0
Statements n lists = (statements : List RuleStatement) × AreSpelled 1 n statements × (map (λ s. s.lexemes) statements ≡ lists) × Every Fits statements

pub statements_of : {n : ℕ} {lists : List (List Lexeme)} {selects : List SelectDef} {formulas : List FormulaDef} {stars : List StarDef} → SpellsDefinitions 1 n lists selects formulas stars
    → list_all lexemes_fit lists ≡ true → list_all formula_fits formulas ≡ true → list_all star_fits stars ≡ true → Statements n lists
statements_of spec.none a b c = ([], tt, refl, tt)
statements_of (spec.select p h) a b c = let not_two : 1 ≡ 2 = p.of_version in cc
statements_of (spec.formula {number} {lexemes} {later} {d} {selects} {formulas} {stars} p h) a b c =
    let more = statements_of h (right (lexemes_fit lexemes) _ a) (right (formula_fits d) _ b) c in (
      record { lexemes = lexemes; defines = OfFormula d } ∷ more.0,
      (p, more.1),
      ap (λ l. lexemes ∷ l) more.2,
      (record { words = left (lexemes_fit lexemes) _ a; definition = left (formula_fits d) _ b }, more.3),
    )
statements_of (spec.star {number} {lexemes} {later} {s} {selects} {formulas} {stars} p h) a b c =
    let more = statements_of h (right (lexemes_fit lexemes) _ a) b (right (star_fits s) _ c) in (
      record { lexemes = lexemes; defines = OfStar s } ∷ more.0,
      (p, more.1),
      ap (λ l. lexemes ∷ l) more.2,
      (record { words = left (lexemes_fit lexemes) _ a; definition = left (star_fits s) _ c }, more.3),
    )

says_one : (lexemes : List Lexeme) (d : Definition) → SpellsNumbered 1 1 lexemes d → version_of d ≡ 1
says_one lexemes OfVersion p = let not_two : 1 ≡ 2 = p.1 in cc
says_one lexemes (OfSelect d) p = refl
says_one lexemes (OfFormula d) p = refl
says_one lexemes (OfStar s) p = refl

-- none of them says a version
pub version_one : (statements : List RuleStatement) → AreSpelled 1 1 statements → version_said statements ≡ 1
version_one [] spelled = refl
version_one (s ∷ later) spelled = says_one s.lexemes s.defines spelled.0
