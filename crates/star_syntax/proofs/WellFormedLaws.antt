-- What statements define that keep the limits is well formed.
use Rattle.std.proofs.Common.{◌≡◌, ◌≤◌, ◌<◌, ◌+◌, ◌⊎◌, inl, inr, ℕ, Bool, true, List, [], ◌∷◌, ◌++◌, length, suc, refl, ap, subst, arith, codes}
use Rattle.std.specs.Prelude.{Contains}
use Rattle.star_model.specs.Monotone.{nodes}
use Rattle.star_model.specs.declared.faults.LimitKind.TheVariants as limit
use Rattle.star_model.specs.declared.formula.Formula.{Formula}
use Rattle.star_model.specs.declared.formula.Var.{Var}
use Rattle.star_model.specs.declared.rules.StarDef.{StarDef}
use Rattle.star_model.specs.declared.rules.FormulaDef.{FormulaDef}
use Rattle.star_model.specs.declared.rules.SelectDef.{SelectDef}
use Rattle.star_model.specs.declared.rules.RuleFile.{RuleFile}
use Rattle.spelling.specs.Lexemes.{Lexeme, Word, Number, Text, Symbol}
use Rattle.star_model.specs.Every.{Every}
use Rattle.spelling.specs.Firsts.{NoneFrom, NoneHas}
use Rattle.spelling.specs.Limits.{HasGreatNumber, HasLongWord}
use Rattle.cost_formula.specs.Formulas.{cost_variables, select_variables, formula_lexemes}
use Rattle.rule_grammar.specs.Rules.{select_def_lexemes, formula_def_lexemes, star_lexemes, version_statements, Definition, OfVersion, OfSelect, OfFormula, OfStar, SpellsSelectDef, SpellsFormulaDef, SpellsStar, SpellsRules}
use Rattle.star_model.specs.WellFormedRules.{HasFewRanges, IsStar, nesting, IsShallow, KeepsStarLimits, is_of_cost, is_of_selectivity, names_only, IsFormula, IsFormulaDef, IsSelectDef, WellFormedRules}
use Rattle.rule_grammar.specs.RuleLimits.{HasSmallSelectNumbers, HasSmallNumbers, HasShortWords, KeepsLexemeLimits, RuleStatement, SpellsNumbered, AreSpelled, version_said, SaysRules, IsBeyond, count_of_stars}
use Rattle.cost_formula.proofs.Laws.{great_numbers_stay, cost_names, select_names}
use Rattle.rule_grammar.proofs.Laws.{one_rule_file}
use Rattle.star_syntax.specs.Statements.{with_select, with_formula, with_star, selects_of, formulas_of, stars_of, rules_of}
use Rattle.star_syntax.proofs.StarCounts.{count_more}
use Rattle.star_syntax.proofs.LimitLaws.{not_less}
use Rattle.star_syntax.proofs.StatementNumbers.{numbers, all_after, no_selects}
use Rattle.star_syntax.proofs.SpelledRules.{says_spells}

-- ---- numbers in two lists of lexemes

great_parts : (a b : List Lexeme) → HasGreatNumber (a ++ b) → HasGreatNumber a ⊎ HasGreatNumber b
great_parts [] b great = inr great
great_parts (Word bytes ∷ a) b great = great_parts a b great
great_parts (Number n ∷ a) b (inl great) = inl (inl great)
great_parts (Number n ∷ a) b (inr great) = elim (great_parts a b great) [ inl x ↦ inl (inr x) | inr y ↦ inr y ]
great_parts (Text bytes ∷ a) b great = great_parts a b great
great_parts (Symbol bytes ∷ a) b great = great_parts a b great

great_front : (a b : List Lexeme) → HasGreatNumber a → HasGreatNumber (a ++ b)
great_front [] b great = absurd great
great_front (Word bytes ∷ a) b great = great_front a b great
great_front (Number n ∷ a) b (inl great) = inl great
great_front (Number n ∷ a) b (inr great) = inr (great_front a b great)
great_front (Text bytes ∷ a) b great = great_front a b great
great_front (Symbol bytes ∷ a) b great = great_front a b great

great_back : (a b : List Lexeme) → HasGreatNumber b → HasGreatNumber (a ++ b)
great_back [] b great = great
great_back (Word bytes ∷ a) b great = great_back a b great
great_back (Number n ∷ a) b great = inr (great_back a b great)
great_back (Text bytes ∷ a) b great = great_back a b great
great_back (Symbol bytes ∷ a) b great = great_back a b great

-- ---- limits

every_from : {A : Type 0} (P : A → Type 0) (xs : List A) → ((x : A) → Contains xs x → P x) → Every P xs
every_from P [] each = tt
every_from P (x ∷ xs) each = (each x (0, omega arith, refl), every_from P xs (λ y is. each y (suc is.0, omega (arith, is.1), is.2)))

formula_keeps : (may : Var → Bool) (f : Formula) → names_only may f ≡ true → (256 < length (nodes f) → ⊥) → IsFormula may f
formula_keeps may f names fine = record { variables = names; few_nodes = not_less 256 (length (nodes f)) fine }

keeps_formula : (version n : ℕ) (before : List RuleStatement) (lexemes : List Lexeme) (d : FormulaDef) → SpellsFormulaDef version n lexemes d
    → (IsBeyond before (record { lexemes = lexemes; defines = OfFormula d }) → ⊥) → IsFormulaDef version d
keeps_formula version n before lexemes d spells fine = record {
  known = spells.known;
  formula = formula_keeps is_of_cost d.formula (cost_names spells.formula d.formula spells.spelled) (λ large. fine (limit.Formula, large));
}

keeps_select : (version n : ℕ) (before : List RuleStatement) (lexemes : List Lexeme) (d : SelectDef) → SpellsSelectDef version n lexemes d
    → (IsBeyond before (record { lexemes = lexemes; defines = OfSelect d }) → ⊥) → IsSelectDef d
keeps_select version n before lexemes d spells fine = record {
  num = formula_keeps is_of_selectivity d.num (select_names spells.num d.num spells.spelled_num) (λ large. fine (limit.Formula, inl large));
  den = formula_keeps is_of_selectivity d.den (select_names spells.den d.den spells.spelled_den) (λ large. fine (limit.Formula, inr large));
}

small_numbers : (version n : ℕ) (before : List RuleStatement) (lexemes : List Lexeme) (d : FormulaDef) → SpellsFormulaDef version n lexemes d
    → (IsBeyond before (record { lexemes = lexemes; defines = OfFormula d }) → ⊥) → HasGreatNumber (formula_def_lexemes d) → ⊥
small_numbers version n before lexemes d spells fine great = fine (limit.Number, rw spells.are (great_numbers_stay cost_variables spells.formula d.formula spells.spelled great))

small_select_numbers : (version n : ℕ) (before : List RuleStatement) (lexemes : List Lexeme) (d : SelectDef) → SpellsSelectDef version n lexemes d
    → (IsBeyond before (record { lexemes = lexemes; defines = OfSelect d }) → ⊥) → HasGreatNumber (select_def_lexemes d) → ⊥
small_select_numbers version n before lexemes d spells fine great =
    fine (limit.Number, rw spells.are (by (great_parts (formula_lexemes d.num) (Word (codes "per") ∷ formula_lexemes d.den) great))) where
      by : HasGreatNumber (formula_lexemes d.num) ⊎ HasGreatNumber (formula_lexemes d.den) → HasGreatNumber (spells.num ++ Word (codes "per") ∷ spells.den)
      by (inl num) = great_front spells.num (Word (codes "per") ∷ spells.den) (great_numbers_stay select_variables spells.num d.num spells.spelled_num num)
      by (inr den) = great_back spells.num (Word (codes "per") ∷ spells.den) (great_numbers_stay select_variables spells.den d.den spells.spelled_den den)

keeps_star : (version n : ℕ) (before : List RuleStatement) (lexemes : List Lexeme) (s : StarDef) → SpellsStar version n lexemes s
    → (IsBeyond before (record { lexemes = lexemes; defines = OfStar s }) → ⊥) → KeepsStarLimits s
keeps_star version n before lexemes s spells fine = record {
  parameters = not_less 8 (length s.params) (λ many. fine (limit.Params, many));
  alternatives = not_less 16 (length s.alternatives) (λ many. fine (limit.Alternatives, many));
  ranges = every_from HasFewRanges s.alternatives (λ a is. not_less 2 (length a.ranges) (λ many. fine (limit.ForAlls, (a, is, many))));
  bodies = every_from IsShallow s.alternatives (λ a is. not_less 8 (nesting a.body) (λ deep. fine (limit.Depth, (a, is, deep))));
}

short_words : (version n : ℕ) (before : List RuleStatement) (lexemes : List Lexeme) (s : StarDef) → SpellsStar version n lexemes s
    → (IsBeyond before (record { lexemes = lexemes; defines = OfStar s }) → ⊥) → HasLongWord (star_lexemes s) → ⊥
short_words version n before lexemes s spells fine long_ = fine (limit.Name, rw spells.are long_)

-- what these statements define keeps the limits, behind others
record Keep (version : ℕ) (before : List RuleStatement) (selects : List SelectDef) (formulas : List FormulaDef) (stars : List StarDef) : Type 0 where
  select_numbers_ : Every HasSmallSelectNumbers selects
  numbers_ : Every HasSmallNumbers formulas
  words : Every HasShortWords stars
  of_selects : Every IsSelectDef selects
  of_formulas : Every (IsFormulaDef version) formulas
  of_stars : Every KeepsStarLimits stars
  are_stars : Every (IsStar version) stars
  few : count_of_stars before ≤ 64 → count_of_stars before + length stars ≤ 64

keep_first : (version n : ℕ) (before : List RuleStatement) (lexemes : List Lexeme) (definition : Definition) (selects : List SelectDef) (formulas : List FormulaDef) (stars : List StarDef)
    → SpellsNumbered version n lexemes definition → (IsBeyond before (record { lexemes = lexemes; defines = definition }) → ⊥)
    → Keep version (before ++ record { lexemes = lexemes; defines = definition } ∷ []) selects formulas stars
    → Keep version before (with_select definition selects) (with_formula definition formulas) (with_star definition stars)
keep_first version n before lexemes OfVersion selects formulas stars spells fine later =
    let count = count_more before (record { lexemes = lexemes; defines = OfVersion }) in
    record {
      select_numbers_ = later.select_numbers_;
      numbers_ = later.numbers_;
      words = later.words;
      of_selects = later.of_selects;
      of_formulas = later.of_formulas;
      of_stars = later.of_stars;
      are_stars = later.are_stars;
      few = λ few. omega (arith, count, later.few (omega (arith, count, few)));
    }
keep_first version n before lexemes (OfSelect d) selects formulas stars spells fine later =
    let count = count_more before (record { lexemes = lexemes; defines = OfSelect d }) in
    record {
      select_numbers_ = (small_select_numbers version n before lexemes d spells fine, later.select_numbers_);
      numbers_ = later.numbers_;
      words = later.words;
      of_selects = (keeps_select version n before lexemes d spells fine, later.of_selects);
      of_formulas = later.of_formulas;
      of_stars = later.of_stars;
      are_stars = later.are_stars;
      few = λ few. omega (arith, count, later.few (omega (arith, count, few)));
    }
keep_first version n before lexemes (OfFormula d) selects formulas stars spells fine later =
    let count = count_more before (record { lexemes = lexemes; defines = OfFormula d }) in
    record {
      select_numbers_ = later.select_numbers_;
      numbers_ = (small_numbers version n before lexemes d spells fine, later.numbers_);
      words = later.words;
      of_selects = later.of_selects;
      of_formulas = (keeps_formula version n before lexemes d spells fine, later.of_formulas);
      of_stars = later.of_stars;
      are_stars = later.are_stars;
      few = λ few. omega (arith, count, later.few (omega (arith, count, few)));
    }
keep_first version n before lexemes (OfStar s) selects formulas stars spells fine later =
    let count = count_more before (record { lexemes = lexemes; defines = OfStar s }) in
    let one_more = not_less 64 (count_of_stars before + 1) (λ many. fine (limit.Stars, omega (arith, many))) in
    record {
      select_numbers_ = later.select_numbers_;
      numbers_ = later.numbers_;
      words = (short_words version n before lexemes s spells fine, later.words);
      of_selects = later.of_selects;
      of_formulas = later.of_formulas;
      of_stars = (keeps_star version n before lexemes s spells fine, later.of_stars);
      are_stars = (spells.stands, later.are_stars);
      few = λ few. omega (arith, count, later.few (omega (arith, count, one_more)));
    }

keep : (version n : ℕ) (before statements : List RuleStatement) → AreSpelled version n statements → NoneFrom IsBeyond before statements
    → Keep version before (selects_of statements) (formulas_of statements) (stars_of statements)
keep version n before [] spelled none =
    record { select_numbers_ = tt; numbers_ = tt; words = tt; of_selects = tt; of_formulas = tt; of_stars = tt; are_stars = tt; few = λ few. omega (arith, few) }
keep version n before (s ∷ later) spelled none =
    keep_first version n before s.lexemes s.defines (selects_of later) (formulas_of later) (stars_of later) spelled.0 none.0
    (keep version (n + 1) (before ++ s ∷ []) later spelled.1 none.1)

-- the first number behind the statement that says version 2
second : (version : ℕ) → version ≡ 2 → 1 + length (version_statements version) ≡ 2
second version is = ap (λ v. 1 + length (version_statements v)) is

-- what statements define that keep the limits
statements_formed : (text : List ℕ) (statements : List RuleStatement) → SaysRules text statements → NoneHas IsBeyond statements
    → WellFormedRules (rules_of (version_said statements) statements)
statements_formed text statements says within =
    let version = version_said statements in
    let keeps = keep version 1 [] statements says.spelled within in
    let spells = says_spells text statements says in
    record {
      version = spells.version;
      selects_of_version = λ one. no_selects spells.define one;
      after_version = λ two. all_after _ (selects_of statements) (formulas_of statements) (stars_of statements) (second version two) (numbers spells.define);
      numbers_differ = (numbers spells.define).differ_;
      selects = keeps.of_selects;
      formulas = keeps.of_formulas;
      few_stars = omega (arith, keeps.few (omega arith));
      stars = keeps.are_stars;
      limits = keeps.of_stars;
    }

pub rules_formed : (text : List ℕ) (rules : RuleFile) (statements : List RuleStatement) → SpellsRules text rules → SaysRules text statements → NoneHas IsBeyond statements → WellFormedRules rules
rules_formed text rules statements spells says within =
    let defined = rules_of (version_said statements) statements in
    let same : defined ≡ rules = one_rule_file text defined rules (says_spells text statements says) spells in
    subst WellFormedRules same (statements_formed text statements says within)

statements_fit : (text : List ℕ) (statements : List RuleStatement) → SaysRules text statements → NoneHas IsBeyond statements → KeepsLexemeLimits (rules_of (version_said statements) statements)
statements_fit text statements says within =
    let keeps = keep (version_said statements) 1 [] statements says.spelled within in
    record { selects = keeps.select_numbers_; numbers = keeps.numbers_; words = keeps.words }

pub rules_fit : (text : List ℕ) (rules : RuleFile) (statements : List RuleStatement) → SpellsRules text rules → SaysRules text statements → NoneHas IsBeyond statements → KeepsLexemeLimits rules
rules_fit text rules statements spells says within =
    let defined = rules_of (version_said statements) statements in
    let same : defined ≡ rules = one_rule_file text defined rules (says_spells text statements says) spells in
    subst KeepsLexemeLimits same (statements_fit text statements says within)
