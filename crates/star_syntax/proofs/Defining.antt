-- What a statement defines, or that it defines nothing.
use Rattle.std.proofs.Common.{◌≡◌, ◌⊎◌, inl, inr, ◌+◌, ℕ, Bool, true, false, nat_eq, List, [], ◌∷◌, ◌++◌, length, map, Option, Some, None, codes, refl, sym, ap, ◌∙◌, subst}
use Rattle.std.specs.Prelude.{◌&&◌}
use Rattle.std.proofs.lemmas.Bool.{and_parts, both_ways, eqb-true}
use Rattle.std.proofs.lemmas.Option.{none-some, some_pair_parts}
use Rattle.star_model.specs.declared.formula.Formula.{Formula}
use Rattle.star_model.specs.declared.formula.Var.{Var}
use Rattle.star_model.specs.declared.rules.Class.{Class}
use Rattle.star_model.specs.declared.rules.FormulaDef.{FormulaDef}
use Rattle.star_model.specs.declared.rules.SelectDef.{SelectDef}
use Rattle.star_model.specs.declared.rules.StarDef.{StarDef}
use Rattle.star_model.specs.FlavourWords.{class_word}
use Rattle.star_model.proofs.Laws.{same_are}
use Rattle.spelling.specs.Lexemes.{Lexeme, Word, Number, Text, Symbol, MaybeEnded, equals}
use Rattle.spelling.specs.Syntax.{IsUnderstood}
use Rattle.cost_formula.specs.declared.formula_word.FormulaWord.{FormulaWord}
use Rattle.cost_formula.specs.FormulaGrammar.{Spells, Whole}
use Rattle.cost_formula.specs.FormulaReading.{whole_at}
use Rattle.cost_formula.specs.Formulas.{cost_variables, select_variables, formula_word, SpellsIn, SpellsFormula, SpellsSelect}
use Rattle.cost_formula.proofs.Laws.{formula_reads, no_per_in_select}
use Rattle.rule_grammar.specs.FormulaHeads.{FormulaHead, formula_head_at}
use Rattle.rule_grammar.specs.SelectHeads.{select_head_at, parted_at_per}
use Rattle.rule_grammar.specs.StarReading.{star_of}
use Rattle.rule_grammar.specs.Rules.{Definition, OfVersion, OfSelect, OfFormula, OfStar, SpellsFormulaDef, SpellsSelectDef, SpellsStar, version_lexemes}
use Rattle.rule_grammar.specs.RuleLimits.{SpellsNumbered}
use Rattle.rule_grammar.proofs.Laws.{formula_head_reads, select_head_reads, parts_are_found, found_parts, star_is_read}
use Rattle.star_syntax.specs.Versions.{is_version, is_two, says_version, is_version_statement}
use Rattle.star_syntax.proofs.VersionLaws.{says_not}

-- something has it, or nothing
abbrev pub Found : {A : Type 0} → (A → Type 0) → Type 0
Found {A} P = ((x : A) × P x) ⊎ ((x : A) → P x → ⊥)

-- ---- formulas

formula_in : (variables : List Var) (lexemes : List Lexeme) → Found (SpellsIn variables lexemes)
formula_in variables lexemes = at (whole_at (length words + 1) words) refl
  where
    words : List FormulaWord
    words = map (formula_word variables) lexemes

    at : (read : Option (Formula × List FormulaWord)) → whole_at (length words + 1) words ≡ read → Found (λ x. Spells Whole words x)
    at None is = inr (λ x spells. none-some _ (sym is ∙ (formula_reads words x).1 spells))
    at (Some (x, [])) is = inl ((x, (formula_reads words x).0 is))
    at (Some (x, word ∷ left)) is = inr (λ y spells. let none = (some_pair_parts x y (word ∷ left) [] (sym is ∙ (formula_reads words y).1 spells)).1 in cc)

formula_def : (version n : ℕ) (lexemes : List Lexeme) → Found (SpellsFormulaDef version n lexemes)
formula_def version n lexemes = at (formula_head_at version lexemes) refl
  where
    own_head : (d : FormulaDef) (spells : SpellsFormulaDef version n lexemes d) → formula_head_at version lexemes ≡ Some (record { which = d.which; flavour = d.flavour }, spells.formula)
    own_head d spells = (formula_head_reads version lexemes (record { which = d.which; flavour = d.flavour }) spells.formula).1 (spells.known, spells.are)

    by : (head : FormulaHead) (rest : List Lexeme) → formula_head_at version lexemes ≡ Some (head, rest) → Found (SpellsFormula rest) → Found (SpellsFormulaDef version n lexemes)
    by head rest is (inl (f, spells)) =
        let stands = (formula_head_reads version lexemes head rest).0 is in
        inl ((
          record { statement = n; flavour = head.flavour; which = head.which; formula = f },
          record { known = stands.0; number = refl; formula = rest; are = stands.1; spelled = spells },
        ))
    by head rest is (inr none) =
        inr (λ d spells.
        let same : spells.formula ≡ rest = (some_pair_parts _ head spells.formula rest (sym (own_head d spells) ∙ is)).1 in
        none d.formula (subst (λ (l : List Lexeme). SpellsFormula l d.formula) same spells.spelled))

    at : (read : Option (FormulaHead × List Lexeme)) → formula_head_at version lexemes ≡ read → Found (SpellsFormulaDef version n lexemes)
    at None is = inr (λ d spells. none-some _ (sym is ∙ own_head d spells))
    at (Some (head, rest)) is = by head rest is (formula_in cost_variables rest)

-- ---- selectivities

module _ (n : ℕ) (lexemes : List Lexeme) where
  abbrev Selects : SelectDef → Type 0
  Selects d = SpellsSelectDef 2 n lexemes d

  own_head : (d : SelectDef) (spells : Selects d) → select_head_at lexemes ≡ Some (d.class, spells.num ++ Word (codes "per") ∷ spells.den)
  own_head d spells = (select_head_reads lexemes d.class (spells.num ++ Word (codes "per") ∷ spells.den)).1 spells.are

  module _ (class : Class) (rest : List Lexeme) (head : select_head_at lexemes ≡ Some (class, rest)) where
    own_parts : (d : SelectDef) (spells : Selects d) → parted_at_per rest ≡ Some (spells.num, spells.den)
    own_parts d spells =
        let same : rest ≡ spells.num ++ Word (codes "per") ∷ spells.den = (some_pair_parts class d.class rest _ (sym head ∙ own_head d spells)).1 in
        ap parted_at_per same ∙ parts_are_found spells.num spells.den (no_per_in_select spells.num d.num spells.spelled_num)

    module _ (num den : List Lexeme) (parts : parted_at_per rest ≡ Some (num, den)) where
      both : (d : SelectDef) (spells : Selects d) → (spells.num ≡ num) × (spells.den ≡ den)
      both d spells = some_pair_parts spells.num num spells.den den (sym (own_parts d spells) ∙ parts)

      by_formulas : Found (SpellsSelect num) → Found (SpellsSelect den) → Found Selects
      by_formulas (inl (x, first)) (inl (y, second)) =
          inl ((
            record { statement = n; class = class; num = x; den = y },
            record {
              of_version = refl;
              number = refl;
              num = num;
              den = den;
              are = (select_head_reads lexemes class rest).0 head ∙ ap (λ l. Word (codes "selectivity") ∷ Word (class_word class) ∷ equals ∷ l) (found_parts rest num den parts);
              spelled_num = first;
              spelled_den = second;
            },
          ))
      by_formulas (inl first) (inr none) = inr (λ d spells. none d.den (subst (λ (l : List Lexeme). SpellsSelect l d.den) (both d spells).1 spells.spelled_den))
      by_formulas (inr none) second = inr (λ d spells. none d.num (subst (λ (l : List Lexeme). SpellsSelect l d.num) (both d spells).0 spells.spelled_num))

    by_parts : Found Selects
    by_parts = at (parted_at_per rest) refl
      where
        at : (parts : Option (List Lexeme × List Lexeme)) → parted_at_per rest ≡ parts → Found Selects
        at None is = inr (λ d spells. none-some _ (sym is ∙ own_parts d spells))
        at (Some (num, den)) is = by_formulas num den is (formula_in select_variables num) (formula_in select_variables den)

  select_def_of_two : Found Selects
  select_def_of_two = at (select_head_at lexemes) refl
    where
      at : (read : Option (Class × List Lexeme)) → select_head_at lexemes ≡ read → Found Selects
      at None is = inr (λ d spells. none-some _ (sym is ∙ own_head d spells))
      at (Some (class, rest)) is = by_parts class rest is

select_def : (version n : ℕ) (lexemes : List Lexeme) → Found (SpellsSelectDef version n lexemes)
select_def version n lexemes = at (nat_eq version 2) refl
  where
    at : (b : Bool) → nat_eq version 2 ≡ b → Found (SpellsSelectDef version n lexemes)
    at true is = subst (λ v. Found (SpellsSelectDef v n lexemes)) (sym (eqb-true version 2 is)) (select_def_of_two n lexemes)
    at false is = inr (λ d spells. both_ways (nat_eq version 2) is (ap (λ v. nat_eq v 2) spells.of_version))

-- ---- STARs

star_def : (version n : ℕ) (lexemes : List Lexeme) → Found (SpellsStar version n lexemes)
star_def version n lexemes = at (star_of version n lexemes) refl
  where
    at : (read : Option StarDef) → star_of version n lexemes ≡ read → Found (SpellsStar version n lexemes)
    at None is = inr (λ s spells. none-some _ (sym is ∙ (star_is_read version n lexemes s).1 spells))
    at (Some s) is = inl ((s, (star_is_read version n lexemes s).0 is))

-- ---- the version

the_word : (lexeme : Lexeme) → is_version lexeme ≡ true → lexeme ≡ Word (codes "version")
the_word (Word bytes) is = ap (λ b. Word b) (same_are bytes (codes "version") is)
the_word (Number n) is = absurd cc
the_word (Text bytes) is = absurd cc
the_word (Symbol bytes) is = absurd cc

the_two : (lexeme : Lexeme) → is_two lexeme ≡ true → lexeme ≡ Number 2
the_two (Word bytes) is = absurd cc
the_two (Number n) is = ap (λ k. Number k) (eqb-true n 2 is)
the_two (Text bytes) is = absurd cc
the_two (Symbol bytes) is = absurd cc

says : (lexemes : List Lexeme) → says_version lexemes ≡ true → lexemes ≡ version_lexemes
says [] is = absurd cc
says (a ∷ []) is = absurd cc
says (a ∷ b ∷ []) is = let parts = and_parts (is_version a) (is_two b) is in λ i. the_word a parts.0 i ∷ the_two b parts.1 i ∷ []
says (a ∷ b ∷ c ∷ later) is = absurd cc

version_def : (version n : ℕ) (lexemes : List Lexeme) → is_version_statement version n lexemes ≡ true → SpellsNumbered version n lexemes OfVersion
version_def version n lexemes is =
    let last = and_parts (nat_eq n 1 && nat_eq version 2) (says_version lexemes) is in
    let numbers = and_parts (nat_eq n 1) (nat_eq version 2) last.0 in
    (eqb-true n 1 numbers.0, eqb-true version 2 numbers.1, says lexemes last.1)

-- ---- any of them

module _ (version n : ℕ) (lexemes : List Lexeme) where
  by : (says : Bool) → is_version_statement version n lexemes ≡ says → Found (SpellsSelectDef version n lexemes) → Found (SpellsFormulaDef version n lexemes) → Found (SpellsStar version n lexemes)
      → Found (SpellsNumbered version n lexemes)
  by true is select formula star = inl ((OfVersion, version_def version n lexemes is))
  by false is (inl (d, spells)) formula star = inl ((OfSelect d, spells))
  by false is (inr no_select) (inl (d, spells)) star = inl ((OfFormula d, spells))
  by false is (inr no_select) (inr no_formula) (inl (s, spells)) = inl ((OfStar s, spells))
  by false is (inr no_select) (inr no_formula) (inr no_star) = inr none
    where
      none : (d : Definition) → SpellsNumbered version n lexemes d → ⊥
      none OfVersion spells = says_not version n lexemes is spells
      none (OfSelect d) spells = no_select d spells
      none (OfFormula d) spells = no_formula d spells
      none (OfStar s) spells = no_star s spells

  -- what these lexemes define
  pub defining : Found (SpellsNumbered version n lexemes)
  defining = by (is_version_statement version n lexemes) refl (select_def version n lexemes) (formula_def version n lexemes) (star_def version n lexemes)

-- a statement is understood, or it isn't
abbrev pub Defines : ℕ → ℕ → MaybeEnded → Type 0
Defines version n statement = ((statement.1 ≡ true) × (d : Definition) × SpellsNumbered version n statement.0 d) ⊎ (IsUnderstood (SpellsNumbered version n) statement → ⊥)

pub defines : (version n : ℕ) (statement : MaybeEnded) → Defines version n statement
defines version n (lexemes, false) = inr (λ is. is)
defines version n (lexemes, true) = at (defining version n lexemes)
  where
    at : Found (SpellsNumbered version n lexemes) → Defines version n (lexemes, true)
    at (inl (d, spells)) = inl ((refl, d, spells))
    at (inr none) = inr (λ is. none is.0 is.1)
