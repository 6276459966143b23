-- A statement defines a selectivity where its head and its two formulas are read.
use Rattle.std.proofs.Common.{◌≡◌, ℕ, List, [], ◌∷◌, ◌++◌, drop, Some, None, codes, refl, sym, subst, ◌∙◌, ap}
use Rattle.std.proofs.lemmas.Option.{none-some, some_pair_parts}
use Rattle.sb_text.specs.declared.token.Token.{Token}
use Rattle.star_model.specs.declared.formula.Formula.{Formula}
use Rattle.star_model.specs.declared.rules.Class.{Class}
use Rattle.star_model.specs.declared.rules.SelectDef.{SelectDef}
use Rattle.spelling.specs.Lexemes.{Lexeme, Word, lexemes_of, equals}
use Rattle.star_model.specs.FlavourWords.{class_word}
use Rattle.cost_formula.specs.Formulas.{SpellsSelect}
use Rattle.cost_formula.proofs.Laws.{no_per_in_select}
use Rattle.rule_grammar.specs.SelectHeads.{select_head_at, parted_at_per}
use Rattle.rule_grammar.specs.Rules.{SpellsSelectDef}
use Rattle.rule_grammar.proofs.Laws.{select_head_reads, parts_are_found, found_parts}

pub no_head : (n : ℕ) (lexemes : List Lexeme) → select_head_at lexemes ≡ None → (d : SelectDef) → SpellsSelectDef 2 n lexemes d → ⊥
no_head n lexemes none d spells = none-some _ (sym none ∙ (select_head_reads lexemes d.class (spells.num ++ Word (codes "per") ∷ spells.den)).1 spells.are)

-- the lexemes of the head are three
dropped : (source : List ℕ) (tokens : List Token) (a b c : Lexeme) (rest : List Lexeme) → lexemes_of source tokens ≡ a ∷ b ∷ c ∷ rest → lexemes_of source (drop 3 tokens) ≡ rest
dropped source [] a b c rest is = absurd cc
dropped source (x ∷ []) a b c rest is = absurd cc
dropped source (x ∷ y ∷ []) a b c rest is = absurd cc
dropped source (x ∷ y ∷ z ∷ behind) a b c rest is = cc

module _ (n : ℕ) (source : List ℕ) (tokens : List Token) where
  abbrev Spelled : SelectDef → Type 0
  Spelled d = SpellsSelectDef 2 n (lexemes_of source tokens) d

  own_parts : (d : SelectDef) (spells : Spelled d) → parted_at_per (lexemes_of source (drop 3 tokens)) ≡ Some (spells.num, spells.den)
  own_parts d spells =
      ap parted_at_per (dropped source tokens _ _ _ _ spells.are) ∙ parts_are_found spells.num spells.den (no_per_in_select spells.num d.num spells.spelled_num)

  pub no_parts : parted_at_per (lexemes_of source (drop 3 tokens)) ≡ None → (d : SelectDef) → Spelled d → ⊥
  no_parts none d spells = none-some _ (sym none ∙ own_parts d spells)

  module _ (num den : List Lexeme) (parts : parted_at_per (lexemes_of source (drop 3 tokens)) ≡ Some (num, den)) where
    both : (d : SelectDef) (spells : Spelled d) → (spells.num ≡ num) × (spells.den ≡ den)
    both d spells = some_pair_parts spells.num num spells.den den (sym (own_parts d spells) ∙ parts)

    pub no_num : ((f : Formula) → SpellsSelect num f → ⊥) → (d : SelectDef) → Spelled d → ⊥
    no_num none d spells = none d.num (subst (λ (l : List Lexeme). SpellsSelect l d.num) (both d spells).0 spells.spelled_num)

    pub no_den : ((f : Formula) → SpellsSelect den f → ⊥) → (d : SelectDef) → Spelled d → ⊥
    no_den none d spells = none d.den (subst (λ (l : List Lexeme). SpellsSelect l d.den) (both d spells).1 spells.spelled_den)

    pub head_and_formulas : (class : Class) (rest : List Lexeme) (x y : Formula) → select_head_at (lexemes_of source tokens) ≡ Some (class, rest) → SpellsSelect num x → SpellsSelect den y
        → Spelled (record { statement = n; class = class; num = x; den = y })
    head_and_formulas class rest x y read first second =
        let head = (select_head_reads (lexemes_of source tokens) class rest).0 read in
        let behind = sym (dropped source tokens _ _ _ rest head) ∙ found_parts (lexemes_of source (drop 3 tokens)) num den parts in
        record {
          of_version = refl;
          number = refl;
          num = num;
          den = den;
          are = head ∙ ap (λ l. Word (codes "selectivity") ∷ Word (class_word class) ∷ equals ∷ l) behind;
          spelled_num = first;
          spelled_den = second;
        }
