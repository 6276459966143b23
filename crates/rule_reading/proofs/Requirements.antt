-- What a turn of the loop over requirements does.
use Rattle.std.proofs.Common.{◌≡◌, ℕ, zero, suc, ◌-◌, ◌<◌, ◌≤◌, true, false, List, length, Option, Some, None, codes, refl, sym, ap, ◌∙◌, arith, length-append}
use Rattle.std.specs.Prelude.{Err}
use Rattle.std.specs.Option.{is_some, IfNone}
use Rattle.std.proofs.lemmas.Option.{some_pair_parts}
use Rattle.star_model.specs.declared.rules.ValueExpr.{ValueExpr}
use Rattle.star_model.specs.ValueCases.{WithTemp}
use Rattle.rule_grammar.specs.declared.words.RequirementHead.{RequirementHead}
use Rattle.rule_grammar.specs.declared.words.RequirementHead.TheVariants as requirement
use Rattle.star_model.specs.WellFormedRules.{Scope}
use Rattle.spelling.specs.Lexemes.{Lexeme}
use Rattle.rule_grammar.specs.Values.{value_lexemes}
use Rattle.spelling.specs.Reading.{Reader, ◌>>=◌, Reads, the_symbol, a_word}
use Rattle.rule_grammar.specs.ValueReading.{value_at, valued_of, required_at, requiring, requirement_at, requirement_head, turn, requirements_at}
use Rattle.spelling.proofs.Laws.{the_symbol_reads, a_word_reads, then_reads}
use Rattle.rule_grammar.proofs.Laws.{value_is_spelled}
use Rattle.spelling.specs.declared.unread.Unread.{Unread}
use Rattle.spelling.specs.declared.unread.Unread.TheVariants.{Strange, Memory}
use Rattle.spelling.specs.Answers.{Answers}

-- so far this value was read, and requirements may follow
pub record Goes (inner : Reader ValueExpr) (all : Option (ValueExpr × List Lexeme)) (t : ValueExpr) (left : List Lexeme) : Type 0 where
  pub turns : ℕ
  pub enough : length left ≤ turns
  pub is : all ≡ requirements_at inner turns t left

symbol_shrinks : (wanted : List ℕ) (ws rest : List Lexeme) (u : Unit {0}) → the_symbol wanted ws ≡ Some (u, rest) → length rest < length ws
symbol_shrinks wanted ws rest u read = let is = ap (λ (l : List Lexeme). length l) ((the_symbol_reads wanted ws rest).0 read) in omega (arith, is)

pub value_shrinks : (scope : Scope) (n : ℕ) (ws : List Lexeme) (v : ValueExpr) (rest : List Lexeme) → value_at scope n ws ≡ Some (v, rest) → length rest ≤ length ws
value_shrinks scope n ws v rest read =
    let is = ap (λ (l : List Lexeme). length l) (value_is_spelled scope n ws v rest read).0 in
    let sum = length-append (value_lexemes v) rest in
    omega (arith, is, sum)

module _ (inner : Reader ValueExpr) (shrinks : (ws : List Lexeme) (v : ValueExpr) (rest : List Lexeme) → inner ws ≡ Some (v, rest) → length rest ≤ length ws) where
  required_shrinks : (ws : List Lexeme) (v : ValueExpr) (rest : List Lexeme) → required_at inner ws ≡ Some (v, rest) → length rest ≤ length ws
  unfolding required_at
  required_shrinks ws v rest read =
      then_reads inner _ ws v rest read (λ x left one read2.
      then_reads (the_symbol (codes "]")) _ left v rest read2 (λ u mid close read3.
      let is = ap (λ (l : List Lexeme). length l) (some_pair_parts x v mid rest read3).1 in
      omega (arith, is, shrinks ws x left one, symbol_shrinks (codes "]") left mid u close)))

  requiring_shrinks : (t : ValueExpr) (h : RequirementHead) (ws : List Lexeme) (v : ValueExpr) (rest : List Lexeme) → requiring inner t h ws ≡ Some (v, rest) → length rest ≤ length ws
  requiring_shrinks t (requirement.Valued r) ws v rest read =
      then_reads (required_at inner) _ ws v rest read (λ x left one read2.
      let is = ap (λ (l : List Lexeme). length l) (some_pair_parts (valued_of r t x) v left rest read2).1 in
      omega (arith, is, required_shrinks ws x left one))
  requiring_shrinks t requirement.Temp ws v rest read =
      then_reads (the_symbol (codes "]")) _ ws v rest read (λ u left close read2.
      let is = ap (λ (l : List Lexeme). length l) (some_pair_parts (WithTemp t) v left rest read2).1 in
      omega (arith, is, symbol_shrinks (codes "]") ws left u close))
  requiring_shrinks t requirement.Other ws v rest read = absurd cc

  requirement_shrinks : (t : ValueExpr) (ws : List Lexeme) (v : ValueExpr) (rest : List Lexeme) → requirement_at inner t ws ≡ Some (v, rest) → length rest < length ws
  unfolding requirement_at
  requirement_shrinks t ws v rest read =
      then_reads a_word _ ws v rest read (λ word left first read2.
      let is = ap (λ (l : List Lexeme). length l) ((a_word_reads ws left word).0 first) in
      omega (arith, is, requiring_shrinks t (requirement_head word) left v rest read2))

  one_turn : (n : ℕ) (t : ValueExpr) (ws after : List Lexeme) (u : Unit {0}) → 0 < n → the_symbol (codes "[") ws ≡ Some (u, after)
      → requirements_at inner n t ws ≡ (requirement_at inner t >>= requirements_at inner (n - 1)) after
  unfolding requirements_at
  one_turn zero t ws after u some found = absurd (omega arith)
  one_turn (suc n) t ws after u some found =
      let e : n ≡ suc n - 1 = omega arith in
      ap (λ o. turn inner (requirements_at inner n) t ws o) found ∙ ap (λ k. (requirement_at inner t >>= requirements_at inner k) after) e

  rests : (n : ℕ) (t : ValueExpr) (ws : List Lexeme) → the_symbol (codes "[") ws ≡ None → requirements_at inner n t ws ≡ Some (t, ws)
  unfolding requirements_at
  rests zero t ws none = refl
  rests (suc n) t ws none = ap (λ o. turn inner (requirements_at inner n) t ws o) none

  -- ---- the steps of the loop

  module _ (all : Option (ValueExpr × List Lexeme)) (t : ValueExpr) (ws : List Lexeme) (goes : Goes inner all t ws) where
    -- behind a requirement less is left
    pub smaller : (found : Option (Unit {0})) (after : List Lexeme) (v : ValueExpr) (rest : List Lexeme) → Reads (the_symbol (codes "[") ws) found after → is_some found ≡ true
        → requirement_at inner t after ≡ Some (v, rest) → length rest < length ws
    smaller None after v rest reads some read = absurd cc
    smaller (Some u) after v rest reads some read = omega (arith, symbol_shrinks (codes "[") ws after u reads, requirement_shrinks t after v rest read)

    -- one requirement more
    pub went : (found : Option (Unit {0})) (after : List Lexeme) (v : ValueExpr) (rest : List Lexeme) → Reads (the_symbol (codes "[") ws) found after → is_some found ≡ true
        → requirement_at inner t after ≡ Some (v, rest) → Goes inner all v rest
    went None after v rest reads some read = absurd cc
    went (Some u) after v rest reads some read =
        let less = smaller (Some u) after v rest reads some read in
        record {
          turns = goes.turns - 1;
          enough = omega (arith, less, goes.enough);
          is = goes.is ∙ one_turn goes.turns t ws after u (omega (arith, less, goes.enough)) reads ∙ rw read refl;
        }

    -- no requirement
    pub stopped : (found : Option (Unit {0})) (after : List Lexeme) (why : Unread) (rest : List Lexeme) → Reads (the_symbol (codes "[") ws) found after → is_some found ≡ true
        → Answers {A = ValueExpr} (requirement_at inner t after) (Err why) rest → Answers {A = ValueExpr} all (Err why) rest
    stopped None after why rest reads some read = absurd cc
    stopped (Some u) after Memory rest reads some read = tt
    stopped (Some u) after Strange rest reads some read =
        let less = symbol_shrinks (codes "[") ws after u reads in
        goes.is ∙ one_turn goes.turns t ws after u (omega (arith, less, goes.enough)) reads ∙ rw read refl

    -- no square bracket
    pub finished : (found : Option (Unit {0})) (after : List Lexeme) → Reads (the_symbol (codes "[") ws) found after → IfNone found (after ≡ ws) → is_some found ≡ false → all ≡ Some (t, after)
    finished (Some u) after reads stays none = absurd cc
    finished None after reads stays none = goes.is ∙ rests goes.turns t ws reads ∙ ap (λ l. Some (t, l)) (sym stays)
