-- The loop that reads for-all clauses.
use Rattle.std.proofs.Common.{◌≡◌, ◌<◌, ◌≤◌, ℕ, zero, suc, true, false, List, [], ◌∷◌, ◌++◌, length, Option, Some, None, Err, codes, refl, sym, ap, ◌∙◌, arith, length-append}
use Rattle.std.specs.Option.{is_some, IfNone}
use Rattle.star_model.specs.declared.rules.ForAll.{ForAll}
use Rattle.star_model.specs.WellFormedRules.{Scope}
use Rattle.spelling.specs.Lexemes.{Lexeme, Word}
use Rattle.rule_grammar.specs.Values.{range_lexemes}
use Rattle.spelling.specs.Reading.{Reads, the_word}
use Rattle.rule_grammar.specs.StarReading.{with_ranges, for_all_at, ranges_behind, ranges_at}
use Rattle.spelling.proofs.Laws.{the_word_reads}
use Rattle.rule_grammar.proofs.Laws.{for_all_spelled}
use Rattle.spelling.specs.declared.unread.Unread.{Unread}
use Rattle.spelling.specs.declared.unread.Unread.TheVariants.{Strange, Memory}
use Rattle.spelling.specs.Answers.{Answers}

-- these are done, and what is left is read behind them
pub record Going (parameters : Scope) (depth : ℕ) (all : List Lexeme) (done : List ForAll) (left : List Lexeme) : Type 0 where
  pub turns : ℕ
  pub enough : length left ≤ turns
  pub is : ranges_at parameters depth all ≡ ranges_behind parameters depth turns done left

less : (depth : ℕ) (left mid : List Lexeme) (f : ForAll) (rest : List Lexeme) (scope : Scope) → the_word (codes "for") left ≡ Some (tt, mid) → for_all_at scope depth mid ≡ Some (f, rest) → length rest < length left
less depth left mid f rest scope first next =
    let passed : length left ≡ length (Word (codes "for") ∷ mid) = ap (λ (l : List Lexeme). length l) ((the_word_reads (codes "for") left mid).0 first) in
    let spelled : length mid ≡ length (Word f.name ∷ Word (codes "in") ∷ (range_lexemes f.range ++ rest)) = ap (λ (l : List Lexeme). length l) (for_all_spelled scope depth mid f rest next).0 in
    omega (arith, passed, spelled, length-append (range_lexemes f.range) rest)

-- behind a clause less is left
pub falls : (depth : ℕ) (left : List Lexeme) (found : Option (Unit {0})) (mid : List Lexeme) (f : ForAll) (rest : List Lexeme) (scope : Scope) → Reads (the_word (codes "for") left) found mid → is_some found ≡ true
    → for_all_at scope depth mid ≡ Some (f, rest) → length rest < length left
falls depth left None mid f rest scope first some next = absurd cc
falls depth left (Some found) mid f rest scope first some next = less depth left mid f rest scope first next

module _ (parameters : Scope) (depth : ℕ) where
  pub begun : (all : List Lexeme) → Going parameters depth all [] all
  unfolding ranges_at
  begun all = record { turns = length all; enough = omega arith; is = refl }

  module _ (all : List Lexeme) (done : List ForAll) (left : List Lexeme) (going : Going parameters depth all done left) where
    -- no further one
    pub ends : (found : Option (Unit {0})) (mid : List Lexeme) → Reads (the_word (codes "for") left) found mid → IfNone found (mid ≡ left) → is_some found ≡ false
        → ranges_at parameters depth all ≡ Some (done, mid)
    unfolding ranges_behind
    ends (Some found) mid first stays none = absurd cc
    ends None mid first stays none = going.is ∙ last going.turns ∙ ap (λ l. Some (done, l)) (sym stays)
      where
        last : (n : ℕ) → ranges_behind parameters depth n done left ≡ Some (done, left)
        last zero = refl
        last (suc n) = rw first refl

    -- one that isn't read
    pub stops : (found : Option (Unit {0})) (mid : List Lexeme) (why : Unread) (rest last : List Lexeme) (scope : Scope) → Reads (the_word (codes "for") left) found mid → is_some found ≡ true
        → scope ≡ with_ranges parameters done → Answers (for_all_at scope depth mid) (Err why) rest → Answers (ranges_at parameters depth all) (Err why) last
    unfolding ranges_behind
    stops None mid why rest last scope first some is next = absurd cc
    stops (Some found) mid Memory rest last scope first some is next = tt
    stops (Some found) mid Strange rest last scope first some is next = going.is ∙ none going.turns going.enough
      where
        none : (n : ℕ) → length left ≤ n → ranges_behind parameters depth n done left ≡ None
        none zero enough = let passed : length left ≡ length (Word (codes "for") ∷ mid) = ap (λ (l : List Lexeme). length l) ((the_word_reads (codes "for") left mid).0 first) in absurd (omega (arith, passed, enough))
        none (suc n) enough = rw (first, sym is, next) refl

    -- one more
    pub goes : (found : Option (Unit {0})) (mid : List Lexeme) (f : ForAll) (new : List ForAll) (rest : List Lexeme) (scope : Scope) → Reads (the_word (codes "for") left) found mid → is_some found ≡ true
        → scope ≡ with_ranges parameters done → for_all_at scope depth mid ≡ Some (f, rest) → new ≡ done ++ f ∷ [] → Going parameters depth all new rest
    unfolding ranges_behind
    goes None mid f new rest scope first some same next new_is = absurd cc
    goes (Some found) mid f new rest scope first some same next new_is = at going.turns going.enough going.is
      where
        shorter : length rest < length left
        shorter = less depth left mid f rest scope first next

        at : (n : ℕ) → length left ≤ n → ranges_at parameters depth all ≡ ranges_behind parameters depth n done left → Going parameters depth all new rest
        at zero enough is = absurd (omega (arith, shorter, enough))
        at (suc n) enough is = record {
          turns = n;
          enough = omega (arith, shorter, enough);
          is = is ∙ rw (first, sym same, next, new_is) refl;
        }
