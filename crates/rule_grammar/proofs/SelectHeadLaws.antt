-- The head of a selectivity's statement is read as it is spelled, and its two formulas part at the first `per`.
use Rattle.std.proofs.Common.{◌≡◌, ◌↔◌, Bool, true, false, if◌then◌else◌, List, [], ◌∷◌, ◌++◌, Option, Some, None, option_map, refl, sym, ap, ◌∙◌, codes}
use Rattle.std.proofs.lemmas.Option.{some_pair_parts}
use Rattle.star_model.specs.Every.{Every}
use Rattle.star_model.specs.declared.rules.Class.{Class}
use Rattle.spelling.specs.Lexemes.{Lexeme, Word, Number, Text, Symbol, equals}
use Rattle.star_model.specs.FlavourWords.{class_word, class_of_word}
use Rattle.spelling.specs.Reading.{given, a_word, the_word, the_symbol}
use Rattle.spelling.specs.ReadingCases.{then_reads, pass, given_reads}
use Rattle.rule_grammar.specs.SelectHeads.{select_head_at, is_per, parted_at_per}
use Rattle.spelling.proofs.Laws.{a_word_reads, the_word_reads, the_symbol_reads}
use Rattle.rule_grammar.proofs.RuleWordLaws.{class_found, class_named}
use Rattle.star_model.proofs.Laws.{same_are}

-- ---- heads

abbrev head_lexemes : Class → List Lexeme → List Lexeme
head_lexemes c rest = Word (codes "selectivity") ∷ Word (class_word c) ∷ equals ∷ rest

spelled : (lexemes : List Lexeme) (c : Class) (rest : List Lexeme) → select_head_at lexemes ≡ Some (c, rest) → lexemes ≡ head_lexemes c rest
unfolding select_head_at
spelled l0 c rest read =
    pass (the_word (codes "selectivity")) _ l0 c rest read (λ l1 e1 read1.
    then_reads a_word _ l1 c rest read1 (λ word l2 e2 read2.
    then_reads (given (class_of_word word)) _ l2 c rest read2 (λ d l3 e3 read3.
    pass (the_symbol (codes "=")) _ l3 c rest read3 (λ l4 e4 read4.
    let g = given_reads (class_of_word word) l2 d l3 e3 in
    let end = some_pair_parts d c l4 rest read4 in
    let w = sym (class_found word d g.0) in
    (the_word_reads (codes "selectivity") l0 l1).0 e1
    ∙ ap (λ l. Word (codes "selectivity") ∷ l) ((a_word_reads l1 l2 word).0 e2 ∙ (λ i. Word (w i) ∷ g.1 i))
    ∙ ap (λ l. Word (codes "selectivity") ∷ Word (class_word d) ∷ l) ((the_symbol_reads (codes "=") l3 l4).0 e4)
    ∙ (λ i. head_lexemes (end.0 i) (end.1 i))))))

read : (c : Class) (rest : List Lexeme) → select_head_at (head_lexemes c rest) ≡ Some (c, rest)
unfolding select_head_at
read c rest = rw (class_named c) refl

pub select_head_reads : (lexemes : List Lexeme) (c : Class) (rest : List Lexeme)
    → (select_head_at lexemes ≡ Some (c, rest)) ↔ (lexemes ≡ Word (codes "selectivity") ∷ Word (class_word c) ∷ equals ∷ rest)
select_head_reads lexemes c rest = (spelled lexemes c rest, λ is. rw is (read c rest))

-- ---- parts

is_the_word : (lexeme : Lexeme) → is_per lexeme ≡ true → lexeme ≡ Word (codes "per")
is_the_word (Word bytes) is = ap (λ b. Word b) (same_are bytes (codes "per") is)
is_the_word (Number n) is = absurd cc
is_the_word (Text bytes) is = absurd cc
is_the_word (Symbol bytes) is = absurd cc

is_no_per : (lexeme : Lexeme) → (lexeme ≡ Word (codes "per") → ⊥) → is_per lexeme ≡ false
is_no_per lexeme other = at (is_per lexeme) refl
  where
    at : (b : Bool) → is_per lexeme ≡ b → is_per lexeme ≡ false
    at true is = absurd (other (is_the_word lexeme is))
    at false is = is

-- two lists of which the first has no `per`
pub parts_are_found : (num den : List Lexeme) → Every (λ l. l ≡ Word (codes "per") → ⊥) num → parted_at_per (num ++ Word (codes "per") ∷ den) ≡ Some (num, den)
parts_are_found [] den none = refl
parts_are_found (lexeme ∷ later) den none =
    rw (is_no_per lexeme none.0) (ap (λ found. option_map {U = List Lexeme × List Lexeme} (λ (parts : List Lexeme × List Lexeme). (lexeme ∷ parts.0, parts.1)) found) (parts_are_found later den none.1))

pub found_parts : (lexemes num den : List Lexeme) → parted_at_per lexemes ≡ Some (num, den) → lexemes ≡ num ++ Word (codes "per") ∷ den
found_parts [] num den found = absurd cc
found_parts (lexeme ∷ later) num den found = at (is_per lexeme) refl found (λ n d is. found_parts later n d is)
  where
    behind : (parts : Option (List Lexeme × List Lexeme)) → parted_at_per later ≡ parts → option_map {U = List Lexeme × List Lexeme} (λ (p : List Lexeme × List Lexeme). (lexeme ∷ p.0, p.1)) parts ≡ Some (num, den)
        → ((n d : List Lexeme) → parted_at_per later ≡ Some (n, d) → later ≡ n ++ Word (codes "per") ∷ d) → lexeme ∷ later ≡ num ++ Word (codes "per") ∷ den
    behind None is e more = absurd cc
    behind (Some p) is e more =
        let end = some_pair_parts (lexeme ∷ p.0) num p.1 den e in
        ap (λ l. lexeme ∷ l) (more p.0 p.1 is) ∙ (λ i. end.0 i ++ Word (codes "per") ∷ end.1 i)

    at : (b : Bool) → is_per lexeme ≡ b
        → if◌then◌else◌ {A = Option (List Lexeme × List Lexeme)} b (Some ([], later)) (option_map {U = List Lexeme × List Lexeme} (λ (p : List Lexeme × List Lexeme). (lexeme ∷ p.0, p.1)) (parted_at_per later)) ≡ Some (num, den)
        → ((n d : List Lexeme) → parted_at_per later ≡ Some (n, d) → later ≡ n ++ Word (codes "per") ∷ d) → lexeme ∷ later ≡ num ++ Word (codes "per") ∷ den
    at true is e more =
        let end = some_pair_parts [] num later den e in
        ap (λ l. l ∷ later) (is_the_word lexeme is) ∙ (λ i. end.0 i ++ Word (codes "per") ∷ end.1 i)
    at false is e more = behind (parted_at_per later) refl e more
