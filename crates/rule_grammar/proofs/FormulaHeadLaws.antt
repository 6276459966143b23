-- The head of a formula's statement is read as it is spelled.
use Rattle.std.proofs.Common.{◌≡◌, ◌↔◌, ℕ, Bool, true, false, if◌then◌else◌, List, ◌∷◌, Some, None, refl, sym, ap, ◌∙◌, codes, subst}
use Rattle.std.proofs.lemmas.Option.{some_pair_parts}
use Rattle.star_model.specs.Vectors.{same_numbers}
use Rattle.star_model.specs.declared.rules.Which.{Which}
use Rattle.star_model.specs.declared.rules.Which.TheVariants as which
use Rattle.spelling.specs.Lexemes.{Lexeme, Word, equals}
use Rattle.star_model.specs.FlavourWords.{which_word, flavour_word, is_flavour_of, flavour_in}
use Rattle.spelling.specs.Reading.{given, a_word, the_symbol}
use Rattle.spelling.specs.ReadingCases.{then_reads, pass, given_reads}
use Rattle.rule_grammar.specs.FormulaHeads.{which_of, FormulaHead, formula_head_at}
use Rattle.spelling.proofs.Laws.{a_word_reads, the_symbol_reads}
use Rattle.rule_grammar.proofs.RuleWordLaws.{flavour_found, flavour_named}
use Rattle.star_model.proofs.Laws.{same_are}

which_named : (which : Which) → which_of (which_word which) ≡ Some which
unfolding which_of
which_named which.Cost = refl
which_named which.Rescan = refl

which_found : (word : List ℕ) (found : Which) → which_of word ≡ Some found → which_word found ≡ word
unfolding which_of
which_found word found is = at (same_numbers word (codes "cost")) (same_numbers word (codes "rescan")) refl refl is
  where
    at : (a b : Bool) → same_numbers word (codes "cost") ≡ a → same_numbers word (codes "rescan") ≡ b
        → (if a then Some which.Cost else if b then Some which.Rescan else None) ≡ Some found → which_word found ≡ word
    at true b first second e = let same : which.Cost ≡ found = cc in ap which_word (sym same) ∙ sym (same_are word (codes "cost") first)
    at false true first second e = let same : which.Rescan ≡ found = cc in ap which_word (sym same) ∙ sym (same_are word (codes "rescan") second)
    at false false first second e = absurd cc

abbrev head_lexemes : FormulaHead → List Lexeme → List Lexeme
head_lexemes head rest = Word (which_word head.which) ∷ Word (flavour_word head.flavour) ∷ equals ∷ rest

spelled : (version : ℕ) (lexemes : List Lexeme) (head : FormulaHead) (rest : List Lexeme) → formula_head_at version lexemes ≡ Some (head, rest)
    → (is_flavour_of version head.flavour ≡ true) × (lexemes ≡ head_lexemes head rest)
unfolding formula_head_at
spelled version l0 head rest read =
    then_reads a_word _ l0 head rest read (λ first l1 e1 read1.
    then_reads (given (which_of first)) _ l1 head rest read1 (λ which l2 e2 read2.
    then_reads a_word _ l2 head rest read2 (λ second l3 e3 read3.
    then_reads (given (flavour_in version second)) _ l3 head rest read3 (λ flavour l4 e4 read4.
    pass (the_symbol (codes "=")) _ l4 head rest read4 (λ l5 e5 read5.
    let found : FormulaHead = record { which = which; flavour = flavour } in
    let g2 = given_reads (which_of first) l1 which l2 e2 in
    let g4 = given_reads (flavour_in version second) l3 flavour l4 e4 in
    let end = some_pair_parts found head l5 rest read5 in
    let w = sym (which_found first which g2.0) in
    let named = flavour_found version second flavour g4.0 in
    let f = sym named.0 in
    let are =
    (a_word_reads l0 l1 first).0 e1 ∙ (λ i. Word (w i) ∷ g2.1 i)
    ∙ ap (λ l. Word (which_word which) ∷ l) ((a_word_reads l2 l3 second).0 e3 ∙ (λ i. Word (f i) ∷ g4.1 i))
    ∙ ap (λ l. Word (which_word which) ∷ Word (flavour_word flavour) ∷ l) ((the_symbol_reads (codes "=") l4 l5).0 e5)
    ∙ (λ i. head_lexemes (end.0 i) (end.1 i)) in
    (subst (λ (h : FormulaHead). is_flavour_of version h.flavour ≡ true) end.0 named.1, are))))))

read : (version : ℕ) (head : FormulaHead) (rest : List Lexeme) → is_flavour_of version head.flavour ≡ true → formula_head_at version (head_lexemes head rest) ≡ Some (head, rest)
unfolding formula_head_at
read version head rest known = rw (which_named head.which, flavour_named version head.flavour known) refl

pub formula_head_reads : (version : ℕ) (lexemes : List Lexeme) (head : FormulaHead) (rest : List Lexeme)
    → (formula_head_at version lexemes ≡ Some (head, rest)) ↔ (is_flavour_of version head.flavour ≡ true) × (lexemes ≡ Word (which_word head.which) ∷ Word (flavour_word head.flavour) ∷ equals ∷ rest)
formula_head_reads version lexemes head rest = (spelled version lexemes head rest, λ is. rw is.1 (read version head rest is.0))
