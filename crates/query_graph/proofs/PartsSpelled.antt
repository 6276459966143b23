-- What the readers of the parts of a query read is spelled.
use Rattle.std.proofs.Common.{◌≡◌, ℕ, Bool, true, false, List, ◌∷◌, ◌++◌, Option, Some, None, refl, ap, sym, ◌∙◌, codes}
use Rattle.std.specs.Prelude.{if◌then◌else◌}
use Rattle.std.proofs.lemmas.Option.{some_pair_parts}
use Rattle.star_model.specs.declared.query.Cmp.{Cmp}
use Rattle.star_model.specs.declared.query.Cmp.TheVariants as cmp
use Rattle.spelling.specs.Lexemes.{Lexeme, Word, Number, Text, Symbol, dot}
use Rattle.star_model.specs.Names.{is_among}
use Rattle.query_graph.specs.Queries.{ColumnName, Item, Whole, Negative, Quoted, Side, OfColumn, OfConstant, Comparison, column_lexemes, own_name, item_lexemes, cmp_lexeme, side_lexemes, comparison_lexemes, reserved_in_queries, IsFree, IsFreeIfAny, HasFreeQuantifier, HasFreeNames, IsFreeSide, ComparesFree}
use Rattle.spelling.specs.Reading.{pure, the_symbol, a_word, a_number, a_text}
use Rattle.spelling.specs.ReadingCases.{pass, choose}
use Rattle.spelling.proofs.Laws.{then_reads, the_symbol_reads, a_word_reads, a_number_reads, a_text_reads}
use Rattle.query_graph.specs.StatementReading.{free, free_word, column_at, own_name_at, item_at, cmp_at, negative_at, column_side_at, side_at, comparison_at}

free_parts : (name : List ℕ) (lexemes : List Lexeme) (found : List ℕ) (rest : List Lexeme) → free name lexemes ≡ Some (found, rest) → IsFree name × (name ≡ found) × (lexemes ≡ rest)
free_parts name lexemes found rest = at (is_among reserved_in_queries name) refl
  where
    at : (test : Bool) → is_among reserved_in_queries name ≡ test → if◌then◌else◌ {A = Option (List ℕ × List Lexeme)} test None (Some (name, lexemes)) ≡ Some (found, rest) → IsFree name × (name ≡ found) × (lexemes ≡ rest)
    at true is read = absurd cc
    at false is read = let parts = some_pair_parts name found lexemes rest read in (is, parts.0, parts.1)

pub free_spelled : (lexemes : List Lexeme) (name : List ℕ) (rest : List Lexeme) → free_word lexemes ≡ Some (name, rest) → (lexemes ≡ Word name ∷ rest) × IsFree name
unfolding free_word
free_spelled l0 name rest read =
    then_reads a_word free l0 name rest read (λ word l1 e1 read1.
    let parts = free_parts word l1 name rest read1 in
    ((a_word_reads l0 l1 word).0 e1 ∙ ap (λ w. Word w ∷ l1) parts.1 ∙ ap (λ l. Word name ∷ l) parts.2, rw (sym parts.1) parts.0))

pub column_spelled : (lexemes : List Lexeme) (c : ColumnName) (rest : List Lexeme) → column_at lexemes ≡ Some (c, rest) → (lexemes ≡ column_lexemes c ++ rest) × HasFreeQuantifier c
unfolding column_at
column_spelled l0 c rest read =
    then_reads free_word _ l0 c rest read (λ quantifier l1 e1 read1.
    pass (the_symbol (codes ".")) _ l1 c rest read1 (λ l2 e2 read2.
    then_reads a_word _ l2 c rest read2 (λ column l3 e3 read3.
    let end = some_pair_parts _ c l3 rest read3 in
    let first = free_spelled l0 quantifier l1 e1 in
    rw (sym end.0) (
      first.0 ∙ ap (λ l. Word quantifier ∷ l) ((the_symbol_reads (codes ".") l1 l2).0 e2 ∙ ap (λ l. dot ∷ l) ((a_word_reads l2 l3 column).0 e3 ∙ ap (λ l. Word column ∷ l) end.1)),
      first.1,
    ))))

own_name_spelled : (lexemes : List Lexeme) (name : Option (List ℕ)) (rest : List Lexeme) → own_name_at lexemes ≡ Some (name, rest) → (lexemes ≡ own_name name ++ rest) × IsFreeIfAny name
unfolding own_name_at
own_name_spelled l0 name rest read =
    choose free_word _ _ l0 name rest read
    (λ word l1 e1 read1.
    let end = some_pair_parts (Some word) name l1 rest read1 in
    let first = free_spelled l0 word l1 e1 in
    rw (sym end.0) (first.0 ∙ ap (λ l. Word word ∷ l) end.1, first.1))
    (λ read1. let end = some_pair_parts None name l0 rest read1 in rw (sym end.0) (end.1, tt))

pub item_spelled : (lexemes : List Lexeme) (x : Item) (rest : List Lexeme) → item_at lexemes ≡ Some (x, rest) → (lexemes ≡ item_lexemes x ++ rest) × HasFreeNames x
unfolding item_at
item_spelled l0 x rest read =
    then_reads free_word _ l0 x rest read (λ table l1 e1 read1.
    then_reads own_name_at _ l1 x rest read1 (λ name l2 e2 read2.
    let end = some_pair_parts _ x l2 rest read2 in
    let first = free_spelled l0 table l1 e1 in
    let second = own_name_spelled l1 name l2 e2 in
    rw (sym end.0) (first.0 ∙ ap (λ l. Word table ∷ l) (second.0 ∙ ap (λ l. own_name name ++ l) end.1), (first.1, second.1))))

cmp_spelled : (lexemes : List Lexeme) (x : Cmp) (rest : List Lexeme) → cmp_at lexemes ≡ Some (x, rest) → lexemes ≡ cmp_lexeme x ∷ rest
unfolding cmp_at
cmp_spelled l0 x rest read =
    choose (the_symbol (codes "=")) _ _ l0 x rest read (λ _. there (codes "=") cmp.Eq refl) (λ read.
    choose (the_symbol (codes "<>")) _ _ l0 x rest read (λ _. there (codes "<>") cmp.Ne refl) (λ read.
    choose (the_symbol (codes "<")) _ _ l0 x rest read (λ _. there (codes "<") cmp.Lt refl) (λ read.
    choose (the_symbol (codes "<=")) _ _ l0 x rest read (λ _. there (codes "<=") cmp.Le refl) (λ read.
    choose (the_symbol (codes ">")) _ _ l0 x rest read (λ _. there (codes ">") cmp.Gt refl) (λ read.
    choose (the_symbol (codes ">=")) _ _ l0 x rest read (λ _. there (codes ">=") cmp.Ge refl) (λ read. absurd cc))))))
  where
    there : (bytes : List ℕ) (y : Cmp) → Symbol bytes ≡ cmp_lexeme y → (left : List Lexeme) → the_symbol bytes l0 ≡ Some (tt, left) → pure y left ≡ Some (x, rest) → l0 ≡ cmp_lexeme x ∷ rest
    there bytes y is left e end =
        let parts = some_pair_parts y x left rest end in
        (the_symbol_reads bytes l0 left).0 e ∙ ap (λ s. s ∷ left) is ∙ ap (λ z. cmp_lexeme z ∷ left) parts.0 ∙ ap (λ l. cmp_lexeme x ∷ l) parts.1

side_spelled : (lexemes : List Lexeme) (x : Side) (rest : List Lexeme) → side_at lexemes ≡ Some (x, rest) → (lexemes ≡ side_lexemes x ++ rest) × IsFreeSide x
unfolding side_at negative_at column_side_at
side_spelled l0 x rest read =
    choose (the_symbol (codes "-")) _ _ l0 x rest read
    (λ _ l1 e1 read1.
    then_reads a_number _ l1 x rest read1 (λ n l2 e2 read2.
    let end = some_pair_parts (OfConstant (Negative n)) x l2 rest read2 in
    rw (sym end.0) ((the_symbol_reads (codes "-") l0 l1).0 e1 ∙ ap (λ l. Symbol (codes "-") ∷ l) ((a_number_reads l1 l2 n).0 e2 ∙ ap (λ l. Number n ∷ l) end.1), tt)))
    (λ read.
    choose a_number _ _ l0 x rest read
    (λ n l1 e1 read1.
    let end = some_pair_parts (OfConstant (Whole n)) x l1 rest read1 in
    rw (sym end.0) ((a_number_reads l0 l1 n).0 e1 ∙ ap (λ l. Number n ∷ l) end.1, tt))
    (λ read.
    choose a_text _ _ l0 x rest read
    (λ bytes l1 e1 read1.
    let end = some_pair_parts (OfConstant (Quoted bytes)) x l1 rest read1 in
    rw (sym end.0) ((a_text_reads l0 l1 bytes).0 e1 ∙ ap (λ l. Text bytes ∷ l) end.1, tt))
    (λ read.
    then_reads column_at _ l0 x rest read (λ c l1 e1 read1.
    let end = some_pair_parts (OfColumn c) x l1 rest read1 in
    let first = column_spelled l0 c l1 e1 in
    rw (sym end.0) (first.0 ∙ ap (λ l. column_lexemes c ++ l) end.1, first.1)))))

pub comparison_spelled : (lexemes : List Lexeme) (x : Comparison) (rest : List Lexeme) → comparison_at lexemes ≡ Some (x, rest) → (lexemes ≡ comparison_lexemes x ++ rest) × ComparesFree x
unfolding comparison_at
comparison_spelled l0 x rest read =
    then_reads column_at _ l0 x rest read (λ left l1 e1 read1.
    then_reads cmp_at _ l1 x rest read1 (λ cmp l2 e2 read2.
    then_reads side_at _ l2 x rest read2 (λ right l3 e3 read3.
    let end = some_pair_parts _ x l3 rest read3 in
    let first = column_spelled l0 left l1 e1 in
    let third = side_spelled l2 right l3 e3 in
    rw (sym end.0) (
      first.0 ∙ ap (λ l. column_lexemes left ++ l) (cmp_spelled l1 cmp l2 e2 ∙ ap (λ l. cmp_lexeme cmp ∷ l) (third.0 ∙ ap (λ l. side_lexemes right ++ l) end.1)),
      (first.1, third.1),
    ))))
