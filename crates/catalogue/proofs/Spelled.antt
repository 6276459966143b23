-- What is read is spelled.
use Rattle.std.proofs.Common.{◌≡◌, ℕ, Bool, true, false, List, [], ◌∷◌, ◌++◌, map, Option, Some, refl, ap, sym, ◌∙◌, append_assoc, codes, subst}
use Rattle.std.proofs.lemmas.Option.{some_pair_parts}
use Rattle.star_model.specs.declared.catalogue.ColType.{ColType}
use Rattle.star_model.specs.declared.catalogue.ColType.TheVariants as type
use Rattle.star_model.specs.Vectors.{same_numbers}
use Rattle.spelling.specs.Lexemes.{Lexeme, Word, Number, Text, comma, left_bracket, right_bracket, joined_by, bracketed}
use Rattle.star_model.specs.Every.{HasItem, Every}
use Rattle.catalogue.specs.Catalogues as statement
use Rattle.catalogue.specs.Catalogues.{CatalogueStatement, column_lexemes, name_lexemes, catalogue_lexemes, type_word, HasColumns}
use Rattle.spelling.specs.Reading.{Reader, ◌>>=◌, pure, given, the_word, the_symbol, a_word, a_number, a_text}
use Rattle.spelling.specs.ReadingCases.{given_reads}
use Rattle.spelling.specs.SeriesReadingCases.{Spells, series_spelled}
use Rattle.spelling.proofs.Laws.{the_word_reads, the_symbol_reads, a_word_reads, a_number_reads, a_text_reads, then_reads}
use Rattle.catalogue.specs.declared.words.SiteWords.{SiteWords}
use Rattle.catalogue.specs.declared.words.ColumnWords.{ColumnWords}
use Rattle.catalogue.specs.declared.words.TableWords.{TableWords}
use Rattle.catalogue.specs.declared.words.IndexWords.{IndexWords}
use Rattle.catalogue.specs.declared.words.StatementWords.{StatementWords}
use Rattle.catalogue.specs.declared.words.StatementWords.TheVariants.{Site, Table, Index}
use Rattle.catalogue.specs.Words.{site_of, column_of, table_of, index_of, said}
use Rattle.catalogue.specs.Reading.{items_at, site_at, type_named, column_at, table_at, index_at, behind, statement_at}
use Rattle.star_model.proofs.Laws.{same_are}

-- what a reader reads stands at the front, as it is spelled
abbrev pub Sound : {A : Type 0} → Reader A → (A → List Lexeme) → Type 0
Sound read spell = Spells read spell (λ _. Unit {0})

pub name_spelled : Sound a_word name_lexemes
name_spelled lexemes name rest read = ((a_word_reads lexemes rest name).0 read, tt)

-- ---- columns

type_is : (word : List ℕ) (kind : ColType) → type_named word ≡ Some kind → word ≡ type_word kind
type_is word kind named = at_tests (same_numbers word (codes "int")) (same_numbers word (codes "text")) refl refl
  where
    at_tests : (a b : Bool) → same_numbers word (codes "int") ≡ a → same_numbers word (codes "text") ≡ b → word ≡ type_word kind
    at_tests true b first second = int_is kind (rw first at named)
      where
        int_is : (k : ColType) → Some type.Int ≡ Some k → word ≡ type_word k
        int_is type.Int e = same_are word (codes "int") first
        int_is type.Text e = absurd cc
    at_tests false true first second = text_is kind (rw (first, second) at named)
      where
        text_is : (k : ColType) → Some type.Text ≡ Some k → word ≡ type_word k
        text_is type.Int e = absurd cc
        text_is type.Text e = same_are word (codes "text") second
    at_tests false false first second = let none = rw (first, second) at named in absurd cc

given_same : (word : List ℕ) (kind : ColType) (lexemes left : List Lexeme) → given (type_named word) lexemes ≡ Some (kind, left) → (word ≡ type_word kind) × (lexemes ≡ left)
given_same word kind lexemes left read = let parts = given_reads (type_named word) lexemes kind left read in (type_is word kind parts.0, parts.1)

abbrev pub spelled_column : ColumnWords → List Lexeme
spelled_column c = column_lexemes (column_of c)

pub column_spelled : Sound column_at spelled_column
unfolding column_at
column_spelled l0 c rest read =
    then_reads a_word _ l0 c rest read (λ name l1 e1 read1.
    then_reads a_word _ l1 c rest read1 (λ word l2 e2 read2.
    then_reads (given (type_named word)) _ l2 c rest read2 (λ kind l3 e3 read3.
    then_reads (the_word (codes "width")) _ l3 c rest read3 (λ _ l4 e4 read4.
    then_reads a_number _ l4 c rest read4 (λ width l5 e5 read5.
    then_reads (the_word (codes "distinct")) _ l5 c rest read5 (λ _ l6 e6 read6.
    then_reads a_number _ l6 c rest read6 (λ distinct l7 e7 read7.
    let «end» = some_pair_parts _ c l7 rest read7 in (
      (a_word_reads l0 l1 name).0 e1
          ∙ ap (λ l. Word name ∷ l) ((a_word_reads l1 l2 word).0 e2 ∙ ap (λ l. Word word ∷ l) (given_same word kind l2 l3 e3).1 ∙ ap (λ b. Word b ∷ l3) (given_same word kind l2 l3 e3).0
          ∙ ap (λ l. Word (type_word kind) ∷ l) ((the_word_reads (codes "width") l3 l4).0 e4
          ∙ ap (λ l. Word (codes "width") ∷ l) ((a_number_reads l4 l5 width).0 e5
          ∙ ap (λ l. Number width ∷ l) ((the_word_reads (codes "distinct") l5 l6).0 e6
          ∙ ap (λ l. Word (codes "distinct") ∷ l) ((a_number_reads l6 l7 distinct).0 e7)))))
          ∙ ap (λ (p : ColumnWords). spelled_column p ++ l7) «end».0 ∙ ap (λ l. spelled_column c ++ l) «end».1,
      tt,
    ))))))))

items_spelled : {A : Type 0} (item : Reader A) (spell : A → List Lexeme) → Sound item spell → (lexemes : List Lexeme) (xs : List A) (rest : List Lexeme)
    → items_at item lexemes ≡ Some (xs, rest) → (lexemes ≡ joined_by comma (map spell xs) ++ rest) × HasItem xs × Every (λ _. Unit {0}) xs
unfolding items_at
items_spelled item spell sound = series_spelled item spell (λ _. Unit {0}) (the_symbol (codes ",")) comma (the_symbol_reads (codes ",")) sound

-- ---- statements

-- behind the word, what the statement has stands at the front
pub record StandsBehind (word : List ℕ) (lexemes rest : List Lexeme) (s : CatalogueStatement) : Type 0 where
  pub are : Word word ∷ lexemes ≡ catalogue_lexemes s ++ rest
  pub columns : HasColumns s

abbrev SoundBehind : {A : Type 0} → List ℕ → Reader A → (A → CatalogueStatement) → Type 0
SoundBehind {A} word read say = (lexemes rest : List Lexeme) (x : A) → read lexemes ≡ Some (x, rest) → StandsBehind word lexemes rest (say x)

-- where all was read, and `pure` gives it
at_end : {A : Type 0} (word : List ℕ) (lexemes left rest : List Lexeme) (say : A → CatalogueStatement) (found x : A) → ◌≡◌ {A = Option (A × List Lexeme)} (Some (found, left)) (Some (x, rest))
    → StandsBehind word lexemes left (say found) → StandsBehind word lexemes rest (say x)
at_end {A} word lexemes left rest say found x read stands =
    let same = some_pair_parts found x left rest read in
    subst (λ (y : A). StandsBehind word lexemes rest (say y)) same.0 (subst (λ r. StandsBehind word lexemes r (say found)) same.1 stands)

site_spelled : SoundBehind (codes "site") site_at (λ s. statement.Site (site_of s))
unfolding site_at
site_spelled l0 rest s read =
    then_reads a_word _ l0 s rest read (λ name l1 e1 read1.
    then_reads (the_word (codes "cpu")) _ l1 s rest read1 (λ _ l2 e2 read2.
    then_reads a_number _ l2 s rest read2 (λ cpu l3 e3 read3.
    then_reads (the_word (codes "net")) _ l3 s rest read3 (λ _ l4 e4 read4.
    then_reads a_number _ l4 s rest read4 (λ net l5 e5 read5.
    at_end (codes "site") l0 l5 rest (λ (p : SiteWords). statement.Site (site_of p)) _ s read5 (record {
      are = ap (λ l. Word (codes "site") ∷ l) ((a_word_reads l0 l1 name).0 e1
          ∙ ap (λ l. Word name ∷ l) ((the_word_reads (codes "cpu") l1 l2).0 e2
          ∙ ap (λ l. Word (codes "cpu") ∷ l) ((a_number_reads l2 l3 cpu).0 e3
          ∙ ap (λ l. Number cpu ∷ l) ((the_word_reads (codes "net") l3 l4).0 e4
          ∙ ap (λ l. Word (codes "net") ∷ l) ((a_number_reads l4 l5 net).0 e5)))));
      columns = tt;
    }))))))

columns_are : (cs : List ColumnWords) → map spelled_column cs ≡ map column_lexemes (map column_of cs)
columns_are [] = refl
columns_are (c ∷ cs) = ap (λ l. spelled_column c ∷ l) (columns_are cs)

some_columns : (cs : List ColumnWords) → HasItem cs → HasItem (map column_of cs)
some_columns [] none = none
some_columns (c ∷ cs) some = tt

-- a list between brackets
in_brackets : (lexemes l0 l1 rest inside : List Lexeme) → the_symbol (codes "(") lexemes ≡ Some (tt, l0) → l0 ≡ inside ++ l1 → the_symbol (codes ")") l1 ≡ Some (tt, rest)
    → lexemes ≡ bracketed inside ++ rest
in_brackets lexemes l0 l1 rest inside opened are closed =
    (the_symbol_reads (codes "(") lexemes l0).0 opened
    ∙ ap (λ l. left_bracket ∷ l) (are ∙ ap (λ l. inside ++ l) ((the_symbol_reads (codes ")") l1 rest).0 closed) ∙ sym (append_assoc inside (right_bracket ∷ []) rest))

table_spelled : SoundBehind (codes "table") table_at (λ t. statement.Table (table_of t))
unfolding table_at
table_spelled l0 rest t read =
    then_reads a_word _ l0 t rest read (λ name l1 e1 read1.
    then_reads (the_word (codes "at")) _ l1 t rest read1 (λ _ l2 e2 read2.
    then_reads a_word _ l2 t rest read2 (λ site l3 e3 read3.
    then_reads (the_word (codes "rows")) _ l3 t rest read3 (λ _ l4 e4 read4.
    then_reads a_number _ l4 t rest read4 (λ rows l5 e5 read5.
    then_reads (the_word (codes "pages")) _ l5 t rest read5 (λ _ l6 e6 read6.
    then_reads a_number _ l6 t rest read6 (λ pages l7 e7 read7.
    then_reads (the_word (codes "file")) _ l7 t rest read7 (λ _ l8 e8 read8.
    then_reads a_text _ l8 t rest read8 (λ file l9 e9 read9.
    then_reads (the_symbol (codes "(")) _ l9 t rest read9 (λ _ l10 e10 read10.
    then_reads (items_at column_at) _ l10 t rest read10 (λ columns l11 e11 read11.
    then_reads (the_symbol (codes ")")) _ l11 t rest read11 (λ _ l12 e12 read12.
    let list = items_spelled column_at spelled_column column_spelled l10 columns l11 e11 in
    let inside = joined_by comma (map column_lexemes (map column_of columns)) in
    at_end (codes "table") l0 l12 rest (λ (p : TableWords). statement.Table (table_of p)) _ t read12 (record {
      are = ap (λ l. Word (codes "table") ∷ l) ((a_word_reads l0 l1 name).0 e1
          ∙ ap (λ l. Word name ∷ l) ((the_word_reads (codes "at") l1 l2).0 e2
          ∙ ap (λ l. Word (codes "at") ∷ l) ((a_word_reads l2 l3 site).0 e3
          ∙ ap (λ l. Word site ∷ l) ((the_word_reads (codes "rows") l3 l4).0 e4
          ∙ ap (λ l. Word (codes "rows") ∷ l) ((a_number_reads l4 l5 rows).0 e5
          ∙ ap (λ l. Number rows ∷ l) ((the_word_reads (codes "pages") l5 l6).0 e6
          ∙ ap (λ l. Word (codes "pages") ∷ l) ((a_number_reads l6 l7 pages).0 e7
          ∙ ap (λ l. Number pages ∷ l) ((the_word_reads (codes "file") l7 l8).0 e8
          ∙ ap (λ l. Word (codes "file") ∷ l) ((a_text_reads l8 l9 file).0 e9
          ∙ ap (λ l. Text file ∷ l) (in_brackets l9 l10 l11 l12 inside e10 (list.0 ∙ ap (λ l. joined_by comma l ++ l11) (columns_are columns)) e12))))))))));
      columns = some_columns columns list.1;
    })))))))))))))

index_spelled : SoundBehind (codes "index") index_at (λ i. statement.Index (index_of i))
unfolding index_at
index_spelled l0 rest i read =
    then_reads a_word _ l0 i rest read (λ name l1 e1 read1.
    then_reads (the_word (codes "on")) _ l1 i rest read1 (λ _ l2 e2 read2.
    then_reads a_word _ l2 i rest read2 (λ table l3 e3 read3.
    then_reads (the_symbol (codes "(")) _ l3 i rest read3 (λ _ l4 e4 read4.
    then_reads (items_at a_word) _ l4 i rest read4 (λ columns l5 e5 read5.
    then_reads (the_symbol (codes ")")) _ l5 i rest read5 (λ _ l6 e6 read6.
    then_reads (the_word (codes "pages")) _ l6 i rest read6 (λ _ l7 e7 read7.
    then_reads a_number _ l7 i rest read7 (λ pages l8 e8 read8.
    let list = items_spelled a_word name_lexemes name_spelled l4 columns l5 e5 in
    let inside = bracketed (joined_by comma (map name_lexemes columns)) in
    at_end (codes "index") l0 l8 rest (λ (p : IndexWords). statement.Index (index_of p)) _ i read8 (record {
      are = ap (λ l. Word (codes "index") ∷ l) ((a_word_reads l0 l1 name).0 e1
          ∙ ap (λ l. Word name ∷ l) ((the_word_reads (codes "on") l1 l2).0 e2
          ∙ ap (λ l. Word (codes "on") ∷ l) ((a_word_reads l2 l3 table).0 e3
          ∙ ap (λ l. Word table ∷ l) (in_brackets l3 l4 l5 l6 (joined_by comma (map name_lexemes columns)) e4 list.0 e6
          ∙ ap (λ l. inside ++ l) ((the_word_reads (codes "pages") l6 l7).0 e7
          ∙ ap (λ l. Word (codes "pages") ∷ l) ((a_number_reads l7 l8 pages).0 e8))
          ∙ sym (append_assoc inside (Word (codes "pages") ∷ Number pages ∷ []) l8)))));
      columns = list.1;
    })))))))))

-- a statement behind its first word
behind_spelled : (word : List ℕ) → SoundBehind word (behind word) said
behind_spelled word lexemes rest words read = at_tests (same_numbers word (codes "site")) (same_numbers word (codes "table")) (same_numbers word (codes "index")) refl refl refl
  where
    of_kind : {A : Type 0} (this : List ℕ) (reads : Reader A) (make : A → StatementWords) → same_numbers word this ≡ true → SoundBehind this reads (λ x. said (make x))
        → (reads >>= (λ x. pure (make x))) lexemes ≡ Some (words, rest) → StandsBehind word lexemes rest (said words)
    of_kind this reads make is sound found =
        then_reads reads (λ x. pure (make x)) lexemes words rest found (λ x left e last.
        at_end word lexemes left rest said (make x) words last (rw (same_are word this is) (sound lexemes left x e)))

    at_tests : (a b c : Bool) → same_numbers word (codes "site") ≡ a → same_numbers word (codes "table") ≡ b → same_numbers word (codes "index") ≡ c → StandsBehind word lexemes rest (said words)
    at_tests true b c p q r = of_kind (codes "site") site_at Site p site_spelled (rw p at read)
    at_tests false true c p q r = of_kind (codes "table") table_at Table q table_spelled (rw (p, q) at read)
    at_tests false false true p q r = of_kind (codes "index") index_at Index r index_spelled (rw (p, q, r) at read)
    at_tests false false false p q r = let none = rw (p, q, r) at read in absurd cc

-- what a statement is read as stands at the front
pub record Stands (lexemes rest : List Lexeme) (s : CatalogueStatement) : Type 0 where
  pub are : lexemes ≡ catalogue_lexemes s ++ rest
  pub columns : HasColumns s

pub statement_spelled : (lexemes rest : List Lexeme) (words : StatementWords) → statement_at lexemes ≡ Some (words, rest) → Stands lexemes rest (said words)
unfolding statement_at
statement_spelled lexemes rest words read =
    then_reads a_word _ lexemes words rest read (λ word left e more.
    let stands = behind_spelled word left rest words more in
    record { are = (a_word_reads lexemes left word).0 e ∙ stands.are; columns = stands.columns })
