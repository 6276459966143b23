-- What is spelled is read, thus understood.
use Rattle.std.proofs.Common.{◌≡◌, ◌+◌, ℕ, List, [], ◌∷◌, ◌++◌, length, map, Option, Some, None, refl, ap, sym, ◌∙◌, append_assoc, codes, arith, subst, Ok, Err, true, false}
use Rattle.std.proofs.lemmas.List.{length-map, append-nil}
use Rattle.std.proofs.lemmas.Option.{some_pair_parts}
use Rattle.star_model.specs.declared.catalogue.ColType.{ColType}
use Rattle.star_model.specs.declared.catalogue.ColType.TheVariants as type
use Rattle.star_model.specs.declared.catalogue.ColumnDef.{ColumnDef}
use Rattle.spelling.specs.Lexemes.{Lexeme, Word, Number, MaybeEnded, ended, statements_in, comma, right_bracket, joined_by}
use Rattle.star_model.specs.Every.{HasItem, Every}
use Rattle.spelling.specs.Cursors.{part_said}
use Rattle.spelling.specs.Firsts.{NoneFrom}
use Rattle.spelling.specs.FirstsCases.{first_is_new, first_stays}
use Rattle.spelling.specs.Syntax.{IsUnderstood, IsStrangeAt}
use Rattle.catalogue.specs.Catalogues.{CatalogueStatement, column_lexemes, name_lexemes, catalogue_lexemes, type_word, HasColumns, SpellsCatalogueStatement}
use Rattle.catalogue.specs.Catalogues as statement
use Rattle.spelling.specs.Reading.{Reader, the_symbol, a_word}
use Rattle.catalogue.specs.declared.words.ColumnWords.{ColumnWords}
use Rattle.catalogue.specs.declared.words.StatementWords.{StatementWords}
use Rattle.catalogue.specs.declared.words.StatementWords.TheVariants.{Site, Table, Index}
use Rattle.catalogue.specs.Words.{column_of, said}
use Rattle.spelling.specs.declared.unread.Unread.{Unread}
use Rattle.spelling.specs.declared.unread.Unread.TheVariants.{Strange, Memory}
use Rattle.catalogue.specs.Statements.{StatementRead}
use Rattle.catalogue.specs.Reading.{items_at, site_at, type_named, column_at, table_at, index_at, statement_at}
use Rattle.spelling.specs.Answers.{Answers}
use Rattle.spelling.specs.SeriesReadingCases.{IsRead, series_read}
use Rattle.spelling.proofs.Laws.{the_symbol_reads}
use Rattle.sb_text.specs.Statements.{Part}
use Rattle.catalogue.proofs.Spelled.{statement_spelled}

-- what is spelled at the front is read
abbrev Complete : {A : Type 0} → Reader A → (A → List Lexeme) → Type 0
Complete read spell = IsRead read spell (λ _. Unit {0}) (λ _. Unit {0})

name_read : Complete a_word name_lexemes
name_read name rest _ _ = refl

-- ---- the words of a statement

abbrev words_of_column : ColumnDef → ColumnWords
words_of_column c = record { name = c.name; kind = c.kind; width = c.width; distinct = c.distinct }

type_read : (kind : ColType) → type_named (type_word kind) ≡ Some kind
type_read type.Int = refl
type_read type.Text = refl

column_read : Complete column_at (λ c. column_lexemes (column_of c))
unfolding column_at
column_read c rest _ _ = rw (type_read c.kind) refl

-- ---- lists

anything : {A : Type 0} (xs : List A) → Every (λ _. Unit {0}) xs
anything [] = tt
anything (x ∷ xs) = (tt, anything xs)

items_read : {A : Type 0} (item : Reader A) (spell : A → List Lexeme) → Complete item spell → (xs : List A) (rest : List Lexeme) → HasItem xs
    → the_symbol (codes ",") rest ≡ None → items_at item (joined_by comma (map spell xs) ++ rest) ≡ Some (xs, rest)
unfolding items_at
items_read item spell complete xs rest some none =
    series_read item spell (λ _. Unit {0}) (the_symbol (codes ",")) comma (the_symbol_reads (codes ",")) (λ _. Unit {0}) complete (λ _. tt) xs rest some (anything xs) tt none

columns_back : (cs : List ColumnDef) → map column_of (map words_of_column cs) ≡ cs
columns_back [] = refl
columns_back (c ∷ cs) = ap (λ l. c ∷ l) (columns_back cs)

columns_spelled : (cs : List ColumnDef) → map (λ c. column_lexemes (column_of c)) (map words_of_column cs) ≡ map column_lexemes cs
columns_spelled [] = refl
columns_spelled (c ∷ cs) = ap (λ l. column_lexemes c ∷ l) (columns_spelled cs)

some_words : (cs : List ColumnDef) → HasItem cs → HasItem (map words_of_column cs)
some_words [] none = none
some_words (c ∷ cs) some = tt

columns_read : (cs : List ColumnDef) (rest : List Lexeme) → HasItem cs
    → items_at column_at (joined_by comma (map column_lexemes cs) ++ right_bracket ∷ rest) ≡ Some (map words_of_column cs, right_bracket ∷ rest)
columns_read cs rest some =
    subst (λ (l : List (List Lexeme)). items_at column_at (joined_by comma l ++ right_bracket ∷ rest) ≡ Some (map words_of_column cs, right_bracket ∷ rest)) (columns_spelled cs)
    (items_read column_at (λ c. column_lexemes (column_of c)) column_read (map words_of_column cs) (right_bracket ∷ rest) (some_words cs some) refl)

names_read : (names : List (List ℕ)) (rest : List Lexeme) → HasItem names
    → items_at a_word (joined_by comma (map name_lexemes names) ++ right_bracket ∷ rest) ≡ Some (names, right_bracket ∷ rest)
names_read names rest some = items_read a_word name_lexemes name_read names (right_bracket ∷ rest) some refl

-- ---- statements

-- the words that say a statement, which are read where it is spelled at the front
pub record IsFound (s : CatalogueStatement) (lexemes rest : List Lexeme) : Type 0 where
  pub words : StatementWords
  pub read : statement_at lexemes ≡ Some (words, rest)
  pub says : said words ≡ s

statement_read : (s : CatalogueStatement) → HasColumns s → (rest : List Lexeme) → IsFound s (catalogue_lexemes s ++ rest) rest
unfolding statement_at site_at table_at index_at
statement_read (statement.Site s) some rest = record { words = Site (record { name = s.name; cpu = s.cpu; net = s.net }); read = refl; says = refl }
statement_read (statement.Table t) some rest =
    let inside = joined_by comma (map column_lexemes t.columns) in
    record {
      words = Table (record { name = t.name; site = t.site; rows = t.rows; pages = t.pages; file = t.file; columns = map words_of_column t.columns });
      read = rw (append_assoc inside (right_bracket ∷ []) rest, columns_read t.columns rest some) refl;
      says = ap (λ l. statement.Table (record t { columns = l })) (columns_back t.columns);
    }
statement_read (statement.Index i) some rest =
    let inside = joined_by comma (map name_lexemes i.columns) in
    let behind = Word (codes "pages") ∷ Number i.pages ∷ [] in
    record {
      words = Index (record { name = i.name; table = i.table; columns = i.columns; pages = i.pages });
      read = rw (append_assoc (inside ++ right_bracket ∷ []) behind rest, append_assoc inside (right_bracket ∷ []) (behind ++ rest), names_read i.columns (behind ++ rest) some) refl;
      says = refl;
    }

-- where all lexemes of an ended statement are read, they are those of what is read
pub all_read : (statement : MaybeEnded) (rest : List Lexeme) (words : StatementWords) → statement.1 ≡ true → statement_at statement.0 ≡ Some (words, rest) → rest ≡ []
    → StatementRead statement (Ok words)
all_read statement rest words is read none =
    let stands = statement_spelled statement.0 rest words read in
    let are = stands.are ∙ ap (λ l. catalogue_lexemes (said words) ++ l) none ∙ append-nil (catalogue_lexemes (said words)) in
    ((λ i. (are i, is i)), stands.columns)

-- where they spell a statement, all are read
found_whole : (lexemes : List Lexeme) (s : CatalogueStatement) → SpellsCatalogueStatement lexemes s → IsFound s lexemes []
found_whole lexemes s spells = subst (λ l. IsFound s l []) (append-nil (catalogue_lexemes s) ∙ sym spells.are) (statement_read s spells.columns [])

-- what is understood is ended, and spells a statement
understood : (statement : MaybeEnded) → IsUnderstood SpellsCatalogueStatement statement → (s : CatalogueStatement) × IsFound s statement.0 []
understood (lexemes, true) is = (is.0, found_whole lexemes is.0 is.1)
understood (lexemes, false) is = absurd is

pub not_ended : (statement : MaybeEnded) → statement.1 ≡ false → StatementRead statement (Err Strange)
not_ended (lexemes, true) is found = absurd cc
not_ended (lexemes, false) is found = found

none_whole : (found : Option (StatementWords × List Lexeme)) → found ≡ None → (words : StatementWords) → found ≡ Some (words, []) → ⊥
none_whole found none words some = absurd cc

pub error_told : (statement : MaybeEnded) (left : List Lexeme) (error : Unread) → Answers (statement_at statement.0) (Err error) left → StatementRead statement (Err error)
error_told statement left Strange none =
    λ is. none_whole (statement_at statement.0) none (understood statement is).1.words (understood statement is).1.read
error_told statement left Memory none = tt

pub more_left : (statement : MaybeEnded) (rest : List Lexeme) (words : StatementWords) → statement_at statement.0 ≡ Some (words, rest) → (rest ≡ [] → ⊥) → StatementRead statement (Err Strange)
more_left statement rest words read some is =
    let found = understood statement is in
    some (some_pair_parts words found.1.words rest [] (sym read ∙ found.1.read)).1

-- ---- all statements of a text

abbrev IsStrange : List MaybeEnded → MaybeEnded → Type 0
IsStrange before statement = IsUnderstood SpellsCatalogueStatement statement → ⊥

pub all_understood : (ss : List CatalogueStatement) → Every HasColumns ss → (before : List MaybeEnded) → NoneFrom IsStrange before (map ended (map catalogue_lexemes ss))
all_understood [] every before = tt
all_understood (s ∷ ss) every before = (λ strange. strange (s, record { are = refl; columns = every.0 }), all_understood ss every.1 (before ++ ended (catalogue_lexemes s) ∷ []))

-- the statement behind others that are understood is the first that isn't
pub strange_at : (source : List ℕ) (list : List StatementWords) (this : Part) (left later : List Part) (number : ℕ)
    → statements_in source ≡ map ended (map catalogue_lexemes (map said list)) ++ map (part_said source) left → left ≡ this ∷ later
    → Every HasColumns (map said list) → number ≡ length list + 1 → (IsUnderstood SpellsCatalogueStatement (part_said source this) → ⊥) → IsStrangeAt SpellsCatalogueStatement source number
strange_at source list this left later number read cut columns is strange =
    let front = map ended (map catalogue_lexemes (map said list)) in
    let place : number ≡ length front + 1 = omega (arith, is, length-map list said, length-map (map said list) catalogue_lexemes, length-map (map catalogue_lexemes (map said list)) ended) in
    let first = first_is_new IsStrange front (part_said source this) (all_understood (map said list) columns []) strange in
    let behind = first_stays IsStrange (front ++ part_said source this ∷ []) (map (part_said source) later) (length front + 1) first in
    rw (place, read, cut) (rw append_assoc at behind)
