-- Statements that are written table by table: those that are left complete the catalogue.
use Rattle.std.proofs.Common.{◌≡◌, ℕ, suc, ◌+◌, ◌<◌, ◌≤◌, Bool, true, false, if◌then◌else◌, List, [], ◌∷◌, map, drop, get_or, length, sym, ap, ◌∙◌, add-one, drop-cons}
use Rattle.std.proofs.lemmas.List.{drop_all, map-append}
use Rattle.spelling.specs.Writing.{Written, whole, puts, ended, lines}
use Rattle.spelling.proofs.Laws.{lines-more, lines-none, lines-append, lines-layout}
use Rattle.catalogue.specs.Catalogues.{Table, Index, catalogue_lexemes}
use Rattle.workload_gen.specs.declared.tables.DrawnTable.{DrawnTable}
use Rattle.workload_gen.specs.CatalogueText.{site_statement, table_part, index_part, table_statements, statements_from, catalogue_statements, catalogue_text}

-- ---- a table, with its index or without

pub with_index : (w v u : Written) (number : ℕ) (table : DrawnTable) → table.is_indexed ≡ true → v ≡ ended (puts w (catalogue_lexemes (Table (table_part number table))))
    → u ≡ ended (puts v (catalogue_lexemes (Index (index_part number)))) → u ≡ lines w (map catalogue_lexemes (table_statements number table))
unfolding lines
with_index w v u number table indexed first second =
    let of_table = catalogue_lexemes (Table (table_part number table)) in
    let of_index = catalogue_lexemes (Index (index_part number)) in
    second ∙ ap (λ z. ended (puts z of_index)) first
    ∙ ap (λ (b : Bool). lines w (of_table ∷ map catalogue_lexemes (if b then Index (index_part number) ∷ [] else []))) (sym indexed)

pub without_index : (w v : Written) (number : ℕ) (table : DrawnTable) → table.is_indexed ≡ false → v ≡ ended (puts w (catalogue_lexemes (Table (table_part number table))))
    → v ≡ lines w (map catalogue_lexemes (table_statements number table))
unfolding lines
without_index w v number table plain first =
    first
    ∙ ap (λ (b : Bool). lines w (catalogue_lexemes (Table (table_part number table)) ∷ map catalogue_lexemes (if b then Index (index_part number) ∷ [] else []))) (sym plain)

-- ---- all tables

-- the tables from a place on complete the whole
abbrev pub LinesLeft : Written → List DrawnTable → ℕ → Written → Type 0
LinesLeft w tables place all = lines w (map catalogue_lexemes (statements_from (place + 1) (drop place tables))) ≡ all

pub lines_next : (w v all : Written) (tables : List DrawnTable) (place : ℕ) (x : DrawnTable) → place < length tables → LinesLeft w tables place all → x ≡ get_or tables place x
    → v ≡ lines w (map catalogue_lexemes (table_statements (place + 1) x)) → LinesLeft v tables (place + 1) all
lines_next w v all tables place x below left at is =
    let here = table_statements (place + 1) x in
    let later = statements_from (place + 1 + 1) (drop (place + 1) tables) in
    let split : drop place tables ≡ x ∷ drop (place + 1) tables = rw (add-one, drop-cons tables place x) (ap (λ y. y ∷ drop (suc place) tables) (sym at)) in
    ap (λ u. lines u (map catalogue_lexemes later)) is
    ∙ sym (lines-append w (map catalogue_lexemes here) (map catalogue_lexemes later))
    ∙ ap (lines w) (sym (map-append catalogue_lexemes here later))
    ∙ ap (λ l. lines w (map catalogue_lexemes (statements_from (place + 1) l))) (sym split)
    ∙ left

pub lines_done : (w all : Written) (tables : List DrawnTable) (place : ℕ) → length tables ≤ place → LinesLeft w tables place all → w ≡ all
lines_done w all tables place above left =
    sym (ap (λ l. lines w (map catalogue_lexemes (statements_from (place + 1) l))) (drop_all place tables above) ∙ lines-none w) ∙ left

-- the whole text
pub catalogue_is : (a b : Written) (tables : List DrawnTable) → a ≡ ended (puts (whole []) (catalogue_lexemes site_statement))
    → b ≡ lines a (map catalogue_lexemes (statements_from 1 tables)) → b.text ≡ catalogue_text tables
catalogue_is a b tables site later =
    let rest = map catalogue_lexemes (statements_from 1 tables) in
    ap (λ (w : Written). w.text) (
    later ∙ ap (λ w. lines w rest) site ∙ sym (lines-more (whole []) (catalogue_lexemes site_statement) rest) ∙ lines-layout [] (map catalogue_lexemes (catalogue_statements tables))
    )
