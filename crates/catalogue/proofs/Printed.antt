-- Lists that are written item by item: what is left completes the whole.
use Rattle.std.proofs.Common.{◌≡◌, ℕ, zero, suc, ◌+◌, ◌-◌, ◌<◌, ◌≤◌, List, [], ◌∷◌, ◌++◌, map, take, drop, get_or, length, codes, Some, refl, sym, ap, ◌∙◌, add-one, drop-cons, arith, subst}
use Rattle.std.proofs.lemmas.List.{drop_all, take_all, append-nil, map-append}
use Rattle.std.proofs.lemmas.Option.{slice_get-map}
use Rattle.std.specs.Prelude.{slice_get, unwrap_or}
use Rattle.std.specs.Option.{option_map, option_map_or}
use Rattle.star_model.specs.declared.catalogue.Catalogue.{Catalogue}
use Rattle.star_model.specs.declared.catalogue.TableDef.{TableDef}
use Rattle.star_model.specs.declared.catalogue.IndexDef.{IndexDef}
use Rattle.star_model.specs.WellFormed.{Each, none, more}
use Rattle.spelling.specs.Lexemes.{Lexeme, Word, Number, comma, joined_by, bracketed}
use Rattle.catalogue.specs.Catalogues.{CatalogueStatement, Site, catalogue_lexemes, name_lexemes, name_at, column_names, table_statement, index_statement, catalogue_statements, canonical}
use Rattle.spelling.specs.Writing.{Written, whole, put, puts, ended, lines}
use Rattle.spelling.proofs.Laws.{puts-more, puts-none, puts-append, lines-more, lines-none, lines-append, lines-layout}

-- ---- items with a comma between two

unfoldable pub behind_commas : List (List Lexeme) → List Lexeme
behind_commas [] = []
behind_commas (item ∷ items) = comma ∷ (item ++ behind_commas items)

joined : (item : List Lexeme) (items : List (List Lexeme)) → joined_by comma (item ∷ items) ≡ item ++ behind_commas items
unfolding behind_commas
joined item [] = sym (append-nil item)
joined item (next ∷ items) = ap (λ l. item ++ comma ∷ l) (joined next items)

-- the items from a place on, each behind a comma, complete the whole
abbrev pub ItemsLeft : {A : Type 0} → (A → List Lexeme) → Written → List A → ℕ → Written → Type 0
ItemsLeft spell w items place all = puts w (behind_commas (map spell (drop place items))) ≡ all

-- all but the first
abbrev pub later_of : {A : Type 0} → List A → List A
later_of items = take (length items - 1) (drop 1 items)

front_and_later : {A : Type 0} (items : List A) (x : A) → 1 ≤ length items → x ≡ get_or items 0 x → items ≡ x ∷ later_of items
front_and_later [] x some is = absurd (omega arith)
front_and_later (item ∷ items) x some is =
    let all : length (item ∷ items) - 1 ≡ length items = omega arith in
    rw (all, take_all (length items) items (omega arith)) (ap (λ y. y ∷ items) (sym is))

pub no_items : {A : Type 0} (spell : A → List Lexeme) (w : Written) (items : List A) → length items < 1 → w ≡ puts w (joined_by comma (map spell items))
no_items spell w [] below = sym (puts-none w)
no_items spell w (item ∷ items) below = absurd (omega arith)

pub items_first : {A : Type 0} (spell : A → List Lexeme) (old w : Written) (items : List A) (x : A) → 1 ≤ length items → x ≡ get_or items 0 x → w ≡ puts old (spell x)
    → ItemsLeft spell w (later_of items) 0 (puts old (joined_by comma (map spell items)))
items_first spell old w items x some at is =
    let later = behind_commas (map spell (later_of items)) in
    ap (λ u. puts u later) is ∙ sym (puts-append old (spell x) later) ∙ ap (puts old) (sym (joined (spell x) (map spell (later_of items))))
    ∙ ap (λ l. puts old (joined_by comma (map spell l))) (sym (front_and_later items x some at))

pub items_next : {A : Type 0} (spell : A → List Lexeme) (w u v all : Written) (items : List A) (place : ℕ) (x : A) → place < length items → ItemsLeft spell w items place all
    → x ≡ get_or items place x → u ≡ put w comma → v ≡ puts u (spell x) → ItemsLeft spell v items (place + 1) all
unfolding behind_commas
items_next spell w u v all items place x below left at after_comma is =
    let here = spell x in
    let later = behind_commas (map spell (drop (place + 1) items)) in
    let split : drop place items ≡ x ∷ drop (place + 1) items = rw (add-one, drop-cons items place x) (ap (λ y. y ∷ drop (suc place) items) (sym at)) in
    ap (λ z. puts z later) (is ∙ ap (λ z. puts z here) after_comma) ∙ sym (puts-append (put w comma) here later) ∙ sym (puts-more w comma (here ++ later))
    ∙ ap (λ l. puts w (behind_commas (map spell l))) (sym split) ∙ left

pub items_done : {A : Type 0} (spell : A → List Lexeme) (w all : Written) (items : List A) (place : ℕ) → length items ≤ place → ItemsLeft spell w items place all → w ≡ all
unfolding behind_commas
items_done spell w all items place above left = sym (ap (λ l. puts w (behind_commas (map spell l))) (drop_all place items above) ∙ puts-none w) ∙ left

-- ---- statements

-- the statements from a place on complete the whole
abbrev pub LinesLeft : {A : Type 0} → (A → CatalogueStatement) → Written → List A → ℕ → Written → Type 0
LinesLeft make w items place all = lines w (map catalogue_lexemes (map make (drop place items))) ≡ all

pub line_next : {A : Type 0} (make : A → CatalogueStatement) (w v all : Written) (items : List A) (place : ℕ) (x : A) → place < length items → LinesLeft make w items place all
    → x ≡ get_or items place x → v ≡ ended (puts w (catalogue_lexemes (make x))) → LinesLeft make v items (place + 1) all
line_next make w v all items place x below left at is =
    let here = catalogue_lexemes (make x) in
    let later = map catalogue_lexemes (map make (drop (place + 1) items)) in
    let split : drop place items ≡ x ∷ drop (place + 1) items = rw (add-one, drop-cons items place x) (ap (λ y. y ∷ drop (suc place) items) (sym at)) in
    ap (λ z. lines z later) is ∙ sym (lines-more w here later) ∙ ap (λ l. lines w (map catalogue_lexemes (map make l))) (sym split) ∙ left

pub lines_done : {A : Type 0} (make : A → CatalogueStatement) (w all : Written) (items : List A) (place : ℕ) → length items ≤ place → LinesLeft make w items place all → w ≡ all
lines_done make w all items place above left = sym (ap (λ l. lines w (map catalogue_lexemes (map make l))) (drop_all place items above) ∙ lines-none w) ∙ left

-- each item of a list has the property, thus the one at a place
pub each_at : {A : Type 0} (P : A → Type 0) (items : List A) (place : ℕ) (x : A) → Each P items → place < length items → x ≡ get_or items place x → P x
each_at P items place x none below at = absurd (omega arith)
each_at P items zero x (more y ys holds later) below at = subst P (sym at) holds
each_at P items (suc n) x (more y ys holds later) below at = each_at P ys n x later (omega arith) at

-- the whole text
pub text_is : (c : Catalogue) (a b d : Written) → a ≡ lines (whole []) (map catalogue_lexemes (map Site c.sites)) → b ≡ lines a (map catalogue_lexemes (map (table_statement c) c.tables))
    → d ≡ lines b (map catalogue_lexemes (map (index_statement c) c.indexes)) → d.text ≡ canonical c
text_is c a b d sites tables indexes =
    let s = map catalogue_lexemes (map Site c.sites) in
    let t = map catalogue_lexemes (map (table_statement c) c.tables) in
    let i = map catalogue_lexemes (map (index_statement c) c.indexes) in
    let split : map catalogue_lexemes (catalogue_statements c) ≡ s ++ (t ++ i) =
    map-append catalogue_lexemes (map Site c.sites) (map (table_statement c) c.tables ++ map (index_statement c) c.indexes)
    ∙ ap (λ l. s ++ l) (map-append catalogue_lexemes (map (table_statement c) c.tables) (map (index_statement c) c.indexes)) in
    let joined_lines : d ≡ lines (whole []) (s ++ (t ++ i)) =
    indexes ∙ ap (λ w. lines w i) (tables ∙ ap (λ w. lines w t) sites) ∙ sym (lines-append (lines (whole []) s) t i) ∙ sym (lines-append (whole []) s (t ++ i)) in
    ap (λ (w : Written). w.text) (joined_lines ∙ ap (lines (whole [])) (sym split) ∙ lines-layout [] (map catalogue_lexemes (catalogue_statements c)))

-- ---- names by places

pub names_are : (names : List (List ℕ)) (places : List ℕ) → map (λ place. name_lexemes (name_at names place)) places ≡ map name_lexemes (map (name_at names) places)
names_are names [] = refl
names_are names (place ∷ places) = ap (λ l. name_lexemes (name_at names place) ∷ l) (names_are names places)

-- the names of the columns of an index on this table, between brackets
abbrev pub index_columns : TableDef → IndexDef → List Lexeme
index_columns t i = bracketed (joined_by comma (map name_lexemes (map (name_at (column_names t)) i.columns)))

pub index_written : (c : Catalogue) (i : IndexDef) (t : TableDef) (w : Written) → slice_get c.tables i.table ≡ Some t
    → put (put (puts (put (put (put (put w (Word (codes "index"))) (Word i.name)) (Word (codes "on"))) (Word t.name)) (index_columns t i)) (Word (codes "pages"))) (Number i.pages)
    ≡ puts w (catalogue_lexemes (index_statement c i))
unfolding puts
index_written c i t w at =
    let last = Word (codes "pages") ∷ Number i.pages ∷ [] in
    let name = ap (λ o. unwrap_or o []) (slice_get-map (λ (d : TableDef). d.name) c.tables i.table ∙ ap (option_map (λ (d : TableDef). d.name)) at) in
    let columns = ap (λ o. option_map_or column_names o []) at in
    let front = put (put (put (put w (Word (codes "index"))) (Word i.name)) (Word (codes "on"))) (Word t.name) in
    sym (puts-append front (index_columns t i) last)
    ∙ sym (λ j. puts w (Word (codes "index") ∷ Word i.name ∷ Word (codes "on") ∷ Word (name j) ∷ (bracketed (joined_by comma (map name_lexemes (map (name_at (columns j)) i.columns))) ++ last)))
