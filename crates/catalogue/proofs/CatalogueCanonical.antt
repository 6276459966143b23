-- The canonical text of a well-formed catalogue spells it.
use Rattle.std.proofs.Common.{◌≡◌, ℕ, zero, suc, ◌^◌, ◌<◌, Bool, true, false, ◌&&◌, ◌||◌, nat_lt, List, [], ◌∷◌, ◌++◌, map, length, codes, refl, sym, ap, ◌∙◌, subst, arith, leb-true, ltb-true}
use Rattle.std.proofs.lemmas.Bool.{and_parts}
use Rattle.std.proofs.lemmas.List.{length-map}
use Rattle.std.specs.List.{list_all}
use Rattle.std.specs.Option.{option_map_or}
use Rattle.sb_text.specs.Bytes.{begins_word, is_in_word}
use Rattle.sb_text.specs.Forms.{IsWord}
use Rattle.star_model.specs.Numbers.{top}
use Rattle.star_model.specs.WellFormed as well
use Rattle.star_model.specs.WellFormed.{Each, WellFormedTable, WellFormedIndex, WellFormedCatalogue, columns_in}
use Rattle.star_model.specs.declared.catalogue.Catalogue.{Catalogue}
use Rattle.star_model.specs.declared.catalogue.SiteDef.{SiteDef}
use Rattle.star_model.specs.declared.catalogue.TableDef.{TableDef}
use Rattle.star_model.specs.declared.catalogue.ColumnDef.{ColumnDef}
use Rattle.star_model.specs.declared.catalogue.IndexDef.{IndexDef}
use Rattle.star_model.specs.declared.catalogue.ColType.{ColType}
use Rattle.star_model.specs.declared.catalogue.ColType.TheVariants as type
use Rattle.spelling.specs.Lexemes.{Lexeme, Word, Number, comma, joined_by, bracketed}
use Rattle.star_model.specs.Every.{Every}
use Rattle.catalogue.specs.Catalogues.{Site, type_word, column_lexemes, name_lexemes, catalogue_lexemes, name_at, site_names, table_names, column_names, column_names_at, table_statement, index_statement, catalogue_statements, canonical, SpellsCatalogue}
use Rattle.spelling.specs.FormedLexemes.{Formed, given_word, a_comma, both, formed_series, formed_bracketed}
use Rattle.catalogue.proofs.CatalogueWriting.{written_catalogue_spells, each_at}
use Rattle.spelling.proofs.Laws.{statements_of_layout}

-- ---- names and numbers

swapped : (x y z : Bool) → (x || y || z) ≡ (y || x || z)
swapped true true z = refl
swapped true false z = refl
swapped false true z = refl
swapped false false z = refl

same_letter : (b : ℕ) → well.is_letter b ≡ begins_word b
same_letter b = swapped (well.is_between 97 122 b) (well.is_between 65 90 b) _

all_in : (bs : List ℕ) → list_all (λ c. well.is_letter c || well.is_digit c) bs ≡ list_all is_in_word bs
all_in [] = refl
all_in (b ∷ bs) = λ i. (same_letter b i || well.is_digit b) && all_in bs i

a_name : (bytes : List ℕ) → well.is_name bytes ≡ true → IsWord bytes
a_name bytes e = a_word bytes (and_parts _ _ e).0 where
  a_word : (bytes : List ℕ) → well.is_word bytes ≡ true → IsWord bytes
  a_word [] e = cc
  a_word (b ∷ rest) e = given_word (b ∷ rest) (sym (λ i. same_letter b i && all_in rest i) ∙ e)

a_number : (n : ℕ) → well.is_number n ≡ true → n < 10 ^ 19
a_number n e = omega (arith, leb-true n top e)

-- ---- statements

a_type : (k : ColType) → IsWord (type_word k)
a_type type.Int = given_word (codes "int") refl
a_type type.Text = given_word (codes "text") refl

formed_column : (d : ColumnDef) → well.is_column d ≡ true → Formed (column_lexemes d)
formed_column d e =
    let p = and_parts _ _ e in
    let q = and_parts _ _ p.0 in
    (a_name d.name q.0, (a_type d.kind, (given_word (codes "width") refl, (a_number d.width q.1, (given_word (codes "distinct") refl, (a_number d.distinct p.1, tt))))))

every_of : {A : Type 0} (test : A → Bool) (xs : List A) → list_all test xs ≡ true → Every (λ x. test x ≡ true) xs
every_of test [] e = tt
every_of test (x ∷ xs) e = let p = and_parts _ _ e in (p.0, every_of test xs p.1)

formed_site : (s : SiteDef) → well.is_site s ≡ true → Formed (catalogue_lexemes (Site s))
formed_site s e =
    let p = and_parts _ _ e in
    let q = and_parts _ _ p.0 in
    (given_word (codes "site") refl, (a_name s.name q.0, (given_word (codes "cpu") refl, (a_number s.cpu q.1, (given_word (codes "net") refl, (a_number s.net p.1, tt))))))

-- the name at a place is a word where all are
name_is : (names : List (List ℕ)) (n : ℕ) → n < length names → Every IsWord names → IsWord (name_at names n)
name_is [] n less h = absurd (omega arith)
name_is (x ∷ names) zero less h = h.0
name_is (x ∷ names) (suc n) less h = name_is names n (omega arith) h.1

site_words : (ss : List SiteDef) → list_all well.is_site ss ≡ true → Every IsWord (map (λ s. s.name) ss)
site_words [] e = tt
site_words (s ∷ ss) e = let p = and_parts _ _ e in (a_name s.name (and_parts _ _ (and_parts _ _ p.0).0).0, site_words ss p.1)

table_words : (n : ℕ) (ts : List TableDef) → Each (WellFormedTable n) ts → Every IsWord (map (λ t. t.name) ts)
table_words n [] h = tt
table_words n (t ∷ ts) (well.more _ _ p later) = (a_name t.name p.name, table_words n ts later)

column_words : (ds : List ColumnDef) → list_all well.is_column ds ≡ true → Every IsWord (map (λ d. d.name) ds)
column_words [] e = tt
column_words (d ∷ ds) e = let p = and_parts _ _ e in (a_name d.name (and_parts _ _ (and_parts _ _ p.0).0).0, column_words ds p.1)

formed_table : (c : Catalogue) (t : TableDef) → Every IsWord (site_names c) → WellFormedTable (length c.sites) t → Formed (catalogue_lexemes (table_statement c t))
formed_table c t sites p =
    let numbers : (well.is_number t.rows ≡ true) × (well.is_number t.pages ≡ true) = and_parts _ _ p.numbers in
    let less : t.site.0 < length (site_names c) = omega (arith, p.site, length-map c.sites (λ (s : SiteDef). s.name)) in (
      given_word (codes "table") refl,
      (
        a_name t.name p.name,
        (
          given_word (codes "at") refl,
          (
            name_is (site_names c) t.site.0 less sites,
            (
              given_word (codes "rows") refl,
              (
                a_number t.rows numbers.0,
                (
                  given_word (codes "pages") refl,
                  (
                    a_number t.pages numbers.1,
                    (
                      given_word (codes "file") refl,
                      (
                        tt,
                        formed_bracketed (joined_by comma (map column_lexemes t.columns))
                            (formed_series column_lexemes (λ d. well.is_column d ≡ true) comma a_comma formed_column t.columns (every_of well.is_column t.columns p.columns)),
                      ),
                    ),
                  ),
                ),
              ),
            ),
          ),
        ),
      ),
    )

columns_named : (names : List (List ℕ)) (ns : List ℕ) → Every IsWord names → list_all (λ n. nat_lt n (length names)) ns ≡ true → Every IsWord (map (name_at names) ns)
columns_named names [] h e = tt
columns_named names (n ∷ ns) h e = let p = and_parts (nat_lt n (length names)) _ e in (name_is names n (ltb-true n (length names) p.0) h, columns_named names ns h p.1)

formed_index : (c : Catalogue) (i : IndexDef) → Each (WellFormedTable (length c.sites)) c.tables → WellFormedIndex c.tables i → Formed (catalogue_lexemes (index_statement c i))
formed_index c i tables p =
    let found = each_at c.tables i.table tables p.table in
    let less : i.table < length (table_names c) = omega (arith, p.table, length-map c.tables (λ (t : TableDef). t.name)) in
    let count : columns_in c.tables i.table ≡ length (column_names found.0) = ap (λ o. option_map_or (λ (t : TableDef). length t.columns) o 0) found.1 ∙ sym (length-map found.0.columns (λ (d : ColumnDef). d.name)) in
    let names : column_names_at c i.table ≡ column_names found.0 = ap (λ o. option_map_or column_names o []) found.1 in
    let columns = columns_named (column_names found.0) i.columns (column_words found.0.columns found.2.columns) (subst (λ m. list_all (λ n. nat_lt n m) i.columns ≡ true) count p.columns) in
    let columns' = subst (λ l. Every IsWord (map (name_at l) i.columns)) (sym names) columns in (
      given_word (codes "index") refl,
      (
        a_name i.name p.name,
        (
          given_word (codes "on") refl,
          (
            name_is (table_names c) i.table less (table_words (length c.sites) c.tables tables),
            both (bracketed (joined_by comma (map name_lexemes (map (name_at (column_names_at c i.table)) i.columns)))) (Word (codes "pages") ∷ Number i.pages ∷ [])
                (formed_bracketed (joined_by comma (map name_lexemes (map (name_at (column_names_at c i.table)) i.columns))) (formed_series name_lexemes IsWord comma a_comma (λ x w. (w, tt)) (map (name_at (column_names_at c i.table)) i.columns) columns'))
                (given_word (codes "pages") refl, (a_number i.pages p.pages, tt)),
          ),
        ),
      ),
    )

-- ---- the whole

both_lists : (xs ys : List (List Lexeme)) → Every Formed xs → Every Formed ys → Every Formed (xs ++ ys)
both_lists [] ys h k = k
both_lists (x ∷ xs) ys h k = (h.0, both_lists xs ys h.1 k)

map_append : {A B : Type 0} (f : A → B) (xs ys : List A) → map f (xs ++ ys) ≡ map f xs ++ map f ys
map_append f [] ys = refl
map_append f (x ∷ xs) ys = ap (λ l. f x ∷ l) (map_append f xs ys)

all_sites : (ss : List SiteDef) → list_all well.is_site ss ≡ true → Every Formed (map catalogue_lexemes (map Site ss))
all_sites [] e = tt
all_sites (s ∷ ss) e = let p = and_parts _ _ e in (formed_site s p.0, all_sites ss p.1)

all_tables : (c : Catalogue) (ts : List TableDef) → Every IsWord (site_names c) → Each (WellFormedTable (length c.sites)) ts → Every Formed (map catalogue_lexemes (map (table_statement c) ts))
all_tables c [] w h = tt
all_tables c (t ∷ ts) w (well.more _ _ p later) = (formed_table c t w p, all_tables c ts w later)

all_indexes : (c : Catalogue) (is : List IndexDef) → Each (WellFormedTable (length c.sites)) c.tables → Each (WellFormedIndex c.tables) is → Every Formed (map catalogue_lexemes (map (index_statement c) is))
all_indexes c [] tables h = tt
all_indexes c (i ∷ is) tables (well.more _ _ p later) = (formed_index c i tables p, all_indexes c is tables later)

formed_catalogue : (c : Catalogue) → WellFormedCatalogue c → Every Formed (map catalogue_lexemes (catalogue_statements c))
formed_catalogue c h =
    subst (Every Formed)
    (sym (map_append catalogue_lexemes (map Site c.sites) (map (table_statement c) c.tables ++ map (index_statement c) c.indexes)
    ∙ ap (λ l. map catalogue_lexemes (map Site c.sites) ++ l) (map_append catalogue_lexemes (map (table_statement c) c.tables) (map (index_statement c) c.indexes))))
    (both_lists (map catalogue_lexemes (map Site c.sites)) _ (all_sites c.sites h.sites)
    (both_lists (map catalogue_lexemes (map (table_statement c) c.tables)) _ (all_tables c c.tables (site_words c.sites h.sites) h.tables) (all_indexes c c.indexes h.tables h.indexes)))

pub canonical_catalogue : (c : Catalogue) → WellFormedCatalogue c → SpellsCatalogue (canonical c) c
canonical_catalogue c h = written_catalogue_spells c h (canonical c) (statements_of_layout (map catalogue_lexemes (catalogue_statements c)) (formed_catalogue c h))
