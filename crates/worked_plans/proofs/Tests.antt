-- Catalogues and queries are well formed where tests pass that compute. File names are to be ASCII here.
use Rattle.std.proofs.Common.{◌≡◌, ℕ, ◌<◌, ◌≤◌, Bool, true, false, ◌&&◌, nat_eq, nat_lt, nat_le, List, [], ◌∷◌, length, map, refl}
use Rattle.std.specs.List.{list_all}
use Rattle.std.specs.Option.{option_map_or}
use Rattle.std.specs.Str.{IsAscii}
use Rattle.std.proofs.lemmas.Bool.{ltb-true, leb-true}
use Rattle.std.proofs.lemmas.Str.{IsUtf8-from_ascii}
use Rattle.std.proofs.lemmas.Str.Ascii.{IsAscii-nil, IsAscii-cons}
use Rattle.star_model.specs.Vectors.{same_numbers}
use Rattle.star_model.specs.Predicates.{columns_of}
use Rattle.star_model.specs.WellFormed.{is_name, is_number, is_site, is_column, differ, columns_in, is_there, is_operand, same_type, type_of, type_of_operand, WellFormedTable, WellFormedIndex, WellFormedCatalogue, WellFormedQuery, Each, none, more}
use Rattle.star_model.specs.declared.catalogue.TableDef.{TableDef}
use Rattle.star_model.specs.declared.catalogue.IndexDef.{IndexDef}
use Rattle.star_model.specs.declared.catalogue.Catalogue.{Catalogue}
use Rattle.star_model.specs.declared.query.Query.{Query}

both : (a b : Bool) → (a && b) ≡ true → (a ≡ true) × (b ≡ true)
both true b e = (refl, e)
both false b e = absurd cc

ascii : (bs : List ℕ) → list_all (λ b. nat_lt b 128) bs ≡ true → IsAscii bs
ascii [] e = IsAscii-nil
ascii (b ∷ bs) e = let p = both (nat_lt b 128) (list_all (λ c. nat_lt c 128) bs) e in IsAscii-cons b bs (ltb-true b 128 p.0) (ascii bs p.1)

each : {A : Type 0} (P : A → Type 0) (test : A → Bool) → ((x : A) → test x ≡ true → P x) → (xs : List A) → list_all test xs ≡ true → Each P xs
each P test law [] e = none
each P test law (x ∷ xs) e = let p = both (test x) (list_all test xs) e in more x xs (law x p.0) (each P test law xs p.1)

-- some items, and at most so many
abbrev is_some_of : {A : Type 0} → ℕ → List A → Bool
is_some_of most xs = nat_lt 0 (length xs) && nat_le (length xs) most

some_of : {A : Type 0} (most : ℕ) (xs : List A) → is_some_of most xs ≡ true → (0 < length xs) × (length xs ≤ most)
some_of most xs e = let p = both (nat_lt 0 (length xs)) (nat_le (length xs) most) e in (ltb-true 0 (length xs) p.0, leb-true (length xs) most p.1)

abbrev is_table : ℕ → TableDef → Bool
is_table sites t =
    is_name t.name
    && (nat_lt t.site.0 sites
    && ((is_number t.rows && is_number t.pages)
    && (list_all (λ b. nat_lt b 128) t.file
    && (is_some_of 255 t.file
    && (is_some_of 32 t.columns
    && (list_all is_column t.columns
    && differ same_numbers (map (λ c. c.name) t.columns)))))))

table : (sites : ℕ) (t : TableDef) → is_table sites t ≡ true → WellFormedTable sites t
table sites t e =
    let a = both _ _ e in
    let b = both _ _ a.1 in
    let c = both _ _ b.1 in
    let d = both _ _ c.1 in
    let f = both _ _ d.1 in
    let g = both _ _ f.1 in
    let h = both _ _ g.1 in record {
      name = a.0;
      site = ltb-true t.site.0 sites b.0;
      numbers = c.0;
      file = IsUtf8-from_ascii t.file (ascii t.file d.0);
      file_length = some_of 255 t.file f.0;
      some_columns = some_of 32 t.columns g.0;
      columns = h.0;
      columns_differ = h.1;
    }

abbrev is_index : List TableDef → IndexDef → Bool
is_index tables i =
    is_name i.name
    && (nat_lt i.table (length tables)
    && (is_number i.pages
    && (is_some_of 8 i.columns
    && (list_all (λ c. nat_lt c (columns_in tables i.table)) i.columns
    && differ nat_eq i.columns))))

index : (tables : List TableDef) (i : IndexDef) → is_index tables i ≡ true → WellFormedIndex tables i
index tables i e =
    let a = both _ _ e in
    let b = both _ _ a.1 in
    let c = both _ _ b.1 in
    let d = both _ _ c.1 in
    let f = both _ _ d.1 in record {
      name = a.0;
      table = ltb-true i.table (length tables) b.0;
      pages = c.0;
      some_columns = some_of 8 i.columns d.0;
      columns = f.0;
      columns_differ = f.1;
    }

-- the numbers of sites, tables and indexes
abbrev is_small : Catalogue → Bool
is_small c = nat_le (length c.sites) 8 && (nat_le (length c.tables) 32 && nat_le (length c.indexes) 64)

-- no name stands twice
abbrev has_names : Catalogue → Bool
has_names c =
    differ same_numbers (map (λ s. s.name) c.sites)
    && (differ same_numbers (map (λ t. t.name) c.tables)
    && differ same_numbers (map (λ i. i.name) c.indexes))

pub catalogue : (c : Catalogue) → is_small c ≡ true → has_names c ≡ true → list_all is_site c.sites ≡ true
    → list_all (is_table (length c.sites)) c.tables ≡ true → list_all (is_index c.tables) c.indexes ≡ true → WellFormedCatalogue c
catalogue c small names sites tables indexes =
    let a = both _ _ small in
    let b = both _ _ a.1 in
    let d = both _ _ names in
    let f = both _ _ d.1 in record {
      few_sites = leb-true (length c.sites) 8 a.0;
      few_tables = leb-true (length c.tables) 32 b.0;
      few_indexes = leb-true (length c.indexes) 64 b.1;
      sites = sites;
      tables = each (WellFormedTable (length c.sites)) (is_table (length c.sites)) (table (length c.sites)) c.tables tables;
      indexes = each (WellFormedIndex c.tables) (is_index c.tables) (index c.tables) c.indexes indexes;
      sites_differ = d.0;
      tables_differ = f.0;
      indexes_differ = f.1;
    }

-- the numbers of quantifiers, columns and predicates
abbrev is_short : Query → Bool
is_short q = is_some_of 12 q.quants && (is_some_of 64 q.select && (nat_le (length q.preds) 16 && nat_le (length q.order) 16))

-- each name means something
abbrev is_resolved : Query → Bool
is_resolved q =
    list_all (λ d. nat_lt d.table (length q.catalogue.tables)) q.quants
    && (list_all (λ d. is_name d.name) q.quants
    && (differ same_numbers (map (λ d. d.name) q.quants)
    && (list_all (is_there q) q.select
    && (list_all (is_there q) q.order
    && option_map_or (λ s. nat_lt s.0 (length q.catalogue.sites)) q.site true))))

-- each predicate compares two values of one type
abbrev is_typed : Query → Bool
is_typed q =
    list_all (λ p. list_all (is_there q) (columns_of p)) q.preds
    && (list_all (λ p. is_operand p.right) q.preds
    && list_all (λ p. same_type (type_of q p.left) (type_of_operand q p.right)) q.preds)

pub query : (q : Query) → WellFormedCatalogue q.catalogue → is_short q ≡ true → is_resolved q ≡ true → is_typed q ≡ true → WellFormedQuery q
query q formed short resolved typed =
    let a = both _ _ short in
    let b = both _ _ a.1 in
    let c = both _ _ b.1 in
    let d = both _ _ resolved in
    let f = both _ _ d.1 in
    let g = both _ _ f.1 in
    let h = both _ _ g.1 in
    let i = both _ _ h.1 in
    let j = both _ _ typed in
    let k = both _ _ j.1 in record {
      catalogue = formed;
      some_quantifiers = some_of 12 q.quants a.0;
      some_columns = some_of 64 q.select b.0;
      few_predicates = leb-true (length q.preds) 16 c.0;
      few_in_order = leb-true (length q.order) 16 c.1;
      tables = d.0;
      names = f.0;
      quantifiers_differ = g.0;
      select = h.0;
      order = i.0;
      columns = j.0;
      constants = k.0;
      one_type = k.1;
      site = i.1;
    }
