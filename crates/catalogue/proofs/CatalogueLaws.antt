-- One text spells one catalogue.
use Rattle.std.proofs.Common.{◌≡◌, ℕ, List, [], ◌∷◌, ◌++◌, map, Some, codes, refl, sym, ap, ◌∙◌, append_assoc}
use Rattle.star_model.specs.declared.catalogue.Catalogue.{Catalogue}
use Rattle.star_model.specs.declared.catalogue.ColumnDef.{ColumnDef}
use Rattle.star_model.specs.declared.catalogue.ColType.{ColType}
use Rattle.star_model.specs.declared.catalogue.ColType.TheVariants as type
use Rattle.spelling.specs.Lexemes.{Lexeme, Word, Number, comma, right_bracket, joined_by}
use Rattle.star_model.specs.Every.{HasItem}
use Rattle.catalogue.specs.Catalogues.{CatalogueStatement, Site, Table, Index, TablePart, IndexPart, type_word, column_lexemes, name_lexemes, catalogue_lexemes, HasColumns, SpellsCatalogueStatement, SpellsCatalogue, catalogue_of}
use Rattle.spelling.proofs.Laws.{one_list}
use Rattle.spelling.specs.SpelledSeries.{same_lists, series, anything, tails}

same_type : (x y : ColType) → type_word x ≡ type_word y → x ≡ y
same_type type.Int type.Int e = refl
same_type type.Int type.Text e = cc
same_type type.Text type.Int e = cc
same_type type.Text type.Text e = refl

same_column : (c d : ColumnDef) (r s : List Lexeme) → Unit {0} → Unit {0} → Unit {0} → Unit {0} → column_lexemes c ++ r ≡ column_lexemes d ++ s → (c ≡ d) × (r ≡ s)
same_column c d r s _ _ _ _ e =
    let name : c.name ≡ d.name = cc in
    let kind : type_word c.kind ≡ type_word d.kind = cc in
    let width : c.width ≡ d.width = cc in
    let distinct : c.distinct ≡ d.distinct = cc in
    let later : r ≡ s = cc in
    let kinds = same_type c.kind d.kind kind in
    ((λ i. record { name = name i; kind = kinds i; width = width i; distinct = distinct i }), later)

same_name : (c d : List ℕ) (r s : List Lexeme) → Unit {0} → Unit {0} → Unit {0} → Unit {0} → name_lexemes c ++ r ≡ name_lexemes d ++ s → (c ≡ d) × (r ≡ s)
same_name c d r s _ _ _ _ e = (cc, cc)

same_columns : (cs ds : List ColumnDef) (r s : List Lexeme) → HasItem cs → HasItem ds
    → joined_by comma (map column_lexemes cs) ++ right_bracket ∷ r ≡ joined_by comma (map column_lexemes ds) ++ right_bracket ∷ s → cs ≡ ds
same_columns cs ds r s h k e =
    (series column_lexemes (λ _. Unit {0}) (λ _. Unit {0}) comma (λ _. tt) same_column cs ds (right_bracket ∷ r) (right_bracket ∷ s) h k (anything cs) (anything ds) (tt, λ t f. cc) (tt, λ t f. cc) e).0

same_names : (cs ds : List (List ℕ)) (r s : List Lexeme) → HasItem cs → HasItem ds
    → joined_by comma (map name_lexemes cs) ++ right_bracket ∷ r ≡ joined_by comma (map name_lexemes ds) ++ right_bracket ∷ s → (cs ≡ ds) × (r ≡ s)
same_names cs ds r s h k e =
    let one = series name_lexemes (λ _. Unit {0}) (λ _. Unit {0}) comma (λ _. tt) same_name cs ds (right_bracket ∷ r) (right_bracket ∷ s) h k (anything cs) (anything ds) (tt, λ t f. cc) (tt, λ t f. cc) e in
    (one.0, tails right_bracket r s one.1)

same_tables : (t u : TablePart) → HasItem t.columns → HasItem u.columns → catalogue_lexemes (Table t) ≡ catalogue_lexemes (Table u) → t ≡ u
same_tables t u h k e =
    let name : t.name ≡ u.name = cc in
    let site : t.site ≡ u.site = cc in
    let rows : t.rows ≡ u.rows = cc in
    let pages : t.pages ≡ u.pages = cc in
    let file : t.file ≡ u.file = cc in
    let rest : joined_by comma (map column_lexemes t.columns) ++ right_bracket ∷ [] ≡ joined_by comma (map column_lexemes u.columns) ++ right_bracket ∷ [] = cc in
    let columns = same_columns t.columns u.columns [] [] h k rest in
    λ i. record { name = name i; site = site i; rows = rows i; pages = pages i; file = file i; columns = columns i }

abbrev index_rest : IndexPart → List Lexeme
index_rest i = Word (codes "pages") ∷ Number i.pages ∷ []

same_indexes : (t u : IndexPart) → HasItem t.columns → HasItem u.columns → catalogue_lexemes (Index t) ≡ catalogue_lexemes (Index u) → t ≡ u
same_indexes t u h k e =
    let name : t.name ≡ u.name = cc in
    let table : t.table ≡ u.table = cc in
    let rest : (joined_by comma (map name_lexemes t.columns) ++ right_bracket ∷ []) ++ index_rest t ≡ (joined_by comma (map name_lexemes u.columns) ++ right_bracket ∷ []) ++ index_rest u = cc in
    let one = same_names t.columns u.columns (index_rest t) (index_rest u) h k
    (sym (append_assoc (joined_by comma (map name_lexemes t.columns)) (right_bracket ∷ []) (index_rest t)) ∙ rest ∙ append_assoc (joined_by comma (map name_lexemes u.columns)) (right_bracket ∷ []) (index_rest u)) in
    let last : index_rest t ≡ index_rest u = one.1 in
    let pages : t.pages ≡ u.pages = cc in
    λ i. record { name = name i; table = table i; columns = one.0 i; pages = pages i }

pub same_statement : (s t : CatalogueStatement) → HasColumns s → HasColumns t → catalogue_lexemes s ≡ catalogue_lexemes t → s ≡ t
same_statement (Site s) (Site t) h k e =
    let name : s.name ≡ t.name = cc in
    let cpu : s.cpu ≡ t.cpu = cc in
    let net : s.net ≡ t.net = cc in
    λ i. Site (record { name = name i; cpu = cpu i; net = net i })
same_statement (Site s) (Table t) h k e = cc
same_statement (Site s) (Index t) h k e = cc
same_statement (Table s) (Site t) h k e = cc
same_statement (Table s) (Table t) h k e = ap Table (same_tables s t h k e)
same_statement (Table s) (Index t) h k e = cc
same_statement (Index s) (Site t) h k e = cc
same_statement (Index s) (Table t) h k e = cc
same_statement (Index s) (Index t) h k e = ap Index (same_indexes s t h k e)

pub one_catalogue_statement : (lexemes : List Lexeme) (s t : CatalogueStatement) → SpellsCatalogueStatement lexemes s → SpellsCatalogueStatement lexemes t → s ≡ t
one_catalogue_statement lexemes s t p q = same_statement s t p.columns q.columns (sym p.are ∙ q.are)

some_same : (a b : Catalogue) → Some a ≡ Some b → a ≡ b
some_same a b e = cc

pub one_catalogue : (text : List ℕ) (c d : Catalogue) → SpellsCatalogue text c → SpellsCatalogue text d → c ≡ d
one_catalogue text c d p q =
    let one = same_lists catalogue_lexemes HasColumns same_statement p.statements q.statements p.columns q.columns (one_list text _ _ p.are q.are) in
    some_same c d (sym p.means ∙ ap catalogue_of one ∙ q.means)
