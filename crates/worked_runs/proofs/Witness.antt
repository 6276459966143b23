-- Some files of which the clauses speak, and what a run that is done says.
use Rattle.std.proofs.Common.{◌≡◌, inl, inr, ℕ, List, [], ◌∷◌, false, if◌then◌else◌, None, Some, refl, arith, codes, zero, suc}
use Rattle.std.specs.Prelude.{IsTrue}
use Rattle.std.specs.Str.{bytes_eq, IsAscii}
use Rattle.std.proofs.lemmas.Str.{IsUtf8-from_ascii}
use Rattle.sb_text.specs.Tokens.{lexed, lexed_after}
use Rattle.sb_text.specs.Refusal.{fault_of}
use Rattle.sb_outside.specs.Shelf.{Files, ShelfState}
use Rattle.star_model.specs.WellFormed.{WellFormedQuery}
use Rattle.star_model.specs.declared.catalogue.Catalogue.{Catalogue as CatalogueTree}
use Rattle.star_model.specs.declared.catalogue.SiteDef.{SiteDef}
use Rattle.star_model.specs.declared.catalogue.ColumnDef.{ColumnDef}
use Rattle.star_model.specs.declared.catalogue.ColType.TheVariants as type
use Rattle.star_model.specs.declared.query.Query.{Query as QueryTree}
use Rattle.star_model.specs.declared.faults.LimitKind.{LimitKind}
use Rattle.star_model.specs.declared.faults.LimitKind.TheVariants as limit
use Rattle.spelling.specs.Lexemes.{statements_in}
use Rattle.spelling.specs.Firsts.{NoneHas}
use Rattle.spelling.specs.Limits.{HasGreatNumber, HasLongWord}
use Rattle.catalogue.specs.Catalogues.{TablePart, CatalogueStatement, Site, Table, catalogue_lexemes, table_from, catalogue_of}
use Rattle.query_graph.specs.Queries.{QueryStatement, only_column, query_lexemes, query_of}
use Rattle.star_model.specs.Selectivity.{selects_of, weighed}
use Rattle.rule_grammar.specs.Tiny.{tiny_rules}
use Rattle.catalogue.specs.Defined.{NamesUnknown, DefinesTwice}
use Rattle.catalogue.specs.Beyond.{Beyond, IsBeyond, IsFileName}
use Rattle.catalogue.specs.Faults.{SaysStatements}
use Rattle.catalogue.proofs.Laws.{no_fault, formed}
use Rattle.query_graph.specs.Faults as queries
use Rattle.query_graph.proofs.Laws.{accepted_query}
use Rattle.stars_core.specs.CommandLine.{CommandLine}
use Rattle.stars_core.specs.Judging.{CataloguePasses, QueryPasses}
use Rattle.stars_core.specs.Saying.{three}
use Rattle.worked_runs.specs.SomeTold.{SomeTold}
use Rattle.worked_runs.proofs.TinyRules.{tiny_text, tiny_passes}
use Rattle.stars_core.proofs.Laws.{three_pass, says_case}

-- ---- three texts

abbrev site : SiteDef
site = record { name = codes "s"; cpu = 1; net = 1 }

abbrev column : ColumnDef
column = record { name = codes "a"; kind = type.Int; width = 8; distinct = 1 }

abbrev table : TablePart
table = record { name = codes "t"; site = codes "s"; rows = 1; pages = 1; file = codes "f"; columns = column ∷ [] }

abbrev pub catalogue : CatalogueTree
catalogue = record { sites = site ∷ []; tables = table_from 0 table ∷ []; indexes = [] }

abbrev pub catalogue_text : List ℕ
catalogue_text = codes "site s cpu 1 net 1;table t at s rows 1 pages 1 file 'f'(a int width 8 distinct 1);"

abbrev pub query_text : List ℕ
query_text = codes "select t.a from t;"

-- ---- the catalogue

abbrev statements : List CatalogueStatement
statements = Site site ∷ Table table ∷ []

catalogue_accepted : fault_of catalogue_text ≡ None
unfolding lexed lexed_after
catalogue_accepted = refl

catalogue_says : SaysStatements catalogue_text statements
unfolding lexed lexed_after statements_in
catalogue_says = record { are = record { all_tokens = refl; are = refl }; columns = (tt, (tt, tt)) }

catalogue_means : catalogue_of statements ≡ Some catalogue
unfolding catalogue_of
catalogue_means = refl

known : NoneHas NamesUnknown statements
known = (λ (h : IsTrue false). absurd cc, (λ (h : IsTrue false). absurd cc, tt))

once : NoneHas DefinesTwice statements
once = (λ (h : IsTrue false). absurd cc, (λ (h : IsTrue false). absurd cc, tt))

small_site : HasGreatNumber (catalogue_lexemes (Site site)) → ⊥
small_site (inl h) = omega arith
small_site (inr (inl h)) = omega arith
small_site (inr (inr h)) = h

small_table : HasGreatNumber (catalogue_lexemes (Table table)) → ⊥
small_table (inl h) = omega arith
small_table (inr (inl h)) = omega arith
small_table (inr (inr (inl h))) = omega arith
small_table (inr (inr (inr (inl h)))) = omega arith
small_table (inr (inr (inr (inr h)))) = h

short_site : HasLongWord (catalogue_lexemes (Site site)) → ⊥
short_site (inl h) = omega arith
short_site (inr (inl h)) = omega arith
short_site (inr (inr (inl h))) = omega arith
short_site (inr (inr (inr (inl h)))) = omega arith
short_site (inr (inr (inr (inr h)))) = h

short_table : HasLongWord (catalogue_lexemes (Table table)) → ⊥
short_table (inl h) = omega arith
short_table (inr (inl h)) = omega arith
short_table (inr (inr (inl h))) = omega arith
short_table (inr (inr (inr (inl h)))) = omega arith
short_table (inr (inr (inr (inr (inl h))))) = omega arith
short_table (inr (inr (inr (inr (inr (inl h)))))) = omega arith
short_table (inr (inr (inr (inr (inr (inr (inl h))))))) = omega arith
short_table (inr (inr (inr (inr (inr (inr (inr (inl h)))))))) = omega arith
short_table (inr (inr (inr (inr (inr (inr (inr (inr (inl h))))))))) = omega arith
short_table (inr (inr (inr (inr (inr (inr (inr (inr (inr (inl h)))))))))) = omega arith
short_table (inr (inr (inr (inr (inr (inr (inr (inr (inr (inr (inl h))))))))))) = omega arith
short_table (inr (inr (inr (inr (inr (inr (inr (inr (inr (inr (inr h))))))))))) = h

ascii : IsAscii (codes "f")
ascii zero = omega arith
ascii (suc zero) = omega arith
ascii (suc (suc i)) = omega arith

file_name : IsFileName (codes "f")
file_name = record { some = omega arith; few = omega arith; utf8 = IsUtf8-from_ascii (codes "f") ascii }

site_within : (what : LimitKind) → Beyond [] (Site site) what → ⊥
site_within limit.Number h = small_site h
site_within limit.Name h = short_site h
site_within limit.File h = h
site_within limit.Params h = h
site_within limit.Alternatives h = h
site_within limit.ForAlls h = h
site_within limit.Stars h = h
site_within limit.Depth h = h
site_within limit.Formula h = h
site_within limit.Sites h = omega arith
site_within limit.Tables h = h
site_within limit.Columns h = h
site_within limit.Indexes h = h
site_within limit.IndexColumns h = h
site_within limit.Quantifiers h = h
site_within limit.Predicates h = h
site_within limit.Select h = h
site_within limit.OrderBy h = h

table_within : (what : LimitKind) → Beyond (Site site ∷ []) (Table table) what → ⊥
table_within limit.Number h = small_table h
table_within limit.Name h = short_table h
table_within limit.File h = h file_name
table_within limit.Params h = h
table_within limit.Alternatives h = h
table_within limit.ForAlls h = h
table_within limit.Stars h = h
table_within limit.Depth h = h
table_within limit.Formula h = h
table_within limit.Sites h = h
table_within limit.Tables h = omega arith
table_within limit.Columns h = omega arith
table_within limit.Indexes h = h
table_within limit.IndexColumns h = h
table_within limit.Quantifiers h = h
table_within limit.Predicates h = h
table_within limit.Select h = h
table_within limit.OrderBy h = h

within : NoneHas IsBeyond statements
within = (λ beyond. site_within beyond.0 beyond.1, (λ beyond. table_within beyond.0 beyond.1, tt))

pub catalogue_passes : CataloguePasses catalogue_text catalogue
catalogue_passes = record {
  size = omega arith;
  read = record {
    spells = record { statements = statements; are = catalogue_says.are; columns = catalogue_says.columns; means = catalogue_means };
    formed = formed catalogue_text statements catalogue_says once within catalogue catalogue_means;
    clear = no_fault catalogue_text statements catalogue_accepted catalogue_says known once within;
  };
}

-- ---- the query

abbrev pub query : QueryTree
query = record {
  catalogue = catalogue;
  quants = record { name = codes "t"; table = 0 } ∷ [];
  select = record { quant = record { 0 = 0 }; column = 0 } ∷ [];
  preds = [];
  order = [];
  site = None;
}

query_accepted : fault_of query_text ≡ None
unfolding lexed lexed_after
query_accepted = refl

abbrev selection : QueryStatement
selection = only_column (codes "t") (codes "a")

query_says : queries.Says query_text selection
unfolding lexed lexed_after statements_in
query_says = record {
  are = record { all_tokens = refl; are = refl };
  stands = record { some_columns = tt; some_items = tt; select = (refl, tt); items = ((refl, tt), tt); comparisons = tt; order = tt; site = tt };
}

query_means : query_of catalogue selection ≡ Some query
unfolding query_of weighed
query_means = refl

query_formed : WellFormedQuery query
query_formed = record {
  catalogue = formed catalogue_text statements catalogue_says once within catalogue catalogue_means;
  some_quantifiers = (omega arith, omega arith);
  some_columns = (omega arith, omega arith);
  few_predicates = omega arith;
  few_in_order = omega arith;
  tables = refl;
  names = refl;
  quantifiers_differ = refl;
  select = refl;
  order = refl;
  columns = refl;
  constants = refl;
  one_type = refl;
  site = refl;
}

names_known : queries.NamesUnknown catalogue selection → ⊥
names_known (queries.table e) = cc
names_known (queries.column e) = cc
names_known (queries.site name e f) = cc

names_once : queries.DefinesTwice selection → ⊥
names_once e = cc

short_selection : HasLongWord (query_lexemes selection) → ⊥
short_selection (inl h) = omega arith
short_selection (inr (inl h)) = omega arith
short_selection (inr (inr (inl h))) = omega arith
short_selection (inr (inr (inr (inl h)))) = omega arith
short_selection (inr (inr (inr (inr (inl h))))) = omega arith
short_selection (inr (inr (inr (inr (inr h))))) = h

limits_kept : (what : LimitKind) → queries.Beyond selection what → ⊥
limits_kept limit.Number h = h
limits_kept limit.Name h = short_selection h
limits_kept limit.File h = h
limits_kept limit.Params h = h
limits_kept limit.Alternatives h = h
limits_kept limit.ForAlls h = h
limits_kept limit.Stars h = h
limits_kept limit.Depth h = h
limits_kept limit.Formula h = h
limits_kept limit.Sites h = h
limits_kept limit.Tables h = h
limits_kept limit.Columns h = h
limits_kept limit.Indexes h = h
limits_kept limit.IndexColumns h = h
limits_kept limit.Quantifiers h = omega arith
limits_kept limit.Predicates h = omega arith
limits_kept limit.Select h = omega arith
limits_kept limit.OrderBy h = omega arith

pub query_passes : QueryPasses catalogue query_text query
query_passes = record {
  size = omega arith;
  read = accepted_query catalogue query_text selection query_accepted query_says names_known names_once limits_kept query query_means tt query_formed;
}

pub some_told : SomeTold
some_told =
    let files : Files = λ name. if bytes_eq name (codes "r") then Some tiny_text else if bytes_eq name (codes "c") then Some catalogue_text else Some query_text in
    let words : CommandLine = codes "plan" ∷ codes "r" ∷ codes "c" ∷ codes "q" ∷ [] in
    let shelf : ShelfState = record { held = Some files; faults = 0; calls = 0; taken = 0; last_failed = None } in (
      words,
      shelf,
      three tiny_text catalogue_text query_text,
      (tiny_rules, weighed (selects_of tiny_rules) query),
      record {
        files = files;
        told = refl;
        listed = refl;
        held = (refl, refl, (refl, refl, (refl, refl, tt)));
        accepted = three_pass tiny_text catalogue_text query_text tiny_rules catalogue query tiny_passes catalogue_passes query_passes;
        says = says_case tiny_text catalogue_text query_text tiny_rules catalogue query tiny_passes catalogue_passes query_passes;
      },
    )
