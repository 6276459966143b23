-- The text of the query spells its tree, which is well formed.
use Rattle.std.proofs.Common.{◌≡◌, ℕ, Bool, true, ◌&&◌, ◌≤◌, List, [], ◌∷◌, length, map, Some, nat_lt, nat_le, refl, sym, ap, ◌∙◌, subst, arith}
use Rattle.std.specs.Fmt.{digits}
use Rattle.std.specs.List.{list_all}
use Rattle.std.specs.Option.{option_map_or}
use Rattle.std.proofs.lemmas.Bool.{and_parts, leb-true, ltb-true}
use Rattle.star_model.specs.declared.query.Query.{Query}
use Rattle.star_model.specs.Predicates.{columns_of}
use Rattle.star_model.specs.Selectivity.{weighed}
use Rattle.star_model.specs.Vectors.{same_numbers}
use Rattle.star_model.specs.WellFormed.{differ, is_name, is_there, is_operand, same_type, type_of, type_of_operand, WellFormedCatalogue, WellFormedQuery}
use Rattle.query_graph.specs.Queries.{query_of, SpellsQuery}
use Rattle.workload_gen.specs.declared.tables.DrawnTable.{DrawnTable}
use Rattle.workload_gen.specs.Tables.{drawn_tables}
use Rattle.workload_gen.specs.QueryText.{query_statement, query_text}
use Rattle.workload_gen.specs.Trees.{catalogue_tree, query_tree}
use Rattle.workload_gen.specs.Workloads.{IsSize}
use Rattle.workload_gen.proofs.LinkLaws.{tables_count}
use Rattle.workload_gen.proofs.StatementLaws.{query_says}
use Rattle.workload_gen.proofs.CatalogueTrees.{formed_catalogue}

-- what holds of each list of one to eight tables
each_size : (P : List DrawnTable → Type 0)
    → ((a : DrawnTable) → P (a ∷ []))
    → ((a b : DrawnTable) → P (a ∷ b ∷ []))
    → ((a b c : DrawnTable) → P (a ∷ b ∷ c ∷ []))
    → ((a b c d : DrawnTable) → P (a ∷ b ∷ c ∷ d ∷ []))
    → ((a b c d e : DrawnTable) → P (a ∷ b ∷ c ∷ d ∷ e ∷ []))
    → ((a b c d e f : DrawnTable) → P (a ∷ b ∷ c ∷ d ∷ e ∷ f ∷ []))
    → ((a b c d e f g : DrawnTable) → P (a ∷ b ∷ c ∷ d ∷ e ∷ f ∷ g ∷ []))
    → ((a b c d e f g h : DrawnTable) → P (a ∷ b ∷ c ∷ d ∷ e ∷ f ∷ g ∷ h ∷ []))
    → (tables : List DrawnTable) → 1 ≤ length tables → length tables ≤ 8 → P tables
each_size P p1 p2 p3 p4 p5 p6 p7 p8 [] some few = absurd (omega arith)
each_size P p1 p2 p3 p4 p5 p6 p7 p8 (a ∷ []) some few = p1 a
each_size P p1 p2 p3 p4 p5 p6 p7 p8 (a ∷ b ∷ []) some few = p2 a b
each_size P p1 p2 p3 p4 p5 p6 p7 p8 (a ∷ b ∷ c ∷ []) some few = p3 a b c
each_size P p1 p2 p3 p4 p5 p6 p7 p8 (a ∷ b ∷ c ∷ d ∷ []) some few = p4 a b c d
each_size P p1 p2 p3 p4 p5 p6 p7 p8 (a ∷ b ∷ c ∷ d ∷ e ∷ []) some few = p5 a b c d e
each_size P p1 p2 p3 p4 p5 p6 p7 p8 (a ∷ b ∷ c ∷ d ∷ e ∷ f ∷ []) some few = p6 a b c d e f
each_size P p1 p2 p3 p4 p5 p6 p7 p8 (a ∷ b ∷ c ∷ d ∷ e ∷ f ∷ g ∷ []) some few = p7 a b c d e f g
each_size P p1 p2 p3 p4 p5 p6 p7 p8 (a ∷ b ∷ c ∷ d ∷ e ∷ f ∷ g ∷ h ∷ []) some few = p8 a b c d e f g h
each_size P p1 p2 p3 p4 p5 p6 p7 p8 (a ∷ b ∷ c ∷ d ∷ e ∷ f ∷ g ∷ h ∷ i ∷ rest) some few = absurd (omega arith)

abbrev Means : List DrawnTable → Type 0
Means tables = query_of (catalogue_tree tables) (query_statement (length tables)) ≡ Some (query_tree tables)

means : (tables : List DrawnTable) → 1 ≤ length tables → length tables ≤ 8 → Means tables
unfolding query_of digits
means tables some few = each_size Means (λ a. refl) (λ a b. refl) (λ a b c. refl) (λ a b c d. refl) (λ a b c d e. refl) (λ a b c d e f. refl) (λ a b c d e f g. refl) (λ a b c d e f g h. refl) tables some few

pub spells_query : (seed size : ℕ) → IsSize size → SpellsQuery (catalogue_tree (drawn_tables seed size)) (query_text size) (query_tree (drawn_tables seed size))
spells_query seed size is =
    let tables = drawn_tables seed size in
    let count = tables_count seed size in
    let says = query_says size is in
    record {
      statement = query_statement size;
      are = says.are;
      stands = says.stands;
      means = ap (λ n. query_of (catalogue_tree tables) (query_statement n)) (sym count) ∙ means tables (omega arith) (omega arith);
    }

-- ---- the tree is well formed

-- what is tested of a query beside its catalogue
abbrev tests : Query → Bool
tests q =
    (nat_lt 0 (length q.quants) && nat_le (length q.quants) 12)
    && ((nat_lt 0 (length q.select) && nat_le (length q.select) 64)
    && ((nat_le (length q.preds) 16 && nat_le (length q.order) 16)
    && ((list_all (λ d. nat_lt d.table (length q.catalogue.tables)) q.quants && list_all (λ d. is_name d.name) q.quants)
    && ((differ same_numbers (map (λ d. d.name) q.quants) && list_all (is_there q) q.select)
    && ((list_all (is_there q) q.order && list_all (λ p. list_all (is_there q) (columns_of p)) q.preds)
    && ((list_all (λ p. is_operand p.right) q.preds && list_all (λ p. same_type (type_of q p.left) (type_of_operand q p.right)) q.preds)
    && option_map_or (λ s. nat_lt s.0 (length q.catalogue.sites)) q.site true))))))

formed_by : (q : Query) → WellFormedCatalogue q.catalogue → tests q ≡ true → WellFormedQuery q
formed_by q catalogue all =
    let quants = and_parts _ _ all in
    let select = and_parts _ _ quants.1 in
    let few = and_parts _ _ select.1 in
    let tables = and_parts _ _ few.1 in
    let named = and_parts _ _ tables.1 in
    let there = and_parts _ _ named.1 in
    let last = and_parts _ _ there.1 in
    let quants_between = and_parts _ _ quants.0 in
    let select_between = and_parts _ _ select.0 in
    let both_few = and_parts _ _ few.0 in
    let tables_and_names = and_parts _ _ tables.0 in
    let differ_and_there = and_parts _ _ named.0 in
    let order_and_columns = and_parts _ _ there.0 in
    let last_ones = and_parts _ _ last.0 in
    record {
      catalogue = catalogue;
      some_quantifiers = (ltb-true 0 (length q.quants) quants_between.0, leb-true (length q.quants) 12 quants_between.1);
      some_columns = (ltb-true 0 (length q.select) select_between.0, leb-true (length q.select) 64 select_between.1);
      few_predicates = leb-true (length q.preds) 16 both_few.0;
      few_in_order = leb-true (length q.order) 16 both_few.1;
      tables = tables_and_names.0;
      names = tables_and_names.1;
      quantifiers_differ = differ_and_there.0;
      select = differ_and_there.1;
      order = order_and_columns.0;
      columns = order_and_columns.1;
      constants = last_ones.0;
      one_type = last_ones.1;
      site = last.1;
    }

abbrev Passes : List DrawnTable → Type 0
Passes tables = tests (query_tree tables) ≡ true

passes : (tables : List DrawnTable) → 1 ≤ length tables → length tables ≤ 8 → Passes tables
unfolding weighed digits
passes tables some few = each_size Passes (λ a. refl) (λ a b. refl) (λ a b c. refl) (λ a b c d. refl) (λ a b c d e. refl) (λ a b c d e f. refl) (λ a b c d e f g. refl) (λ a b c d e f g h. refl) tables some few

same_catalogue : (tables : List DrawnTable) → (query_tree tables).catalogue ≡ catalogue_tree tables
unfolding weighed
same_catalogue tables = refl

pub formed_query : (seed size : ℕ) → IsSize size → WellFormedQuery (query_tree (drawn_tables seed size))
formed_query seed size is =
    let tables = drawn_tables seed size in
    let count = tables_count seed size in
    formed_by (query_tree tables) (subst WellFormedCatalogue (sym (same_catalogue tables)) (formed_catalogue seed size is)) (passes tables (omega arith) (omega arith))
