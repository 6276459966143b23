-- One text spells one query.
use Rattle.std.proofs.Common.{◌≡◌, ℕ, true, false, List, [], ◌∷◌, ◌++◌, map, Option, Some, None, codes, refl, sym, ap, ◌∙◌, subst}
use Rattle.std.specs.Option.{option_map_or}
use Rattle.std.proofs.lemmas.Option.{option_and_then_some}
use Rattle.star_model.specs.declared.catalogue.Catalogue.{Catalogue}
use Rattle.star_model.specs.declared.query.Query.{Query}
use Rattle.star_model.specs.declared.query.Cmp.{Cmp}
use Rattle.star_model.specs.declared.query.Cmp.TheVariants as cmp
use Rattle.spelling.specs.Lexemes.{Lexeme, Word, Symbol, comma, joined_by}
use Rattle.star_model.specs.Names.{is_among}
use Rattle.star_model.specs.Selectivity.{weighed}
use Rattle.spelling.specs.Names.{found_in, all_of}
use Rattle.query_graph.specs.Queries.{ColumnName, Item, Whole, Negative, Quoted, Side, OfColumn, OfConstant, Comparison, QueryStatement, column_lexemes, own_name, IsFreeIfAny, item_lexemes, cmp_lexeme, side_lexemes, comparison_lexemes, columns_lexemes, where_lexemes, order_lexemes, at_lexemes, query_lexemes, reserved_in_queries, IsFree, HasFreeNames, IsQueryStatement, SpellsQueryStatement, SpellsQuery, query_of, quantifier_of, columns_of, predicate_of, site_of}
use Rattle.spelling.proofs.Laws.{one_list}
use Rattle.star_model.proofs.Laws.{weighed_again}
use Rattle.spelling.specs.SpelledSeries.{series, anything, differ, heads}

same_column : (c d : ColumnName) (r s : List Lexeme) → Unit {0} → Unit {0} → Unit {0} → Unit {0} → column_lexemes c ++ r ≡ column_lexemes d ++ s → (c ≡ d) × (r ≡ s)
same_column c d r s _ _ _ _ e =
    let quantifier : c.quantifier ≡ d.quantifier = cc in
    let column : c.column ≡ d.column = cc in
    let later : r ≡ s = cc in
    ((λ i. record { quantifier = quantifier i; column = column i }), later)

decode : Lexeme → Cmp
decode (Symbol bytes) =
    found_in cmp.Ge ((codes "=", cmp.Eq) ∷ (codes "<>", cmp.Ne) ∷ (codes "<", cmp.Lt) ∷ (codes "<=", cmp.Le) ∷ (codes ">", cmp.Gt) ∷ []) bytes
decode _ = cmp.Ge

decoded : (x : Cmp) → x ≡ decode (cmp_lexeme x)
unfolding decode
decoded cmp.Eq = refl
decoded cmp.Ne = refl
decoded cmp.Lt = refl
decoded cmp.Le = refl
decoded cmp.Gt = refl
decoded cmp.Ge = refl

same_cmp : (x y : Cmp) → cmp_lexeme x ≡ cmp_lexeme y → x ≡ y
same_cmp x y e = decoded x ∙ ap decode e ∙ sym (decoded y)

same_side : (x y : Side) (r s : List Lexeme) → side_lexemes x ++ r ≡ side_lexemes y ++ s → (x ≡ y) × (r ≡ s)
same_side (OfColumn c) (OfColumn d) r s e =
    let one = same_column c d r s tt tt tt tt e in (ap OfColumn one.0, one.1)
same_side (OfColumn c) (OfConstant (Whole n)) r s e = cc
same_side (OfColumn c) (OfConstant (Negative n)) r s e = cc
same_side (OfColumn c) (OfConstant (Quoted b)) r s e = cc
same_side (OfConstant (Whole n)) (OfColumn c) r s e = cc
same_side (OfConstant (Negative n)) (OfColumn c) r s e = cc
same_side (OfConstant (Quoted b)) (OfColumn c) r s e = cc
same_side (OfConstant (Whole n)) (OfConstant (Whole m)) r s e =
    let number : n ≡ m = cc in let later : r ≡ s = cc in (ap (λ k. OfConstant (Whole k)) number, later)
same_side (OfConstant (Whole n)) (OfConstant (Negative m)) r s e = cc
same_side (OfConstant (Whole n)) (OfConstant (Quoted b)) r s e = cc
same_side (OfConstant (Negative n)) (OfConstant (Whole m)) r s e = cc
same_side (OfConstant (Negative n)) (OfConstant (Negative m)) r s e =
    let number : n ≡ m = cc in let later : r ≡ s = cc in (ap (λ k. OfConstant (Negative k)) number, later)
same_side (OfConstant (Negative n)) (OfConstant (Quoted b)) r s e = cc
same_side (OfConstant (Quoted a)) (OfConstant (Whole m)) r s e = cc
same_side (OfConstant (Quoted a)) (OfConstant (Negative m)) r s e = cc
same_side (OfConstant (Quoted a)) (OfConstant (Quoted b)) r s e =
    let bytes : a ≡ b = cc in let later : r ≡ s = cc in (ap (λ k. OfConstant (Quoted k)) bytes, later)

same_comparison : (x y : Comparison) (r s : List Lexeme) → Unit {0} → Unit {0} → Unit {0} → Unit {0} → comparison_lexemes x ++ r ≡ comparison_lexemes y ++ s → (x ≡ y) × (r ≡ s)
same_comparison x y r s _ _ _ _ e =
    let left = same_column x.left y.left (cmp_lexeme x.cmp ∷ (side_lexemes x.right ++ r)) (cmp_lexeme y.cmp ∷ (side_lexemes y.right ++ s)) tt tt tt tt e in
    let two = heads (cmp_lexeme x.cmp) (cmp_lexeme y.cmp) (side_lexemes x.right ++ r) (side_lexemes y.right ++ s) left.1 in
    let cmps = same_cmp x.cmp y.cmp two.0 in
    let right = same_side x.right y.right r s two.1 in
    ((λ i. record { left = left.0 i; cmp = cmps i; right = right.0 i }), right.1)

-- ---- what may follow

-- no name that is free
abbrev NotFree : List Lexeme → Type 0
NotFree r = (name : List ℕ) (t : List Lexeme) → IsFree name → r ≡ Word name ∷ t → ⊥

same_own : (a b : Option (List ℕ)) (r s : List Lexeme) → IsFreeIfAny a → IsFreeIfAny b → NotFree r → NotFree s → own_name a ++ r ≡ own_name b ++ s → (a ≡ b) × (r ≡ s)
same_own None None r s p q m n e = (refl, e)
same_own None (Some b) r s p q m n e = absurd (m b s q e)
same_own (Some a) None r s p q m n e = absurd (n a r p (sym e))
same_own (Some a) (Some b) r s p q m n e =
    let name : a ≡ b = cc in let later : r ≡ s = cc in (ap (λ k. Some k) name, later)

same_item : (x y : Item) (r s : List Lexeme) → HasFreeNames x → HasFreeNames y → NotFree r → NotFree s → item_lexemes x ++ r ≡ item_lexemes y ++ s → (x ≡ y) × (r ≡ s)
same_item x y r s p q m n e =
    let tables : x.table ≡ y.table = cc in
    let rest : own_name x.name ++ r ≡ own_name y.name ++ s = cc in
    let one = same_own x.name y.name r s p.1 q.1 m n rest in
    ((λ i. record { table = tables i; name = one.0 i }), one.1)

-- no list of these begins with another lexeme
at_begins : (site : Option (List ℕ)) (x : Lexeme) (t : List Lexeme) → (x ≡ Word (codes "at") → ⊥) → at_lexemes site ≡ x ∷ t → ⊥
at_begins None x t other e = cc
at_begins (Some name) x t other e = other (sym (heads (Word (codes "at")) x (Word name ∷ []) t e).0)

order_begins : (order : List ColumnName) (site : Option (List ℕ)) (x : Lexeme) (t : List Lexeme) → (x ≡ Word (codes "order") → ⊥) → (x ≡ Word (codes "at") → ⊥)
    → order_lexemes order ++ at_lexemes site ≡ x ∷ t → ⊥
order_begins [] site x t first second e = at_begins site x t second e
order_begins (c ∷ cs) site x t first second e = first (sym (heads (Word (codes "order")) x _ t e).0)

where_begins : (comparisons : List Comparison) (order : List ColumnName) (site : Option (List ℕ)) (x : Lexeme) (t : List Lexeme)
    → (x ≡ Word (codes "where") → ⊥) → (x ≡ Word (codes "order") → ⊥) → (x ≡ Word (codes "at") → ⊥)
    → where_lexemes comparisons ++ (order_lexemes order ++ at_lexemes site) ≡ x ∷ t → ⊥
where_begins [] order site x t first second third e = order_begins order site x t second third e
where_begins (p ∷ ps) order site x t first second third e = first (sym (heads (Word (codes "where")) x _ t e).0)

names : (a b : List ℕ) → Word a ≡ Word b → a ≡ b
names a b e = cc

reserved : (name word : List ℕ) → IsFree name → is_among reserved_in_queries word ≡ true → Word name ≡ Word word → ⊥
reserved name word free is e =
    let same : name ≡ word = names name word e in
    let not_ : is_among reserved_in_queries word ≡ false = subst (λ (w : List ℕ). is_among reserved_in_queries w ≡ false) same free in
    cc

not_free : (comparisons : List Comparison) (order : List ColumnName) (site : Option (List ℕ)) → NotFree (where_lexemes comparisons ++ (order_lexemes order ++ at_lexemes site))
not_free comparisons order site name t free e =
    where_begins comparisons order site (Word name) t
    (reserved name (codes "where") free refl) (reserved name (codes "order") free refl) (reserved name (codes "at") free refl) e

same_site : (a b : Option (List ℕ)) → at_lexemes a ≡ at_lexemes b → a ≡ b
same_site None None e = refl
same_site None (Some b) e = cc
same_site (Some a) None e = cc
same_site (Some a) (Some b) e = let name : a ≡ b = cc in ap (λ k. Some k) name

same_order : (cs ds : List ColumnName) (a b : Option (List ℕ)) → order_lexemes cs ++ at_lexemes a ≡ order_lexemes ds ++ at_lexemes b → (cs ≡ ds) × (at_lexemes a ≡ at_lexemes b)
same_order [] [] a b e = (refl, e)
same_order [] (d ∷ ds) a b e = absurd (at_begins a (Word (codes "order")) _ (differ (codes "order") (codes "at") refl) e)
same_order (c ∷ cs) [] a b e = absurd (at_begins b (Word (codes "order")) _ (differ (codes "order") (codes "at") refl) (sym e))
same_order (c ∷ cs) (d ∷ ds) a b e =
    let rest : columns_lexemes (c ∷ cs) ++ at_lexemes a ≡ columns_lexemes (d ∷ ds) ++ at_lexemes b = cc in
    series column_lexemes (λ _. Unit {0}) (λ _. Unit {0}) comma (λ _. tt) same_column (c ∷ cs) (d ∷ ds) (at_lexemes a) (at_lexemes b) tt tt (anything (c ∷ cs)) (anything (d ∷ ds))
    (tt, λ t f. at_begins a comma t (λ g. cc) f) (tt, λ t f. at_begins b comma t (λ g. cc) f) rest

same_where : (ps qs : List Comparison) (cs ds : List ColumnName) (a b : Option (List ℕ))
    → where_lexemes ps ++ (order_lexemes cs ++ at_lexemes a) ≡ where_lexemes qs ++ (order_lexemes ds ++ at_lexemes b)
    → (ps ≡ qs) × (order_lexemes cs ++ at_lexemes a ≡ order_lexemes ds ++ at_lexemes b)
same_where [] [] cs ds a b e = (refl, e)
same_where [] (q ∷ qs) cs ds a b e = absurd (order_begins cs a (Word (codes "where")) _ (differ (codes "where") (codes "order") refl) (differ (codes "where") (codes "at") refl) e)
same_where (p ∷ ps) [] cs ds a b e = absurd (order_begins ds b (Word (codes "where")) _ (differ (codes "where") (codes "order") refl) (differ (codes "where") (codes "at") refl) (sym e))
same_where (p ∷ ps) (q ∷ qs) cs ds a b e =
    let rest : joined_by (Word (codes "and")) (map comparison_lexemes (p ∷ ps)) ++ (order_lexemes cs ++ at_lexemes a) ≡ joined_by (Word (codes "and")) (map comparison_lexemes (q ∷ qs)) ++ (order_lexemes ds ++ at_lexemes b) = cc in
    series comparison_lexemes (λ _. Unit {0}) (λ _. Unit {0}) (Word (codes "and")) (λ _. tt) same_comparison (p ∷ ps) (q ∷ qs) (order_lexemes cs ++ at_lexemes a) (order_lexemes ds ++ at_lexemes b) tt tt (anything (p ∷ ps)) (anything (q ∷ qs))
    (tt, λ t f. order_begins cs a (Word (codes "and")) t (differ (codes "and") (codes "order") refl) (differ (codes "and") (codes "at") refl) f) (tt, λ t f. order_begins ds b (Word (codes "and")) t (differ (codes "and") (codes "order") refl) (differ (codes "and") (codes "at") refl) f) rest

abbrev tail : QueryStatement → List Lexeme
tail q = where_lexemes q.comparisons ++ (order_lexemes q.order ++ at_lexemes q.site)

pub same_statement : (q r : QueryStatement) → IsQueryStatement q → IsQueryStatement r → query_lexemes q ≡ query_lexemes r → q ≡ r
same_statement q r p s e =
    let first = heads (Word (codes "select")) (Word (codes "select")) _ _ e in
    let selects = series column_lexemes (λ _. Unit {0}) (λ _. Unit {0}) comma (λ _. tt) same_column q.select r.select _ _ p.some_columns s.some_columns (anything q.select) (anything r.select) (tt, λ t f. cc) (tt, λ t f. cc) first.1 in
    let second = heads (Word (codes "from")) (Word (codes "from")) _ _ selects.1 in
    let items = series item_lexemes HasFreeNames NotFree comma (λ rest name t free f. cc) same_item q.items r.items (tail q) (tail r) p.some_items s.some_items p.items s.items
    (not_free q.comparisons q.order q.site, λ t f. where_begins q.comparisons q.order q.site comma t (λ g. cc) (λ g. cc) (λ g. cc) f)
    (not_free r.comparisons r.order r.site, λ t f. where_begins r.comparisons r.order r.site comma t (λ g. cc) (λ g. cc) (λ g. cc) f) second.1 in
    let wheres = same_where q.comparisons r.comparisons q.order r.order q.site r.site items.1 in
    let orders = same_order q.order r.order q.site r.site wheres.1 in
    let sites = same_site q.site r.site orders.1 in
    λ i. record { select = selects.0 i; items = items.0 i; comparisons = wheres.0 i; order = orders.0 i; site = sites i }

pub one_query_statement : (lexemes : List Lexeme) (q r : QueryStatement) → SpellsQueryStatement lexemes q → SpellsQueryStatement lexemes r → q ≡ r
one_query_statement lexemes q r p s = same_statement q r p.stands s.stands (sym p.are ∙ s.are)

some_same : (a b : Query) → Some a ≡ Some b → a ≡ b
some_same a b e = cc

pub one_query : (catalogue : Catalogue) (text : List ℕ) (a b : Query) → SpellsQuery catalogue text a → SpellsQuery catalogue text b → a ≡ b
one_query catalogue text a b p q =
    let lists = one_list text _ _ p.are q.are in
    let first : query_lexemes p.statement ≡ query_lexemes q.statement = firsts _ _ lists in
    let one = same_statement p.statement q.statement p.stands q.stands first in
    some_same a b (sym p.means ∙ ap (query_of catalogue) one ∙ q.means) where
      firsts : (x y : List Lexeme) → x ∷ [] ≡ y ∷ [] → x ≡ y
      firsts x y e = cc

-- a query is over the catalogue that it was read against
pub keeps_catalogue : (catalogue : Catalogue) (text : List ℕ) (query : Query) → SpellsQuery catalogue text query → query.catalogue ≡ catalogue
unfolding query_of weighed
keeps_catalogue catalogue text query spells =
    let s = spells.statement in
    option_and_then_some _ (all_of (map (quantifier_of catalogue) s.items)) query spells.means (λ quantifiers _ after_quantifiers.
    option_and_then_some _ (columns_of catalogue quantifiers s.select) query after_quantifiers (λ select _ after_select.
    option_and_then_some _ (all_of (map (predicate_of catalogue quantifiers) s.comparisons)) query after_select (λ predicates _ after_predicates.
    option_and_then_some _ (columns_of catalogue quantifiers s.order) query after_predicates (λ order _ after_order.
    option_and_then_some _ (site_of catalogue s.site) query after_order (λ site _ is.
    sym (ap (λ (found : Option Query). option_map_or (λ q. q.catalogue) found catalogue) is))))))

-- its predicates have the usual selectivities
pub usual_selectivities : (catalogue : Catalogue) (text : List ℕ) (query : Query) → SpellsQuery catalogue text query → weighed [] query ≡ query
unfolding query_of
usual_selectivities catalogue text query spells =
    let s = spells.statement in
    option_and_then_some _ (all_of (map (quantifier_of catalogue) s.items)) query spells.means (λ quantifiers _ after_quantifiers.
    option_and_then_some _ (columns_of catalogue quantifiers s.select) query after_quantifiers (λ select _ after_select.
    option_and_then_some _ (all_of (map (predicate_of catalogue quantifiers) s.comparisons)) query after_select (λ predicates _ after_predicates.
    option_and_then_some _ (columns_of catalogue quantifiers s.order) query after_predicates (λ order _ after_order.
    option_and_then_some _ (site_of catalogue s.site) query after_order (λ site _ is.
    again (record { catalogue = catalogue; quants = quantifiers; select = select; preds = predicates; order = order; site = site }) query is)))))
  where
    again : (plain query : Query) → Some (weighed [] plain) ≡ Some query → weighed [] query ≡ query
    again plain query is =
        let same = some_same (weighed [] plain) query is in
        ap (weighed []) (sym same) ∙ weighed_again [] [] plain ∙ same
