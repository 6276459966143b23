-- Each text has a verdict over a well-formed catalogue.
use Rattle.std.proofs.Common.{◌≡◌, ◌⊎◌, inl, inr, ℕ, ◌+◌, List, [], ◌∷◌, map, Option, Some, None, MatchOption, refl, ap, subst}
use Rattle.std.specs.List.{position_from}
use Rattle.std.specs.Option.{option_map}
use Rattle.sb_text.specs.Statements.{Part, parts}
use Rattle.sb_text.specs.Tokens.{lexed}
use Rattle.sb_text.specs.Refusal.{fault_of, first_fault, AreTokens}
use Rattle.sb_text.specs.Depth.{first_too_deep}
use Rattle.star_model.specs.declared.catalogue.Catalogue.{Catalogue}
use Rattle.star_model.specs.declared.faults.LimitKind.{LimitKind}
use Rattle.star_model.specs.declared.query.Query.{Query}
use Rattle.star_model.specs.WellFormed.{WellFormedCatalogue}
use Rattle.spelling.specs.Cursors.{part_said}
use Rattle.spelling.specs.Firsts.{FirstAt, NoneHas}
use Rattle.spelling.specs.Limits.{IsFirstBeyond}
use Rattle.query_graph.specs.Queries.{ColumnName, Item, Constant, Whole, Negative, Quoted, Side, OfColumn, OfConstant, Comparison, QueryStatement, query_of}
use Rattle.query_graph.specs.declared.words.ColumnWords.{ColumnWords}
use Rattle.query_graph.specs.declared.words.ItemWords.{ItemWords}
use Rattle.query_graph.specs.declared.words.ConstantWords.{ConstantWords}
use Rattle.query_graph.specs.declared.words.ConstantWords.TheVariants as constant
use Rattle.query_graph.specs.declared.words.SideWords.{SideWords}
use Rattle.query_graph.specs.declared.words.SideWords.TheVariants as side
use Rattle.query_graph.specs.declared.words.ComparisonWords.{ComparisonWords}
use Rattle.query_graph.specs.declared.words.QueryWords.{QueryWords}
use Rattle.query_graph.specs.Words.{said_column, said_item, said_constant, said_side, said_comparison, said}
use Rattle.query_graph.specs.declared.fault.QueryFault.{QueryFault}
use Rattle.query_graph.specs.declared.fault.QueryFault.TheVariants as fault
use Rattle.query_graph.specs.StatementReading.{statement_at}
use Rattle.query_graph.specs.LimitTests.{first_limit}
use Rattle.query_graph.specs.NameTests.{name_fault}
use Rattle.query_graph.specs.TypeTests.{has_two_types}
use Rattle.query_graph.specs.Syntax.{IsStrangeQueryAt}
use Rattle.query_graph.specs.Faults.{NamesUnknown, DefinesTwice, Beyond, HasTwoTypes, Says, IsFirstFault, IsAccepted}
use Rattle.query_graph.proofs.FaultLaws.{lexical_first, deep_first, strange_first, unknown_first, twice_first, limit_first, clash_first, accepted_query}
use Rattle.query_graph.proofs.StatementLaws.{no_statement, first_is_strange, second_strange, one_said}
use Rattle.query_graph.proofs.UnknownNames.{IsNameFault, name_fault_is}
use Rattle.query_graph.proofs.LimitLaws.{first_limit_is}
use Rattle.query_graph.proofs.TypeLaws.{first_clash_is}
use Rattle.query_graph.proofs.Clear.{means_query, formed_query}

-- ---- the words that say a statement

abbrev column_words : ColumnName → ColumnWords
column_words c = record { quantifier = c.quantifier; column = c.column }

abbrev item_words : Item → ItemWords
item_words i = record { table = i.table; name = i.name }

abbrev constant_words : Constant → ConstantWords
constant_words (Whole n) = constant.Whole n
constant_words (Negative n) = constant.Negative n
constant_words (Quoted bytes) = constant.Quoted bytes

abbrev side_words : Side → SideWords
side_words (OfColumn c) = side.Column (column_words c)
side_words (OfConstant k) = side.Constant (constant_words k)

abbrev comparison_words : Comparison → ComparisonWords
comparison_words p = record { left = column_words p.left; cmp = p.cmp; right = side_words p.right }

abbrev words_of : QueryStatement → QueryWords
words_of q = record {
  select = map column_words q.select;
  items = map item_words q.items;
  comparisons = map comparison_words q.comparisons;
  order = map column_words q.order;
  site = q.site;
}

constant_again : (k : Constant) → said_constant (constant_words k) ≡ k
constant_again (Whole n) = refl
constant_again (Negative n) = refl
constant_again (Quoted bytes) = refl

side_again : (s : Side) → said_side (side_words s) ≡ s
side_again (OfColumn c) = refl
side_again (OfConstant k) = ap (λ x. OfConstant x) (constant_again k)

comparison_again : (p : Comparison) → said_comparison (comparison_words p) ≡ p
comparison_again p = ap (λ x. record p { right = x }) (side_again p.right)

all_again : {A B : Type 0} (says : A → B) (words : B → A) → ((x : B) → says (words x) ≡ x) → (xs : List B) → map says (map words xs) ≡ xs
all_again says words again [] = refl
all_again says words again (x ∷ xs) = λ i. again x i ∷ all_again says words again xs i

said_again : (q : QueryStatement) → said (words_of q) ≡ q
said_again q = λ i. record {
  select = all_again said_column column_words (λ _. refl) q.select i;
  items = all_again said_item item_words (λ _. refl) q.items i;
  comparisons = all_again said_comparison comparison_words comparison_again q.comparisons i;
  order = all_again said_column column_words (λ _. refl) q.order i;
  site = q.site;
}

-- ---- the statements of a text are one query, or one is strange

abbrev Read : List ℕ → Type 0
Read text = ((q : QueryStatement) × Says text q) ⊎ ((k : ℕ) × IsStrangeQueryAt text k)

module _ (text : List ℕ) (are : AreTokens text (lexed text).0) where
  read_first : (part : Part) (later : List Part) → parts (lexed text).0 ≡ part ∷ later → (read : Option QueryStatement) → statement_at (part_said text part) ≡ read → Read text
  read_first part later cut None none = inr ((1, first_is_strange text (lexed text).0 part later are cut none))
  read_first part [] cut (Some q) is = inl ((q, one_said text (lexed text).0 part q are cut is))
  read_first part (next ∷ later) cut (Some q) is = inr ((2, second_strange text (lexed text).0 part next later q are cut is))

  read_all : Read text
  read_all = at (parts (lexed text).0) refl
    where
      at : (left : List Part) → parts (lexed text).0 ≡ left → Read text
      at [] cut = inr ((1, no_statement text (lexed text).0 are cut))
      at (part ∷ later) cut = read_first part later cut (statement_at (part_said text part)) refl

-- ---- the verdict

abbrev pub Verdict : Catalogue → List ℕ → Type 0
Verdict c text = ((query : Query) × IsAccepted c text query) ⊎ ((fault : QueryFault) × IsFirstFault c text fault)

module _ (c : Catalogue) (formed : WellFormedCatalogue c) (text : List ℕ) (accepted : fault_of text ≡ None) where
  module _ (q : QueryStatement) (says : Says text q) where
    module _ (known : NamesUnknown c q → ⊥) (once : DefinesTwice q → ⊥) where
      by_types : ((what : LimitKind) → Beyond q what → ⊥) → Verdict c text
      by_types keeps = at (position_from (has_two_types query) 0 query.preds) (first_clash_is query query.preds _ refl)
        where
          query : Query
          query = (means_query c q formed known once).0

          means : query_of c q ≡ Some query
          means = (means_query c q formed known once).1

          at : (found : Option ℕ) → MatchOption (option_map (λ n. n + 1) found) (NoneHas (λ _ p. HasTwoTypes query p) query.preds) (FirstAt (λ _ p. HasTwoTypes query p) query.preds) → Verdict c text
          at (Some n) clash = inr ((fault.TypeClash (n + 1), clash_first c text q accepted says known once keeps query means (n + 1) clash))
          at None one =
              inl ((query, accepted_query c text q accepted says known once keeps query means one (formed_query c text q query formed says once keeps means one)))

      by_limits : Verdict c text
      by_limits =
          at (first_limit (words_of q))
          (subst (λ (x : QueryStatement). MatchOption (first_limit (words_of q)) ((what : LimitKind) → Beyond x what → ⊥) (IsFirstBeyond (Beyond x))) (said_again q) (first_limit_is (words_of q)))
        where
          at : (found : Option LimitKind) → MatchOption found ((what : LimitKind) → Beyond q what → ⊥) (IsFirstBeyond (Beyond q)) → Verdict c text
          at (Some what) beyond = inr ((fault.Limit 1 what, limit_first c text q accepted says known once what beyond))
          at None keeps = by_types keeps

    by_names : Verdict c text
    by_names = at (name_fault c q) (name_fault_is c q)
      where
        at : (found : Option QueryFault) → IsNameFault c q found → Verdict c text
        at None clear = by_limits clear.0 clear.1
        at (Some (fault.Unknown k)) is = inr ((fault.Unknown 1, unknown_first c text q accepted says is.1))
        at (Some (fault.Twice k)) is = inr ((fault.Twice 1, twice_first c text q accepted says is.1 is.2))
        at (Some _) is = absurd is

  by_statements : Read text → Verdict c text
  by_statements (inl (q, says)) = by_names q says
  by_statements (inr (k, strange)) = inr ((fault.Syntax k, strange_first c text k accepted strange))

are_tokens : (text : List ℕ) → (lexed text).1 ≡ None → fault_of text ≡ None → AreTokens text (lexed text).0
are_tokens text stops none = record { lexed = λ i. ((lexed text).0, stops i); accepted = none }

pub verdict : (c : Catalogue) (text : List ℕ) → WellFormedCatalogue c → Verdict c text
verdict c text formed = at (lexed text).1 (first_too_deep (parts (lexed text).0)) refl refl
  where
    at : (place deep : Option ℕ) → (lexed text).1 ≡ place → fault_of text ≡ first_fault place deep → Verdict c text
    at (Some offset) deep stops is = inr ((fault.Lexical offset, lexical_first c text offset is))
    at None (Some k) stops is = inr ((fault.TooDeep k, deep_first c text k is))
    at None None stops is = by_statements c formed text is (read_all text (are_tokens text stops is))
