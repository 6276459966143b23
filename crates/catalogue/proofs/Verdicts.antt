-- Each text has a verdict.
use Rattle.std.proofs.Common.{◌≡◌, ◌⊎◌, inl, inr, ℕ, zero, suc, ◌+◌, ◌-◌, Bool, true, false, List, [], ◌∷◌, ◌++◌, length, map, take, Option, Some, None, Ok, Err, refl, sym, ap, ◌∙◌, subst, append_assoc, append-nil, arith}
use Rattle.std.specs.Prelude.{◌||◌, IsTrue, slice_get}
use Rattle.std.proofs.lemmas.List.{map-append}
use Rattle.sb_text.specs.declared.token.TextFault.TheVariants as token_fault
use Rattle.sb_text.specs.Statements.{Part, parts}
use Rattle.sb_text.specs.Tokens.{lexed}
use Rattle.sb_text.specs.Refusal.{fault_of, first_fault}
use Rattle.sb_text.specs.Depth.{first_too_deep}
use Rattle.star_model.specs.declared.catalogue.Catalogue.{Catalogue}
use Rattle.star_model.specs.declared.faults.LimitKind.{LimitKind}
use Rattle.star_model.specs.Every.{Every}
use Rattle.spelling.specs.Lexemes.{Lexeme, MaybeEnded, ended, statements_in}
use Rattle.spelling.specs.Cursors.{part_said}
use Rattle.spelling.specs.Firsts.{FirstFrom, NoneFrom, FirstAt, NoneHas}
use Rattle.spelling.specs.Syntax.{IsStrangeAt}
use Rattle.spelling.specs.declared.unread.Unread.TheVariants.{Strange}
use Rattle.catalogue.specs.Catalogues.{CatalogueStatement, catalogue_lexemes, HasColumns, SpellsCatalogueStatement}
use Rattle.catalogue.specs.Words.{said}
use Rattle.catalogue.specs.Reading.{statement_at}
use Rattle.catalogue.specs.Statements.{StatementRead}
use Rattle.catalogue.specs.declared.words.StatementWords.{StatementWords}
use Rattle.catalogue.specs.declared.fault.CatFault.{CatFault}
use Rattle.catalogue.specs.declared.fault.CatFault.TheVariants.{Lexical, TooDeep, Syntax, Unknown, Twice, Limit}
use Rattle.catalogue.specs.Defined.{NamesUnknown, DefinesTwice, names_unknown, is_defined, has_column_twice, sites_in, tables_in, indexes_in}
use Rattle.catalogue.specs.Beyond.{BeyondFirst, IsBeyond}
use Rattle.catalogue.specs.LimitTests.{limit_beyond}
use Rattle.catalogue.specs.declared.limits.Counts.{Counts}
use Rattle.catalogue.specs.Faults.{SaysStatements, IsLimitAt, IsFirstFault, IsAccepted}
use Rattle.catalogue.proofs.Understood.{all_read, not_ended, error_told, more_left, strange_at}
use Rattle.catalogue.proofs.SoFar.{every_with}
use Rattle.catalogue.proofs.LimitLaws.{Finds, limit_found}
use Rattle.catalogue.proofs.MeaningLaws.{meant}
use Rattle.catalogue.proofs.Formed.{formed}
use Rattle.catalogue.proofs.FaultOrder.{tokens_refused, syntax_refused, names_refused, accepted}

-- ---- a statement is understood, or it isn't

abbrev Reading : MaybeEnded → Type 0
Reading statement = ((words : StatementWords) × StatementRead statement (Ok words)) ⊎ StatementRead statement (Err Strange)

reading : (statement : MaybeEnded) → Reading statement
reading (lexemes, false) = inr (not_ended (lexemes, false) refl)
reading (lexemes, true) = at (statement_at lexemes) refl
  where
    at : (read : Option (StatementWords × List Lexeme)) → statement_at lexemes ≡ read → Reading (lexemes, true)
    at None is = inr (error_told (lexemes, true) [] Strange is)
    at (Some (words, [])) is = inl ((words, all_read (lexemes, true) [] words refl is refl))
    at (Some (words, lexeme ∷ rest)) is = inr (more_left (lexemes, true) (lexeme ∷ rest) words is (λ none. cc))

-- ---- all statements of a text are understood, or one is the first that isn't

abbrev lexemes_for : List StatementWords → List MaybeEnded
lexemes_for list = map ended (map catalogue_lexemes (map said list))

one_more : (list : List StatementWords) (words : StatementWords) → lexemes_for (list ++ words ∷ []) ≡ lexemes_for list ++ ended (catalogue_lexemes (said words)) ∷ []
one_more [] words = refl
one_more (first ∷ list) words = ap (λ l. ended (catalogue_lexemes (said first)) ∷ l) (one_more list words)

said_more : (list : List StatementWords) (words : StatementWords) → map said (list ++ words ∷ []) ≡ map said list ++ said words ∷ []
said_more list words = map-append said list (words ∷ [])

module _ (text : List ℕ) (all_tokens : (lexed text).1 ≡ None) where
  abbrev Read : Type 0
  Read = ((statements : List CatalogueStatement) × SaysStatements text statements) ⊎ ((k : ℕ) × IsStrangeAt SpellsCatalogueStatement text k)

  read_from : (left : List Part) (list : List StatementWords) → statements_in text ≡ lexemes_for list ++ map (part_said text) left → Every HasColumns (map said list) → Read
  read_from [] list are columns =
      inl ((map said list, record { are = record { all_tokens = all_tokens; are = are ∙ append-nil (lexemes_for list) }; columns = columns }))
  read_from (this ∷ later) list are columns = at (reading (part_said text this)) (λ words. read_from later (list ++ words ∷ []))
    where
      Later : Type 0
      Later = (words : StatementWords) → statements_in text ≡ lexemes_for (list ++ words ∷ []) ++ map (part_said text) later → Every HasColumns (map said (list ++ words ∷ [])) → Read

      at : Reading (part_said text this) → Later → Read
      at (inl (words, is)) on =
          on words
          (are ∙ ap (λ s. lexemes_for list ++ s ∷ map (part_said text) later) is.0
          ∙ sym (append_assoc (lexemes_for list) (ended (catalogue_lexemes (said words)) ∷ []) (map (part_said text) later))
          ∙ ap (λ l. l ++ map (part_said text) later) (sym (one_more list words)))
          (subst (Every HasColumns) (sym (said_more list words)) (every_with HasColumns (map said list) (said words) columns is.1))
      at (inr strange) on =
          inr ((length list + 1, strange_at text list this (this ∷ later) later (length list + 1) are refl columns refl strange))

  read_all : Read
  unfolding statements_in
  read_all = read_from (parts (lexed text).0) [] refl tt

-- ---- one statement is the first that has something, or none has it

module _ {A : Type 0} (Has : List A → A → Type 0) (decided : (before : List A) (x : A) → Has before x ⊎ (Has before x → ⊥)) where
  sought : (before items : List A) → ((n : ℕ) × FirstFrom Has before items (suc n)) ⊎ NoneFrom Has before items
  sought before [] = inr tt
  sought before (x ∷ items) = at (decided before x) (sought (before ++ x ∷ []) items)
    where
      at : Has before x ⊎ (Has before x → ⊥) → ((n : ℕ) × FirstFrom Has (before ++ x ∷ []) items (suc n)) ⊎ NoneFrom Has (before ++ x ∷ []) items
          → ((n : ℕ) × FirstFrom Has before (x ∷ items) (suc n)) ⊎ NoneFrom Has before (x ∷ items)
      at (inl has) later = inl ((zero, has))
      at (inr fine) (inl first) = inl ((suc first.0, (fine, first.1)))
      at (inr fine) (inr none) = inr ((fine, none))

-- the first is an item, and has it after those before it
first_item : {A : Type 0} (Has : List A → A → Type 0) (before items : List A) (n : ℕ) → FirstFrom Has before items (suc n) → (x : A) × (slice_get items n ≡ Some x) × Has (before ++ take n items) x
first_item Has before [] n first = absurd first
first_item Has before (x ∷ items) zero first = (x, refl, subst (λ l. Has l x) (sym (append-nil before)) first)
first_item Has before (x ∷ items) (suc n) first =
    let later = first_item Has (before ++ x ∷ []) items n first.1 in
    (later.0, later.1, subst (λ l. Has l later.0) (append_assoc before (x ∷ []) (take n items)) later.2)

is_true : (b : Bool) → IsTrue b ⊎ (IsTrue b → ⊥)
is_true true = inl refl
is_true false = inr (λ is. absurd cc)

abbrev counts_of : List CatalogueStatement → Counts
counts_of earlier = record { sites = length (sites_in earlier); tables = length (tables_in earlier); indexes = length (indexes_in earlier) }

-- the first limit that the statement goes beyond, or none
limit_of : (earlier : List CatalogueStatement) (s : CatalogueStatement) → ((what : LimitKind) × BeyondFirst what earlier s) ⊎ (IsBeyond earlier s → ⊥)
limit_of earlier s = at (limit_beyond (counts_of earlier) s) (limit_found (counts_of earlier) earlier (record { sites = refl; tables = refl; indexes = refl }) s)
  where
    at : (found : Option LimitKind) → Finds earlier s found → ((what : LimitKind) × BeyondFirst what earlier s) ⊎ (IsBeyond earlier s → ⊥)
    at None finds = inr finds
    at (Some what) finds = inl ((what, finds))

is_beyond : (earlier : List CatalogueStatement) (s : CatalogueStatement) → IsBeyond earlier s ⊎ (IsBeyond earlier s → ⊥)
is_beyond earlier s = at (limit_of earlier s)
  where
    at : ((what : LimitKind) × BeyondFirst what earlier s) ⊎ (IsBeyond earlier s → ⊥) → IsBeyond earlier s ⊎ (IsBeyond earlier s → ⊥)
    at (inl (what, first)) = inl ((what, first.beyond))
    at (inr fine) = inr fine

back : (n : ℕ) → suc n - 1 ≡ n
back n = omega arith

-- the first statement beyond a limit goes beyond one limit first
first_limit : (ss : List CatalogueStatement) (n : ℕ) → FirstAt IsBeyond ss (suc n) → (what : LimitKind) × IsLimitAt ss (suc n) what
first_limit ss n first = at (first_item IsBeyond [] ss n first)
  where
    at : (x : CatalogueStatement) × (slice_get ss n ≡ Some x) × IsBeyond (take n ss) x → (what : LimitKind) × IsLimitAt ss (suc n) what
    at (x, is, beyond) = of (limit_of (take n ss) x)
      where
        of : ((what : LimitKind) × BeyondFirst what (take n ss) x) ⊎ (IsBeyond (take n ss) x → ⊥) → (what : LimitKind) × IsLimitAt ss (suc n) what
        of (inl (what, limit)) = (what, record { first = first; statement = x; is = rw (back n) is; limit = rw (back n) limit })
        of (inr fine) = absurd (fine beyond)

-- ---- the verdict

abbrev pub Verdict : List ℕ → Type 0
Verdict text = ((catalogue : Catalogue) × IsAccepted text catalogue) ⊎ ((fault : CatFault) × IsFirstFault text fault)

module _ (text : List ℕ) (none : fault_of text ≡ None) where
  module _ (ss : List CatalogueStatement) (says : SaysStatements text ss) where
    within_limits : NoneHas NamesUnknown ss → NoneHas DefinesTwice ss → NoneHas IsBeyond ss → Verdict text
    within_limits known once within =
        let tree = meant ss known once in
        inl ((tree.0, accepted text ss tree.0 none says (record { known = known; once = once; within = within }) tree.1 (formed text ss says once within tree.0 tree.1)))

    by_limits : NoneHas NamesUnknown ss → NoneHas DefinesTwice ss → Verdict text
    by_limits known once = at (sought IsBeyond is_beyond [] ss)
      where
        at : ((n : ℕ) × FirstFrom IsBeyond [] ss (suc n)) ⊎ NoneFrom IsBeyond [] ss → Verdict text
        at (inl (n, first)) =
            let limit = first_limit ss n first in
            inr ((Limit (suc n) limit.0, names_refused text ss (Limit (suc n) limit.0) none says (known, once, limit.1)))
        at (inr within) = within_limits known once within

    by_definitions : NoneHas NamesUnknown ss → Verdict text
    by_definitions known = at (sought DefinesTwice (λ earlier s. is_true (is_defined earlier s || has_column_twice s)) [] ss)
      where
        at : ((n : ℕ) × FirstFrom DefinesTwice [] ss (suc n)) ⊎ NoneFrom DefinesTwice [] ss → Verdict text
        at (inl (n, first)) = inr ((Twice (suc n), names_refused text ss (Twice (suc n)) none says (known, first)))
        at (inr once) = by_limits known once

    by_names : Verdict text
    by_names = at (sought NamesUnknown (λ earlier s. is_true (names_unknown earlier s)) [] ss)
      where
        at : ((n : ℕ) × FirstFrom NamesUnknown [] ss (suc n)) ⊎ NoneFrom NamesUnknown [] ss → Verdict text
        at (inl (n, first)) = inr ((Unknown (suc n), names_refused text ss (Unknown (suc n)) none says first))
        at (inr known) = by_definitions known

  by_statements : ((statements : List CatalogueStatement) × SaysStatements text statements) ⊎ ((k : ℕ) × IsStrangeAt SpellsCatalogueStatement text k) → Verdict text
  by_statements (inl (ss, says)) = by_names ss says
  by_statements (inr (k, strange)) = inr ((Syntax k, syntax_refused text (Syntax k) none strange))

pub verdict : (text : List ℕ) → Verdict text
verdict text = at (lexed text).1 (first_too_deep (parts (lexed text).0)) refl refl
  where
    at : (place deep : Option ℕ) → (lexed text).1 ≡ place → fault_of text ≡ first_fault place deep → Verdict text
    at (Some offset) deep stops is = inr ((Lexical offset, tokens_refused text (token_fault.Lexical offset) is))
    at None (Some k) stops is = inr ((TooDeep k, tokens_refused text (token_fault.TooDeep k) is))
    at None None stops is = by_statements text is (read_all text stops)
