-- What the first statements of a text come to, where the text is to be one query.
use Rattle.std.proofs.Common.{◌≡◌, ℕ, true, false, List, [], ◌∷◌, map, Option, Some, None, refl, ap, sym, ◌∙◌, subst, inl, inr, ◌⊎◌}
use Rattle.std.specs.Option.{is_some, MatchOption}
use Rattle.sb_text.specs.Refusal.{AreTokens}
use Rattle.sb_text.specs.Tokens.{Lexed}
use Rattle.sb_text.specs.Statements.{Part, parts, part_of}
use Rattle.sb_text.specs.declared.statement.Statement.{Statement}
use Rattle.sb_text.specs.declared.token.Token.{Token}
use Rattle.spelling.specs.Lexemes.{MaybeEnded, ended, statements_in}
use Rattle.star_model.specs.Every.{Every, HasItem}
use Rattle.spelling.specs.Cursors.{AreTokensOf, part_said, IsPartOf}
use Rattle.spelling.specs.ReadingCases.{only_reads}
use Rattle.spelling.specs.Syntax.{IsUnderstood}
use Rattle.spelling.specs.Firsts.{FirstAt}
use Rattle.spelling.specs.FirstsCases.{one_first, none_first}
use Prim.Native.Nat.{zero, suc}
use Rattle.query_graph.specs.Queries.{QueryStatement, query_lexemes, IsQueryStatement, SpellsQueryStatement}
use Rattle.spelling.specs.Reading.{only}
use Rattle.spelling.proofs.Laws.{parts_said, parts_hold}
use Rattle.query_graph.specs.StatementReading.{query_at, statement_at}
use Rattle.query_graph.specs.Syntax.{IsStrangeQueryAt}
use Rattle.query_graph.specs.Faults.{Says}
use Rattle.query_graph.proofs.QuerySpelled.{query_spelled}
use Rattle.query_graph.proofs.QueryRead.{query_read}

-- ---- one statement

-- what is read as a query is understood
read_spells : (s : MaybeEnded) (q : QueryStatement) → statement_at s ≡ Some q → (s ≡ ended (query_lexemes q)) × IsQueryStatement q
unfolding statement_at
read_spells (lexemes, true) q read =
    let spells = query_spelled lexemes q (only_reads (query_at lexemes) q read) in
    (ap ended spells.are, spells.stands)
read_spells (lexemes, false) q read = absurd cc

-- what is understood is read as a query
understood_reads : (s : MaybeEnded) → IsUnderstood SpellsQueryStatement s → (q : QueryStatement) × (statement_at s ≡ Some q)
unfolding statement_at
understood_reads (lexemes, true) (q, spells) = (q, ap only (ap query_at spells.are ∙ query_read q spells.stands))
understood_reads (lexemes, false) none = absurd none

not_understood : (s : MaybeEnded) → statement_at s ≡ None → IsUnderstood SpellsQueryStatement s → ⊥
not_understood s none is = let found = understood_reads s is in let e : None ≡ Some found.0 = sym none ∙ found.1 in absurd cc

understood : (q : QueryStatement) → IsQueryStatement q → IsUnderstood SpellsQueryStatement (ended (query_lexemes q))
understood q stands = (q, record { are = refl; stands = stands })

-- ---- the statements of a text

statements_are : (text : List ℕ) (tokens : List Token) (list : List Part) → AreTokens text tokens → parts tokens ≡ list → statements_in text ≡ map (part_said text) list
statements_are text tokens list are is = parts_said text tokens are ∙ ap (map (part_said text)) is

pub first_tokens : (text : List ℕ) (tokens : List Token) (part : Part) (later : List Part) → AreTokens text tokens → parts tokens ≡ part ∷ later → AreTokensOf text part.0
first_tokens text tokens part later are is = (subst (Every (IsPartOf text)) is (parts_hold text tokens are)).0

-- ---- the verdicts

pub no_statement : (text : List ℕ) (tokens : List Token) → AreTokens text tokens → parts tokens ≡ [] → IsStrangeQueryAt text 1
no_statement text tokens are is = inl (statements_are text tokens [] are is, refl)

pub first_is_strange : (text : List ℕ) (tokens : List Token) (part : Part) (later : List Part) → AreTokens text tokens → parts tokens ≡ part ∷ later
    → statement_at (part_said text part) ≡ None → IsStrangeQueryAt text 1
first_is_strange text tokens part later are is none =
    inr (rw (statements_are text tokens (part ∷ later) are is) (inr (not_understood (part_said text part) none)))

pub second_strange : (text : List ℕ) (tokens : List Token) (part next : Part) (later : List Part) (q : QueryStatement)
    → AreTokens text tokens → parts tokens ≡ part ∷ next ∷ later → statement_at (part_said text part) ≡ Some q → IsStrangeQueryAt text 2
second_strange text tokens part next later q are is read =
    let spells = read_spells (part_said text part) q read in
    inr (rw (statements_are text tokens (part ∷ next ∷ later) are is, spells.0) (
      (λ strange. elim strange [ inl before ↦ before | inr not ↦ not (understood q spells.1) ]),
      inl tt,
    ))

pub one_said : (text : List ℕ) (tokens : List Token) (part : Part) (q : QueryStatement)
    → AreTokens text tokens → parts tokens ≡ part ∷ [] → statement_at (part_said text part) ≡ Some q → Says text q
one_said text tokens part q are is read =
    let spells = read_spells (part_said text part) q read in
    record {
      are = record {
        all_tokens = ap (λ (l : Lexed). l.1) are.lexed;
        are = statements_are text tokens (part ∷ []) are is ∙ ap (λ s. s ∷ []) spells.0;
      };
      stands = spells.1;
    }

-- whether a statement stands next
abbrev Next : List Part → Option Statement → List Part → Type 0
Next left next later = MatchOption next ((left ≡ []) × (later ≡ [])) (λ s. left ≡ part_of s ∷ later)

pub second_is_strange : (text : List ℕ) (tokens : List Token) (part : Part) (left : List Part) (next : Option Statement) (later : List Part) (q : QueryStatement)
    → AreTokens text tokens → parts tokens ≡ part ∷ left → Next left next later → true ≡ is_some next
    → statement_at (part_said text part) ≡ Some q → IsStrangeQueryAt text 2
second_is_strange text tokens part left None later q are is second some read = absurd cc
second_is_strange text tokens part left (Some s) later q are is second some read = second_strange text tokens part (part_of s) later q are (is ∙ ap (λ l. part ∷ l) second) read

pub only_statement : (text : List ℕ) (tokens : List Token) (part : Part) (left : List Part) (next : Option Statement) (later : List Part) (q : QueryStatement)
    → AreTokens text tokens → parts tokens ≡ part ∷ left → Next left next later → false ≡ is_some next
    → statement_at (part_said text part) ≡ Some q → Says text q
only_statement text tokens part left (Some s) later q are is second none read = absurd cc
only_statement text tokens part left None later q are is second none read = one_said text tokens part q are (is ∙ ap (λ l. part ∷ l) second.0) read

-- ---- at most one verdict

abbrev IsStrange : List MaybeEnded → MaybeEnded → Type 0
IsStrange before statement = HasItem before ⊎ (IsUnderstood SpellsQueryStatement statement → ⊥)

nowhere : (k : ℕ) → FirstAt IsStrange [] k → ⊥
nowhere zero first = first
nowhere (suc n) first = first

pub one_strange : (text : List ℕ) (k m : ℕ) → IsStrangeQueryAt text k → IsStrangeQueryAt text m → k ≡ m
one_strange text k m (inl a) (inl b) = a.1 ∙ sym b.1
one_strange text k m (inl a) (inr b) = absurd (nowhere m (rw a.0 at b))
one_strange text k m (inr a) (inl b) = absurd (nowhere k (rw b.0 at a))
one_strange text k m (inr a) (inr b) = one_first IsStrange [] (statements_in text) k m a b

-- a text that says a query has no statement that isn't understood
pub says_none_strange : (text : List ℕ) (q : QueryStatement) (k : ℕ) → Says text q → IsStrangeQueryAt text k → ⊥
says_none_strange text q k says (inl a) = let e : ended (query_lexemes q) ∷ [] ≡ [] = sym says.are.are ∙ a.0 in absurd cc
says_none_strange text q k says (inr a) =
    none_first IsStrange [] (ended (query_lexemes q) ∷ []) k ((λ strange. elim strange [ inl before ↦ before | inr not ↦ not (understood q says.stands) ]), tt) (rw says.are.are at a)
