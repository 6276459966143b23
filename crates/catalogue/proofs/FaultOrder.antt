-- In which order the faults of a text are told apart.
use Rattle.std.proofs.Common.{◌≡◌, ℕ, ◌+◌, ◌≤◌, List, [], map, length, Option, Some, None, Err, sym, ap, ◌∙◌, subst, arith}
use Rattle.std.proofs.lemmas.List.{length-map}
use Rattle.sb_text.specs.Refusal.{fault_of, IsFault}
use Rattle.sb_text.specs.Tokens.{lexed}
use Rattle.sb_text.specs.Statements.{parts}
use Rattle.catalogue.proofs.OneFault.{same_statements}
use Rattle.sb_text.specs.declared.token.TextFault.{TextFault}
use Rattle.sb_text.specs.declared.token.TextFault.TheVariants as text_fault
use Rattle.sb_text.proofs.Laws.{length-parts, length-lexed}
use Rattle.spelling.specs.Lexemes.{MaybeEnded, ended, statements_in}
use Rattle.spelling.specs.Cursors.{part_said}
use Rattle.spelling.specs.Firsts.{FirstAt, NoneHas}
use Rattle.spelling.specs.FirstsCases.{none_first}
use Rattle.spelling.specs.Syntax.{IsUnderstood, IsStrangeAt}
use Rattle.catalogue.specs.Catalogues.{CatalogueStatement, catalogue_lexemes, SpellsCatalogueStatement, catalogue_of}
use Rattle.catalogue.specs.declared.fault.CatFault.{CatFault}
use Rattle.catalogue.specs.declared.fault.CatFault.TheVariants.{Lexical, TooDeep, Syntax, Unknown, Twice, Limit, Memory}
use Rattle.catalogue.specs.Defined.{NamesUnknown, DefinesTwice}
use Rattle.catalogue.specs.Beyond.{IsBeyond}
use Rattle.catalogue.specs.Faults.{SaysStatements, HasFault, fault_rank, IsAccepted, ReadsCatalogue}
use Rattle.catalogue.specs.Judged.{of_tokens, AreClear, StatementsJudged}
use Rattle.catalogue.specs.Statements.{StatementsRead}
use Rattle.catalogue.proofs.Understood.{all_understood}
use Rattle.star_model.specs.declared.catalogue.Catalogue.{Catalogue}
use Rattle.star_model.specs.WellFormed.{WellFormedCatalogue}

-- ---- a text that says statements has no strange one

not_strange : (text : List ℕ) (ss : List CatalogueStatement) (k : ℕ) → SaysStatements text ss → IsStrangeAt SpellsCatalogueStatement text k → ⊥
not_strange text ss k says strange =
    none_first (λ _ s. IsUnderstood SpellsCatalogueStatement s → ⊥) [] (map ended (map catalogue_lexemes ss)) k (all_understood ss says.columns [])
    (subst (λ l. FirstAt (λ _ s. IsUnderstood SpellsCatalogueStatement s → ⊥) l k) says.are.are strange)

-- where no statement has it, no statement of the text is the first
not_first : (Has : List CatalogueStatement → CatalogueStatement → Type 0) (text : List ℕ) (ss ts : List CatalogueStatement) (k : ℕ) → SaysStatements text ss → SaysStatements text ts
    → NoneHas Has ss → FirstAt Has ts k → ⊥
not_first Has text ss ts k p q none first = none_first Has [] ts k (subst (NoneHas Has) (same_statements text ss ts p q) none) first

-- ---- no fault comes before this rank

abbrev pub NoneBefore : ℕ → List ℕ → Type 0
NoneBefore rank text = (other : CatFault) → HasFault text other → rank ≤ fault_rank other

no_value : {A : Type 0} {x : A} (found : Option A) → found ≡ None → found ≡ Some x → ⊥
no_value found none some = absurd cc

pub none_before_syntax : (text : List ℕ) → fault_of text ≡ None → NoneBefore 2 text
none_before_syntax text none (Lexical offset) has = absurd (no_value (fault_of text) none has)
none_before_syntax text none (TooDeep k) has = absurd (no_value (fault_of text) none has)
none_before_syntax text none (Syntax k) has = omega arith
none_before_syntax text none (Unknown k) has = omega arith
none_before_syntax text none (Twice k) has = omega arith
none_before_syntax text none (Limit k what) has = omega arith
none_before_syntax text none Memory has = absurd has

-- the ranks above this one, where no fault has it
next : (rank : ℕ) (text : List ℕ) → NoneBefore rank text → ((other : CatFault) → fault_rank other ≡ rank → HasFault text other → ⊥) → NoneBefore (rank + 1) text
next rank text before none other has = above (before other has) (λ is. none other is has)
  where
    above : rank ≤ fault_rank other → (fault_rank other ≡ rank → ⊥) → rank + 1 ≤ fault_rank other
    above at_least other_rank = omega arith

pub none_before_unknown : (text : List ℕ) (ss : List CatalogueStatement) → fault_of text ≡ None → SaysStatements text ss → NoneBefore 3 text
none_before_unknown text ss none says = next 2 text (none_before_syntax text none) at_rank
  where
    at_rank : (other : CatFault) → fault_rank other ≡ 2 → HasFault text other → ⊥
    at_rank (Syntax k) is has = not_strange text ss k says has
    at_rank (Lexical offset) is has = omega arith
    at_rank (TooDeep k) is has = omega arith
    at_rank (Unknown k) is has = omega arith
    at_rank (Twice k) is has = omega arith
    at_rank (Limit k what) is has = omega arith
    at_rank Memory is has = has

pub none_before_twice : (text : List ℕ) (ss : List CatalogueStatement) → fault_of text ≡ None → SaysStatements text ss → NoneHas NamesUnknown ss → NoneBefore 4 text
none_before_twice text ss none says known = next 3 text (none_before_unknown text ss none says) at_rank
  where
    at_rank : (other : CatFault) → fault_rank other ≡ 3 → HasFault text other → ⊥
    at_rank (Unknown k) is has = not_first NamesUnknown text ss has.0 k says has.1 known has.2
    at_rank (Lexical offset) is has = omega arith
    at_rank (TooDeep k) is has = omega arith
    at_rank (Syntax k) is has = omega arith
    at_rank (Twice k) is has = omega arith
    at_rank (Limit k what) is has = omega arith
    at_rank Memory is has = has

pub none_before_limit : (text : List ℕ) (ss : List CatalogueStatement) → fault_of text ≡ None → SaysStatements text ss → NoneHas NamesUnknown ss → NoneHas DefinesTwice ss → NoneBefore 5 text
none_before_limit text ss none says known once = next 4 text (none_before_twice text ss none says known) at_rank
  where
    at_rank : (other : CatFault) → fault_rank other ≡ 4 → HasFault text other → ⊥
    at_rank (Twice k) is has = not_first DefinesTwice text ss has.0 k says has.1 once has.2
    at_rank (Lexical offset) is has = omega arith
    at_rank (TooDeep k) is has = omega arith
    at_rank (Syntax k) is has = omega arith
    at_rank (Unknown k) is has = omega arith
    at_rank (Limit k what) is has = omega arith
    at_rank Memory is has = has

pub no_fault : (text : List ℕ) (ss : List CatalogueStatement) → fault_of text ≡ None → SaysStatements text ss → NoneHas NamesUnknown ss → NoneHas DefinesTwice ss → NoneHas IsBeyond ss
    → (fault : CatFault) → HasFault text fault → ⊥
no_fault text ss none says known once within fault has = at_last fault has (none_before_limit text ss none says known once fault has)
  where
    at_last : (other : CatFault) → HasFault text other → 5 ≤ fault_rank other → ⊥
    at_last (Limit k what) has rank = not_first IsBeyond text ss has.0 k says has.1 within has.2.first
    at_last (Lexical offset) has rank = omega arith
    at_last (TooDeep k) has rank = omega arith
    at_last (Syntax k) has rank = omega arith
    at_last (Unknown k) has rank = omega arith
    at_last (Twice k) has rank = omega arith
    at_last Memory has rank = has

-- ---- what is refused has this first fault, and what isn't is accepted

pub tokens_refused : (text : List ℕ) (fault : TextFault) → IsFault text fault → ReadsCatalogue text (Err (of_tokens fault))
tokens_refused text (text_fault.Lexical offset) has = record { has = has; first = λ other _. omega arith }
tokens_refused text (text_fault.TooDeep k) has = record { has = has; first = after }
  where
    one_value : {A : Type 0} {x y : A} (found : Option A) → found ≡ Some x → found ≡ Some y → x ≡ y
    one_value found some other = let e = sym some ∙ other in cc

    after : (other : CatFault) → HasFault text other → 1 ≤ fault_rank other
    after (Lexical offset) other = let e = one_value (fault_of text) has other in absurd cc
    after (TooDeep j) other = omega arith
    after (Syntax j) other = omega arith
    after (Unknown j) other = omega arith
    after (Twice j) other = omega arith
    after (Limit j what) other = omega arith
    after Memory other = absurd other
tokens_refused text text_fault.Memory has = tt

pub syntax_refused : (text : List ℕ) (fault : CatFault) → fault_of text ≡ None → StatementsRead text (Err fault) → ReadsCatalogue text (Err fault)
syntax_refused text (Syntax k) none strange = record { has = strange; first = none_before_syntax text none }
syntax_refused text (Lexical offset) none strange = absurd strange
syntax_refused text (TooDeep k) none strange = absurd strange
syntax_refused text (Unknown k) none strange = absurd strange
syntax_refused text (Twice k) none strange = absurd strange
syntax_refused text (Limit k what) none strange = absurd strange
syntax_refused text Memory none strange = tt

pub names_refused : (text : List ℕ) (ss : List CatalogueStatement) (fault : CatFault) → fault_of text ≡ None → SaysStatements text ss → StatementsJudged ss (Err fault) → ReadsCatalogue text (Err fault)
names_refused text ss (Unknown k) none says judged = record { has = (ss, says, judged); first = none_before_unknown text ss none says }
names_refused text ss (Twice k) none says judged = record { has = (ss, says, judged.1); first = none_before_twice text ss none says judged.0 }
names_refused text ss (Limit k what) none says judged = record { has = (ss, says, judged.2); first = none_before_limit text ss none says judged.0 judged.1 }
names_refused text ss (Lexical offset) none says judged = absurd judged
names_refused text ss (TooDeep k) none says judged = absurd judged
names_refused text ss (Syntax k) none says judged = absurd judged
names_refused text ss Memory none says judged = tt

pub accepted : (text : List ℕ) (ss : List CatalogueStatement) (c : Catalogue) → fault_of text ≡ None → SaysStatements text ss → AreClear ss → catalogue_of ss ≡ Some c → WellFormedCatalogue c
    → IsAccepted text c
accepted text ss c none says clear means formed = record {
  spells = record { statements = ss; are = says.are; columns = says.columns; means = means };
  formed = formed;
  clear = no_fault text ss none says clear.known clear.once clear.within;
}

-- ---- statements of a text are not more than its bytes

pub few_statements : (text : List ℕ) (ss : List CatalogueStatement) → SaysStatements text ss → length ss ≤ length text
unfolding statements_in
few_statements text ss says =
    let all = ap (λ (l : List MaybeEnded). length l) says.are.are in
    omega (
      arith,
      length-map (parts (lexed text).0) (part_said text),
      length-map (map catalogue_lexemes ss) ended,
      length-map ss catalogue_lexemes,
      all,
      length-parts (lexed text).0,
      length-lexed text,
    )
