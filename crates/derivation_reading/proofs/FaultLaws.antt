-- In which order the faults of a text are told apart.
use Rattle.std.proofs.Common.{false, ◌≡◌, inl, inr, ℕ, ◌≤◌, List, [], ◌∷◌, ◌++◌, Option, Some, None, Err, refl, sym, ap, ◌∙◌, subst, arith}
use Rattle.std.specs.Prelude.{MatchOption}
use Rattle.sb_text.specs.Refusal.{fault_of, first_fault, IsFault}
use Rattle.sb_text.specs.Depth.{first_too_deep}
use Rattle.sb_text.specs.Statements.{parts}
use Rattle.sb_text.specs.Tokens.{lexed}
use Rattle.sb_text.specs.declared.token.TextFault.{TextFault}
use Rattle.sb_text.specs.declared.token.TextFault.TheVariants as token_fault
use Rattle.star_model.specs.declared.derivations.Deriv.{Deriv}
use Rattle.spelling.specs.Lexemes.{MaybeEnded, statements_in}
use Rattle.star_model.specs.Every.{Every}
use Rattle.spelling.specs.Firsts.{FirstAt, NoneFrom, NoneHas}
use Rattle.spelling.specs.FirstsCases.{one_first, none_first}
use Rattle.derivation_reading.specs.Derivations.{Step, IsStep, steps, HasInputs, BeginsGlue, InOrder, SpellsDerivation}
use Rattle.derivation_reading.proofs.DerivationLaws.{one_derivation}
use Rattle.derivation_reading.specs.declared.fault.DerivFault.{DerivFault}
use Rattle.derivation_reading.specs.declared.fault.DerivFault.TheVariants.{Lexical, TooDeep, Syntax, TooTall, Memory}
use Rattle.derivation_reading.specs.TextFaults.{of_text}
use Rattle.derivation_reading.specs.Places.{places_behind}
use Rattle.derivation_reading.specs.Ancestors.{ancestors, IsTooFar, IsLow}
use Rattle.derivation_reading.specs.OpenPlaces.{ancestors_of}
use Rattle.derivation_reading.specs.Preorder.{Follow, SaysWhole, NodesRead}
use Rattle.derivation_reading.specs.Faults.{IsStrange, EndsEarly, IsStrangeAt, HasFault, fault_rank, IsFirstFault, IsAccepted, ReadsDerivation}
use Rattle.derivation_reading.proofs.SoFar.{statements_for, one_list_of_nodes, statements-more, every-more}
use Rattle.derivation_reading.proofs.Forests.{tree_of, whole_order, tree_whole}
use Rattle.derivation_reading.proofs.TooFar.{tree_ancestors}

-- ---- whole nodes have no strange statement

follow_clear : (before nodes : List Step) → Every IsStep before → Every IsStep nodes → Follow before nodes → NoneFrom IsStrange (statements_for before) (statements_for nodes)
follow_clear before [] done every follow = tt
follow_clear before (node ∷ nodes) done every follow = (
  (λ strange. strange (record {
    nodes = before;
    node = node;
    say = record { are = refl; stand = done };
    says = record { is = refl; stands = every.0 };
    place = follow.0;
    order = follow.1;
  })),
  subst (λ (l : List MaybeEnded). NoneFrom IsStrange l (statements_for nodes)) (statements-more before node)
      (follow_clear (before ++ node ∷ []) nodes (every-more before node done every.0) every.1 follow.2),
)

pub says_clear : (text : List ℕ) (nodes : List Step) → SaysWhole text nodes → NoneHas IsStrange (statements_in text)
says_clear text nodes says = subst (NoneHas IsStrange) (sym says.say.are) (follow_clear [] nodes tt says.say.stand says.whole.follow)

not_early : (text : List ℕ) (nodes : List Step) → SaysWhole text nodes → EndsEarly (statements_in text) → ⊥
not_early text nodes says early =
    let same = one_list_of_nodes (statements_in text) early.nodes nodes early.say says.say in
    omega (arith, early.place, ap (places_behind 1) same, says.whole.none_left)

pub not_strange : (text : List ℕ) (nodes : List Step) (k : ℕ) → SaysWhole text nodes → IsStrangeAt (statements_in text) k → ⊥
not_strange text nodes k says (inl first) = none_first IsStrange [] (statements_in text) k (says_clear text nodes says) first
not_strange text nodes k says (inr early) = not_early text nodes says early.0

-- ---- what a text says and what it spells

all_tokens : (text : List ℕ) → fault_of text ≡ None → (lexed text).1 ≡ None
all_tokens text none = at (lexed text).1 (first_too_deep (parts (lexed text).0)) none
  where
    at : (place deep : Option ℕ) → first_fault place deep ≡ None → place ≡ None
    at None deep is = refl
    at (Some offset) deep is = absurd cc

pub says_spells : (text : List ℕ) (nodes : List Step) (tree : Deriv) → fault_of text ≡ None → SaysWhole text nodes → steps tree ≡ nodes → HasInputs tree → SpellsDerivation text tree
says_spells text nodes tree none says are has =
    let order = whole_order nodes says.whole in
    record {
      statements = record { all_tokens = all_tokens text none; are = says.say.are ∙ ap statements_for (sym are) };
      writable = record {
        each = subst (Every IsStep) (sym are) says.say.stand;
        begins = subst (λ (l : List Step). BeginsGlue l) (sym are) order.0;
        order = subst (λ (l : List Step). InOrder false l) (sym are) order.1;
        inputs = has;
      };
    }

pub spells_says : (text : List ℕ) (tree : Deriv) → SpellsDerivation text tree → SaysWhole text (steps tree)
spells_says text tree spells = record {
  say = record { are = spells.statements.are; stand = spells.writable.each };
  whole = tree_whole tree spells.writable.inputs spells.writable.begins spells.writable.order;
}

-- ---- no fault comes before this rank

abbrev NoneBefore : ℕ → List ℕ → Type 0
NoneBefore rank text = (other : DerivFault) → HasFault text other → rank ≤ fault_rank other

no_value : {A : Type 0} {x : A} (found : Option A) → found ≡ None → found ≡ Some x → ⊥
no_value found none some = absurd cc

none_before_syntax : (text : List ℕ) → fault_of text ≡ None → NoneBefore 2 text
none_before_syntax text none (Lexical offset) has = absurd (no_value (fault_of text) none has)
none_before_syntax text none (TooDeep k) has = absurd (no_value (fault_of text) none has)
none_before_syntax text none (Syntax k) has = omega arith
none_before_syntax text none (TooTall k) has = omega arith
none_before_syntax text none Memory has = absurd has

none_before_height : (text : List ℕ) (nodes : List Step) → fault_of text ≡ None → SaysWhole text nodes → NoneBefore 3 text
none_before_height text nodes none says (Lexical offset) has = absurd (no_value (fault_of text) none has)
none_before_height text nodes none says (TooDeep k) has = absurd (no_value (fault_of text) none has)
none_before_height text nodes none says (Syntax k) has = absurd (not_strange text nodes k says has)
none_before_height text nodes none says (TooTall k) has = omega arith
none_before_height text nodes none says Memory has = absurd has

-- ---- what is refused has this first fault, and what isn't is accepted

pub tokens_refused : (text : List ℕ) (fault : TextFault) → IsFault text fault → ReadsDerivation text (Err (of_text fault))
tokens_refused text (token_fault.Lexical offset) has = record { has = has; first = λ other _. omega arith }
tokens_refused text (token_fault.TooDeep k) has = record { has = has; first = after }
  where
    one_value : {A : Type 0} {x y : A} (found : Option A) → found ≡ Some x → found ≡ Some y → x ≡ y
    one_value found some other = let e = sym some ∙ other in cc

    after : (other : DerivFault) → HasFault text other → 1 ≤ fault_rank other
    after (Lexical offset) other = let e = one_value (fault_of text) has other in absurd cc
    after (TooDeep j) other = omega arith
    after (Syntax j) other = omega arith
    after (TooTall j) other = omega arith
    after Memory other = absurd other
tokens_refused text token_fault.Memory has = tt

pub nodes_refused : (text : List ℕ) (fault : DerivFault) → fault_of text ≡ None → NodesRead text (Err fault) → ReadsDerivation text (Err fault)
nodes_refused text (Syntax k) none strange = record { has = strange; first = none_before_syntax text none }
nodes_refused text (Lexical offset) none strange = absurd strange
nodes_refused text (TooDeep k) none strange = absurd strange
nodes_refused text (TooTall k) none strange = absurd strange
nodes_refused text Memory none strange = tt

pub height_refused : (text : List ℕ) (nodes : List Step) (k : ℕ) → fault_of text ≡ None → SaysWhole text nodes → FirstAt IsTooFar (ancestors_of (0 ∷ []) nodes) k → ReadsDerivation text (Err (TooTall k))
height_refused text nodes k none says first =
    let made = tree_of nodes says.whole in
    let counts = ap (ancestors_of (0 ∷ [])) (sym made.are) ∙ tree_ancestors made.tree made.inputs_are in
    record {
      has = (made.tree, says_spells text nodes made.tree none says made.are made.inputs_are, subst (λ (l : List ℕ). FirstAt IsTooFar l k) counts first);
      first = none_before_height text nodes none says;
    }

pub spelled_clear : (text : List ℕ) (tree : Deriv) → fault_of text ≡ None → SpellsDerivation text tree → IsLow tree → (fault : DerivFault) → HasFault text fault → ⊥
spelled_clear text tree none spells low (Lexical offset) has = no_value (fault_of text) none has
spelled_clear text tree none spells low (TooDeep k) has = no_value (fault_of text) none has
spelled_clear text tree none spells low (Syntax k) has = not_strange text (steps tree) k (spells_says text tree spells) has
spelled_clear text tree none spells low (TooTall k) has =
    let same = one_derivation text has.0 tree has.1 spells in
    none_first IsTooFar [] (ancestors 0 tree) k low (subst (λ (t : Deriv). FirstAt IsTooFar (ancestors 0 t) k) same has.2)
spelled_clear text tree none spells low Memory has = has

pub accepted : (text : List ℕ) (nodes : List Step) (tree : Deriv) → fault_of text ≡ None → SaysWhole text nodes → steps tree ≡ nodes → HasInputs tree
    → NoneHas IsTooFar (ancestors_of (0 ∷ []) nodes) → IsAccepted text tree
accepted text nodes tree none says are has near =
    let spells = says_spells text nodes tree none says are has in
    let counts = ap (ancestors_of (0 ∷ [])) (sym are) ∙ tree_ancestors tree has in
    let low = subst (NoneHas IsTooFar) counts near in
    record { spells = spells; low = low; clear = spelled_clear text tree none spells low }

-- ---- one fault

module _ (text : List ℕ) where
  one_strange : (k j : ℕ) → IsStrangeAt (statements_in text) k → IsStrangeAt (statements_in text) j → k ≡ j
  one_strange k j (inl first) (inl other) = one_first IsStrange [] (statements_in text) k j first other
  one_strange k j (inl first) (inr early) = absurd (none_first IsStrange [] (statements_in text) k early.0.clear first)
  one_strange k j (inr early) (inl first) = absurd (none_first IsStrange [] (statements_in text) j early.0.clear first)
  one_strange k j (inr early) (inr other) = early.1 ∙ sym other.1

  same_kind : (f g : DerivFault) → fault_rank f ≡ fault_rank g → HasFault text f → HasFault text g → f ≡ g
  same_kind (Lexical o) (Lexical o') rank p q = let e : Some (token_fault.Lexical o) ≡ Some (token_fault.Lexical o') = sym p ∙ q in let same : o ≡ o' = cc in ap Lexical same
  same_kind (Lexical o) (TooDeep k') rank p q = absurd cc
  same_kind (Lexical o) (Syntax k') rank p q = absurd cc
  same_kind (Lexical o) (TooTall k') rank p q = absurd cc
  same_kind (Lexical o) Memory rank p q = absurd cc
  same_kind (TooDeep k) (Lexical o') rank p q = absurd cc
  same_kind (TooDeep k) (TooDeep k') rank p q = let e : Some (token_fault.TooDeep k) ≡ Some (token_fault.TooDeep k') = sym p ∙ q in let same : k ≡ k' = cc in ap TooDeep same
  same_kind (TooDeep k) (Syntax k') rank p q = absurd cc
  same_kind (TooDeep k) (TooTall k') rank p q = absurd cc
  same_kind (TooDeep k) Memory rank p q = absurd cc
  same_kind (Syntax k) (Lexical o') rank p q = absurd cc
  same_kind (Syntax k) (TooDeep k') rank p q = absurd cc
  same_kind (Syntax k) (Syntax k') rank p q = ap Syntax (one_strange k k' p q)
  same_kind (Syntax k) (TooTall k') rank p q = absurd cc
  same_kind (Syntax k) Memory rank p q = absurd cc
  same_kind (TooTall k) (Lexical o') rank p q = absurd cc
  same_kind (TooTall k) (TooDeep k') rank p q = absurd cc
  same_kind (TooTall k) (Syntax k') rank p q = absurd cc
  same_kind (TooTall k) (TooTall k') rank p q =
      let same = one_derivation text p.0 q.0 p.1 q.1 in
      ap TooTall (one_first IsTooFar [] (ancestors 0 q.0) k k' (subst (λ (t : Deriv). FirstAt IsTooFar (ancestors 0 t) k) same p.2) q.2)
  same_kind (TooTall k) Memory rank p q = absurd cc
  same_kind Memory g rank p q = absurd p

  pub one_fault : (f g : DerivFault) → IsFirstFault text f → IsFirstFault text g → f ≡ g
  one_fault f g p q = same_kind f g (omega (arith, p.first g q.has, q.first f p.has)) p.has q.has

-- ---- what a search for the first has found

pub if_some : {A : Type 0} (found : Option A) (x : A) (P : Type 0) (Q : A → Type 0) → found ≡ Some x → MatchOption found P Q → Q x
if_some None x P Q is has = absurd cc
if_some {A} (Some y) x P Q is has = let same : y ≡ x = cc in subst Q same has

pub if_none : {A : Type 0} (found : Option A) (P : Type 0) (Q : A → Type 0) → ((x : A) → found ≡ Some x → ⊥) → MatchOption found P Q → P
if_none None P Q not_some has = has
if_none (Some y) P Q not_some has = absurd (not_some y refl)
