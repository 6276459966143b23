-- Each text has a verdict.
use Rattle.std.proofs.Common.{◌≡◌, ◌⊎◌, inl, inr, ℕ, zero, suc, ◌+◌, ◌-◌, ◌≤◌, Bool, true, false, List, [], ◌∷◌, ◌++◌, length, Option, Some, None, refl, sym, ◌∙◌}
use Rattle.sb_text.specs.declared.token.TextFault.TheVariants as token_fault
use Rattle.sb_text.specs.Statements.{Part, parts}
use Rattle.sb_text.specs.Tokens.{lexed}
use Rattle.sb_text.specs.Refusal.{fault_of, first_fault, AreTokens}
use Rattle.sb_text.specs.Depth.{first_too_deep}
use Rattle.star_model.specs.declared.derivations.Deriv.{Deriv}
use Rattle.spelling.specs.Lexemes.{Lexeme, MaybeEnded, statements_in}
use Rattle.spelling.specs.Cursors.{part_said}
use Rattle.derivation_reading.specs.Derivations.{Step}
use Rattle.derivation_reading.specs.declared.fault.DerivFault.{DerivFault}
use Rattle.derivation_reading.specs.declared.fault.DerivFault.TheVariants.{Lexical, TooDeep, Syntax, TooTall}
use Rattle.derivation_reading.specs.declared.places.Awaited.{Awaited}
use Rattle.derivation_reading.specs.declared.places.Awaited.TheVariants as next
use Rattle.derivation_reading.specs.Nodes.{SaysNode}
use Rattle.derivation_reading.specs.Places.{inputs}
use Rattle.derivation_reading.specs.PlaceTests.{awaited_behind, takes}
use Rattle.derivation_reading.specs.OpenPlaces.{ancestors_of}
use Rattle.derivation_reading.specs.Preorder.{SaysWhole}
use Rattle.derivation_reading.specs.StatementReading.{node_at}
use Rattle.derivation_reading.specs.Faults.{IsStrangeAt, IsFirstFault, IsAccepted}
use Rattle.derivation_reading.proofs.Understood.{all_read, not_ended, more_left, says_read}
use Rattle.derivation_reading.proofs.SoFar.{SoFar, starts, strange_form, strange_place, goes, ends_early, is_whole}
use Rattle.derivation_reading.proofs.Forests.{tree_of}
use Rattle.derivation_reading.proofs.TooFar.{first_far, far_first, far_none}
use Rattle.derivation_reading.proofs.FaultLaws.{tokens_refused, nodes_refused, height_refused, accepted}

-- ---- a statement says a node, or none

abbrev Says : MaybeEnded → Type 0
Says statement = ((node : Step) × SaysNode statement node) ⊎ ((node : Step) → SaysNode statement node → ⊥)

says : (statement : MaybeEnded) → Says statement
says (lexemes, false) = inr (not_ended (lexemes, false) refl)
says (lexemes, true) = at (node_at lexemes) refl
  where
    at : (read : Option (Step × List Lexeme)) → node_at lexemes ≡ read → Says (lexemes, true)
    at None is = inr (λ node told. let e = sym is ∙ says_read (lexemes, true) node told in cc)
    at (Some (node, [])) is = inl ((node, all_read (lexemes, true) [] node refl is refl))
    at (Some (node, lexeme ∷ rest)) is = inr (more_left (lexemes, true) (lexeme ∷ rest) node is (λ none. cc))

-- ---- the statements of a text say a derivation's nodes, or one is strange

abbrev Judged : List ℕ → Type 0
Judged text = ((nodes : List Step) × SaysWhole text nodes) ⊎ ((k : ℕ) × IsStrangeAt (statements_in text) k)

module _ (text : List ℕ) where
  at_end : (nodes : List Step) (places : ℕ) (awaits : Awaited) (number : ℕ) → SoFar text nodes [] places awaits number → Judged text
  at_end nodes zero awaits number so_far = inl ((nodes, (is_whole text nodes zero awaits number so_far refl).0))
  at_end nodes (suc places) awaits number so_far = inr ((number, ends_early text nodes (suc places) awaits number so_far (λ none. cc)))

  judged : (left : List Part) (nodes : List Step) (places : ℕ) (awaits : Awaited) (number : ℕ) → SoFar text nodes left places awaits number → Judged text
  judged [] nodes places awaits number so_far = at_end nodes places awaits number so_far
  judged (this ∷ later) nodes places awaits number so_far = at (says (part_said text this)) (λ new new_places new_awaits. judged later new new_places new_awaits (number + 1))
    where
      Later : Type 0
      Later = (new : List Step) (new_places : ℕ) (new_awaits : Awaited) → SoFar text new later new_places new_awaits (number + 1) → Judged text

      placed : (node : Step) → SaysNode (part_said text this) node → (b : Bool) → takes places awaits node ≡ b → Later → Judged text
      placed node told true takes_it on =
          on (nodes ++ node ∷ []) (places - 1 + inputs node) (awaited_behind node)
          (goes text nodes this later places awaits number so_far node (places - 1 + inputs node) (awaited_behind node) told takes_it refl refl)
      placed node told false takes_it on = inr ((number, strange_place text nodes this later places awaits number so_far node told takes_it))

      at : Says (part_said text this) → Later → Judged text
      at (inl told) on = placed told.0 told.1 (takes places awaits told.0) refl on
      at (inr none) on = inr ((number, strange_form text nodes this later places awaits number so_far none))

-- ---- the verdict

abbrev pub Verdict : List ℕ → Type 0
Verdict text = ((tree : Deriv) × IsAccepted text tree) ⊎ ((fault : DerivFault) × IsFirstFault text fault)

by_height : (text : List ℕ) (nodes : List Step) → fault_of text ≡ None → SaysWhole text nodes → Verdict text
by_height text nodes none whole = at (first_far 1 (ancestors_of (0 ∷ []) nodes)) refl
  where
    at : (found : Option ℕ) → first_far 1 (ancestors_of (0 ∷ []) nodes) ≡ found → Verdict text
    at None is =
        let made = tree_of nodes whole.whole in
        inl ((made.tree, accepted text nodes made.tree none whole made.are made.inputs_are (far_none (ancestors_of (0 ∷ []) nodes) is)))
    at (Some k) is = inr ((TooTall k, height_refused text nodes k none whole (far_first (ancestors_of (0 ∷ []) nodes) k is)))

by_nodes : (text : List ℕ) → fault_of text ≡ None → Judged text → Verdict text
by_nodes text none (inl whole) = by_height text whole.0 none whole.1
by_nodes text none (inr strange) = inr ((Syntax strange.0, nodes_refused text (Syntax strange.0) none strange.1))

are_tokens : (text : List ℕ) → fault_of text ≡ None → AreTokens text (lexed text).0
are_tokens text none = record { lexed = whole (lexed text).1 (first_too_deep (parts (lexed text).0)) refl none; accepted = none }
  where
    whole : (place deep : Option ℕ) → (lexed text).1 ≡ place → first_fault place deep ≡ None → lexed text ≡ ((lexed text).0, None)
    whole None deep is clear = λ i. ((lexed text).0, is i)
    whole (Some offset) deep is clear = absurd cc

pub verdict : (text : List ℕ) → length text ≤ 1048576 → Verdict text
verdict text size = at (lexed text).1 (first_too_deep (parts (lexed text).0)) refl
  where
    at : (place deep : Option ℕ) → fault_of text ≡ first_fault place deep → Verdict text
    at (Some offset) deep is = inr ((Lexical offset, tokens_refused text (token_fault.Lexical offset) is))
    at None (Some k) is = inr ((TooDeep k, tokens_refused text (token_fault.TooDeep k) is))
    at None None is = by_nodes text is (judged text (parts (lexed text).0) [] 1 next.Glue 1 (starts text (lexed text).0 1 next.Glue (are_tokens text is) size refl refl))
