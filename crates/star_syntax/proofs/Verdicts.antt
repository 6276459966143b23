-- Each text has a verdict.
use Rattle.std.proofs.Common.{◌≡◌, ◌⊎◌, inl, inr, ℕ, ◌+◌, List, [], ◌∷◌, ◌++◌, length, map, Option, Some, None, Ok, refl}
use Rattle.sb_text.specs.Statements.{Part, parts}
use Rattle.sb_text.specs.Tokens.{lexed}
use Rattle.sb_text.specs.Refusal.{fault_of, first_fault}
use Rattle.sb_text.specs.Depth.{first_too_deep}
use Rattle.star_model.specs.declared.faults.LimitKind.{LimitKind}
use Rattle.star_model.specs.declared.faults.RuleFault.{RuleFault}
use Rattle.star_model.specs.declared.faults.RuleFault.TheVariants.{Lexical, TooDeep, Syntax, Limit}
use Rattle.star_model.specs.declared.rules.RuleFile.{RuleFile}
use Rattle.spelling.specs.Cursors.{part_said}
use Rattle.spelling.specs.Lexemes.{ended, statements_in}
use Rattle.rule_grammar.specs.RuleLimits.{RuleStatement}
use Rattle.star_syntax.specs.declared.statements.RulesSoFar.{RulesSoFar}
use Rattle.star_syntax.specs.Faults.{IsStrangeAt, IsFirstFault, IsRead}
use Rattle.star_syntax.specs.Statements.{lists_of, with_definition, AreSoFar, limit_so_far, GoesOn, StatementsRead}
use Rattle.star_syntax.specs.Versions.{version_of_text}
use Rattle.star_syntax.proofs.Defining.{Defines, defines}
use Rattle.star_syntax.proofs.ReadLaws.{said_more, strange_next, all_said}
use Rattle.star_syntax.proofs.SoFarLaws.{more_so_far}
use Rattle.star_syntax.proofs.FaultLaws.{lexical_first, deep_first, syntax_first, no_limit, a_limit}

-- ---- all statements of a text are understood, or one is the first that isn't

module _ (text : List ℕ) (all_tokens : (lexed text).1 ≡ None) where
  abbrev Read : Type 0
  Read = ((read : RulesSoFar) × StatementsRead text (Ok read)) ⊎ ((k : ℕ) × IsStrangeAt text k)

  read_from : (left : List Part) (done : List RuleStatement) (read : RulesSoFar) → statements_in text ≡ map ended (lists_of done) ++ map (part_said text) left
      → AreSoFar (version_of_text text) done read → Read
  read_from [] done read said so = inl ((read, (done, all_said text done read all_tokens said so, so)))
  read_from (this ∷ later) done read said so = at (defines read.rules.version (length done + 1) (part_said text this)) (λ x after. read_from later (done ++ x ∷ []) after)
    where
      Later : Type 0
      Later = (x : RuleStatement) (after : RulesSoFar) → statements_in text ≡ map ended (lists_of (done ++ x ∷ [])) ++ map (part_said text) later
          → AreSoFar (version_of_text text) (done ++ x ∷ []) after → Read

      at : Defines read.rules.version (length done + 1) (part_said text this) → Later → Read
      at (inl (is, d, spells)) on =
          let x : RuleStatement = record { lexemes = (part_said text this).0; defines = d } in
          let after : RulesSoFar = record { rules = with_definition read.rules d; beyond = limit_so_far read (length done + 1) x } in
          let goes : GoesOn (length done + 1) (part_said text this) read after = record { ended = is; defines = d; spelled = spells; rules = refl; beyond = refl } in
          on x after (said_more text done this later d said is) (more_so_far (version_of_text text) done (length done + 1) (part_said text this) read after so refl goes)
      at (inr strange) on = inr ((length done + 1, strange_next text done this later read said so strange))

  read_all : Read
  unfolding statements_in
  read_all =
      read_from (parts (lexed text).0) [] (record { rules = record { version = version_of_text text; selects = []; formulas = []; stars = [] }; beyond = None }) refl
      (record { spelled = tt; rules = refl; limit = tt })

-- ---- the verdict

abbrev pub Verdict : List ℕ → Type 0
Verdict text = ((rules : RuleFile) × IsRead text rules) ⊎ ((fault : RuleFault) × IsFirstFault text fault)

by_limit : (text : List ℕ) (read : RulesSoFar) → fault_of text ≡ None → StatementsRead text (Ok read) → (beyond : Option (ℕ × LimitKind)) → read.beyond ≡ beyond → Verdict text
by_limit text read none are None is = inl ((read.rules, no_limit text read none are is))
by_limit text read none are (Some (k, what)) is = inr ((Limit k what, a_limit text read k what none are is))

by_statements : (text : List ℕ) → fault_of text ≡ None → ((read : RulesSoFar) × StatementsRead text (Ok read)) ⊎ ((k : ℕ) × IsStrangeAt text k) → Verdict text
by_statements text none (inl (read, are)) = by_limit text read none are read.beyond refl
by_statements text none (inr (k, strange)) = inr ((Syntax k, syntax_first text k none strange))

pub verdict : (text : List ℕ) → Verdict text
verdict text = at (lexed text).1 (first_too_deep (parts (lexed text).0)) refl refl
  where
    at : (place deep : Option ℕ) → (lexed text).1 ≡ place → fault_of text ≡ first_fault place deep → Verdict text
    at (Some offset) deep stops is = inr ((Lexical offset, lexical_first text offset is))
    at None (Some k) stops is = inr ((TooDeep k, deep_first text k is))
    at None None stops is = by_statements text is (read_all text stops)
