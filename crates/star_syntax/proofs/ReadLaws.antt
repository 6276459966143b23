-- The statements of a text are read one after the other.
use Rattle.std.proofs.Common.{◌≡◌, ◌≤◌, ◌+◌, ℕ, suc, true, List, [], ◌∷◌, ◌++◌, length, map, None, refl, sym, ap, ◌∙◌, subst, arith, add-one, append_assoc, append-nil, length-append}
use Rattle.std.proofs.lemmas.List.{map-append}
use Rattle.sb_text.specs.Refusal.{AreTokens}
use Rattle.sb_text.specs.Tokens.{Lexed, lexed}
use Rattle.sb_text.specs.Statements.{Part, parts}
use Rattle.sb_text.specs.declared.token.Token.{Token}
use Rattle.spelling.specs.Lexemes.{MaybeEnded, ended, statements_in}
use Rattle.star_model.specs.Every.{Every}
use Rattle.spelling.specs.Cursors.{part_said, IsPartOf}
use Rattle.spelling.specs.Firsts.{FirstFrom, FirstAt}
use Rattle.spelling.specs.Syntax.{IsUnderstood}
use Rattle.star_model.specs.declared.rules.RuleFile.{RuleFile}
use Rattle.rule_grammar.specs.Rules.{Definition}
use Rattle.rule_grammar.specs.RuleLimits.{RuleStatement, SpellsNumbered, AreSpelled, version_said, SaysRules}
use Rattle.spelling.proofs.Laws.{parts_said, parts_hold, parts_few}
use Rattle.star_syntax.specs.declared.statements.RulesSoFar.{RulesSoFar}
use Rattle.star_syntax.specs.Statements.{lists_of, AreSoFar, GoesOn}
use Rattle.star_syntax.specs.Faults.{IsStrange, IsStrangeAt}
use Rattle.star_syntax.specs.Versions.{version_by, version_in, version_of_text}
use Rattle.star_syntax.proofs.SoFarLaws.{more_so_far}
use Rattle.star_syntax.proofs.VersionLaws.{statements_say}

-- these statements were read, and those parts of the source are left
pub record IsReading (source : List ℕ) (done : List RuleStatement) (left : List Part) (read : RulesSoFar) (number : ℕ) : Type 0 where
  pub said : statements_in source ≡ map ended (lists_of done) ++ map (part_said source) left
  pub so_far : AreSoFar (version_of_text source) done read
  pub tokens : Every (IsPartOf source) left
  pub place : number ≡ length done + 1
  pub few : number + length left ≤ 1048577

pub nothing_read : (source : List ℕ) (tokens : List Token) → AreTokens source tokens → length source ≤ 1048576
    → IsReading source [] (parts tokens) (record { rules = record { version = version_of_text source; selects = []; formulas = []; stars = [] }; beyond = None }) 1
nothing_read source tokens are short = record {
  said = parts_said source tokens are;
  so_far = record { spelled = tt; rules = refl; limit = tt };
  tokens = parts_hold source tokens are;
  place = omega arith;
  few = omega (arith, parts_few source tokens are, short);
}

-- the version that the first statement says
pub first_holds : (source : List ℕ) (tokens : List Token) (part : Part) (later : List Part) → AreTokens source tokens → parts tokens ≡ part ∷ later → IsPartOf source part
first_holds source tokens part later are cut = (subst (Every (IsPartOf source)) cut (parts_hold source tokens are)).0

pub said_by_first : (source : List ℕ) (tokens : List Token) (part : Part) (later : List Part) → AreTokens source tokens → parts tokens ≡ part ∷ later
    → version_by (part_said source part) ≡ version_of_text source
said_by_first source tokens part later are cut = sym (ap version_in (parts_said source tokens are ∙ ap (map (part_said source)) cut))

pub said_by_none : (source : List ℕ) (tokens : List Token) → AreTokens source tokens → parts tokens ≡ [] → 1 ≡ version_of_text source
said_by_none source tokens are none = sym (ap version_in (parts_said source tokens are ∙ ap (map (part_said source)) none))

-- ---- one statement more

-- a statement that is ended
is_ended : (statement : MaybeEnded) → statement.1 ≡ true → statement ≡ ended statement.0
is_ended statement is = λ i. (statement.0, is i)

pub said_more : (source : List ℕ) (done : List RuleStatement) (part : Part) (later : List Part) (defines : Definition)
    → statements_in source ≡ map ended (lists_of done) ++ map (part_said source) (part ∷ later) → (part_said source part).1 ≡ true
    → statements_in source ≡ map ended (lists_of (done ++ record { lexemes = (part_said source part).0; defines = defines } ∷ [])) ++ map (part_said source) later
said_more source done part later defines said is =
    let x : RuleStatement = record { lexemes = (part_said source part).0; defines = defines } in
    let lists : map ended (lists_of (done ++ x ∷ [])) ≡ map ended (lists_of done) ++ ended x.lexemes ∷ [] =
    ap (map ended) (map-append (λ (s : RuleStatement). s.lexemes) done (x ∷ [])) ∙ map-append ended (lists_of done) (x.lexemes ∷ []) in
    said ∙ ap (λ s. map ended (lists_of done) ++ (s ∷ map (part_said source) later)) (is_ended (part_said source part) is)
    ∙ sym (append_assoc (map ended (lists_of done)) (ended x.lexemes ∷ []) (map (part_said source) later)) ∙ ap (λ l. l ++ map (part_said source) later) (sym lists)

pub one_read : (source : List ℕ) (done : List RuleStatement) (part : Part) (left later : List Part) (read after : RulesSoFar) (number : ℕ) → IsReading source done left read number
    → left ≡ part ∷ later → GoesOn number (part_said source part) read after → (more : List RuleStatement) × IsReading source more later after (number + 1)
one_read source done part left later read after number reading cut on =
    let x : RuleStatement = record { lexemes = (part_said source part).0; defines = on.defines } in
    let every : Every (IsPartOf source) (part ∷ later) = subst (Every (IsPartOf source)) cut reading.tokens in
    let size : length left ≡ length (part ∷ later) = ap (λ (l : List Part). length l) cut in (
      done ++ x ∷ [],
      record {
        said = said_more source done part later on.defines (reading.said ∙ ap (λ l. map ended (lists_of done) ++ map (part_said source) l) cut) on.ended;
        so_far = more_so_far (version_of_text source) done number (part_said source part) read after reading.so_far reading.place on;
        tokens = every.1;
        place = omega (arith, reading.place, length-append done (x ∷ []));
        few = omega (arith, reading.few, size);
      },
    )

-- ---- the first that isn't understood

pub understood : (version n k : ℕ) (s : RuleStatement) → SpellsNumbered version n s.lexemes s.defines → n ≡ k → IsUnderstood (SpellsNumbered version k) (ended s.lexemes)
understood version n k s spells place = (s.defines, subst (λ (j : ℕ). SpellsNumbered version j s.lexemes s.defines) place spells)

first_strange : (version n : ℕ) (done : List RuleStatement) → AreSpelled version n done → (before later : List MaybeEnded) (this : MaybeEnded) → n ≡ length before + 1
    → (IsUnderstood (SpellsNumbered version (n + length done)) this → ⊥) → FirstFrom (IsStrange version) before (map ended (lists_of done) ++ this ∷ later) (suc (length done))
first_strange version n [] are before later this place strange =
    let same : n + 0 ≡ length before + 1 = omega (arith, place) in
    subst (λ (k : ℕ). IsUnderstood (SpellsNumbered version k) this → ⊥) same strange
first_strange version n (s ∷ done) are before later this place strange =
    let next : n + length (s ∷ done) ≡ n + 1 + length done = omega arith in (
      (λ un. un (understood version n (length before + 1) s are.0 place)),
      first_strange version (n + 1) done are.1 (before ++ ended s.lexemes ∷ []) later this (omega (arith, place, length-append before (ended s.lexemes ∷ [])))
          (subst (λ (k : ℕ). IsUnderstood (SpellsNumbered version k) this → ⊥) next strange),
    )

pub strange_next : (source : List ℕ) (done : List RuleStatement) (part : Part) (later : List Part) (read : RulesSoFar)
    → statements_in source ≡ map ended (lists_of done) ++ map (part_said source) (part ∷ later) → AreSoFar (version_of_text source) done read
    → (IsUnderstood (SpellsNumbered read.rules.version (length done + 1)) (part_said source part) → ⊥) → IsStrangeAt source (length done + 1)
strange_next source done part later read said so strange =
    let version = version_of_text source in
    let same : read.rules.version ≡ version = ap (λ (r : RuleFile). r.version) so.rules in
    let here : length done + 1 ≡ 1 + length done = omega arith in
    let not_ : IsUnderstood (SpellsNumbered version (1 + length done)) (part_said source part) → ⊥ =
    subst (λ (k : ℕ). IsUnderstood (SpellsNumbered version k) (part_said source part) → ⊥) here (subst (λ (v : ℕ). IsUnderstood (SpellsNumbered v (length done + 1)) (part_said source part) → ⊥) same strange) in
    let first = first_strange version 1 done so.spelled [] (map (part_said source) later) (part_said source part) (omega arith) not_ in
    subst (λ (k : ℕ). FirstAt (IsStrange version) (statements_in source) k) (sym (add-one (length done))) (subst (λ l. FirstAt (IsStrange version) l (suc (length done))) (sym said) first)

pub strange_here : (source : List ℕ) (done : List RuleStatement) (part : Part) (left later : List Part) (read : RulesSoFar) (number : ℕ) → IsReading source done left read number
    → left ≡ part ∷ later → (IsUnderstood (SpellsNumbered read.rules.version number) (part_said source part) → ⊥) → IsStrangeAt source number
strange_here source done part left later read number reading cut strange =
    let said = reading.said ∙ ap (λ l. map ended (lists_of done) ++ map (part_said source) l) cut in
    let not_ = subst (λ (k : ℕ). IsUnderstood (SpellsNumbered read.rules.version k) (part_said source part) → ⊥) reading.place strange in
    subst (IsStrangeAt source) (sym reading.place) (strange_next source done part later read said reading.so_far not_)

-- ---- the end

pub all_said : (source : List ℕ) (done : List RuleStatement) (read : RulesSoFar) → (lexed source).1 ≡ None → statements_in source ≡ map ended (lists_of done) ++ []
    → AreSoFar (version_of_text source) done read → SaysRules source done
all_said source done read all_tokens said so =
    let are = said ∙ append-nil (map ended (lists_of done)) in
    let version : version_of_text source ≡ version_said done = ap version_in are ∙ statements_say (version_of_text source) 1 done so.spelled in
    record {
      are = record { all_tokens = all_tokens; are = are };
      spelled = subst (λ (v : ℕ). AreSpelled v 1 done) version so.spelled;
    }

pub all_read : (source : List ℕ) (tokens : List Token) (done : List RuleStatement) (left : List Part) (read : RulesSoFar) (number : ℕ) → AreTokens source tokens
    → IsReading source done left read number → left ≡ [] → SaysRules source done × AreSoFar (version_of_text source) done read
all_read source tokens done left read number are reading none =
    let said = reading.said ∙ ap (λ l. map ended (lists_of done) ++ map (part_said source) l) none in
    (all_said source done read (ap (λ (l : Lexed). l.1) are.lexed) said reading.so_far, reading.so_far)
