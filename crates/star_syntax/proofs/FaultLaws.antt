-- One text has at most one first fault, and one that is read has none.
use Rattle.std.proofs.Common.{◌≡◌, ◌-◌, ◌≤◌, ◌+◌, ℕ, false, List, [], ◌∷◌, ◌++◌, length, map, take, Some, None, Ok, codes, refl, sym, ap, ◌∙◌, subst, arith, length-append}
use Rattle.std.proofs.lemmas.Option.{none-some}
use Rattle.sb_text.specs.Refusal.{fault_of}
use Rattle.sb_text.specs.declared.token.TextFault.TheVariants as text
use Rattle.star_model.specs.declared.faults.LimitKind.{LimitKind}
use Rattle.star_model.specs.declared.faults.RuleFault.{RuleFault}
use Rattle.star_model.specs.declared.faults.RuleFault.TheVariants.{Lexical, TooDeep, Syntax, Limit, Unknown, Twice, Arity, Kind, Cycle, GlueInAccess, NoRoot, NoFormula, NotMonotone, TooTall, TooWide, Memory}
use Rattle.star_model.specs.declared.rules.RuleFile.{RuleFile}
use Rattle.spelling.specs.Lexemes.{Lexeme, Word, MaybeEnded, ended, statements_in}
use Rattle.spelling.specs.Firsts.{FirstAt, NoneFrom, NoneHas}
use Rattle.spelling.specs.FirstsCases.{one_first, none_first}
use Rattle.spelling.specs.Limits.{IsFirstBeyond}
use Rattle.spelling.specs.LimitsCases.{one_limit}
use Rattle.spelling.specs.SpelledSeries.{apart}
use Rattle.star_model.specs.Vectors.{same_numbers}
use Rattle.star_model.specs.declared.rules.Which.{Which}
use Rattle.star_model.specs.declared.rules.Which.TheVariants as which
use Rattle.star_model.specs.FlavourWords.{which_word}
use Rattle.rule_grammar.specs.Rules.{Definition, OfVersion, OfSelect, OfFormula, OfStar, SpellsRules}
use Rattle.rule_grammar.specs.RuleLimits.{RuleStatement, SpellsNumbered, AreSpelled, version_of, version_said, SaysRules, Beyond, IsBeyond}
use Rattle.spelling.proofs.Laws.{one_list}
use Rattle.rule_grammar.proofs.Laws.{one_select_def, one_formula_def, one_star}
use Rattle.star_syntax.specs.Faults.{IsStrange, IsStrangeAt, IsLimitAt, HasFault, fault_rank, IsFirstFault, IsRead}
use Rattle.star_syntax.specs.declared.statements.RulesSoFar.{RulesSoFar}
use Rattle.star_syntax.specs.Statements.{lists_of, rules_of, StatementsRead}
use Rattle.star_syntax.specs.Versions.{version_in, version_of_text}
use Rattle.star_syntax.proofs.VersionLaws.{first_says, statements_say}
use Rattle.star_syntax.proofs.ReadLaws.{understood}
use Rattle.star_syntax.proofs.SpelledRules.{says_spells}
use Rattle.star_syntax.proofs.WellFormedLaws.{rules_formed, rules_fit}

-- ---- one text says one list of statements

cost_apart : (w : Which) (word : List ℕ) (rest later : List Lexeme) → same_numbers (codes "cost") word ≡ false → same_numbers (codes "rescan") word ≡ false
    → Word (which_word w) ∷ rest ≡ Word word ∷ later → ⊥
cost_apart which.Cost word rest later cost rescan e = apart (codes "cost") word rest later cost e
cost_apart which.Rescan word rest later cost rescan e = apart (codes "rescan") word rest later rescan e

-- the first statement is for no version, and for one
not_version : (version n : ℕ) (lexemes : List Lexeme) (d : Definition) → SpellsNumbered version n lexemes OfVersion → SpellsNumbered version n lexemes d → version_of d ≡ 1 → ⊥
not_version version n lexemes d says spells other = omega (arith, first_says version n lexemes OfVersion says, first_says version n lexemes d spells, other)

one_defined : (version n : ℕ) (lexemes : List Lexeme) (x y : Definition) → SpellsNumbered version n lexemes x → SpellsNumbered version n lexemes y → x ≡ y
one_defined version n lexemes OfVersion OfVersion p q = refl
one_defined version n lexemes OfVersion (OfSelect d) p q = absurd (not_version version n lexemes (OfSelect d) p q refl)
one_defined version n lexemes OfVersion (OfFormula d) p q = absurd (not_version version n lexemes (OfFormula d) p q refl)
one_defined version n lexemes OfVersion (OfStar s) p q = absurd (not_version version n lexemes (OfStar s) p q refl)
one_defined version n lexemes (OfSelect d) OfVersion p q = absurd (not_version version n lexemes (OfSelect d) q p refl)
one_defined version n lexemes (OfSelect d) (OfSelect f) p q = ap OfSelect (one_select_def version n lexemes d f p q)
one_defined version n lexemes (OfSelect d) (OfFormula f) p q = absurd (cost_apart f.which (codes "selectivity") _ _ refl refl (sym q.are ∙ p.are))
one_defined version n lexemes (OfSelect d) (OfStar s) p q = absurd (apart (codes "selectivity") (codes "star") _ _ refl (sym p.are ∙ q.are))
one_defined version n lexemes (OfFormula d) OfVersion p q = absurd (not_version version n lexemes (OfFormula d) q p refl)
one_defined version n lexemes (OfFormula d) (OfSelect f) p q = absurd (cost_apart d.which (codes "selectivity") _ _ refl refl (sym p.are ∙ q.are))
one_defined version n lexemes (OfFormula d) (OfFormula f) p q = ap OfFormula (one_formula_def version n lexemes d f p q)
one_defined version n lexemes (OfFormula d) (OfStar s) p q = absurd (cost_apart d.which (codes "star") _ _ refl refl (sym p.are ∙ q.are))
one_defined version n lexemes (OfStar s) OfVersion p q = absurd (not_version version n lexemes (OfStar s) q p refl)
one_defined version n lexemes (OfStar s) (OfSelect d) p q = absurd (apart (codes "selectivity") (codes "star") _ _ refl (sym q.are ∙ p.are))
one_defined version n lexemes (OfStar s) (OfFormula d) p q = absurd (cost_apart d.which (codes "star") _ _ refl refl (sym q.are ∙ p.are))
one_defined version n lexemes (OfStar s) (OfStar t) p q = ap OfStar (one_star version n lexemes s t p q)

same_list : (version n : ℕ) (a b : List RuleStatement) → AreSpelled version n a → AreSpelled version n b → lists_of a ≡ lists_of b → a ≡ b
same_list version n [] [] p q e = refl
same_list version n [] (y ∷ b) p q e = absurd cc
same_list version n (x ∷ a) [] p q e = absurd cc
same_list version n (x ∷ a) (y ∷ b) p q e =
    let first : x.lexemes ≡ y.lexemes = cc in
    let later : lists_of a ≡ lists_of b = cc in
    let one = one_defined version n x.lexemes x.defines y.defines p.0 (subst (λ (l : List Lexeme). SpellsNumbered version n l y.defines) (sym first) q.0) in
    let more = same_list version (n + 1) a b p.1 q.1 later in
    (λ i. record { lexemes = first i; defines = one i } ∷ more i)

pub same_statements : (source : List ℕ) (a b : List RuleStatement) → SaysRules source a → SaysRules source b → a ≡ b
same_statements source a b p q =
    let lists : lists_of a ≡ lists_of b = one_list source _ _ p.are q.are in
    let version : version_said a ≡ version_said b =
    sym (statements_say (version_said a) 1 a p.spelled) ∙ ap (λ (l : List (List Lexeme)). version_in (map ended l)) lists ∙ statements_say (version_said b) 1 b q.spelled in
    same_list (version_said b) 1 a b (subst (λ (v : ℕ). AreSpelled v 1 a) version p.spelled) q.spelled lists

-- ---- at most one first fault

-- the faults that a text can have
data Found (source : List ℕ) : RuleFault → Type 0 where
  lexical : {offset : ℕ} → fault_of source ≡ Some (text.Lexical offset) → Found source (Lexical offset)
  too_deep : {k : ℕ} → fault_of source ≡ Some (text.TooDeep k) → Found source (TooDeep k)
  syntax_ : {k : ℕ} → IsStrangeAt source k → Found source (Syntax k)
  limit_ : {k : ℕ} {what : LimitKind} → (statements : List RuleStatement) → SaysRules source statements → IsLimitAt statements k what → Found source (Limit k what)

found : (source : List ℕ) (fault : RuleFault) → HasFault source fault → Found source fault
found source (Lexical offset) has = lexical has
found source (TooDeep k) has = too_deep has
found source (Syntax k) has = syntax_ has
found source (Limit k what) has = limit_ has.0 has.1 has.2
found source (Unknown k) has = absurd has
found source (Twice k) has = absurd has
found source (Arity k) has = absurd has
found source (Kind k) has = absurd has
found source (Cycle k) has = absurd has
found source (GlueInAccess k) has = absurd has
found source (NoRoot root) has = absurd has
found source (NoFormula flavour) has = absurd has
found source (NotMonotone flavour which node) has = absurd has
found source (TooTall k height) has = absurd has
found source (TooWide k weight) has = absurd has
found source Memory has = absurd has

one_limit_at : (statements : List RuleStatement) (k j : ℕ) (what other : LimitKind) → IsLimitAt statements k what → IsLimitAt statements j other → Limit k what ≡ Limit j other
one_limit_at statements k j what other p q =
    let place : k ≡ j = one_first IsBeyond [] statements k j p.first q.first in
    let there : IsLimitAt statements j what = subst (λ (n : ℕ). IsLimitAt statements n what) place p in
    let same : Some there.statement ≡ Some q.statement = sym there.is ∙ q.is in
    let statement : there.statement ≡ q.statement = cc in
    let first : IsFirstBeyond (Beyond (take (j - 1) statements) q.statement) what =
    subst (λ (s : RuleStatement). IsFirstBeyond (Beyond (take (j - 1) statements) s) what) statement there.limit in
    let limit : what ≡ other = one_limit (Beyond (take (j - 1) statements) q.statement) what other first q.limit in
    (λ i. Limit (place i) (limit i))

same_kind : (source : List ℕ) {f g : RuleFault} → fault_rank f ≡ fault_rank g → Found source f → Found source g → f ≡ g
same_kind source rank (lexical {offset} p) (lexical {offset = other} q) =
    let e : Some (text.Lexical offset) ≡ Some (text.Lexical other) = sym p ∙ q in let same : offset ≡ other = cc in ap Lexical same
same_kind source rank (lexical p) (too_deep q) = absurd cc
same_kind source rank (lexical p) (syntax_ q) = absurd cc
same_kind source rank (lexical p) (limit_ statements says q) = absurd cc
same_kind source rank (too_deep p) (lexical q) = absurd cc
same_kind source rank (too_deep {k} p) (too_deep {k = j} q) = let e : Some (text.TooDeep k) ≡ Some (text.TooDeep j) = sym p ∙ q in let same : k ≡ j = cc in ap TooDeep same
same_kind source rank (too_deep p) (syntax_ q) = absurd cc
same_kind source rank (too_deep p) (limit_ statements says q) = absurd cc
same_kind source rank (syntax_ p) (lexical q) = absurd cc
same_kind source rank (syntax_ p) (too_deep q) = absurd cc
same_kind source rank (syntax_ {k} p) (syntax_ {k = j} q) = ap Syntax (one_first _ [] (statements_in source) k j p q)
same_kind source rank (syntax_ p) (limit_ statements says q) = absurd cc
same_kind source rank (limit_ statements says p) (lexical q) = absurd cc
same_kind source rank (limit_ statements says p) (too_deep q) = absurd cc
same_kind source rank (limit_ statements says p) (syntax_ q) = absurd cc
same_kind source rank (limit_ {k} {what} statements says p) (limit_ {k = j} {what = other} others say q) =
    one_limit_at others k j what other (subst (λ (l : List RuleStatement). IsLimitAt l k what) (same_statements source statements others says say) p) q

pub one_fault : (source : List ℕ) (f g : RuleFault) → IsFirstFault source f → IsFirstFault source g → f ≡ g
one_fault source f g p q =
    let less = p.first g q.has in
    let more = q.first f p.has in
    same_kind source (omega (arith, less, more)) (found source f p.has) (found source g q.has)

-- ---- which faults a text has not

all_understood : (version n : ℕ) (statements : List RuleStatement) → AreSpelled version n statements → (before : List MaybeEnded) → n ≡ length before + 1
    → NoneFrom (IsStrange version) before (map ended (lists_of statements))
all_understood version n [] spelled before place = tt
all_understood version n (s ∷ statements) spelled before place = (
  (λ strange. strange (understood version n (length before + 1) s spelled.0 place)),
  all_understood version (n + 1) statements spelled.1 (before ++ ended s.lexemes ∷ []) (omega (arith, place, length-append before (ended s.lexemes ∷ []))),
)

-- the version that the text says is that of its statements
pub version_is : (source : List ℕ) (statements : List RuleStatement) → SaysRules source statements → version_of_text source ≡ version_said statements
version_is source statements says = ap version_in says.are.are ∙ statements_say (version_said statements) 1 statements says.spelled

not_strange : (source : List ℕ) (statements : List RuleStatement) (k : ℕ) → SaysRules source statements → IsStrangeAt source k → ⊥
not_strange source statements k says strange =
    let version = version_said statements in
    let here : FirstAt (IsStrange version) (statements_in source) k = subst (λ (v : ℕ). FirstAt (IsStrange v) (statements_in source) k) (version_is source statements says) strange in
    none_first (IsStrange version) [] (map ended (lists_of statements)) k (all_understood version 1 statements says.spelled [] (omega arith))
    (subst (λ l. FirstAt (IsStrange version) l k) says.are.are here)

from_syntax : (source : List ℕ) (fault : RuleFault) → fault_of source ≡ None → Found source fault → 2 ≤ fault_rank fault
from_syntax source fault none (lexical p) = absurd (none-some _ (sym none ∙ p))
from_syntax source fault none (too_deep p) = absurd (none-some _ (sym none ∙ p))
from_syntax source fault none (syntax_ p) = omega arith
from_syntax source fault none (limit_ statements says p) = omega arith

from_limit : (source : List ℕ) (statements : List RuleStatement) (fault : RuleFault) → fault_of source ≡ None → SaysRules source statements → Found source fault → 3 ≤ fault_rank fault
from_limit source statements fault none says (lexical p) = absurd (none-some _ (sym none ∙ p))
from_limit source statements fault none says (too_deep p) = absurd (none-some _ (sym none ∙ p))
from_limit source statements fault none says (syntax_ {k} p) = absurd (not_strange source statements k says p)
from_limit source statements fault none says (limit_ others say p) = omega arith

clear : (source : List ℕ) (statements : List RuleStatement) (fault : RuleFault) → fault_of source ≡ None → SaysRules source statements → NoneHas IsBeyond statements → Found source fault → ⊥
clear source statements fault none says within (lexical p) = none-some _ (sym none ∙ p)
clear source statements fault none says within (too_deep p) = none-some _ (sym none ∙ p)
clear source statements fault none says within (syntax_ {k} p) = not_strange source statements k says p
clear source statements fault none says within (limit_ {k} others say p) =
    none_first IsBeyond [] others k (subst (NoneHas IsBeyond) (same_statements source statements others says say) within) p.first

pub no_fault : (source : List ℕ) (statements : List RuleStatement) → fault_of source ≡ None → SaysRules source statements → NoneHas IsBeyond statements
    → (fault : RuleFault) → HasFault source fault → ⊥
no_fault source statements none says within fault has = clear source statements fault none says within (found source fault has)

-- ---- verdicts

from_deep : (source : List ℕ) (k : ℕ) (fault : RuleFault) → fault_of source ≡ Some (text.TooDeep k) → Found source fault → 1 ≤ fault_rank fault
from_deep source k fault is (lexical {offset} p) = let e : Some (text.TooDeep k) ≡ Some (text.Lexical offset) = sym is ∙ p in absurd cc
from_deep source k fault is (too_deep p) = omega arith
from_deep source k fault is (syntax_ p) = omega arith
from_deep source k fault is (limit_ statements says p) = omega arith

pub lexical_first : (source : List ℕ) (offset : ℕ) → fault_of source ≡ Some (text.Lexical offset) → IsFirstFault source (Lexical offset)
lexical_first source offset is = record { has = is; first = λ other has. omega arith }

pub deep_first : (source : List ℕ) (k : ℕ) → fault_of source ≡ Some (text.TooDeep k) → IsFirstFault source (TooDeep k)
deep_first source k is = record { has = is; first = λ other has. from_deep source k other is (found source other has) }

pub syntax_first : (source : List ℕ) (k : ℕ) → fault_of source ≡ None → IsStrangeAt source k → IsFirstFault source (Syntax k)
syntax_first source k none strange = record { has = strange; first = λ other has. from_syntax source other none (found source other has) }

limit_first : (source : List ℕ) (statements : List RuleStatement) (k : ℕ) (what : LimitKind) → fault_of source ≡ None → SaysRules source statements → IsLimitAt statements k what
    → IsFirstFault source (Limit k what)
limit_first source statements k what none says at = record { has = (statements, says, at); first = λ other has. from_limit source statements other none says (found source other has) }

read_whole : (source : List ℕ) (statements : List RuleStatement) (rules : RuleFile) → fault_of source ≡ None → SaysRules source statements → SpellsRules source rules → NoneHas IsBeyond statements
    → IsRead source rules
read_whole source statements rules none says spells within = record {
  spells = spells;
  formed = rules_formed source rules statements spells says within;
  fits = rules_fit source rules statements spells says within;
  clear = no_fault source statements none says within;
}

-- what the statements of a text come to
pub no_limit : (source : List ℕ) (read : RulesSoFar) → fault_of source ≡ None → StatementsRead source (Ok read) → read.beyond ≡ None → IsRead source read.rules
no_limit source read none (statements, says, so) is =
    let rules : read.rules ≡ rules_of (version_said statements) statements = so.rules ∙ ap (λ (v : ℕ). rules_of v statements) (version_is source statements says) in
    let spells : SpellsRules source read.rules = subst (λ (r : RuleFile). SpellsRules source r) (sym rules) (says_spells source statements says) in
    read_whole source statements read.rules none says spells (rw is at so.limit)

pub a_limit : (source : List ℕ) (read : RulesSoFar) (k : ℕ) (what : LimitKind) → fault_of source ≡ None → StatementsRead source (Ok read) → read.beyond ≡ Some (k, what)
    → IsFirstFault source (Limit k what)
a_limit source read k what none (statements, says, so) is = limit_first source statements k what none says (rw is at so.limit)
