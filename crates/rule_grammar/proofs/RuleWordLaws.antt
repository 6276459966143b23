-- The words of the rule language stand for what is written by them.
use Rattle.std.proofs.Common.{◌≡◌, ℕ, Bool, true, false, if◌then◌else◌, List, [], ◌∷◌, Option, Some, None, option_and_then, refl, sym, ap, ◌∙◌}
use Rattle.std.specs.List.{find}
use Rattle.star_model.specs.Costs.{flavours}
use Rattle.star_model.specs.Vectors.{same_numbers}
use Rattle.star_model.specs.declared.rules.Flavour.{Flavour}
use Rattle.star_model.specs.declared.rules.Flavour.TheVariants as flavour
use Rattle.star_model.specs.declared.rules.Kind.{Kind}
use Rattle.star_model.specs.declared.rules.Kind.TheVariants as kind
use Rattle.star_model.specs.declared.rules.Class.{Class}
use Rattle.star_model.specs.declared.rules.Class.TheVariants as class
use Rattle.spelling.specs.Lexemes.{Lexeme, Word}
use Rattle.star_model.specs.FlavourWords.{flavour_word, kind_word, flavour_of, is_flavour_of, flavour_in, all_kinds, kind_of_word, class_word, all_classes, class_of_word}
use Rattle.star_model.specs.WellFormedRules.{is_reserved, IsName}
use Rattle.spelling.specs.Reading.{given, a_word}
use Rattle.spelling.specs.ReadingCases.{then_reads, given_reads}
use Rattle.rule_grammar.specs.RuleWords.{name_of, free_word, kind_at}
use Rattle.spelling.proofs.Laws.{a_word_reads}
use Rattle.star_model.proofs.Laws.{same_are}

-- what is found is written so
written : {A : Type 0} (word_of : A → List ℕ) (xs : List A) (word : List ℕ) (x : A) → find (λ y. same_numbers (word_of y) word) xs ≡ Some x → word_of x ≡ word
written word_of [] word x found = absurd cc
written {A} word_of (y ∷ ys) word x found = at (same_numbers (word_of y) word) refl found (written word_of ys word x)
  where
    later : Option A
    later = find (λ (z : A). same_numbers (word_of z) word) ys

    at : (b : Bool) → same_numbers (word_of y) word ≡ b → if◌then◌else◌ {A = Option A} b (Some y) later ≡ Some x → (later ≡ Some x → word_of x ≡ word) → word_of x ≡ word
    at true same found inside = let is : y ≡ x = cc in ap word_of (sym is) ∙ same_are (word_of y) word same
    at false same found inside = inside found

-- ---- operators

pub flavour_found : (version : ℕ) (word : List ℕ) (f : Flavour) → flavour_in version word ≡ Some f → (flavour_word f ≡ word) × (is_flavour_of version f ≡ true)
unfolding flavour_in flavour_of
flavour_found version word f found = at (flavour_of word) refl found
  where
    kept : (g : Flavour) (b : Bool) → is_flavour_of version g ≡ b → flavour_of word ≡ Some g → (if b then Some g else None) ≡ Some f → (flavour_word f ≡ word) × (is_flavour_of version f ≡ true)
    kept g true known is found = let same : g ≡ f = cc in rw (sym same) (written flavour_word flavours word g is, known)
    kept g false known is found = absurd cc

    at : (named : Option Flavour) → flavour_of word ≡ named → option_and_then (λ g. if is_flavour_of version g then Some g else None) named ≡ Some f → (flavour_word f ≡ word) × (is_flavour_of version f ≡ true)
    at None is found = absurd cc
    at (Some g) is found = kept g (is_flavour_of version g) refl is found

named : (f : Flavour) → flavour_of (flavour_word f) ≡ Some f
unfolding flavour_of
named flavour.AccessHeap = refl
named flavour.AccessIndex = refl
named flavour.Get = refl
named flavour.Filter = refl
named flavour.Sort = refl
named flavour.Store = refl
named flavour.Ship = refl
named flavour.Probe = refl
named flavour.JoinNl = refl
named flavour.JoinMerge = refl
named flavour.JoinHash = refl
named flavour.Intersect = refl

pub flavour_named : (version : ℕ) (f : Flavour) → is_flavour_of version f ≡ true → flavour_in version (flavour_word f) ≡ Some f
unfolding flavour_in
flavour_named version f known = rw (named f) (rw known refl)

-- the words of a version's operators are reserved there
reserved : (version : ℕ) (f : Flavour) → is_flavour_of version f ≡ true → is_reserved version (flavour_word f) ≡ true
reserved version flavour.AccessHeap known = refl
reserved version flavour.AccessIndex known = refl
reserved version flavour.Get known = refl
reserved version flavour.Filter known = refl
reserved version flavour.Sort known = refl
reserved version flavour.Store known = refl
reserved version flavour.Ship known = refl
reserved version flavour.Probe known = refl
reserved version flavour.JoinNl known = refl
reserved version flavour.JoinMerge known = refl
reserved version flavour.JoinHash known = refl
reserved version flavour.Intersect known = rw known refl

-- so no name is the word of an operator
pub no_flavour : (version : ℕ) (name : List ℕ) → IsName version name → flavour_in version name ≡ None
no_flavour version name free = at (flavour_in version name) refl
  where
    at : (found : Option Flavour) → flavour_in version name ≡ found → found ≡ None
    at None is = refl
    at (Some f) is =
        let found = flavour_found version name f is in
        let taken : is_reserved version name ≡ true = rw (sym found.0) (reserved version f found.1) in
        let bad : true ≡ false = sym taken ∙ free in
        cc

-- ---- kinds

kind_found : (word : List ℕ) (k : Kind) → kind_of_word word ≡ Some k → kind_word k ≡ word
unfolding kind_of_word
kind_found word k found = written kind_word all_kinds word k found

kind_named : (k : Kind) → kind_of_word (kind_word k) ≡ Some k
unfolding kind_of_word
kind_named kind.Stream = refl
kind_named kind.Quants = refl
kind_named kind.Preds = refl
kind_named kind.Cols = refl
kind_named kind.Site = refl
kind_named kind.Index = refl

pub kind_read : (k : Kind) (rest : List Lexeme) → kind_at (Word (kind_word k) ∷ rest) ≡ Some (k, rest)
unfolding kind_at
kind_read k rest = ap (λ found. given found rest) (kind_named k)

pub kind_spelled : (lexemes : List Lexeme) (k : Kind) (rest : List Lexeme) → kind_at lexemes ≡ Some (k, rest) → lexemes ≡ Word (kind_word k) ∷ rest
unfolding kind_at
kind_spelled l0 k rest read =
    then_reads a_word _ l0 k rest read (λ word l1 e1 read1.
    let found = given_reads (kind_of_word word) l1 k rest read1 in
    (a_word_reads l0 l1 word).0 e1 ∙ ap (λ w. Word w ∷ l1) (sym (kind_found word k found.0)) ∙ ap (λ l. Word (kind_word k) ∷ l) found.1)

-- ---- classes

pub class_found : (word : List ℕ) (c : Class) → class_of_word word ≡ Some c → class_word c ≡ word
unfolding class_of_word
class_found word c found = written class_word all_classes word c found

pub class_named : (c : Class) → class_of_word (class_word c) ≡ Some c
unfolding class_of_word
class_named class.EqConst = refl
class_named class.EqColumn = refl
class_named class.Ne = refl
class_named class.Less = refl

-- ---- names

pub name_is : (version : ℕ) (word name : List ℕ) → name_of version word ≡ Some name → IsName version name × (word ≡ name)
name_is version word name = at (is_reserved version word) refl
  where
    at : (b : Bool) → is_reserved version word ≡ b → if◌then◌else◌ {A = Option (List ℕ)} b None (Some word) ≡ Some name → IsName version name × (word ≡ name)
    at true is found = absurd cc
    at false is found = let same : word ≡ name = cc in (rw (sym same) is, same)

pub name_given : (version : ℕ) (name : List ℕ) → IsName version name → name_of version name ≡ Some name
name_given version name is = rw is refl

pub name_read : (version : ℕ) (name : List ℕ) (rest : List Lexeme) → IsName version name → free_word version (Word name ∷ rest) ≡ Some (name, rest)
unfolding free_word
name_read version name rest is = ap (λ found. given found rest) (name_given version name is)

pub name_spelled : (version : ℕ) (lexemes : List Lexeme) (name : List ℕ) (rest : List Lexeme) → free_word version lexemes ≡ Some (name, rest) → (lexemes ≡ Word name ∷ rest) × IsName version name
unfolding free_word
name_spelled version l0 name rest read =
    then_reads a_word _ l0 name rest read (λ word l1 e1 read1.
    let found = given_reads (name_of version word) l1 name rest read1 in
    let is = name_is version word name found.0 in
    ((a_word_reads l0 l1 word).0 e1 ∙ ap (λ w. Word w ∷ l1) is.1 ∙ ap (λ l. Word name ∷ l) found.1, is.0))
