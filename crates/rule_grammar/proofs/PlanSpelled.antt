-- What the readers of plans read is spelled.
use Rattle.std.proofs.Common.{◌≡◌, ℕ, zero, suc, Bool, true, false, if◌then◌else◌, List, [], ◌∷◌, ◌++◌, length, Option, Some, None, codes, refl, sym, ap, ◌∙◌, eqb-true}
use Rattle.std.specs.Prelude.{nat_eq}
use Rattle.std.proofs.lemmas.Option.{some_pair_parts}
use Rattle.star_model.specs.Vectors.{same_numbers}
use Rattle.star_model.specs.declared.rules.PlanExpr.{PlanExpr}
use Rattle.star_model.specs.declared.rules.ValueExpr.{ValueExpr}
use Rattle.star_model.specs.declared.rules.Flavour.{Flavour}
use Rattle.spelling.specs.Lexemes.{Lexeme, Word, comma, left_bracket, right_bracket}
use Rattle.star_model.specs.Every.{Every, HasItem}
use Rattle.star_model.specs.FlavourWords.{flavour_word, is_flavour_of, flavour_in}
use Rattle.star_model.specs.Kinds.{inputs_of}
use Rattle.star_model.specs.WellFormedRules.{Scope, IsName, IsValue, arguments_of, IsPlan}
use Rattle.rule_grammar.specs.Values.{value_lexemes}
use Rattle.rule_grammar.specs.Rules.{plan_lexemes}
use Rattle.spelling.specs.Reading.{Reader, ◌>>=◌, ◌>>◌, pure, the_symbol, a_word, given}
use Rattle.spelling.specs.ReadingCases.{then_reads, pass, given_reads}
use Rattle.spelling.specs.SeriesReadingCases.{Spells, series_spelled}
use Rattle.rule_grammar.specs.RuleWords.{name_of}
use Rattle.rule_grammar.specs.ValueReading.{value_at}
use Rattle.rule_grammar.specs.PlanReading.{counted, arguments_at, own_arguments_at, more_arguments_at, reference_at, glue_at, leaf_at, unary_at, inputs_at, joined_at, binary_at, operator_at, behind_word, plan_by, plan_at}
use Rattle.spelling.proofs.Laws.{the_symbol_reads, a_word_reads}
use Rattle.rule_grammar.proofs.RuleWordLaws.{flavour_found, name_is}
use Rattle.rule_grammar.proofs.ValueSpelled.{value_is_spelled}
use Rattle.rule_grammar.proofs.Bracketed.{one_ends, two_ends}
use Rattle.rule_grammar.proofs.PlanBrackets.{values, further, further_some, unary_ends, binary_ends, at_most_two}
use Rattle.star_model.proofs.Laws.{same_are}

-- ---- symbols

opened : (l0 l1 : List Lexeme) → the_symbol (codes "(") l0 ≡ Some (tt, l1) → l0 ≡ left_bracket ∷ l1
opened l0 l1 e = (the_symbol_reads (codes "(") l0 l1).0 e

parted : (l0 l1 : List Lexeme) → the_symbol (codes ",") l0 ≡ Some (tt, l1) → l0 ≡ comma ∷ l1
parted l0 l1 e = (the_symbol_reads (codes ",") l0 l1).0 e

closed : (l0 l1 : List Lexeme) → the_symbol (codes ")") l0 ≡ Some (tt, l1) → l0 ≡ right_bracket ∷ l1
closed l0 l1 e = (the_symbol_reads (codes ")") l0 l1).0 e

-- ---- arguments

counted_is : (f : Flavour) (xs ys : List ValueExpr) → counted f xs ≡ Some ys → (xs ≡ ys) × (length xs ≡ arguments_of f)
counted_is f xs ys = at (nat_eq (length xs) (arguments_of f)) refl
  where
    at : (b : Bool) → nat_eq (length xs) (arguments_of f) ≡ b → if◌then◌else◌ {A = Option (List ValueExpr)} b (Some xs) None ≡ Some ys → (xs ≡ ys) × (length xs ≡ arguments_of f)
    at true is found = (cc, eqb-true (length xs) (arguments_of f) is)
    at false is found = absurd cc

module _ (scope : Scope) (value : Reader ValueExpr) (one : Spells value value_lexemes (IsValue scope)) where
  arguments_spelled : (lexemes : List Lexeme) (xs : List ValueExpr) (rest : List Lexeme) → arguments_at value lexemes ≡ Some (xs, rest)
      → (lexemes ≡ values xs ++ rest) × HasItem xs × Every (IsValue scope) xs
  unfolding arguments_at
  arguments_spelled lexemes xs rest read = series_spelled value value_lexemes (IsValue scope) (the_symbol (codes ",")) comma (the_symbol_reads (codes ",")) one lexemes xs rest read

  record Own (f : Flavour) (lexemes : List Lexeme) (xs : List ValueExpr) (rest : List Lexeme) : Type 0 where
    are : lexemes ≡ values xs ++ right_bracket ∷ rest
    some : HasItem xs
    stand : Every (IsValue scope) xs
    count : length xs ≡ arguments_of f

  own_spelled : (f : Flavour) (lexemes : List Lexeme) (xs : List ValueExpr) (rest : List Lexeme) → own_arguments_at value f lexemes ≡ Some (xs, rest) → Own f lexemes xs rest
  unfolding own_arguments_at
  own_spelled f l0 xs rest read =
      then_reads (arguments_at value) _ l0 xs rest read (λ ys l1 e1 read1.
      pass (the_symbol (codes ")")) _ l1 xs rest read1 (λ l2 e2 read2.
      let found = given_reads (counted f ys) l2 xs rest read2 in
      let count = counted_is f ys xs found.0 in
      let spelled = arguments_spelled l0 ys l1 e1 in
      rw (sym count.0) (record {
        are = spelled.0 ∙ ap (λ l. values ys ++ l) (closed l1 l2 e2 ∙ ap (λ l. right_bracket ∷ l) found.1);
        some = spelled.1;
        stand = spelled.2;
        count = count.1;
      })))

  -- behind an operator's plans
  record More (f : Flavour) (lexemes : List Lexeme) (xs : List ValueExpr) (rest : List Lexeme) : Type 0 where
    are : lexemes ≡ further xs ++ right_bracket ∷ rest
    stand : Every (IsValue scope) xs
    count : length xs ≡ arguments_of f

  more_spelled : (f : Flavour) (l0 : List Lexeme) (xs : List ValueExpr) (rest : List Lexeme) → more_arguments_at value f l0 ≡ Some (xs, rest) → More f l0 xs rest
  unfolding more_arguments_at
  more_spelled f l0 xs rest read = at (nat_eq (arguments_of f) 0) refl read
    where
      at : (b : Bool) → nat_eq (arguments_of f) 0 ≡ b
          → if◌then◌else◌ {A = Option (List ValueExpr × List Lexeme)} b ((the_symbol (codes ")") >> pure []) l0) ((the_symbol (codes ",") >> own_arguments_at value f) l0) ≡ Some (xs, rest) → More f l0 xs rest
      at true none found =
          pass (the_symbol (codes ")")) (pure []) l0 xs rest found (λ l1 e1 read1.
          let end = some_pair_parts [] xs l1 rest read1 in
          let count = sym (eqb-true (arguments_of f) 0 none) in
          rw (sym end.0) (record { are = closed l0 l1 e1 ∙ ap (λ l. right_bracket ∷ l) end.1; stand = tt; count = count }))
      at false some found =
          pass (the_symbol (codes ",")) (own_arguments_at value f) l0 xs rest found (λ l1 e1 read1.
          let own = own_spelled f l1 xs rest read1 in
          record { are = parted l0 l1 e1 ∙ ap (λ l. comma ∷ l) own.are ∙ ap (λ l. l ++ right_bracket ∷ rest) (sym (further_some xs own.some)); stand = own.stand; count = own.count })

  -- ---- plans without plans inside

  reference_spelled : (star : List ℕ) (l0 : List Lexeme) (x : PlanExpr) (rest : List Lexeme) → IsName scope.version star → reference_at value star l0 ≡ Some (x, rest)
      → (Word star ∷ l0 ≡ plan_lexemes x ++ rest) × IsPlan scope x
  unfolding reference_at plan_lexemes IsPlan
  reference_spelled star l0 x rest name read =
      pass (the_symbol (codes "(")) _ l0 x rest read (λ l1 e1 read1.
      then_reads (arguments_at value) _ l1 x rest read1 (λ xs l2 e2 read2.
      pass (the_symbol (codes ")")) _ l2 x rest read2 (λ l3 e3 read3.
      let end = some_pair_parts _ x l3 rest read3 in
      let arguments = arguments_spelled l1 xs l2 e2 in
      rw (sym end.0) (
        ap (λ l. Word star ∷ l) (opened l0 l1 e1 ∙ ap (λ l. left_bracket ∷ l) (arguments.0 ∙ ap (λ l. values xs ++ l) (closed l2 l3 e3 ∙ ap (λ l. right_bracket ∷ l) end.1) ∙ sym (one_ends (values xs) rest))),
        (name, arguments.1, arguments.2),
      ))))

  glue_spelled : (l0 : List Lexeme) (x : PlanExpr) (rest : List Lexeme) → glue_at value l0 ≡ Some (x, rest) → (Word (codes "Glue") ∷ l0 ≡ plan_lexemes x ++ rest) × IsPlan scope x
  unfolding glue_at plan_lexemes IsPlan
  glue_spelled l0 x rest read =
      pass (the_symbol (codes "(")) _ l0 x rest read (λ l1 e1 read1.
      then_reads value _ l1 x rest read1 (λ stream l2 e2 read2.
      pass (the_symbol (codes ",")) _ l2 x rest read2 (λ l3 e3 read3.
      then_reads value _ l3 x rest read3 (λ preds l4 e4 read4.
      pass (the_symbol (codes ")")) _ l4 x rest read4 (λ l5 e5 read5.
      let end = some_pair_parts _ x l5 rest read5 in
      let first = one l1 stream l2 e2 in
      let second = one l3 preds l4 e4 in
      rw (sym end.0) (
        ap (λ l. Word (codes "Glue") ∷ l) (opened l0 l1 e1 ∙ ap (λ l. left_bracket ∷ l) (
            first.0 ∙ ap (λ l. value_lexemes stream ++ l) (parted l2 l3 e3 ∙ ap (λ l. comma ∷ l) (
            second.0 ∙ ap (λ l. value_lexemes preds ++ l) (closed l4 l5 e5 ∙ ap (λ l. right_bracket ∷ l) end.1))) ∙ sym (two_ends (value_lexemes stream) (value_lexemes preds) rest))),
        (first.1, second.1),
      ))))))

  leaf_spelled : (f : Flavour) (l0 : List Lexeme) (x : PlanExpr) (rest : List Lexeme) → is_flavour_of scope.version f ≡ true → inputs_of f ≡ 0 → leaf_at value f l0 ≡ Some (x, rest)
      → (Word (flavour_word f) ∷ l0 ≡ plan_lexemes x ++ rest) × IsPlan scope x
  unfolding leaf_at plan_lexemes IsPlan
  leaf_spelled f l0 x rest known takes read =
      pass (the_symbol (codes "(")) _ l0 x rest read (λ l1 e1 read1.
      then_reads (own_arguments_at value f) _ l1 x rest read1 (λ xs l2 e2 read2.
      let end = some_pair_parts _ x l2 rest read2 in
      let own = own_spelled f l1 xs l2 e2 in
      rw (sym end.0) (
        ap (λ l. Word (flavour_word f) ∷ l) (opened l0 l1 e1 ∙ ap (λ l. left_bracket ∷ l) (own.are ∙ ap (λ l. values xs ++ right_bracket ∷ l) end.1 ∙ sym (one_ends (values xs) rest))),
        record { known = known; inputs = takes; count = own.count; values = own.stand },
      )))

  -- ---- plans with plans inside

  module _ (inner : Reader PlanExpr) (plan : Spells inner plan_lexemes (IsPlan scope)) where
    unary_spelled : (f : Flavour) (l0 : List Lexeme) (x : PlanExpr) (rest : List Lexeme) → is_flavour_of scope.version f ≡ true → inputs_of f ≡ 1 → unary_at value inner f l0 ≡ Some (x, rest)
        → (Word (flavour_word f) ∷ l0 ≡ plan_lexemes x ++ rest) × IsPlan scope x
    unfolding unary_at plan_lexemes IsPlan
    unary_spelled f l0 x rest known takes read =
        pass (the_symbol (codes "(")) _ l0 x rest read (λ l1 e1 read1.
        then_reads inner _ l1 x rest read1 (λ input l2 e2 read2.
        then_reads (more_arguments_at value f) _ l2 x rest read2 (λ xs l3 e3 read3.
        let end = some_pair_parts _ x l3 rest read3 in
        let first = plan l1 input l2 e2 in
        let more = more_spelled f l2 xs l3 e3 in
        rw (sym end.0) (
          ap (λ l. Word (flavour_word f) ∷ l) (opened l0 l1 e1 ∙ ap (λ l. left_bracket ∷ l) (
              first.0 ∙ ap (λ l. plan_lexemes input ++ l) (more.are ∙ ap (λ l. further xs ++ right_bracket ∷ l) end.1) ∙ sym (unary_ends (plan_lexemes input) xs rest))),
          (record { known = known; inputs = takes; count = more.count; values = more.stand }, first.1),
        ))))

    inputs_spelled : (l0 : List Lexeme) (p : PlanExpr × PlanExpr) (rest : List Lexeme) → inputs_at value inner l0 ≡ Some (p, rest)
        → (l0 ≡ plan_lexemes p.0 ++ comma ∷ (plan_lexemes p.1 ++ rest)) × IsPlan scope p.0 × IsPlan scope p.1
    unfolding inputs_at
    inputs_spelled l0 p rest read =
        then_reads inner _ l0 p rest read (λ left l1 e1 read1.
        pass (the_symbol (codes ",")) _ l1 p rest read1 (λ l2 e2 read2.
        then_reads inner _ l2 p rest read2 (λ right l3 e3 read3.
        let end = some_pair_parts _ p l3 rest read3 in
        let first = plan l0 left l1 e1 in
        let second = plan l2 right l3 e3 in
        rw (sym end.0) (
          first.0 ∙ ap (λ l. plan_lexemes left ++ l) (parted l1 l2 e2 ∙ ap (λ l. comma ∷ l) (second.0 ∙ ap (λ l. plan_lexemes right ++ l) end.1)),
          first.1,
          second.1,
        ))))

    binary_spelled : (f : Flavour) (l0 : List Lexeme) (x : PlanExpr) (rest : List Lexeme) → is_flavour_of scope.version f ≡ true → inputs_of f ≡ 2 → binary_at value inner f l0 ≡ Some (x, rest)
        → (Word (flavour_word f) ∷ l0 ≡ plan_lexemes x ++ rest) × IsPlan scope x
    unfolding binary_at joined_at plan_lexemes IsPlan
    binary_spelled f l0 x rest known takes read =
        pass (the_symbol (codes "(")) _ l0 x rest read (λ l1 e1 read1.
        then_reads (inputs_at value inner) _ l1 x rest read1 (λ p l2 e2 read2.
        then_reads (more_arguments_at value f) _ l2 x rest read2 (λ xs l3 e3 read3.
        let end = some_pair_parts _ x l3 rest read3 in
        let both = inputs_spelled l1 p l2 e2 in
        let more = more_spelled f l2 xs l3 e3 in
        rw (sym end.0) (
          ap (λ l. Word (flavour_word f) ∷ l) (opened l0 l1 e1 ∙ ap (λ l. left_bracket ∷ l) (
              both.0 ∙ ap (λ l. plan_lexemes p.0 ++ comma ∷ (plan_lexemes p.1 ++ l)) (more.are ∙ ap (λ l. further xs ++ right_bracket ∷ l) end.1)
              ∙ sym (binary_ends (plan_lexemes p.0) (plan_lexemes p.1) xs rest))),
          (record { known = known; inputs = takes; count = more.count; values = more.stand }, both.1, both.2),
        ))))

    operator_spelled : (f : Flavour) (n : ℕ) (l0 : List Lexeme) (x : PlanExpr) (rest : List Lexeme) → is_flavour_of scope.version f ≡ true → inputs_of f ≡ n → operator_at value inner f n l0 ≡ Some (x, rest)
        → (Word (flavour_word f) ∷ l0 ≡ plan_lexemes x ++ rest) × IsPlan scope x
    operator_spelled f zero l0 x rest known takes read = leaf_spelled f l0 x rest known takes read
    operator_spelled f (suc zero) l0 x rest known takes read = unary_spelled f l0 x rest known takes read
    operator_spelled f (suc (suc n)) l0 x rest known takes read = binary_spelled f l0 x rest known (at_most_two f n takes) read

    behind_spelled : (word : List ℕ) (f : Option Flavour) (l0 : List Lexeme) (x : PlanExpr) (rest : List Lexeme) → flavour_in scope.version word ≡ f → behind_word value inner scope.version word f l0 ≡ Some (x, rest)
        → (Word word ∷ l0 ≡ plan_lexemes x ++ rest) × IsPlan scope x
    behind_spelled word (Some f) l0 x rest is read =
        let named = flavour_found scope.version word f is in
        let found = operator_spelled f (inputs_of f) l0 x rest named.1 refl read in
        (ap (λ w. Word w ∷ l0) (sym named.0) ∙ found.0, found.1)
    behind_spelled word None l0 x rest is read = at (same_numbers word (codes "Glue")) refl read
      where
        at : (b : Bool) → same_numbers word (codes "Glue") ≡ b
            → if◌then◌else◌ {A = Option (PlanExpr × List Lexeme)} b (glue_at value l0) ((given (name_of scope.version word) >>= reference_at value) l0) ≡ Some (x, rest)
            → (Word word ∷ l0 ≡ plan_lexemes x ++ rest) × IsPlan scope x
        at true same read =
            let found = glue_spelled l0 x rest read in
            (ap (λ w. Word w ∷ l0) (same_are word (codes "Glue") same) ∙ found.0, found.1)
        at false same read =
            then_reads (given (name_of scope.version word)) _ l0 x rest read (λ star l1 e1 read1.
            let named = given_reads (name_of scope.version word) l0 star l1 e1 in
            let name = name_is scope.version word star named.0 in
            let found = reference_spelled star l1 x rest name.0 read1 in
            (ap (λ w. Word w ∷ l0) name.1 ∙ ap (λ l. Word star ∷ l) named.1 ∙ found.0, found.1))

    pub plan_by_spelled : Spells (plan_by value inner scope.version) plan_lexemes (IsPlan scope)
    unfolding plan_by
    plan_by_spelled l0 x rest read =
        then_reads a_word _ l0 x rest read (λ word l1 e1 read1.
        let found = behind_spelled word (flavour_in scope.version word) l1 x rest refl read1 in
        ((a_word_reads l0 l1 word).0 e1 ∙ found.0, found.1))

-- ---- plans

pub plan_spelled : (scope : Scope) (n : ℕ) → Spells (plan_at scope n) plan_lexemes (IsPlan scope)
unfolding plan_at
plan_spelled scope zero lexemes x rest read = absurd cc
plan_spelled scope (suc n) lexemes x rest read =
    plan_by_spelled scope (value_at scope n) (value_is_spelled scope n) (plan_at scope n) (plan_spelled scope n) lexemes x rest read
