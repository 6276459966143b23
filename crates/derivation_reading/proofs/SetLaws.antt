-- A set between braces is read as it is spelled, and nothing else is read.
use Rattle.std.proofs.Common.{◌≡◌, Bool, false, ℕ, zero, suc, ◌+◌, ◌-◌, ◌<◌, ◌≤◌, ◌&&◌, true, nat_lt, List, [], ◌∷◌, ◌++◌, map, length, codes, Option, Some, None, if◌then◌else◌, refl, sym, ap, ◌∙◌, subst, arith, append_assoc}
use Rattle.std.proofs.lemmas.Bool.{lt-ltb, ltb-true, and_parts}
use Rattle.std.proofs.lemmas.Option.{some_pair_parts}
use Rattle.star_model.specs.Sets.{members, single, union}
use Rattle.spelling.specs.Lexemes.{Lexeme, Number, left_brace, right_brace, comma, joined_by}
use Rattle.derivation_reading.specs.Derivations.{set_lexemes, IsMask}
use Rattle.spelling.specs.Reading.{◌>>◌, pure, either, the_symbol, a_number, given}
use Rattle.spelling.specs.ReadingCases.{then_reads, pass, choose, given_reads}
use Rattle.spelling.proofs.Laws.{the_symbol_reads, a_number_reads}
use Rattle.derivation_reading.specs.StatementReading.{member_of, members_behind, set_at}
use Rattle.derivation_reading.proofs.MemberLaws.{IsRising, rising_few, with_all, with_all-mask, members-rise, all-members, members-all}

abbrev number : ℕ → List Lexeme
number n = Number (n + 1) ∷ []

abbrev listed : List ℕ → List Lexeme
listed ms = joined_by comma (map number ms)

-- ---- a member

member_is : (least m : ℕ) → least ≤ m → m < 32 → member_of least (m + 1) ≡ Some m
member_is least m low high =
    let above : nat_lt least (m + 1) ≡ true = lt-ltb least (m + 1) (omega arith) in
    let below : nat_lt (m + 1) 33 ≡ true = lt-ltb (m + 1) 33 (omega arith) in
    let same : (m + 1) - 1 ≡ m = omega arith in
    rw (above, below, same) refl

record IsMember (least n k : ℕ) : Type 0 where
  low : least ≤ k
  high : k < 32
  is : n ≡ k + 1

is_member : (least n k : ℕ) → member_of least n ≡ Some k → IsMember least n k
is_member least n k found = at (nat_lt least n && nat_lt n 33) refl found
  where
    at : (b : Bool) → (nat_lt least n && nat_lt n 33) ≡ b → (if b then Some (n - 1) else None) ≡ Some k → IsMember least n k
    at true is there =
        let both = and_parts (nat_lt least n) (nat_lt n 33) is in
        let low = ltb-true least n both.0 in
        let high = ltb-true n 33 both.1 in
        let same : n - 1 ≡ k = cc in
        record { low = omega (arith, low, same); high = omega (arith, low, high, same); is = omega (arith, low, same) }
    at false is there = absurd cc

-- ---- what is spelled is read

members_read : (n least set m : ℕ) (ms : List ℕ) (rest : List Lexeme) → IsRising least (m ∷ ms) → length (m ∷ ms) ≤ n
    → members_behind n least set (listed (m ∷ ms) ++ right_brace ∷ rest) ≡ Some (with_all set (m ∷ ms), rest)
unfolding members_behind with_all
members_read zero least set m ms rest rising few = absurd (omega arith)
members_read (suc n) least set m [] rest rising few = rw (member_is least m rising.0 rising.1) refl
members_read (suc n) least set m (k ∷ ms) rest rising few =
    rw (member_is least m rising.0 rising.1) (members_read n (m + 1) (union set (single m)) k ms rest rising.2 (omega arith))

set_behind : (ms : List ℕ) (rest : List Lexeme) → IsRising 0 ms → set_at (left_brace ∷ (listed ms ++ right_brace ∷ rest)) ≡ Some (with_all 0 ms, rest)
unfolding set_at with_all
set_behind [] rest rising = refl
set_behind (m ∷ []) rest rising = members_read 32 0 0 m [] rest rising (omega arith)
set_behind (m ∷ k ∷ ms) rest rising = members_read 32 0 0 m (k ∷ ms) rest rising (omega (arith, rising_few 0 (m ∷ k ∷ ms) (omega arith) rising))

pub set_is_read : (s : ℕ) (rest : List Lexeme) → IsMask s → set_at (set_lexemes s ++ rest) ≡ Some (s, rest)
set_is_read s rest mask =
    ap (λ (l : List Lexeme). set_at (left_brace ∷ l)) (append_assoc (listed (members s)) (right_brace ∷ []) rest)
    ∙ set_behind (members s) rest (members-rise s) ∙ ap (λ (t : ℕ). Some (t, rest)) (all-members s mask)

-- ---- what is read is spelled

record AreRead (least set : ℕ) (lexemes : List Lexeme) (s : ℕ) (rest : List Lexeme) : Type 0 where
  first : ℕ
  later : List ℕ
  rising : IsRising least (first ∷ later)
  is : s ≡ with_all set (first ∷ later)
  spelled : lexemes ≡ listed (first ∷ later) ++ right_brace ∷ rest

number_here : (lexemes left : List Lexeme) (m k : ℕ) → a_number lexemes ≡ Some (m, left) → m ≡ k + 1 → lexemes ≡ Number (k + 1) ∷ left
number_here lexemes left m k read is = (a_number_reads lexemes left m).0 read ∙ ap (λ (n : ℕ). Number n ∷ left) is

last_one : (least set s k : ℕ) (lexemes behind last rest : List Lexeme) → lexemes ≡ Number (k + 1) ∷ behind → least ≤ k → k < 32
    → the_symbol (codes "}") behind ≡ Some (tt, last) → ◌≡◌ {A = Option (ℕ × List Lexeme)} (Some (union set (single k), last)) (Some (s, rest)) → AreRead least set lexemes s rest
unfolding with_all
last_one least set s k lexemes behind last rest here low high closed is =
    let parts = some_pair_parts (union set (single k)) s last rest is in
    let value = sym parts.0 in
    let end = parts.1 in
    record {
      first = k;
      later = [];
      rising = (low, high, tt);
      is = value;
      spelled = here ∙ ap (λ (l : List Lexeme). Number (k + 1) ∷ l) ((the_symbol_reads (codes "}") behind last).0 closed) ∙ ap (λ (l : List Lexeme). Number (k + 1) ∷ right_brace ∷ l) end;
    }

one_more : (least set s k : ℕ) (lexemes behind left rest : List Lexeme) → lexemes ≡ Number (k + 1) ∷ behind → least ≤ k → k < 32
    → the_symbol (codes ",") behind ≡ Some (tt, left) → AreRead (k + 1) (union set (single k)) left s rest → AreRead least set lexemes s rest
unfolding with_all
one_more least set s k lexemes behind left rest here low high comma_is more = record {
  first = k;
  later = more.first ∷ more.later;
  rising = (low, high, more.rising);
  is = more.is;
  spelled = here ∙ ap (λ (l : List Lexeme). Number (k + 1) ∷ l) ((the_symbol_reads (codes ",") behind left).0 comma_is) ∙ ap (λ (l : List Lexeme). Number (k + 1) ∷ comma ∷ l) more.spelled;
}

members_spelled : (n least set : ℕ) (lexemes : List Lexeme) (s : ℕ) (rest : List Lexeme) → members_behind n least set lexemes ≡ Some (s, rest) → AreRead least set lexemes s rest
unfolding members_behind
members_spelled zero least set lexemes s rest read = absurd cc
members_spelled (suc n) least set lexemes s rest read =
    then_reads a_number _ lexemes s rest read (λ m left number_is read_more.
    then_reads (given (member_of least m)) _ left s rest read_more (λ k behind member_there read_last.
    let given_is = given_reads (member_of least m) left k behind member_there in
    let member = is_member least m k given_is.0 in
    let here = number_here lexemes left m k number_is member.is ∙ ap (λ (l : List Lexeme). Number (k + 1) ∷ l) given_is.1 in
    choose (the_symbol (codes "}")) (λ _. pure (union set (single k))) (the_symbol (codes ",") >> members_behind n (k + 1) (union set (single k))) behind s rest read_last
    (λ _ last closed is. last_one least set s k lexemes behind last rest here member.low member.high closed is)
    (λ read_on. pass (the_symbol (codes ",")) (members_behind n (k + 1) (union set (single k))) behind s rest read_on
    (λ next comma_is more. one_more least set s k lexemes behind next rest here member.low member.high comma_is
    (members_spelled n (k + 1) (union set (single k)) next s rest more)))))

pub record IsSet (lexemes : List Lexeme) (s : ℕ) (rest : List Lexeme) : Type 0 where
  pub are : lexemes ≡ set_lexemes s ++ rest
  pub mask : IsMask s

of_members : (lexemes : List Lexeme) (s : ℕ) (ms : List ℕ) (rest : List Lexeme) → IsRising 0 ms → s ≡ with_all 0 ms → lexemes ≡ left_brace ∷ (listed ms ++ right_brace ∷ rest) → IsSet lexemes s rest
of_members lexemes s ms rest rising is spelled =
    let same : members s ≡ ms = ap members is ∙ members-all ms rising in
    record {
      are = spelled ∙ ap (λ (l : List ℕ). left_brace ∷ (listed l ++ right_brace ∷ rest)) (sym same)
          ∙ ap (λ (l : List Lexeme). left_brace ∷ l) (sym (append_assoc (listed (members s)) (right_brace ∷ []) rest));
      mask = subst IsMask (sym is) (with_all-mask 0 0 ms (omega arith) rising);
    }

pub set_is_spelled : (lexemes : List Lexeme) (s : ℕ) (rest : List Lexeme) → set_at lexemes ≡ Some (s, rest) → IsSet lexemes s rest
unfolding set_at with_all
set_is_spelled lexemes s rest read =
    pass (the_symbol (codes "{")) (either (the_symbol (codes "}")) (λ _. pure 0) (members_behind 32 0 0)) lexemes s rest read (λ left opened inside.
    let here = (the_symbol_reads (codes "{") lexemes left).0 opened in
    choose (the_symbol (codes "}")) (λ _. pure 0) (members_behind 32 0 0) left s rest inside
    (λ _ last closed is. empty left last here closed is)
    (λ more.
    let are = members_spelled 32 0 0 left s rest more in
    of_members lexemes s (are.first ∷ are.later) rest are.rising are.is (here ∙ ap (λ (l : List Lexeme). left_brace ∷ l) are.spelled)))
  where
    empty : (left last : List Lexeme) → lexemes ≡ left_brace ∷ left → the_symbol (codes "}") left ≡ Some (tt, last) → ◌≡◌ {A = Option (ℕ × List Lexeme)} (Some (0, last)) (Some (s, rest)) → IsSet lexemes s rest
    empty left last here closed is =
        let parts = some_pair_parts 0 s last rest is in
        let value = sym parts.0 in
        let end = parts.1 in
        of_members lexemes s [] rest tt value
        (here ∙ ap (λ (l : List Lexeme). left_brace ∷ l) ((the_symbol_reads (codes "}") left last).0 closed) ∙ ap (λ (l : List Lexeme). left_brace ∷ right_brace ∷ l) end)
