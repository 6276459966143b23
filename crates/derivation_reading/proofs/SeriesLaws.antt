-- Items up to a count are read as they are spelled, and nothing else is read.
use Rattle.std.proofs.Common.{◌≡◌, ℕ, zero, suc, ◌≤◌, List, [], ◌∷◌, ◌++◌, map, length, Option, Some, None, sym, ap, ◌∙◌, arith, append_assoc, append-nil}
use Rattle.std.proofs.lemmas.Option.{some_pair_parts}
use Rattle.spelling.specs.Lexemes.{Lexeme}
use Rattle.star_model.specs.Every.{Every}
use Rattle.spelling.specs.Reading.{Reader, ◌>>=◌, pure, given}
use Rattle.spelling.specs.ReadingCases.{then_reads, choose, given_reads}
use Rattle.derivation_reading.specs.StatementReading.{up_to}

-- how an item is spelled, by what its head reads
pub record IsItem {A B : Type 0} (head : Reader A) (item : A → Option B) (spell : B → Lexeme) (Good : B → Type 0) : Type 0 where
  pub key : B → A
  pub none : head [] ≡ None
  pub read : (y : B) (rest : List Lexeme) → head (spell y ∷ rest) ≡ Some (key y, rest)
  pub found : (y : B) → Good y → item (key y) ≡ Some y
  pub spelled : (lexemes rest : List Lexeme) (x : A) (y : B) → head lexemes ≡ Some (x, rest) → item x ≡ Some y → lexemes ≡ spell y ∷ rest
  pub good : (x : A) (y : B) → item x ≡ Some y → Good y

module _ {A B : Type 0} (head : Reader A) (item : A → Option B) (spell : B → Lexeme) (Good : B → Type 0) (is : IsItem head item spell Good) where
  pub up_to-read : (n : ℕ) (done ys : List B) → length ys ≤ n → Every Good ys → up_to head item n done (map spell ys) ≡ Some (done ++ ys, [])
  unfolding up_to
  up_to-read zero done [] few every = ap (λ (l : List B). Some (l, [])) (sym (append-nil done))
  up_to-read zero done (y ∷ ys) few every = absurd (omega arith)
  up_to-read (suc n) done [] few every = rw is.none (ap (λ (l : List B). Some (l, [])) (sym (append-nil done)))
  up_to-read (suc n) done (y ∷ ys) few every =
      rw (is.read y (map spell ys), is.found y every.0) (up_to-read n (done ++ y ∷ []) ys (omega arith) every.1 ∙ ap (λ (l : List B). Some (l, [])) (append_assoc done (y ∷ []) ys))

  pub record AreItems (n : ℕ) (done : List B) (lexemes : List Lexeme) (all : List B) (rest : List Lexeme) : Type 0 where
    pub more : List B
    pub are : all ≡ done ++ more
    pub spelled : lexemes ≡ map spell more ++ rest
    pub few : length more ≤ n
    pub every : Every Good more

  no_more : (n : ℕ) (done all : List B) (lexemes rest : List Lexeme) → ◌≡◌ {A = Option (List B × List Lexeme)} (Some (done, lexemes)) (Some (all, rest)) → AreItems n done lexemes all rest
  no_more n done all lexemes rest read =
      let parts = some_pair_parts done all lexemes rest read in
      record { more = []; are = sym parts.0 ∙ sym (append-nil done); spelled = parts.1; few = omega arith; every = tt }

  one_more : (n : ℕ) (done all : List B) (lexemes left rest : List Lexeme) (y : B) → lexemes ≡ spell y ∷ left → Good y → AreItems n (done ++ y ∷ []) left all rest → AreItems (suc n) done lexemes all rest
  one_more n done all lexemes left rest y here good later = record {
    more = y ∷ later.more;
    are = later.are ∙ append_assoc done (y ∷ []) later.more;
    spelled = here ∙ ap (λ (l : List Lexeme). spell y ∷ l) later.spelled;
    few = omega (arith, later.few);
    every = (good, later.every);
  }

  pub up_to-spelled : (n : ℕ) (done : List B) (lexemes : List Lexeme) (all : List B) (rest : List Lexeme) → up_to head item n done lexemes ≡ Some (all, rest) → AreItems n done lexemes all rest
  unfolding up_to
  up_to-spelled zero done lexemes all rest read = no_more zero done all lexemes rest read
  up_to-spelled (suc n) done lexemes all rest read =
      choose head (λ x. given (item x) >>= λ y. up_to head item n (done ++ y ∷ [])) (pure done) lexemes all rest read
      (λ x left there read_more.
      then_reads (given (item x)) (λ y. up_to head item n (done ++ y ∷ [])) left all rest read_more (λ y behind given_there read_last.
      let given_is = given_reads (item x) left y behind given_there in
      let here = is.spelled lexemes left x y there given_is.0 ∙ ap (λ (l : List Lexeme). spell y ∷ l) given_is.1 in
      one_more n done all lexemes behind rest y here (is.good x y given_is.0) (up_to-spelled n (done ++ y ∷ []) behind all rest read_last)))
      (λ none. no_more (suc n) done all lexemes rest none)
