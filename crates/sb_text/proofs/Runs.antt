-- The longest front whose bytes pass a test.
use Rattle.std.proofs.Common.{◌≡◌, ◌≤◌, ℕ, Bool, true, false, List, [], ◌∷◌, ◌++◌, length, take, drop, refl, ap, ◌∙◌, arith, suc}
use Rattle.std.specs.List.{AllPass}
use Rattle.std.proofs.lemmas.List.Sums.{take_while-cons}
use Rattle.std.proofs.lemmas.List.Elements.{All-nil, All-cons, All-head, All-tail}
use Rattle.sb_text.specs.Forms.{NotFirst}
use Rattle.sb_text.specs.Front.{run}

run-pass : (test : ℕ → Bool) (b : ℕ) (rest : List ℕ) → test b ≡ true → run test (b ∷ rest) ≡ suc (run test rest)
run-pass test b rest e = ap length (take_while-cons test b rest) ∙ rw e refl

run-fail : (test : ℕ → Bool) (b : ℕ) (rest : List ℕ) → test b ≡ false → run test (b ∷ rest) ≡ 0
run-fail test b rest e = ap length (take_while-cons test b rest) ∙ rw e refl

pub le-run : (test : ℕ → Bool) (front after : List ℕ) → AllPass test front → length front ≤ run test (front ++ after)
le-run test [] after all = omega arith
le-run test (b ∷ front) after all =
    let here : test b ≡ true = All-head (λ x. test x ≡ true) b front all in
    let later = le-run test front after (All-tail (λ x. test x ≡ true) b front all) in
    omega (arith, run-pass test b (front ++ after) here, later)

run-none : (test : ℕ → Bool) (after : List ℕ) → NotFirst test after → run test after ≡ 0
run-none test [] none = refl
run-none test (b ∷ rest) none = run-fail test b rest none

pub run-all : (test : ℕ → Bool) (front after : List ℕ) → AllPass test front → NotFirst test after → run test (front ++ after) ≡ length front
run-all test [] after all none = run-none test after none
run-all test (b ∷ front) after all none =
    let here : test b ≡ true = All-head (λ x. test x ≡ true) b front all in
    let later = run-all test front after (All-tail (λ x. test x ≡ true) b front all) none in
    omega (arith, run-pass test b (front ++ after) here, later)

pub record Splits (test : ℕ → Bool) (bytes : List ℕ) : Type 0 where
  pub within : run test bytes ≤ length bytes
  pub passes : AllPass test (take (run test bytes) bytes)
  pub stops : NotFirst test (drop (run test bytes) bytes)

pub run-splits : (test : ℕ → Bool) (bytes : List ℕ) → Splits test bytes
run-splits test [] = record { within = omega arith; passes = All-nil (λ x. test x ≡ true); stops = tt }
run-splits test (b ∷ rest) = by_test (test b) refl (run-splits test rest) where
  by_test : (pass : Bool) → test b ≡ pass → Splits test rest → Splits test (b ∷ rest)
  by_test true e later =
      let n : run test (b ∷ rest) ≡ suc (run test rest) = run-pass test b rest e in
      record {
        within = omega (arith, n, later.within);
        passes = rw n (All-cons (λ x. test x ≡ true) b (take (run test rest) rest) e later.passes);
        stops = rw n later.stops;
      }
  by_test false e later =
      let n : run test (b ∷ rest) ≡ 0 = run-fail test b rest e in
      record { within = omega (arith, n); passes = rw n (All-nil (λ x. test x ≡ true)); stops = rw n e }
