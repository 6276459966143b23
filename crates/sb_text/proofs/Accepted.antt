-- A text without a fault.
use Rattle.std.proofs.Common.{◌≡◌, ◌+◌, ◌≤◌, ℕ, Bool, true, false, ◌||◌, nat_lt, List, [], ◌∷◌, length, Option, None, Some, refl, sym, ◌∙◌, arith}
use Rattle.std.specs.List.{All, position_from}
use Rattle.std.proofs.lemmas.Bool.Decides.{nat_tests}
use Rattle.std.proofs.lemmas.List.Elements.{All-nil, All-cons, All-head, All-tail, All-weaker}
use Rattle.sb_text.specs.declared.token.Token.{Token}
use Rattle.sb_text.specs.Tokens.{lexed}
use Rattle.sb_text.specs.Statements.{Part, tokens_of, parts}
use Rattle.sb_text.specs.Depth.{greatest_depth, is_too_deep, first_too_deep}
use Rattle.sb_text.specs.Refusal.{first_fault, fault_of, IsAccepted}

abbrev pub Fits : Part → Type 0
Fits part = (length (tokens_of part) ≤ 4096) × (greatest_depth 0 (tokens_of part) ≤ 32)

fits_from : (ts : List Token) → is_too_deep ts ≡ false → (length ts ≤ 4096) × (greatest_depth 0 ts ≤ 32)
fits_from ts e = by_tests (nat_lt 4096 (length ts)) (nat_lt 32 (greatest_depth 0 ts)) refl refl e where
  by_tests : (p q : Bool) → nat_lt 4096 (length ts) ≡ p → nat_lt 32 (greatest_depth 0 ts) ≡ q → (p || q) ≡ false → (length ts ≤ 4096) × (greatest_depth 0 ts ≤ 32)
  by_tests true q e f both = cc
  by_tests false true e f both = cc
  by_tests false false e f both = (grind (arith, nat_tests), grind (arith, nat_tests))

fits_to : (ts : List Token) → length ts ≤ 4096 → greatest_depth 0 ts ≤ 32 → is_too_deep ts ≡ false
fits_to ts few shallow =
    let p : nat_lt 4096 (length ts) ≡ false = grind (arith, nat_tests) in
    let q : nat_lt 32 (greatest_depth 0 ts) ≡ false = grind (arith, nat_tests) in
    rw (p, q) refl

none_deep : (n : ℕ) (ps : List Part) → position_from (λ (part : Part). is_too_deep part.0) n ps ≡ None → All Fits ps
none_deep n [] is = All-nil Fits
none_deep n (p ∷ ps) is = by_test (is_too_deep p.0) refl (none_deep (n + 1) ps) where
  by_test : (b : Bool) → is_too_deep p.0 ≡ b → (position_from (λ (part : Part). is_too_deep part.0) (n + 1) ps ≡ None → All Fits ps) → All Fits (p ∷ ps)
  by_test true e later = let some : position_from (λ (part : Part). is_too_deep part.0) n (p ∷ ps) ≡ Some n = rw e refl in cc
  by_test false e later =
      let rest : position_from (λ (part : Part). is_too_deep part.0) n (p ∷ ps) ≡ position_from (λ (part : Part). is_too_deep part.0) (n + 1) ps = rw e refl in
      All-cons Fits p ps (fits_from p.0 e) (later (sym rest ∙ is))

deep_none : (n : ℕ) (ps : List Part) → All (λ (part : Part). length (tokens_of part) ≤ 4096) ps → All (λ (part : Part). greatest_depth 0 (tokens_of part) ≤ 32) ps
    → position_from (λ (part : Part). is_too_deep part.0) n ps ≡ None
deep_none n [] short shallow = refl
deep_none n (p ∷ ps) short shallow =
    let Short : Part → Type 0 = λ part. length (tokens_of part) ≤ 4096 in
    let Shallow : Part → Type 0 = λ part. greatest_depth 0 (tokens_of part) ≤ 32 in
    let here = fits_to p.0 (All-head Short p ps short) (All-head Shallow p ps shallow) in
    rw here (deep_none (n + 1) ps (All-tail Short p ps short) (All-tail Shallow p ps shallow))

no_fault : (stop deep : Option ℕ) → first_fault stop deep ≡ None → (stop ≡ None) × (deep ≡ None)
no_fault None None is = (refl, refl)
no_fault None (Some n) is = cc
no_fault (Some n) deep is = cc

pub accepted-from : (source : List ℕ) → fault_of source ≡ None → IsAccepted source
accepted-from source is =
    let none = no_fault (lexed source).1 (first_too_deep (parts (lexed source).0)) is in
    let fits = none_deep 1 (parts (lexed source).0) none.1 in
    record {
      whole = none.0;
      short = All-weaker Fits (λ (part : Part). length (tokens_of part) ≤ 4096) (λ part f. f.0) (parts (lexed source).0) fits;
      shallow = All-weaker Fits (λ (part : Part). greatest_depth 0 (tokens_of part) ≤ 32) (λ part f. f.1) (parts (lexed source).0) fits;
    }

pub accepted-to : (source : List ℕ) → IsAccepted source → fault_of source ≡ None
accepted-to source a = rw (a.whole, deep_none 1 (parts (lexed source).0) a.short a.shallow) refl
