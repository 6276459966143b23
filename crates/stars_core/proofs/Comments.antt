-- Bytes that a comment may hold.
use Rattle.std.proofs.Common.{◌≡◌, ◌<◌, ◌≤◌, ◌^◌, ℕ, List, get_or, arith, true}
use Rattle.std.specs.Prelude.{decimal}
use Rattle.std.specs.List.{AllPass}
use Rattle.std.specs.Str.Parse.{AllDigits}
use Rattle.std.proofs.lemmas.Bool.Decides.{nat_tests}
use Rattle.std.proofs.lemmas.List.Elements.{All-from_get_or}
use Rattle.std.proofs.lemmas.Str.Parse.{digit_at}
use Rattle.std.proofs.lemmas.Fmt.{decimal_is_IsNumeral}
use Rattle.sb_text.specs.Front.{in_comment}

digit_in_comment : (b : ℕ) → 48 ≤ b → b ≤ 57 → in_comment b ≡ true
digit_in_comment b low high = grind (arith, nat_tests)

digits_in_comment : (ds : List ℕ) → AllDigits 10 ds → AllPass in_comment ds
digits_in_comment ds all =
    All-from_get_or (λ b. in_comment b ≡ true) ds 0 (λ i lt. let at = digit_at ds i all lt in digit_in_comment (get_or ds i 0) at.0 at.1)

pub decimal_in_comment : (n : ℕ) → n < 2 ^ 64 → AllPass in_comment (decimal n)
decimal_in_comment n small = digits_in_comment (decimal n) (decimal_is_IsNumeral n small).0.1
