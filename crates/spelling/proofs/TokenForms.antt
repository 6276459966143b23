-- What the form of a token says of its bytes.
use Rattle.std.proofs.Common.{◌≡◌, ℕ, ◌-◌, true, List, [], ◌∷◌, take, drop, arith, subst, nat_le}
use Rattle.std.specs.Prelude.{slice_range}
use Rattle.std.specs.List.{AllPass}
use Rattle.std.specs.Str.Parse.{AllDigits}
use Rattle.std.proofs.lemmas.List.Elements.{All-tail}
use Rattle.std.proofs.lemmas.Str.{digit_value_digit}
use Rattle.std.proofs.lemmas.Bool.{and_parts, leb-true}
use Rattle.sb_text.specs.Bytes.{is_digit}
use Rattle.sb_text.specs.Forms.{IsToken, IsNumber}
use Rattle.sb_text.specs.Reading.{IsTokenOf}
use Rattle.sb_text.specs.declared.token.Token.{Token}
use Rattle.sb_text.specs.declared.token.TokenKind.{TokenKind}
use Rattle.sb_text.specs.declared.token.TokenKind.TheVariants as kind
use Rattle.spelling.specs.Cursors.{IsMachineNumber}

pub all_digits : (bytes : List ℕ) → AllPass is_digit bytes → AllDigits 10 bytes
all_digits [] pass = tt
all_digits (b ∷ bytes) pass =
    let digit : is_digit b ≡ true = pass 0 0 (omega arith) in
    let range = and_parts (nat_le 48 b) (nat_le b 57) digit in
    let low = leb-true 48 b range.0 in
    let high = leb-true b 57 range.1 in
    (omega (arith, digit_value_digit b (low, high)), all_digits bytes (All-tail (λ c. is_digit c ≡ true) b bytes pass))

pub machine_number : (source : List ℕ) (t : Token) → IsTokenOf source t → t.kind ≡ kind.Number → IsMachineNumber (slice_range source t.start t.«end»)
machine_number source t is number =
    let bytes = take (t.«end» - t.start) (drop t.start source) in
    let after = drop (t.«end» - t.start) (drop t.start source) in
    let form : IsNumber bytes after = subst (λ (k : TokenKind). IsToken k bytes after) number is.longest.form in
    record { numeral = (form.some, all_digits bytes form.digits); few = form.few }
