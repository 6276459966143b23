use Rattle.std.proofs.Common.{◌≡◌, ◌∙◌, ℕ, List, Result, Ok, Err, sym}
use Rattle.std.specs.Result.{MatchResult, is_ok}
use Rattle.std.specs.Str.{IsUtf8, is_utf8}
use Rattle.std.proofs.lemmas.Bool.{false_from_ne_true}
use Rattle.std.proofs.lemmas.Str.{is_utf8-from_IsUtf8, IsUtf8-from_is_utf8}
use Rattle.catalogue.proofs.limits.is_utf8.Goals as goal

-- the test answers as the reading of the bytes does
as_read : {A E : Type 0} (bytes : List ℕ) (P : A → Type 0) (Q : E → Type 0) (read : Result A E)
    → MatchResult read (λ s. P s × IsUtf8 bytes) (λ e. (IsUtf8 bytes → ⊥) × Q e) → is_ok read ≡ is_utf8 bytes
as_read bytes P Q (Ok s) h = sym (is_utf8-from_IsUtf8 bytes h.1)
as_read bytes P Q (Err e) h = sym (false_from_ne_true (is_utf8 bytes) (λ yes_. h.0 (IsUtf8-from_is_utf8 bytes yes_)))

pub returns : goal.returns
returns c = c.is_ok.ensures.value ∙ as_read c.args.bytes.now _ _ c.from_utf8.result c.from_utf8.ensures.cases
