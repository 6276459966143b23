-- Pieces that are put one after the other.
use Rattle.std.proofs.Common.{◌≡◌, ◌+◌, ◌++◌, ℕ, List, [], ◌∷◌, length, take, Result, Ok, Err, Option, None, Some, ap, sym, ◌∙◌, subst, arith}
use Rattle.std.proofs.Math.Seq.{take-append-add}
use Rattle.std.specs.Prelude.{OnErr}
use Rattle.std.specs.List.{concat}
use Rattle.std.proofs.lemmas.List.{append-nil, append_assoc, length-append}
use Rattle.sb_outside.specs.Sink.{Adds, AddsPrefix}

-- one piece was added, and then another
adds_both : (before mid after : Option (List ℕ)) (a b : List ℕ) → Adds before a mid → Adds mid b after → Adds before (a ++ b) after
adds_both None mid after a b first then = rw first at then
adds_both (Some held) mid after a b first then = let now = rw first at then in now ∙ ap (λ (l : List ℕ). Some l) (append_assoc held a b)

-- the first, and a part of the second
part_of_second : (before mid after : Option (List ℕ)) (a b : List ℕ) → Adds before a mid → AddsPrefix mid b after → AddsPrefix before (a ++ b) after
part_of_second before mid after a b first part =
    let long : length (a ++ b) ≡ length a + length b = length-append a b in
    let within = part.1 in
    let both = adds_both before mid after a (take part.0 b) first part.2 in
    let same : take (length a + part.0) (a ++ b) ≡ a ++ take part.0 b = take-append-add a b part.0 in
    (length a + part.0, omega arith, subst (λ (l : List ℕ). Adds before l after) (sym same) both)

-- where the second put failed
pub part_of_both : {A E : Type 0} (result : Result A E) (before mid after : Option (List ℕ)) (a b : List ℕ) → Adds before a mid → OnErr result (AddsPrefix mid b after)
    → OnErr result (AddsPrefix before (a ++ concat (b ∷ [])) after)
part_of_both (Ok done) before mid after a b first part = part
part_of_both (Err fault) before mid after a b first part = part_of_second before mid after a (b ++ []) first (rw (append-nil b) part)
