-- The greatest depth of a statement.
use Rattle.std.proofs.Common.{◌≡◌, ◌+◌, ◌<◌, ◌≤◌, ℕ, Bool, true, false, ◌||◌, nat_lt, List, [], ◌∷◌, length, drop, get_or, refl, sym, ◌∙◌, arith, suc}
use Rattle.std.proofs.lemmas.Bool.Decides.{nat_tests}
use Rattle.std.proofs.Math.Seq.{drop-cons}
use Rattle.sb_text.specs.declared.token.Token.{Token}
use Rattle.sb_text.specs.Statements.{Part, parts, put_first, is_end}
use Rattle.sb_text.specs.Depth.{depth_after, greatest_depth, is_too_deep}

pub le-greatest_depth : (depth : ℕ) (ts : List Token) → depth ≤ greatest_depth depth ts
le-greatest_depth depth [] = omega arith
le-greatest_depth depth (t ∷ ts) = omega arith

deep_here : (depth i next : ℕ) (ts : List Token) (d : Token) → i < length ts → next ≡ depth_after depth (get_or ts i d) → 32 < next → 32 < greatest_depth depth (drop i ts)
deep_here depth i next ts d lt is over =
    let later = le-greatest_depth (depth_after depth (get_or ts i d)) (drop (suc i) ts) in
    rw (drop-cons ts i d lt) (omega (arith, later))

pub too_deep_at : (depth i next : ℕ) (ts : List Token) (d : Token) → i < length ts → next ≡ depth_after depth (get_or ts i d) → 32 < next
    → nat_lt 32 (greatest_depth depth (drop i ts)) ≡ nat_lt 32 (greatest_depth 0 ts) → true ≡ is_too_deep ts
too_deep_at depth i next ts d lt is over same =
    let deep = deep_here depth i next ts d lt is over in
    let test : nat_lt 32 (greatest_depth depth (drop i ts)) ≡ true = grind (arith, nat_tests) in
    rw (sym same ∙ test) (either (nat_lt 4096 (length ts)))
  where
    either : (b : Bool) → true ≡ (b || true)
    either true = refl
    either false = refl

length-put_first : (t : Token) (ps : List Part) → length (put_first t ps) ≤ length ps + 1
length-put_first t [] = omega arith
length-put_first t (p ∷ ps) = omega arith

pub length-parts : (ts : List Token) → length (parts ts) ≤ length ts
length-parts [] = omega arith
length-parts (t ∷ ts) = by_end (is_end t) refl (length-parts ts) where
  by_end : (b : Bool) → is_end t ≡ b → length (parts ts) ≤ length ts → length (parts (t ∷ ts)) ≤ length (t ∷ ts)
  by_end true e later = rw e (omega arith)
  by_end false e later = rw e (omega (arith, length-put_first t (parts ts)))
