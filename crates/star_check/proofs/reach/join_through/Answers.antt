use Rattle.std.proofs.Common.{ℕ, ◌<◌, length, get_or, slice_set, ap, ◌∙◌, arith}
use Rattle.std.proofs.lemmas.List.{get_or_default}
use Rattle.std.proofs.lemmas.List.Edits.{map_over_more}
use Rattle.star_check.specs.Reaching.{joined}
use Rattle.star_check.proofs.reach.join_through.Goals as goal

pub loop-i-preserved : goal.loop-i-preserved
loop-i-preserved c =
    let row : ℕ = get_or c.loop-i.rows c.loop-i.i 0 in
    let via : ℕ = get_or c.args.rows.now c.args.through 0 in
    let within : c.loop-i.i < length c.loop-i.rows = omega (arith, c.loop-i-test.true, c.loop-i.auto.rows) in
    ap (slice_set c.loop-i.rows c.loop-i.i) c.joined.ensures
    ∙ map_over_more
    (λ row. joined row c.args.through via)
    c.args.rows.now
    c.loop-i.rows
    c.loop-i.i
    row
    c.loop-i-test.true
    c.loop-i.invariant
    (get_or_default c.loop-i.rows c.loop-i.i 0 row within)
