use Rattle.std.proofs.Common.{length, drop, ◌≡◌, ◌-◌, ◌<◌, ◌≤◌, IfSome}
use Rattle.sb_text.specs.Front.{quoted_len, longer_by}
use Rattle.sb_text.proofs.Quoted.{later_or}
use Rattle.sb_text.proofs.front.quoted.Given as goal

abbrev pub invariant-loop-at : goal.invariant-loop-at
invariant-loop-at l = record {
  whole : later_or (longer_by l.at (quoted_len (drop l.at l.rest))) l.closed ≡ quoted_len l.rest;
  within : l.at ≤ length l.rest;
  closed : IfSome l.closed (λ n. (0 < n) × (n ≤ l.at));
}

abbrev pub decreases-loop-at : goal.decreases-loop-at
decreases-loop-at l = length l.rest - l.at
