use Rattle.std.proofs.Common.{◌≡◌, ◌++◌, drop}
use Rattle.sb_text.specs.Forms.{doubled}
use Rattle.spelling.proofs.writer.push_doubled.Given as goal

-- the bytes that are left complete the text
abbrev pub invariant-loop-byte : goal.invariant-loop-byte
invariant-loop-byte l = l.out.items ++ doubled (drop l.byte-index l.bytes) ≡ l.fn.out.items ++ doubled l.bytes
