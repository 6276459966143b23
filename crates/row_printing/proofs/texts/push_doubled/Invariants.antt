use Rattle.std.proofs.Common.{◌≡◌, ◌++◌, take}
use Rattle.sb_text.specs.Forms.{doubled}
use Rattle.row_printing.proofs.texts.push_doubled.Given as goal

abbrev pub invariant-loop-byte : goal.invariant-loop-byte
invariant-loop-byte l = l.text.items ≡ l.initial.text.items ++ doubled (take l.byte-index l.bytes)
