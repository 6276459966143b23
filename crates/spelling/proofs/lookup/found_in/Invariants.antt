use Rattle.std.proofs.Common.{◌≡◌, drop}
use Rattle.spelling.specs.Names.{found_in}
use Rattle.spelling.specs.Tables.{spellings}
use Rattle.spelling.proofs.lookup.found_in.Given as goal

abbrev pub invariant-loop-spelling : goal.invariant-loop-spelling
invariant-loop-spelling g l = found_in l.other (spellings l.rows) l.bytes ≡ found_in l.other (spellings (drop l.spelling-index l.rows)) l.bytes
