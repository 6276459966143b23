use Rattle.std.proofs.Common.{◌≡◌, take}
use Rattle.star_model.specs.Expected.{values_of}
use Rattle.star_value.proofs.bindings.values.Given as goal

abbrev pub invariant-loop-i : goal.invariant-loop-i
invariant-loop-i l = l.values ≡ values_of l.query l.env (take l.i l.args)
