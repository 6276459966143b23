-- Two parts that are read one after the other, where the second decides.
use Rattle.std.specs.Prelude.{Result, Ok, Err}

abbrev pub paired : {A B E : Type 0} → A → Result B E → Result (A × B) E
paired first (Ok second) = Ok (first, second)
paired first (Err why) = Err why
