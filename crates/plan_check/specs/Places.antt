-- Places of a checked rule file to which judging comes.
use Rattle.std.specs.Prelude.{ℕ}
use Rattle.star_model.specs.Expected.{Expected}
use Rattle.star_model.specs.declared.rules.RuleFile.{RuleFile}
use Rattle.star_check.specs.SoundPlaces.{IsSound}

-- sound within some goal
abbrev pub IsPlace : RuleFile → Expected → Type 0
IsPlace rules x = (s : ℕ) × IsSound rules s x
