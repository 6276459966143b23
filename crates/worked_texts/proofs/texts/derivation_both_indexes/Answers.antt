-- Written by tools/worked_texts.
use Rattle.std.proofs.Common.{refl, arith}
use Rattle.spelling.specs.Lexemes.{statements_in}
use Rattle.sb_text.specs.Tokens.{lexed}
use Rattle.sb_text.specs.Tokens.{lexed_after}
use Rattle.star_model.specs.Sets.{members}
use Rattle.star_model.specs.Sets.{has}
use Rattle.star_model.specs.Sets.{places}
use Rattle.derivation_reading.specs.Derivations.{steps}
use Rattle.derivation_reading.specs.Derivations.{HasInputs}
use Rattle.worked_texts.proofs.texts.derivation_both_indexes.Goals as goal

pub returns : goal.returns
unfolding statements_in lexed lexed_after members has places steps HasInputs
returns c = record { statements = record { all_tokens = refl; are = refl }; writable = record { each = (omega arith, ((omega arith, omega arith, tt), (((omega arith, omega arith), omega arith, tt), (((omega arith, omega arith), omega arith, ((omega arith, omega arith), ((omega arith, omega arith), tt))), (tt, (tt, (tt, (tt, tt)))))))); begins = refl; order = (refl, (refl, (refl, (refl, (refl, (refl, (refl, (refl, tt)))))))); inputs = (refl, (refl, refl, refl)) } }
