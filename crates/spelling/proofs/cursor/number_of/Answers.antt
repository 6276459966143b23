use Rattle.spelling.proofs.TokenForms.{machine_number}
use Rattle.spelling.proofs.cursor.number_of.Goals as goal

pub value_of-requires : goal.value_of-requires
value_of-requires c = machine_number c.args.source.now c.args.token.now c.requires.token c.requires.number
