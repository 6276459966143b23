use Rattle.std.proofs.Common.{rules}
use Rattle.star_syntax.proofs.FaultLaws.{no_limit, a_limit}
use Rattle.star_syntax.proofs.read.read_tokens.Goals as goal

pub returns-in-None : goal.returns-in-None
returns-in-None c = no_limit c.args.source.now c.in_ok-rules.field-0 c.requires.tokens.accepted c.in_ok-rules.ensures (search rules)

pub returns-in-Some : goal.returns-in-Some
returns-in-Some c = a_limit c.args.source.now c.in_ok-rules.field-0 c.in-Some.statement c.in-Some.what c.requires.tokens.accepted c.in_ok-rules.ensures (search rules)
