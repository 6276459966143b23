use Rattle.std.proofs.Common.{◌∙◌, sym}
use Rattle.sb_text.specs.Statements.{part_of, parts_of_iter}
use Rattle.star_syntax.proofs.ReadLaws.{first_holds, said_by_first, said_by_none}
use Rattle.star_syntax.proofs.statements.said_version.Goals as goal

pub version_by-requires : goal.version_by-requires
version_by-requires c =
    first_holds c.args.source.now c.args.tokens.now (part_of c.in-Some.first) (parts_of_iter c.next.new.self) c.requires (sym c.statements.ensures ∙ c.in-Some.ensures.steps)

pub returns-in-Some : goal.returns-in-Some
returns-in-Some c =
    c.version_by.ensures
    ∙ said_by_first c.args.source.now c.args.tokens.now (part_of c.in-Some.first) (parts_of_iter c.next.new.self) c.requires (sym c.statements.ensures ∙ c.in-Some.ensures.steps)

pub returns-in-None : goal.returns-in-None
returns-in-None c = said_by_none c.args.source.now c.args.tokens.now c.requires (sym c.statements.ensures ∙ c.in-None.ensures.steps.0)
