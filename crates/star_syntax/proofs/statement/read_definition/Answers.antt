use Rattle.std.proofs.Common.{◌∙◌, sym, rules}
use Rattle.sb_text.specs.Statements.{part_of}
use Rattle.spelling.specs.Lexemes.{lexemes_of}
use Rattle.spelling.specs.Cursors.{part_said}
use Rattle.rule_grammar.proofs.Laws.{star_is_read}
use Rattle.star_syntax.proofs.DefinitionLaws.{none_of}
use Rattle.star_syntax.proofs.VersionLaws.{says_not}
use Rattle.star_syntax.proofs.statement.read_definition.Goals as goal

pub returns-in-Some-3 : goal.returns-in-Some-3
returns-in-Some-3 c =
    let lexemes = lexemes_of c.args.source.now c.args.statement.now.tokens.now in
    (search rules, (star_is_read c.args.version c.args.number lexemes c.in-Some-3.star).0 (sym c.in_ok-star.ensures ∙ c.in-Some-3.is))

pub returns-in-None : goal.returns-in-None
returns-in-None c =
    let lexemes = lexemes_of c.args.source.now c.args.statement.now.tokens.now in
    none_of c.args.version c.args.number (part_said c.args.source.now (part_of c.args.statement.now))
    (says_not c.args.version c.args.number lexemes (sym c.is_version_statement.ensures ∙ c.if-is_version_statement.false)) (rw c.in_default.is at c.in_ok-definition.ensures.none)
    (rw c.in_default-2.is at c.in_ok-definition-2.ensures.none) (sym c.in_ok-star.ensures ∙ c.in-None.is)
