use Rattle.std.proofs.Common.{sym, subst}
use Rattle.std.specs.Prelude.{IfOk, IfNone}
use Rattle.spelling.specs.Lexemes.{lexemes_of}
use Rattle.rule_grammar.specs.Rules.{SpellsSelectDef}
use Rattle.star_model.specs.declared.rules.SelectDef.{SelectDef}
use Rattle.star_syntax.proofs.statement.read_select_in.Goals as goal

pub returns-then-version-eq2-clause-none : goal.returns-then-version-eq2-clause-none
returns-then-version-eq2-clause-none c =
    let lexemes = lexemes_of c.args.source.now c.args.tokens.now in
    subst (λ v. IfOk c.read_select_def.result (λ o. IfNone o ((d : SelectDef) → SpellsSelectDef v c.args.number lexemes d → ⊥))) (sym c.if-version-eq2.true) c.read_select_def.ensures.none
