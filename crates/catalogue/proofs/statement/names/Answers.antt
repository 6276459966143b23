use Rattle.std.proofs.Common.{◌≡◌, Some, None, rules}
use Rattle.std.proofs.lemmas.Result.{err_from_is_err_and}
use Rattle.spelling.specs.Lexemes.{comma}
use Rattle.catalogue.specs.Catalogues.{name_lexemes}
use Rattle.spelling.specs.Reading.{a_word}
use Rattle.spelling.specs.SeriesReadingCases.{begun, stopped}
use Rattle.spelling.specs.SeriesLoopCases.{ends, goes}
use Rattle.spelling.proofs.Laws.{the_symbol_reads}
use Rattle.spelling.specs.declared.unread.Unread.TheVariants.{Strange}
use Rattle.catalogue.specs.Reading.{items_at}
use Rattle.catalogue.proofs.Spelled.{name_spelled}
use Rattle.catalogue.proofs.statement.names.Goals as goal

pub loop-names-init : goal.loop-names-init
loop-names-init c = rw c.new-names.ensures (begun _ _ c.args.cursor.now)

pub returns-in_err-name : goal.returns-in_err-name
unfolding items_at
returns-in_err-name c =
    let p = err_from_is_err_and c.from_residual.result c.from_residual.ensures.1 in
    let none : a_word c.loop-names.cursor ≡ None = search rules in
    let why : c.in_err-name.field-0.0 ≡ Strange = search rules in
    rw (p.1, p.2, why) (stopped _ _ _ _ _ c.loop-names.invariant none)

pub returns-then-is_none : goal.returns-then-is_none
unfolding items_at
returns-then-is_none c =
    let read : a_word c.loop-names.cursor ≡ Some (c.in_ok-from_slice.field-0, c.word.new.self) = search rules in
    ends _ _ _ _ _ _ _ _ _ _ c.loop-names.invariant read c.in_ok-push.ensures.ok c.the_symbol.ensures.reads c.the_symbol.ensures.stays c.if-is_none.ensures

pub loop-names-preserved : goal.loop-names-preserved
loop-names-preserved c =
    let read : a_word c.loop-names.cursor ≡ Some (c.in_ok-from_slice.field-0, c.word.new.self) = search rules in
    goes _ _ name_lexemes _ comma name_spelled (the_symbol_reads _) _ _ _ _ _ _ _ _ c.loop-names.invariant read c.in_ok-push.ensures.ok c.the_symbol.ensures.reads c.if-is_none.ensures
