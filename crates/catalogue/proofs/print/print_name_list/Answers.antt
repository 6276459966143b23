use Rattle.std.proofs.Common.{◌∙◌, ℕ, List, ap, sym, map, get_or}
use Rattle.std.proofs.lemmas.Grind.{get_or_default_zero}
use Rattle.spelling.specs.Lexemes.{Lexeme, Word, comma, joined_by}
use Rattle.catalogue.specs.Catalogues.{column_names, name_at, name_lexemes}
use Rattle.spelling.specs.Writing.{put, puts}
use Rattle.catalogue.proofs.Printed.{later_of, no_items, items_first, items_next, items_done, names_are}
use Rattle.catalogue.proofs.print.print_name_list.Goals as goal

abbrev spelled : List (List ℕ) → ℕ → List Lexeme
spelled names place = name_lexemes (name_at names place)

pub returns-in_default : goal.returns-in_default
returns-in_default c =
    let names = column_names c.args.table.now in
    no_items (spelled names) c.args.out.now c.args.columns.now c.in_default.len_below ∙ ap (λ l. puts c.args.out.now (joined_by comma l)) (names_are names c.args.columns.now)

pub loop-column-init : goal.loop-column-init
unfolding puts
loop-column-init c =
    let columns = c.args.columns.now in
    items_first (spelled (column_names c.args.table.now)) c.args.out.now c.word.new.self columns (get_or columns 0 0) c.in-len1-up.len_at_least
    (sym (get_or_default_zero columns 0 (get_or columns 0 0) c.in-len1-up.len_at_least))
    (c.in_ok-word.ensures ∙ ap (λ name. put c.args.out.now (Word name)) c.column_name.ensures)

pub loop-column-preserved : goal.loop-column-preserved
unfolding puts
loop-column-preserved c =
    let l = c.loop-column in
    let names = column_names c.args.table.now in
    let later = later_of c.args.columns.now in
    let all = puts c.args.out.now (joined_by comma (map (spelled names) c.args.columns.now)) in
    items_next (spelled names) l.out c.symbol.new.self c.word-in-loop-column.new.self all later l.column-index (get_or later l.column-index 0)
    c.loop-column-test.true l.invariant (sym (get_or_default_zero later l.column-index (get_or later l.column-index 0) c.loop-column-test.true)) c.in_ok-symbol.ensures
    (c.in_ok-word-2.ensures ∙ ap (λ name. put c.symbol.new.self (Word name)) c.column_name-in-loop-column.ensures)

pub returns : goal.returns
returns c =
    let names = column_names c.args.table.now in
    let all = puts c.args.out.now (joined_by comma (map (spelled names) c.args.columns.now)) in
    items_done (spelled names) c.loop-column.out all (later_of c.args.columns.now) c.loop-column.column-index c.loop-column-test.false c.loop-column.invariant
    ∙ ap (λ l. puts c.args.out.now (joined_by comma l)) (names_are names c.args.columns.now)
