use Rattle.std.proofs.Common.{◌≡◌, ◌∙◌, subst, codes, OnOk, rules}
use Rattle.spelling.specs.Lexemes.{Word, Number}
use Rattle.spelling.specs.Writing.{put, puts, ended}
use Rattle.catalogue.proofs.Printed.{index_columns, index_written}
use Rattle.catalogue.proofs.print.print_index.Goals as goal

pub returns : goal.returns
returns c =
    let i = c.args.index.now in
    let t = c.table_at-table.result.now in
    let w = c.args.out.now in
    let all : c.number.new.self
    ≡ put (put (puts (put (put (put (put w (Word (codes "index"))) (Word i.name)) (Word (codes "on"))) (Word t.name)) (index_columns t i)) (Word (codes "pages"))) (Number i.pages) = search rules in
    subst (λ u. OnOk c.end_statement.result (c.end_statement.new.self ≡ ended u)) (all ∙ index_written c.args.catalogue.now i t w c.table_at-table.ensures) c.end_statement.ensures
