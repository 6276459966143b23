use Rattle.std.proofs.Common.{codes}
use Rattle.spelling.specs.Lexemes.{Word, equals}
use Rattle.star_model.specs.FlavourWords.{class_word}
use Rattle.rule_printing.proofs.PrintedFile.{puts_three}
use Rattle.rule_printing.proofs.print.print_select_def.Goals as goal

pub returns : goal.returns
returns c =
    rw (puts_three c.args.out.now (Word (codes "selectivity")) (Word (class_word c.args.select.now.class)) equals _)
    (rw (c.in_ok-symbol.ensures, c.in_ok-word-2.ensures, c.in_ok-word.ensures, c.as_bytes.ensures.value, c.class_word.ensures) at c.print_num_and_den.ensures)
