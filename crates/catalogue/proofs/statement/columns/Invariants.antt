use Rattle.std.proofs.Common.{length, codes}
use Rattle.spelling.specs.Reading.{the_symbol}
use Rattle.spelling.specs.SeriesReadingCases.{Stands}
use Rattle.catalogue.specs.Reading.{column_at}
use Rattle.catalogue.proofs.statement.columns.Given as goal

abbrev pub invariant-loop-columns : goal.invariant-loop-columns
invariant-loop-columns l = Stands column_at (the_symbol (codes ",")) l.fn.cursor l.columns l.cursor

abbrev pub decreases-loop-columns : goal.decreases-loop-columns
decreases-loop-columns l = length l.cursor
