use Rattle.std.proofs.Common.{length, map, ◌≡◌, ◌+◌, ◌≤◌, ◌++◌}
use Rattle.sb_text.specs.Statements.{parts_of_iter}
use Rattle.spelling.specs.Cursors.{part_said, IsPartOf}
use Rattle.star_model.specs.Every.{Every}
use Rattle.spelling.specs.Lexemes.{statements_in, ended}
use Rattle.catalogue.specs.Catalogues.{catalogue_lexemes, HasColumns}
use Rattle.catalogue.specs.Words.{said}
use Rattle.catalogue.proofs.statements.read_statements.Given as goal

abbrev pub invariant-loop-statement : goal.invariant-loop-statement
invariant-loop-statement l = record {
  read : statements_in l.source ≡ map ended (map catalogue_lexemes (map said l.list)) ++ map (part_said l.source) (parts_of_iter l.statement-iterator);
  columns : Every HasColumns (map said l.list);
  tokens : Every (IsPartOf l.source) (parts_of_iter l.statement-iterator);
  number : l.number ≡ length l.list + 1;
  few : l.number + length (parts_of_iter l.statement-iterator) ≤ 1048577;
}
