-- The loops that read items with separators between, which the code has as words.
use Rattle.std.proofs.Common.{◌≡◌, List, [], ◌∷◌, ◌++◌, map, Err, ap, ◌∙◌}
use Rattle.std.proofs.lemmas.List.{map-append}
use Rattle.spelling.specs.Lexemes.{Lexeme}
use Rattle.spelling.specs.Reading.{Reader}
use Rattle.spelling.specs.SeriesReading.{series}
use Rattle.spelling.specs.SeriesReadingCases.{Stands, stopped}
use Rattle.spelling.specs.declared.unread.Unread.{Unread}
use Rattle.spelling.specs.declared.unread.Unread.TheVariants.{Strange, Memory}
use Rattle.query_graph.specs.StatementReading.{Answers}

module _ {A W : Type 0} (said : W → A) where
  -- no item
  pub stops : (item : Reader A) (separator : Reader (Unit {0})) (all : List Lexeme) (done : List W) (left : List Lexeme) (why : Unread) (rest last : List Lexeme) → Stands item separator all (map said done) left
      → Answers said (item left) (Err why) rest → Answers (λ words. map said words) (series item separator all) (Err why) last
  stops item separator all done left Strange rest last stands first = stopped item separator all (map said done) left stands first
  stops item separator all done left Memory rest last stands first = tt

  -- one item more
  pub pushed : (done new : List W) (x : W) → new ≡ done ++ x ∷ [] → map said new ≡ map said done ++ said x ∷ []
  pushed done new x is = ap (map said) is ∙ map-append said done (x ∷ [])
