-- What a command puts out, piece by piece.
use Rattle.std.specs.Prelude.{◌≡◌, ℕ, List, [], ◌∷◌, Option}
use Rattle.std.specs.Option.{option_map_or}
use Rattle.sb_outside.specs.Shelf.{Files}
use Rattle.star_model.specs.Answers.{Data}
use Rattle.star_model.specs.declared.query.Query.{Query as QueryTree}
use Rattle.table_taking.specs.QueryTables.{AreRows}
use Rattle.row_answers.specs.RowsTexts.{RowsText}
use Rattle.stars_core.specs.declared.command.Command.{Command}
use Rattle.stars_core.specs.declared.command.Command.TheVariants.{Check, Plan, Run, Frontier, Verify, Gen}
use Rattle.stars_core.specs.declared.status.Ending.{Ending}
use Rattle.stars_core.specs.declared.status.Ending.TheVariants.{Done, NoPlan}
use Rattle.stars_core.specs.declared.pieces.Pieces.{Pieces}
use Rattle.stars_core.specs.Given.{Given}
use Rattle.stars_core.specs.Saying.{Saying, IsAnswer}

-- the text, and the rows behind it, where there are some
abbrev pub pieces_of : Pieces → List (List ℕ)
pieces_of p = p.text.items ∷ option_map_or (λ rows. rows.items ∷ []) p.rows []

-- the text of the rows that the query asks for, from the records of its tables' files
abbrev pub QueryRows : Option Files → QueryTree → List ℕ → Type 0
QueryRows told query text = (data_ : Data) × AreRows query told data_ × RowsText query data_ text

-- what a command puts behind its text: a run, where there is a plan, the rows
abbrev pub Further : (command : Command) → Option Files → Saying command → Ending → List (List ℕ) → Type 0
Further Run told saying Done more = (rows : List ℕ) × QueryRows told saying.1 rows × (more ≡ rows ∷ [])
Further Run told saying NoPlan more = more ≡ []
Further Check told saying ending more = more ≡ []
Further Plan told saying ending more = more ≡ []
Further Frontier told saying ending more = more ≡ []
Further Verify told saying ending more = more ≡ []
Further (Gen seed size) told saying ending more = more ≡ []

-- the texts say something, and these are the pieces of the command's answer
pub record HasPieces (command : Command) (told : Option Files) (given : List Given) (ending : Ending)
    (pieces : List (List ℕ)) : Type 0 where
  pub text : List ℕ
  pub answer : IsAnswer command given ending text
  pub more : List (List ℕ)
  pub further : Further command told answer.saying ending more
  pub are : pieces ≡ text ∷ more
