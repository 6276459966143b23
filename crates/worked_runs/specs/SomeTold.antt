-- Files of which the completeness of `plan` and of `run` speaks.
use Rattle.std.specs.Prelude.{List}
use Rattle.sb_outside.specs.Shelf.{ShelfState}
use Rattle.stars_core.specs.declared.command.Command.TheVariants as commands
use Rattle.stars_core.specs.CommandLine.{CommandLine}
use Rattle.stars_core.specs.Given.{Given}
use Rattle.stars_core.specs.Saying.{Saying}
use Rattle.stars_core.specs.Told.{AllTold, TablesTold}

abbrev pub SomeTold : Type 0
SomeTold = (words : CommandLine) × (shelf : ShelfState) × (given : List Given) × (saying : Saying commands.Plan) × AllTold words shelf commands.Plan given saying

-- with tables that hold rows
abbrev pub SomeRunTold : Type 0
SomeRunTold =
    (words : CommandLine) × (shelf : ShelfState) × (given : List Given) × (saying : Saying commands.Run)
    × (told : AllTold words shelf commands.Run given saying) × TablesTold commands.Run told.files saying
