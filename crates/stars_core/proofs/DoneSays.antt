-- What a run that is done says.
use Rattle.std.proofs.Common.{◌≡◌, Option, None, Some, refl}
use Rattle.sb_outside.specs.Shelf.{ShelfState}
use Rattle.sb_outside.specs.Sink.{SinkState}
use Rattle.stars_core.specs.declared.command.Command.{Command}
use Rattle.stars_core.specs.declared.status.Status.TheVariants.{Done}
use Rattle.stars_core.specs.CommandLine.{CommandLine, command_of}
use Rattle.stars_core.specs.Answers.{Answered, DoneSays}

pub done_says : (words : CommandLine) (shelf shelf' : ShelfState) (out out' err err' : SinkState) → Answered Done words shelf shelf' out out' err err' → DoneSays words out out'
done_says words shelf shelf' out out' err err' answered = at_command (command_of words) refl answered
  where
    at_command : (command : Option Command) → command_of words ≡ command → Answered Done words shelf shelf' out out' err err' → DoneSays words out out'
    at_command None is a = absurd (rw is at a)
    at_command (Some command) is a =
        let b = rw is at a in rw is (shelf.held, b.2.0, b.1, b.2.3, b.3.added)
