use Rattle.std.proofs.Common.{◌≡◌}
use Rattle.std.specs.Prelude.{Some}
use Rattle.stars_core.specs.CommandLine.{bytes_of, command_of}
use Rattle.stars_core.specs.declared.command.Command.TheVariants.{Gen}
use Rattle.stars_core.proofs.WorkloadRuns.{generated_composed}
use Rattle.stars_core.proofs.compose.compose.Goals as goal

pub returns-in-Gen : goal.returns-in-Gen
returns-in-Gen g c =
    let value = c.in-Some.ensures.value in
    let is = c.in-Gen.is in
    let gen : command_of (bytes_of c.args.words.now) ≡ Some (Gen c.in-Gen.seed c.in-Gen.size) = cc in
    generated_composed (bytes_of c.args.words.now) c.in-Gen.seed c.in-Gen.size (g.S.Shelf.state c.args.shelf.now) c.run_generated.result gen c.run_generated.ensures
