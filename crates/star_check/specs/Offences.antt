-- Formulas that fail the monotone check.
use Rattle.std.specs.Prelude.{◌≡◌, ◌≤◌, Some, length}
use Rattle.star_model.specs.Limits.{most_nodes}
use Rattle.star_model.specs.Monotone.{nodes, first_offending}
use Rattle.star_model.specs.declared.rules.FormulaDef.{FormulaDef}
use Rattle.star_check.specs.declared.found.Found.{Found}
use Rattle.star_check.specs.declared.not_monotone.Offence.{Offence}

-- the formula has no more nodes than may be
abbrev pub HasFewNodes : FormulaDef → Type 0
HasFewNodes d = length (nodes d.formula) ≤ most_nodes

abbrev pub ShowsOffence : FormulaDef → Found Offence → Type 0
ShowsOffence d f =
    (d.statement ≡ f.statement) × (d.flavour ≡ f.what.flavour) × (d.which ≡ f.what.which) × (first_offending d.formula ≡ Some f.what.node)
