use Rattle.std.proofs.Common.{◌≡◌, map, take, length, Some}
use Rattle.star_model.specs.declared.catalogue.ColumnDef.{ColumnDef}
use Rattle.star_model.specs.Names.{place_of}
use Rattle.spelling.specs.Names.{all_of}
use Rattle.catalogue.proofs.resolve.columns_named.Given as goal

abbrev pub invariant-loop-name : goal.invariant-loop-name
invariant-loop-name l =
    (all_of (map (λ name. place_of name (map (λ (d : ColumnDef). d.name) l.columns)) (take l.name-index l.names)) ≡ Some l.places) × (length l.places ≡ l.name-index)
