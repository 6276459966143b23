-- Which of two vectors is no worse, whatever their relations.
use Rattle.std.specs.Prelude.{Bool, not, ◌&&◌, ◌||◌, nat_eq, nat_le}
use Rattle.star_model.specs.Vectors.{begins}
use Rattle.star_model.specs.declared.plans.Props.{Props}

abbrev pub is_no_worse : Props → Props → Bool
is_no_worse v w = nat_eq v.site.0 w.site.0 && nat_le v.cost w.cost && nat_le v.rescan w.rescan && begins w.order v.order && begins w.path v.path && (not w.temp || v.temp)
