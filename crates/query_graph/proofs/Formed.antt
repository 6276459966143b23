-- What a well-formed catalogue gives at a position.
use Rattle.std.proofs.Common.{◌≡◌, ℕ, List, [], ◌∷◌, length, Some, slice_get, subst}
use Prim.Native.Nat.{zero, suc}
use Rattle.star_model.specs.declared.catalogue.Catalogue.{Catalogue}
use Rattle.star_model.specs.declared.catalogue.TableDef.{TableDef}
use Rattle.star_model.specs.WellFormed.{Each, more, WellFormedTable, WellFormedCatalogue}

each_at : {A : Type 0} (P : A → Type 0) (xs : List A) (n : ℕ) (x : A) → Each P xs → slice_get xs n ≡ Some x → P x
each_at P [] n x each is = absurd cc
each_at P (y ∷ ys) zero x (more z zs holds later) is = let same : y ≡ x = cc in subst P same holds
each_at P (y ∷ ys) (suc n) x (more z zs holds later) is = each_at P ys n x later is

pub formed_table : (c : Catalogue) (n : ℕ) (t : TableDef) → WellFormedCatalogue c → slice_get c.tables n ≡ Some t → WellFormedTable (length c.sites) t
formed_table c n t formed is = each_at (WellFormedTable (length c.sites)) c.tables n t formed.tables is
