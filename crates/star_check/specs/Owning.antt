-- Files in which each STAR is the one of its name, and each name that of a STAR.
use Rattle.std.specs.Prelude.{◌≡◌, ℕ, true, false, ◌&&◌, List, is_none, Some, slice_get}
use Rattle.std.specs.List.{list_any}
use Rattle.star_model.specs.Stars.{star_named}
use Rattle.star_model.specs.Costs.{same_flavour, same_which}
use Rattle.star_model.specs.Selectivity.{same_class}
use Rattle.star_model.specs.declared.rules.FormulaDef.{FormulaDef}
use Rattle.star_model.specs.declared.rules.SelectDef.{SelectDef}
use Rattle.star_model.specs.Accepted.{references_of}
use Rattle.star_model.specs.declared.rules.StarDef.{StarDef}
use Rattle.star_model.specs.declared.rules.RuleFile.{RuleFile}

pub record NamesAreOwn (rules : RuleFile) : Type 0 where
  pub own : (i : ℕ) (s : StarDef) → slice_get rules.stars i ≡ Some s → star_named rules s.name ≡ Some s

-- each reference is to a STAR that is defined
pub record NamesAreKnown (rules : RuleFile) : Type 0 where
  pub known : (i : ℕ) (s : StarDef) → slice_get rules.stars i ≡ Some s → list_any (λ r. is_none (star_named rules r.0)) (references_of s) ≡ false

-- each formula is the one of its operator and cost
pub record FormulasAreOwn (formulas : List FormulaDef) : Type 0 where
  pub own : (i j : ℕ) (d e : FormulaDef) → slice_get formulas i ≡ Some d → slice_get formulas j ≡ Some e
      → (same_flavour e.flavour d.flavour && same_which e.which d.which) ≡ true → i ≡ j

-- each selectivity is the one of its class
pub record SelectsAreOwn (selects : List SelectDef) : Type 0 where
  pub own : (i j : ℕ) (d e : SelectDef) → slice_get selects i ≡ Some d → slice_get selects j ≡ Some e → same_class e.class d.class ≡ true → i ≡ j
