-- The STAR of a name.
use Rattle.std.proofs.Common.{◌≡◌, ℕ, true, List, ap, sym, ◌∙◌}
use Rattle.std.specs.Prelude.{Some, slice_get, Contains}
use Rattle.std.specs.List.{position_or_len}
use Rattle.std.proofs.lemmas.List.Folds.{find_at}
use Rattle.star_model.specs.Stars.{star_named}
use Rattle.star_model.specs.Vectors.{same_numbers}
use Rattle.star_model.specs.declared.rules.StarDef.{StarDef}
use Rattle.star_model.specs.declared.rules.RuleFile.{RuleFile}
use Rattle.star_check.proofs.Places.{find_passes}
use Rattle.star_check.proofs.Owned.{contains_at}
use Rattle.star_model.proofs.Laws.{same_are}

abbrev pub position_of : RuleFile → List ℕ → ℕ
position_of rules name = position_or_len (λ t. same_numbers t.name name) rules.stars

pub stands : (rules : RuleFile) (name : List ℕ) (s : StarDef) → star_named rules name ≡ Some s → slice_get rules.stars (position_of rules name) ≡ Some s
stands rules name s named = sym (find_at (λ t. same_numbers t.name name) rules.stars) ∙ named

pub is_there : (rules : RuleFile) (name : List ℕ) (s : StarDef) → star_named rules name ≡ Some s → Contains rules.stars s
is_there rules name s named = contains_at rules.stars (position_of rules name) s (stands rules name s named)

pub passes_name : (rules : RuleFile) (name : List ℕ) (s : StarDef) → star_named rules name ≡ Some s → same_numbers s.name name ≡ true
passes_name rules name s named = find_passes (λ t. same_numbers t.name name) rules.stars s named

pub its_name : (rules : RuleFile) (name : List ℕ) (s : StarDef) → star_named rules name ≡ Some s → s.name ≡ name
its_name rules name s named = same_are s.name name (passes_name rules name s named)

pub own_name : (rules : RuleFile) (name : List ℕ) (s : StarDef) → star_named rules name ≡ Some s → star_named rules s.name ≡ Some s
own_name rules name s named = ap (star_named rules) (its_name rules name s named) ∙ named
