-- A root is missing where no STAR has its name.
use Rattle.std.proofs.Common.{◌≡◌, Bool, true, false, List, [], ◌∷◌, refl}
use Rattle.std.specs.Prelude.{Some, is_none, not, codes, ◌||◌, if◌then◌else◌}
use Rattle.std.specs.List.{list_any, find}
use Rattle.star_model.specs.Vectors.{same_numbers}
use Rattle.star_model.specs.Accepted.{lacks_root}
use Rattle.star_model.specs.declared.faults.Root.TheVariants as root
use Rattle.star_model.specs.declared.rules.RuleFile.{RuleFile}

none_found : {A : Type 0} (test : A → Bool) (xs : List A) → is_none (find test xs) ≡ not (list_any test xs)
none_found {A = A} test [] = refl
none_found {A = A} test (x ∷ xs) =
    elim (test x) as (λ b. is_none (if b then Some x else find test xs) ≡ not (b || list_any test xs)) [ true ↦ refl | false ↦ none_found test xs ]

pub lacks_access_root : (rules : RuleFile) → lacks_root rules root.AccessRoot ≡ not (list_any (λ s. same_numbers s.name (codes "AccessRoot")) rules.stars)
lacks_access_root rules = none_found (λ s. same_numbers s.name (codes "AccessRoot")) rules.stars

pub lacks_join_root : (rules : RuleFile) → lacks_root rules root.JoinRoot ≡ not (list_any (λ s. same_numbers s.name (codes "JoinRoot")) rules.stars)
lacks_join_root rules = none_found (λ s. same_numbers s.name (codes "JoinRoot")) rules.stars
