-- The judgement of a derivation that anyone may have written.
use Rattle.std.specs.Prelude.{◌≡◌, ℕ, List, [], ◌∷◌, ◌++◌, codes, Some, Result, Ok, Err, string_bytes}
use Rattle.star_model.specs.Derivations.{IsRoot}
use Rattle.star_model.specs.Expected.{ForQuery}
use Rattle.star_model.specs.InvalidNodes.{first_invalid}
use Rattle.star_model.specs.declared.rules.RuleFile.{RuleFile}
use Rattle.star_model.specs.declared.query.Query.{Query as QueryTree}
use Rattle.star_model.specs.declared.derivations.Deriv.{Deriv}
use Rattle.star_model.specs.declared.plans.Props.{Props}
use Rattle.stars_core.specs.declared.status.Ending.{Ending}
use Rattle.stars_core.specs.declared.status.Ending.TheVariants.{Done}
use Rattle.stars_core.specs.declared.answer.Answer.{Answer}
use Rattle.stars_core.specs.declared.refusal.Refusal.{Refusal}
use Rattle.stars_core.specs.declared.refusal.Refusal.TheVariants.{Usage, Unread, Refused, Table, NotDerived, Memory}
use Rattle.stars_core.specs.Plan.{numbers}
use Rattle.stars_core.specs.Lines.{not_derived_line}

abbrev pub derived_line : Props → List ℕ
derived_line v = codes "derived" ++ (numbers v ++ 10 ∷ [])

-- the derivation is one of the query by the rules, and the text tells its plan's numbers
abbrev pub VerifiedText : RuleFile → QueryTree → Deriv → Ending → List ℕ → Type 0
VerifiedText rules query d ending text = (ending ≡ Done) × (v : Props) × IsRoot query rules d v × (text ≡ derived_line v)

-- it is none, and the line tells its first invalid node in preorder
pub record IsNotDerived (rules : RuleFile) (query : QueryTree) (d : Deriv) (line : List ℕ) : Type 0 where
  pub no_root : (v : Props) → IsRoot query rules d v → ⊥
  pub node : ℕ
  pub first : first_invalid query rules d ForQuery 1 ≡ Some node
  pub told : line ≡ not_derived_line node

-- a denial whose line is as P says, or want of memory
abbrev pub Denies : (List ℕ → Type 0) → Refusal → Type 0
Denies P (NotDerived line) = P (string_bytes line)
Denies P Memory = Unit {0}
Denies P Usage = ⊥
Denies P (Unread line) = ⊥
Denies P (Refused kind line) = ⊥
Denies P (Table line) = ⊥

-- what the judgement answers
abbrev pub Verified : RuleFile → QueryTree → Deriv → Result Answer Refusal → Type 0
Verified rules query d (Ok answer) = VerifiedText rules query d answer.ending answer.text.items
Verified rules query d (Err refusal) = Denies (IsNotDerived rules query d) refusal
