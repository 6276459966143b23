-- The text of a plan spells its derivation.
use Rattle.std.proofs.Common.{◌≡◌, ◌≤◌, ◌++◌, ℕ, List, [], ◌∷◌, refl, sym, subst, arith, true}
use Rattle.std.specs.Prelude.{codes, decimal}
use Rattle.std.specs.List.{AllPass, list_all}
use Rattle.std.proofs.lemmas.List.Elements.{All-append}
use Rattle.std.proofs.lemmas.List.Sums.{AllPass-from_list_all}
use Rattle.star_model.specs.Derivations.{IsRoot, IsLeast}
use Rattle.star_model.specs.WellFormed.{WellFormedQuery}
use Rattle.star_model.specs.Numbers.{top}
use Rattle.star_model.specs.declared.rules.RuleFile.{RuleFile}
use Rattle.star_model.specs.declared.rules.StarDef.{StarDef}
use Rattle.star_model.specs.declared.query.Query.{Query as QueryTree}
use Rattle.star_model.specs.declared.derivations.Deriv.{Deriv}
use Rattle.star_model.specs.declared.plans.Props.{Props}
use Rattle.sb_text.specs.Front.{in_comment}
use Rattle.star_model.specs.Every.{Every}
use Rattle.spelling.specs.Layout.{commented}
use Rattle.derivation_reading.specs.Derivations.{SpellsDerivation, canonical}
use Rattle.rule_grammar.specs.Rules.{SpellsRules, HasFewParts}
use Rattle.star_model.specs.WellFormedRules.{WellFormedRules, KeepsStarLimits}
use Rattle.derivation_print.proofs.Laws.{plan_text_spells}
use Rattle.stars_core.specs.declared.status.Ending.TheVariants.{Done}
use Rattle.stars_core.specs.Plan.{PlanText, AreSmall, numbers}
use Rattle.stars_core.proofs.Comments.{decimal_in_comment}

few_parts : (stars : List StarDef) → Every KeepsStarLimits stars → Every HasFewParts stars
few_parts [] keeps = tt
few_parts (s ∷ stars) keeps =
    let this = keeps.0 in (record { alternatives = let few = this.alternatives in omega arith; ranges = this.ranges }, few_parts stars keeps.1)

pub plan_spells : (q : QueryTree) (rules : RuleFile) → WellFormedQuery q → (tree : Deriv) (v : Props) → IsRoot q rules tree v → AllPass in_comment (numbers v)
    → (r : List ℕ) → SpellsRules r rules → WellFormedRules rules → SpellsDerivation (commented (numbers v) (canonical tree)) tree
plan_spells q rules w tree v root line r spelled formed = plan_text_spells q rules w r spelled (few_parts rules.stars formed.limits) tree v root (numbers v) line

both : (xs ys : List ℕ) → AllPass in_comment xs → AllPass in_comment ys → AllPass in_comment (xs ++ ys)
both xs ys p q = All-append (λ b. in_comment b ≡ true) xs ys p q

all_six : (a b c d e f : List ℕ) → AllPass in_comment a → AllPass in_comment b → AllPass in_comment c → AllPass in_comment d → AllPass in_comment e → AllPass in_comment f
    → AllPass in_comment (a ++ b ++ c ++ d ++ e ++ f)
all_six a b c d e f p q r s t u =
    both (a ++ b ++ c ++ d ++ e) f (both (a ++ b ++ c ++ d) e (both (a ++ b ++ c) d (both (a ++ b) c (both a b p q) r) s) t) u

word_in_comment : (xs : List ℕ) → list_all in_comment xs ≡ true → AllPass in_comment xs
word_in_comment xs e = AllPass-from_list_all in_comment xs e

numbers_in_comment : (v : Props) → AreSmall v → AllPass in_comment (numbers v)
numbers_in_comment v small =
    let cost = small.cost in
    let rescan = small.rescan in
    let card = small.card in
    all_six (codes " cost ") (decimal v.cost) (codes " rescan ") (decimal v.rescan) (codes " card ") (decimal v.card)
    (word_in_comment (codes " cost ") refl) (decimal_in_comment v.cost (omega arith))
    (word_in_comment (codes " rescan ") refl) (decimal_in_comment v.rescan (omega arith))
    (word_in_comment (codes " card ") refl) (decimal_in_comment v.card (omega arith))

pub are_small : (v : Props) → v.cost ≤ top → v.rescan ≤ top → v.card ≤ top → AreSmall v
are_small v a b c = record { cost = a; rescan = b; card = c }

pub is_planned : (q : QueryTree) (rules : RuleFile) (tree : Deriv) (v : Props) (text : List ℕ) → WellFormedQuery q → IsLeast q rules tree v → AreSmall v
    → text ≡ commented (numbers v) (canonical tree) → PlanText rules q Done text
is_planned q rules tree v text w least small told =
    (tree, v, least, told, λ r spelled formed. subst (λ (t : List ℕ). SpellsDerivation t tree) (sym told) (plan_spells q rules w tree v least.root (numbers_in_comment v small) r spelled formed))
