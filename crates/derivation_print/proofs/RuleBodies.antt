-- What derivations need of the STARs of a spelled rule file: operators with their inputs, and names that are words.
use Rattle.std.proofs.Common.{◌≡◌, ℕ, ◌≤◌, List, [], ◌∷◌, ◌++◌, map, length, subst, flat_map}
use Rattle.sb_text.specs.Forms.{IsWord}
use Rattle.star_model.specs.PlanExprCases as expr
use Rattle.star_model.specs.declared.rules.PlanExpr.{PlanExpr}
use Rattle.star_model.specs.declared.rules.PlanExpr.TheVariants as plain
use Rattle.star_model.specs.declared.rules.Alternative.{Alternative}
use Rattle.star_model.specs.declared.rules.StarDef.{StarDef}
use Rattle.star_model.specs.declared.rules.FormulaDef.{FormulaDef}
use Rattle.star_model.specs.declared.rules.SelectDef.{SelectDef}
use Rattle.star_model.specs.declared.rules.RuleFile.{RuleFile}
use Rattle.spelling.specs.Lexemes.{Lexeme, comma, bar, equals, right_bracket, joined_by, call}
use Rattle.star_model.specs.Every.{Every}
use Rattle.star_model.specs.Kinds.{inputs_of}
use Rattle.rule_grammar.specs.Values.{value_lexemes}
use Rattle.rule_grammar.specs.Rules as spec
use Rattle.rule_grammar.specs.Rules.{plan_lexemes, for_lexemes, when_lexemes, alternative_lexemes, parameter_lexemes, star_lexemes, version_statements, SpellsDefinitions, SpellsRules, HasFewParts, KeepsCounts}
use Rattle.star_model.specs.WellFormedRules.{Scope, IsPlan, IsAlternative, scope_of, scope_of_star, IsStar, HasFewRanges}
use Rattle.spelling.specs.FormedLexemes.{Formed, every_front, every_back}
use Rattle.spelling.proofs.Laws.{formed_statements}

-- each operator has as many inputs as it takes plans, and each reference names a word
unfoldable pub BodyOk : PlanExpr → Type 0
BodyOk (plain.Reference star arguments) = IsWord star
BodyOk (plain.Glue stream preds) = Unit {0}
BodyOk (plain.Leaf f arguments) = inputs_of f ≡ 0
BodyOk (expr.Unary f arguments input) = (inputs_of f ≡ 1) × BodyOk input
BodyOk (expr.Binary f arguments left right) = (inputs_of f ≡ 2) × BodyOk left × BodyOk right

first_formed : (a : List Lexeme) (items : List (List Lexeme)) → Formed (joined_by comma (a ∷ items)) → Formed a
first_formed a [] h = h
first_formed a (b ∷ items) h = every_front _ a (comma ∷ joined_by comma (b ∷ items)) h

second_formed : (a b : List Lexeme) (items : List (List Lexeme)) → Formed (joined_by comma (a ∷ b ∷ items)) → Formed b
second_formed a b items h = first_formed b items (every_back _ a (comma ∷ joined_by comma (b ∷ items)) h).1

inside_call : (word : List ℕ) (items : List (List Lexeme)) → Formed (call word items) → Formed (joined_by comma items)
inside_call word items h = every_front _ (joined_by comma items) (right_bracket ∷ []) h.1.1

body_ok : (scope : Scope) (e : PlanExpr) → IsPlan scope e → Formed (plan_lexemes e) → BodyOk e
unfolding IsPlan plan_lexemes BodyOk
body_ok scope (plain.Reference star arguments) h w = w.0
body_ok scope (plain.Glue stream preds) h w = tt
body_ok scope (plain.Leaf f arguments) h w = h.inputs
body_ok scope (expr.Unary f arguments input) h w = (h.0.inputs, body_ok scope input h.1 (first_formed (plan_lexemes input) (map value_lexemes arguments) (inside_call _ (plan_lexemes input ∷ map value_lexemes arguments) w)))
body_ok scope (expr.Binary f arguments left right) h w =
    let inside = inside_call _ (plan_lexemes left ∷ plan_lexemes right ∷ map value_lexemes arguments) w in
    (h.0.inputs, body_ok scope left h.1 (first_formed (plan_lexemes left) (plan_lexemes right ∷ map value_lexemes arguments) inside), body_ok scope right h.2 (second_formed (plan_lexemes left) (plan_lexemes right) (map value_lexemes arguments) inside))

-- ---- STARs

pub record AlternativeOk (a : Alternative) : Type 0 where
  pub body : BodyOk a.body
  pub few : length a.ranges ≤ 2

pub record StarOk (s : StarDef) : Type 0 where
  pub alternatives : Every AlternativeOk s.alternatives
  pub few : length s.alternatives ≤ 65535

alternatives_ok : (parameters : Scope) (rest : List Alternative) → Every (IsAlternative parameters) rest → Formed (joined_by bar (map alternative_lexemes rest)) → Every HasFewRanges rest → Every AlternativeOk rest
alternatives_ok parameters [] h w few = tt
alternatives_ok parameters (a ∷ rest) h w few = (one_ok a (first_of a rest w) h.0 few.0, alternatives_ok parameters rest h.1 (rest_of a rest w) few.1) where
  first_of : (a : Alternative) (rest : List Alternative) → Formed (joined_by bar (map alternative_lexemes (a ∷ rest))) → Formed (alternative_lexemes a)
  first_of a [] w = w
  first_of a (b ∷ rest) w = every_front _ (alternative_lexemes a) (bar ∷ joined_by bar (map alternative_lexemes (b ∷ rest))) w

  rest_of : (a : Alternative) (rest : List Alternative) → Formed (joined_by bar (map alternative_lexemes (a ∷ rest))) → Formed (joined_by bar (map alternative_lexemes rest))
  rest_of a [] w = tt
  rest_of a (b ∷ rest) w = (every_back _ (alternative_lexemes a) (bar ∷ joined_by bar (map alternative_lexemes (b ∷ rest))) w).1

  one_ok : (a : Alternative) → Formed (alternative_lexemes a) → IsAlternative parameters a → HasFewRanges a → AlternativeOk a
  one_ok a w h few = record {
    body = body_ok (scope_of parameters a) a.body h.body (every_back _ (when_lexemes a.condition) _ (every_back _ (flat_map for_lexemes a.ranges) _ w)).1;
    few = few;
  }

star_ok : (version : ℕ) (s : StarDef) → IsStar version s → Formed (star_lexemes s) → HasFewParts s → StarOk s
star_ok version s h w few = record {
  alternatives = alternatives_ok (scope_of_star version s) s.alternatives h.alternatives (every_back _ (call s.name (map parameter_lexemes s.params)) (equals ∷ joined_by bar (map alternative_lexemes s.alternatives)) w.1).1 few.ranges;
  few = few.alternatives;
}

stars_ok : (version : ℕ) {n : ℕ} {statements : List (List Lexeme)} {ds : List SelectDef} {fs : List FormulaDef} {ss : List StarDef} → SpellsDefinitions version n statements ds fs ss → Every Formed statements → Every HasFewParts ss → Every StarOk ss
stars_ok version spec.none h few = tt
stars_ok version (spec.select p later) h few = stars_ok version later h.1 few
stars_ok version (spec.formula p later) h few = stars_ok version later h.1 few
stars_ok version (spec.star {s = s} p later) h few = (star_ok version s p.stands (subst Formed p.are h.0) few.0, stars_ok version later h.1 few.1)

pub spelled_stars : (text : List ℕ) (rules : RuleFile) → SpellsRules text rules → KeepsCounts rules → Every StarOk rules.stars
spelled_stars text rules p few =
    let heads = version_statements rules.version in
    stars_ok rules.version p.define (every_back Formed heads p.statements (formed_statements text (heads ++ p.statements) p.are)) few
