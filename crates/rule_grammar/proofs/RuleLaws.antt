-- One text spells one rule file.
use Rattle.std.proofs.Common.{◌≡◌, ℕ, ◌+◌, Bool, true, false, ◌||◌, nat_eq, if◌then◌else◌, List, [], ◌∷◌, ◌++◌, length, codes, refl, sym, ap, ◌∙◌, subst, arith, eqb-true}
use Rattle.std.proofs.lemmas.Option.{some_pair_parts}
use Rattle.star_model.specs.declared.rules.Which.{Which}
use Rattle.star_model.specs.declared.rules.Which.TheVariants as which
use Rattle.star_model.specs.declared.rules.StarDef.{StarDef}
use Rattle.star_model.specs.declared.rules.FormulaDef.{FormulaDef}
use Rattle.star_model.specs.declared.rules.SelectDef.{SelectDef}
use Rattle.star_model.specs.declared.formula.Formula.{Formula}
use Rattle.star_model.specs.Vectors.{same_numbers}
use Rattle.star_model.specs.declared.rules.RuleFile.{RuleFile}
use Rattle.spelling.specs.Lexemes.{Lexeme, Word, IsStatements}
use Rattle.star_model.specs.FlavourWords.{which_word}
use Rattle.cost_formula.specs.Formulas.{SpellsFormula, SpellsSelect, cost_variables, select_variables}
use Rattle.rule_grammar.specs.Rules as spec
use Rattle.rule_grammar.specs.Rules.{SpellsStar, SpellsFormulaDef, SpellsSelectDef, SpellsDefinitions, SpellsRules, version_lexemes, version_statements}
use Rattle.rule_grammar.specs.SelectHeads.{parted_at_per}
use Rattle.spelling.proofs.Laws.{one_list}
use Rattle.spelling.specs.SpelledSeries.{heads, tails, differ, apart}
use Rattle.star_model.proofs.Laws.{same_flavour_word, same_class_word}
use Rattle.cost_formula.proofs.Laws.{one_formula, no_per_in_select}
use Rattle.rule_grammar.proofs.StarLaws.{one_star}
use Rattle.rule_grammar.proofs.SelectHeadLaws.{parts_are_found}

word_is : (a b : List ℕ) → Word a ≡ Word b → a ≡ b
word_is a b e = cc

same_which : (x y : Which) → Word (which_word x) ≡ Word (which_word y) → x ≡ y
same_which which.Cost which.Cost e = refl
same_which which.Cost which.Rescan e = absurd (differ (codes "cost") (codes "rescan") refl e)
same_which which.Rescan which.Cost e = absurd (differ (codes "rescan") (codes "cost") refl e)
same_which which.Rescan which.Rescan e = refl

pub one_formula_def : (version n : ℕ) (lexemes : List Lexeme) (d f : FormulaDef) → SpellsFormulaDef version n lexemes d → SpellsFormulaDef version n lexemes f → d ≡ f
one_formula_def version n lexemes d f p q =
    let first = heads _ _ _ _ (sym p.are ∙ q.are) in
    let second = heads _ _ _ _ first.1 in
    let rest : p.formula ≡ q.formula = tails _ _ _ second.1 in
    let statements = p.number ∙ sym q.number in
    let whiches = same_which d.which f.which first.0 in
    let flavours = same_flavour_word d.flavour f.flavour (word_is _ _ second.0) in
    let formulas = one_formula cost_variables p.formula d.formula f.formula p.spelled (subst (λ (l : List Lexeme). SpellsFormula l f.formula) (sym rest) q.spelled) in
    λ i. record { statement = statements i; flavour = flavours i; which = whiches i; formula = formulas i }

-- what stands on both sides of `per` is told apart
one_num_and_den : (num den n d : List Lexeme) (x y : Formula) → SpellsSelect num x → SpellsSelect n y → num ++ Word (codes "per") ∷ den ≡ n ++ Word (codes "per") ∷ d
    → (num ≡ n) × (den ≡ d)
one_num_and_den num den n d x y p q e =
    some_pair_parts num n den d (
    sym (parts_are_found num den (no_per_in_select num x p)) ∙ ap parted_at_per e ∙ parts_are_found n d (no_per_in_select n y q))

pub one_select_def : (version n : ℕ) (lexemes : List Lexeme) (d e : SelectDef) → SpellsSelectDef version n lexemes d → SpellsSelectDef version n lexemes e → d ≡ e
one_select_def version n lexemes d e p q =
    let second = heads _ _ _ _ (tails _ _ _ (sym p.are ∙ q.are)) in
    let parts = one_num_and_den p.num p.den q.num q.den d.num e.num p.spelled_num q.spelled_num (tails _ _ _ second.1) in
    let statements = p.number ∙ sym q.number in
    let classes = same_class_word d.class e.class (word_is _ _ second.0) in
    let nums = one_formula select_variables p.num d.num e.num p.spelled_num (subst (λ (l : List Lexeme). SpellsSelect l e.num) (sym parts.0) q.spelled_num) in
    let dens = one_formula select_variables p.den d.den e.den p.spelled_den (subst (λ (l : List Lexeme). SpellsSelect l e.den) (sym parts.1) q.spelled_den) in
    λ i. record { statement = statements i; class = classes i; num = nums i; den = dens i }

-- ---- no statement defines two things, and none that says the version defines anything

no_which : (x : Which) (word : List ℕ) → same_numbers (codes "cost") word ≡ false → same_numbers (codes "rescan") word ≡ false → Word (which_word x) ≡ Word word → ⊥
no_which which.Cost word cost rescan e = differ (codes "cost") word cost e
no_which which.Rescan word cost rescan e = differ (codes "rescan") word rescan e

formula_and_star : (version n : ℕ) (lexemes : List Lexeme) (d : FormulaDef) (s : StarDef) → SpellsFormulaDef version n lexemes d → SpellsStar version n lexemes s → ⊥
formula_and_star version n lexemes d s p q = no_which d.which (codes "star") refl refl (heads _ _ _ _ (sym p.are ∙ q.are)).0

formula_and_select : (version n : ℕ) (lexemes : List Lexeme) (d : FormulaDef) (e : SelectDef) → SpellsFormulaDef version n lexemes d → SpellsSelectDef version n lexemes e → ⊥
formula_and_select version n lexemes d e p q = no_which d.which (codes "selectivity") refl refl (heads _ _ _ _ (sym p.are ∙ q.are)).0

select_and_star : (version n : ℕ) (lexemes : List Lexeme) (d : SelectDef) (s : StarDef) → SpellsSelectDef version n lexemes d → SpellsStar version n lexemes s → ⊥
select_and_star version n lexemes d s p q = apart (codes "selectivity") (codes "star") _ _ refl (sym p.are ∙ q.are)

no_version : {version n : ℕ} {statements : List (List Lexeme)} {ds : List SelectDef} {fs : List FormulaDef} {ss : List StarDef}
    → SpellsDefinitions version n statements ds fs ss → (later : List (List Lexeme)) → statements ≡ version_lexemes ∷ later → ⊥
no_version spec.none later is = cc
no_version (spec.select {lexemes} p h) later is = let e : lexemes ≡ version_lexemes = cc in apart (codes "selectivity") (codes "version") _ _ refl (sym p.are ∙ e)
no_version (spec.formula {lexemes} {d} p h) later is = let e : lexemes ≡ version_lexemes = cc in no_which d.which (codes "version") refl refl (heads _ _ _ _ (sym p.are ∙ e)).0
no_version (spec.star {lexemes} p h) later is = let e : lexemes ≡ version_lexemes = cc in apart (codes "star") (codes "version") _ _ refl (sym p.are ∙ e)

-- ---- rule files

abbrev Same : List SelectDef → List FormulaDef → List StarDef → List SelectDef → List FormulaDef → List StarDef → Type 0
Same ds fs ss es gs ts = (ds ≡ es) × (fs ≡ gs) × (ss ≡ ts)

one_by_one : {version n : ℕ} {statements : List (List Lexeme)} {ds : List SelectDef} {fs : List FormulaDef} {ss : List StarDef} (es : List SelectDef) (gs : List FormulaDef) (ts : List StarDef)
    → SpellsDefinitions version n statements ds fs ss → SpellsDefinitions version n statements es gs ts → Same ds fs ss es gs ts
one_by_one es gs ts spec.none spec.none = (refl, refl, refl)
one_by_one _ gs ts (spec.select p h) (spec.select {selects = es} q k) =
    let one = one_select_def _ _ _ _ _ p q in
    let more = one_by_one es gs ts h k in
    ((λ i. one i ∷ more.0 i), more.1, more.2)
one_by_one es _ ts (spec.select p h) (spec.formula q k) = absurd (formula_and_select _ _ _ _ _ q p)
one_by_one es gs _ (spec.select p h) (spec.star q k) = absurd (select_and_star _ _ _ _ _ p q)
one_by_one _ gs ts (spec.formula p h) (spec.select q k) = absurd (formula_and_select _ _ _ _ _ p q)
one_by_one es _ ts (spec.formula p h) (spec.formula {formulas = gs} q k) =
    let one = one_formula_def _ _ _ _ _ p q in
    let more = one_by_one es gs ts h k in
    (more.0, (λ i. one i ∷ more.1 i), more.2)
one_by_one es gs _ (spec.formula p h) (spec.star q k) = absurd (formula_and_star _ _ _ _ _ p q)
one_by_one _ gs ts (spec.star p h) (spec.select q k) = absurd (select_and_star _ _ _ _ _ q p)
one_by_one es _ ts (spec.star p h) (spec.formula q k) = absurd (formula_and_star _ _ _ _ _ q p)
one_by_one es gs _ (spec.star p h) (spec.star {stars = ts} q k) =
    let one = one_star _ _ _ _ _ p q in
    let more = one_by_one es gs ts h k in
    (more.0, more.1, λ i. one i ∷ more.2 i)

-- a version is 2 or 1
one_or_two : (v : ℕ) → (nat_eq v 1 || nat_eq v 2) ≡ true → nat_eq v 2 ≡ false → v ≡ 1
one_or_two v some other = grind arith

same_version : (text : List ℕ) (a b : RuleFile) → SpellsRules text a → SpellsRules text b → a.version ≡ b.version
same_version text a b p q =
    at (nat_eq a.version 2) (nat_eq b.version 2) refl refl (one_list text _ _ p.are q.are)
  where
    at : (x y : Bool) → nat_eq a.version 2 ≡ x → nat_eq b.version 2 ≡ y
        → (if x then version_lexemes ∷ [] else []) ++ p.statements ≡ (if y then version_lexemes ∷ [] else []) ++ q.statements → a.version ≡ b.version
    at true true first second lists = eqb-true a.version 2 first ∙ sym (eqb-true b.version 2 second)
    at true false first second lists = absurd (no_version q.define p.statements (sym lists))
    at false true first second lists = absurd (no_version p.define q.statements lists)
    at false false first second lists = one_or_two a.version p.version first ∙ sym (one_or_two b.version q.version second)

behind_version : (b : Bool) (xs ys : List (List Lexeme)) → (if b then version_lexemes ∷ [] else []) ++ xs ≡ (if b then version_lexemes ∷ [] else []) ++ ys → xs ≡ ys
behind_version true xs ys e = cc
behind_version false xs ys e = e

pub one_rule_file : (text : List ℕ) (a b : RuleFile) → SpellsRules text a → SpellsRules text b → a ≡ b
one_rule_file text a b p q =
    let version = same_version text a b p q in
    let lists = one_list text _ _ p.are (subst (λ v. IsStatements text (version_statements v ++ q.statements)) (sym version) q.are) in
    let same = behind_version (nat_eq a.version 2) p.statements q.statements lists in
    let define = subst (λ v. SpellsDefinitions v (1 + length (version_statements v)) q.statements b.selects b.formulas b.stars) (sym version) q.define in
    let one = one_by_one b.selects b.formulas b.stars p.define (
    subst (λ l. SpellsDefinitions a.version (1 + length (version_statements a.version)) l b.selects b.formulas b.stars) (sym same) define) in
    λ i. record { version = version i; selects = one.0 i; formulas = one.1 i; stars = one.2 i }
