-- The rule file that statements define, with one statement more.
use Rattle.std.proofs.Common.{◌≡◌, ℕ, List, [], ◌∷◌, ◌++◌, refl, ap, ◌∙◌, append-nil}
use Rattle.star_model.specs.declared.rules.SelectDef.{SelectDef}
use Rattle.star_model.specs.declared.rules.FormulaDef.{FormulaDef}
use Rattle.star_model.specs.declared.rules.StarDef.{StarDef}
use Rattle.star_model.specs.declared.rules.RuleFile.{RuleFile}
use Rattle.rule_grammar.specs.Rules.{Definition, OfVersion, OfSelect, OfFormula, OfStar}
use Rattle.rule_grammar.specs.RuleLimits.{RuleStatement}
use Rattle.star_syntax.specs.Statements.{with_select, with_formula, with_star, selects_of, formulas_of, stars_of, rules_of, with_definition}

select_first : (d : Definition) (xs ys zs : List SelectDef) → xs ≡ ys ++ zs → with_select d xs ≡ with_select d ys ++ zs
select_first OfVersion xs ys zs e = e
select_first (OfSelect d) xs ys zs e = ap (λ l. d ∷ l) e
select_first (OfFormula d) xs ys zs e = e
select_first (OfStar s) xs ys zs e = e

selects_more : (statements : List RuleStatement) (x : RuleStatement) → selects_of (statements ++ x ∷ []) ≡ selects_of statements ++ with_select x.defines []
selects_more [] x = refl
selects_more (s ∷ later) x = select_first s.defines (selects_of (later ++ x ∷ [])) (selects_of later) (with_select x.defines []) (selects_more later x)

formula_first : (d : Definition) (xs ys zs : List FormulaDef) → xs ≡ ys ++ zs → with_formula d xs ≡ with_formula d ys ++ zs
formula_first OfVersion xs ys zs e = e
formula_first (OfSelect d) xs ys zs e = e
formula_first (OfFormula d) xs ys zs e = ap (λ l. d ∷ l) e
formula_first (OfStar s) xs ys zs e = e

formulas_more : (statements : List RuleStatement) (x : RuleStatement) → formulas_of (statements ++ x ∷ []) ≡ formulas_of statements ++ with_formula x.defines []
formulas_more [] x = refl
formulas_more (s ∷ later) x = formula_first s.defines (formulas_of (later ++ x ∷ [])) (formulas_of later) (with_formula x.defines []) (formulas_more later x)

star_first : (d : Definition) (xs ys zs : List StarDef) → xs ≡ ys ++ zs → with_star d xs ≡ with_star d ys ++ zs
star_first OfVersion xs ys zs e = e
star_first (OfSelect d) xs ys zs e = e
star_first (OfFormula d) xs ys zs e = e
star_first (OfStar s) xs ys zs e = ap (λ l. s ∷ l) e

stars_more : (statements : List RuleStatement) (x : RuleStatement) → stars_of (statements ++ x ∷ []) ≡ stars_of statements ++ with_star x.defines []
stars_more [] x = refl
stars_more (s ∷ later) x = star_first s.defines (stars_of (later ++ x ∷ [])) (stars_of later) (with_star x.defines []) (stars_more later x)

abbrev file : ℕ → List SelectDef → List FormulaDef → List StarDef → RuleFile
file version selects formulas stars = record { version = version; selects = selects; formulas = formulas; stars = stars }

-- with one definition at the end of its list
abbrev rules_with : ℕ → List SelectDef → List FormulaDef → List StarDef → Definition → RuleFile
rules_with version selects formulas stars d = file version (selects ++ with_select d []) (formulas ++ with_formula d []) (stars ++ with_star d [])

-- a rule file, part by part
parts_are : (version : ℕ) (selects others : List SelectDef) (formulas more : List FormulaDef) (stars rest : List StarDef) → selects ≡ others → formulas ≡ more → stars ≡ rest
    → file version selects formulas stars ≡ file version others more rest
parts_are version selects others formulas more stars rest p q r = λ i. record { version = version; selects = p i; formulas = q i; stars = r i }

with_more : (version : ℕ) (selects : List SelectDef) (formulas : List FormulaDef) (stars : List StarDef) (d : Definition)
    → rules_with version selects formulas stars d ≡ with_definition (file version selects formulas stars) d
with_more version selects formulas stars OfVersion = parts_are version _ _ _ _ _ _ (append-nil selects) (append-nil formulas) (append-nil stars)
with_more version selects formulas stars (OfSelect d) = parts_are version _ _ _ _ _ _ refl (append-nil formulas) (append-nil stars)
with_more version selects formulas stars (OfFormula d) = parts_are version _ _ _ _ _ _ (append-nil selects) refl (append-nil stars)
with_more version selects formulas stars (OfStar s) = parts_are version _ _ _ _ _ _ (append-nil selects) (append-nil formulas) refl

pub rules_more : (version : ℕ) (statements : List RuleStatement) (x : RuleStatement) → rules_of version (statements ++ x ∷ []) ≡ with_definition (rules_of version statements) x.defines
rules_more version statements x =
    parts_are version _ _ _ _ _ _ (selects_more statements x) (formulas_more statements x) (stars_more statements x)
    ∙ with_more version (selects_of statements) (formulas_of statements) (stars_of statements) x.defines
