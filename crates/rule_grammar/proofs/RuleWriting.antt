-- A rule file that a text spells is spelled by its own statements, in the order of their numbers.
use Rattle.std.proofs.Common.{◌≡◌, ℕ, ◌+◌, ◌<◌, ◌≤◌, Bool, true, false, nat_lt, if◌then◌else◌, List, [], ◌∷◌, ◌++◌, map, refl, sym, ap, ◌∙◌, subst, arith, lt-ltb, codes, append_assoc}
use Rattle.star_model.specs.declared.rules.StarDef.{StarDef}
use Rattle.star_model.specs.declared.rules.FormulaDef.{FormulaDef}
use Rattle.star_model.specs.declared.rules.SelectDef.{SelectDef}
use Rattle.star_model.specs.declared.rules.RuleFile.{RuleFile}
use Rattle.spelling.specs.Lexemes.{Lexeme, Word, IsStatements}
use Rattle.star_model.specs.Every.{Every}
use Rattle.rule_grammar.specs.Rules as spec
use Rattle.rule_grammar.specs.Rules.{SpellsDefinitions, SpellsStar, SpellsFormulaDef, SpellsSelectDef, SpellsRules, Definition, OfSelect, OfFormula, OfStar, number_of, version_statements, definition_lexemes, formula_def_lexemes, select_def_lexemes, star_lexemes, put_in, in_order, definitions, rule_lexemes, canonical}
use Rattle.spelling.specs.FormedLexemes.{Formed, both, every_both, every_front, every_back}
use Rattle.spelling.specs.Layout.{IsLexeme}
use Rattle.cost_formula.specs.Formulas.{formula_lexemes, cost_variables, select_variables}
use Rattle.cost_formula.proofs.Laws.{formed_formula, cost_spelled_again, select_spelled_again}
use Rattle.spelling.proofs.Laws.{statements_of_layout, formed_statements}

abbrev From : ℕ → Definition → Type 0
From n x = n ≤ number_of x

before : (x y : Definition) → number_of x < number_of y → nat_lt (number_of x) (number_of y) ≡ true
before x y h = lt-ltb (number_of x) (number_of y) h

not_before : (x y : Definition) → number_of y ≤ number_of x → nat_lt (number_of x) (number_of y) ≡ false
not_before x y h = grind arith

kept : (P : Definition → Type 0) (x : Definition) (ys : List Definition) → P x → Every P ys → Every P (put_in x ys)
kept P x [] h k = (h, tt)
kept P x (y ∷ ys) h k = at (nat_lt (number_of x) (number_of y)) (kept P x ys h k.1) where
  at : (b : Bool) → Every P (put_in x ys) → Every P (if b then x ∷ y ∷ ys else y ∷ put_in x ys)
  at true later = (h, (k.0, k.1))
  at false later = (k.0, later)

all_kept : (P : Definition → Type 0) (xs : List Definition) → Every P xs → Every P (in_order xs)
unfolding in_order
all_kept P [] h = tt
all_kept P (x ∷ xs) h = kept P x (in_order xs) h.0 (all_kept P xs h.1)

-- one that is before all others comes first
first : (x : Definition) (ys : List Definition) → Every (From (number_of x + 1)) ys → put_in x ys ≡ x ∷ ys
first x [] h = refl
first x (y ∷ ys) h = rw (before x y (omega (arith, h.0))) refl

first_of_all : (x : Definition) (xs ys : List Definition) → Every (From (number_of x + 1)) xs → Every (From (number_of x + 1)) ys → in_order (xs ++ x ∷ ys) ≡ x ∷ in_order (xs ++ ys)
unfolding in_order
first_of_all x [] ys h k = first x (in_order ys) (all_kept (From (number_of x + 1)) ys k)
first_of_all x (y ∷ xs) ys h k = ap (put_in y) (first_of_all x xs ys h.1 k) ∙ rw (not_before y x (omega (arith, h.0))) refl

-- the numbers rise
rising : {version n : ℕ} {statements : List (List Lexeme)} {ds : List SelectDef} {fs : List FormulaDef} {ss : List StarDef} → SpellsDefinitions version n statements ds fs ss
    → (m : ℕ) → m ≤ n → Every (From m) (map OfSelect ds) × Every (From m) (map OfFormula fs) × Every (From m) (map OfStar ss)
rising spec.none m le = (tt, tt, tt)
rising (spec.select p h) m le = let later = rising h m (omega arith) in ((omega (arith, p.number), later.0), later.1, later.2)
rising (spec.formula p h) m le = let later = rising h m (omega arith) in (later.0, (omega (arith, p.number), later.1), later.2)
rising (spec.star p h) m le = let later = rising h m (omega arith) in (later.0, later.1, (omega (arith, p.number), later.2))

own_select : (version n : ℕ) (lexemes : List Lexeme) (d : SelectDef) → SpellsSelectDef version n lexemes d → SpellsSelectDef version n (select_def_lexemes d) d
own_select version n lexemes d p = record {
  of_version = p.of_version;
  number = p.number;
  num = formula_lexemes d.num;
  den = formula_lexemes d.den;
  are = refl;
  spelled_num = select_spelled_again p.num d.num p.spelled_num;
  spelled_den = select_spelled_again p.den d.den p.spelled_den;
}

own_formula : (version n : ℕ) (lexemes : List Lexeme) (d : FormulaDef) → SpellsFormulaDef version n lexemes d → SpellsFormulaDef version n (formula_def_lexemes d) d
own_formula version n lexemes d p = record {
  known = p.known;
  number = p.number;
  formula = formula_lexemes d.formula;
  are = refl;
  spelled = cost_spelled_again p.formula d.formula p.spelled;
}

own_star : (version n : ℕ) (lexemes : List Lexeme) (s : StarDef) → SpellsStar version n lexemes s → SpellsStar version n (star_lexemes s) s
own_star version n lexemes s p = record { number = p.number; are = refl; stands = p.stands }

written : {version n : ℕ} {statements : List (List Lexeme)} {ds : List SelectDef} {fs : List FormulaDef} {ss : List StarDef} → SpellsDefinitions version n statements ds fs ss
    → SpellsDefinitions version n (map definition_lexemes (definitions ds fs ss)) ds fs ss
unfolding in_order
written spec.none = spec.none
written {version} (spec.select {number} {lexemes} {d} {selects} {formulas} {stars} p h) =
    let From' : Definition → Type 0 = From (d.statement + 1) in
    let later = rising h (d.statement + 1) (omega (arith, p.number)) in
    let both = every_both From' (map OfFormula formulas) (map OfStar stars) later.1 later.2 in
    let e = first (OfSelect d) (definitions selects formulas stars) (all_kept From' _ (every_both From' (map OfSelect selects) (map OfFormula formulas ++ map OfStar stars) later.0 both)) in
    subst (λ l. SpellsDefinitions version number (map definition_lexemes l) (d ∷ selects) formulas stars) (sym e) (spec.select (own_select version number lexemes d p) (written h))
written {version} (spec.formula {number} {lexemes} {d} {selects} {formulas} {stars} p h) =
    let From' : Definition → Type 0 = From (d.statement + 1) in
    let later = rising h (d.statement + 1) (omega (arith, p.number)) in
    let both = every_both From' (map OfFormula formulas) (map OfStar stars) later.1 later.2 in
    let e = first_of_all (OfFormula d) (map OfSelect selects) (map OfFormula formulas ++ map OfStar stars) later.0 both in
    subst (λ l. SpellsDefinitions version number (map definition_lexemes l) selects (d ∷ formulas) stars) (sym e) (spec.formula (own_formula version number lexemes d p) (written h))
written {version} (spec.star {number} {lexemes} {s} {selects} {formulas} {stars} p h) =
    let From' : Definition → Type 0 = From (s.statement + 1) in
    let before : List Definition = map OfSelect selects ++ map OfFormula formulas in
    let later = rising h (s.statement + 1) (omega (arith, p.number)) in
    let both = every_both From' (map OfSelect selects) (map OfFormula formulas) later.0 later.1 in
    let e = ap in_order (sym (append_assoc (map OfSelect selects) (map OfFormula formulas) (OfStar s ∷ map OfStar stars)))
    ∙ first_of_all (OfStar s) before (map OfStar stars) both later.2
    ∙ ap (λ l. OfStar s ∷ in_order l) (append_assoc (map OfSelect selects) (map OfFormula formulas) (map OfStar stars)) in
    subst (λ l. SpellsDefinitions version number (map definition_lexemes l) selects formulas (s ∷ stars)) (sym e) (spec.star (own_star version number lexemes s p) (written h))

-- where some text spells the rule file, so does each text with its own statements
pub written_rules_spell : (text : List ℕ) (rules : RuleFile) → SpellsRules text rules → (other : List ℕ) → IsStatements other (rule_lexemes rules) → SpellsRules other rules
written_rules_spell text rules p other are = record {
  version = p.version;
  statements = map definition_lexemes (definitions rules.selects rules.formulas rules.stars);
  are = are;
  define = written p.define;
}

-- ---- the canonical text

abbrev IsFormed : Definition → Type 0
IsFormed x = Formed (definition_lexemes x)

formed_select : (version n : ℕ) (lexemes : List Lexeme) (d : SelectDef) → SpellsSelectDef version n lexemes d → Formed lexemes → Formed (select_def_lexemes d)
formed_select version n lexemes d p h =
    let k = subst Formed p.are h in
    let parts = k.1.1.1 in
    let den = every_back IsLexeme p.num (Word (codes "per") ∷ p.den) parts in (
      k.0,
      (
        k.1.0,
        (
          k.1.1.0,
          both (formula_lexemes d.num) (Word (codes "per") ∷ formula_lexemes d.den)
              (formed_formula select_variables p.num d.num p.spelled_num (every_front IsLexeme p.num (Word (codes "per") ∷ p.den) parts))
              (den.0, formed_formula select_variables p.den d.den p.spelled_den den.1),
        ),
      ),
    )

formed_def : (version n : ℕ) (lexemes : List Lexeme) (d : FormulaDef) → SpellsFormulaDef version n lexemes d → Formed lexemes → Formed (formula_def_lexemes d)
formed_def version n lexemes d p h =
    let k = subst Formed p.are h in
    (k.0, (k.1.0, (k.1.1.0, formed_formula cost_variables p.formula d.formula p.spelled k.1.1.1)))

formed_definitions : {version n : ℕ} {statements : List (List Lexeme)} {ds : List SelectDef} {fs : List FormulaDef} {ss : List StarDef}
    → SpellsDefinitions version n statements ds fs ss → Every Formed statements
    → Every IsFormed (map OfSelect ds) × Every IsFormed (map OfFormula fs) × Every IsFormed (map OfStar ss)
formed_definitions spec.none h = (tt, tt, tt)
formed_definitions (spec.select p later) h = let more = formed_definitions later h.1 in ((formed_select _ _ _ _ p h.0, more.0), more.1, more.2)
formed_definitions (spec.formula p later) h = let more = formed_definitions later h.1 in (more.0, (formed_def _ _ _ _ p h.0, more.1), more.2)
formed_definitions (spec.star p later) h = let more = formed_definitions later h.1 in (more.0, more.1, (subst Formed p.are h.0, more.2))

each_formed : (xs : List Definition) → Every IsFormed xs → Every Formed (map definition_lexemes xs)
each_formed [] h = tt
each_formed (x ∷ xs) h = (h.0, each_formed xs h.1)

formed_rules : (text : List ℕ) (rules : RuleFile) → SpellsRules text rules → Every Formed (rule_lexemes rules)
formed_rules text rules p =
    let said = version_statements rules.version in
    let all = formed_statements text (said ++ p.statements) p.are in
    let formed = formed_definitions p.define (every_back Formed said p.statements all) in
    let selects : List Definition = map OfSelect rules.selects in
    let formulas : List Definition = map OfFormula rules.formulas in
    let stars : List Definition = map OfStar rules.stars in
    let each = every_both IsFormed selects (formulas ++ stars) formed.0 (every_both IsFormed formulas stars formed.1 formed.2) in
    every_both Formed said (map definition_lexemes (definitions rules.selects rules.formulas rules.stars)) (every_front Formed said p.statements all)
    (each_formed (definitions rules.selects rules.formulas rules.stars) (all_kept IsFormed (selects ++ (formulas ++ stars)) each))

pub canonical_rules : (text : List ℕ) (rules : RuleFile) → SpellsRules text rules → SpellsRules (canonical rules) rules
canonical_rules text rules p = written_rules_spell text rules p (canonical rules) (statements_of_layout (rule_lexemes rules) (formed_rules text rules p))
