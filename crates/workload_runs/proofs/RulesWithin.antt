-- The statements of the rules keep the limits by far, so their text has no fault of them.
use Rattle.std.proofs.Common.{◌≡◌, ◌+◌, ◌≤◌, ◌<◌, zero, suc, Bool, true, false, ◌&&◌, List, [], ◌∷◌, ◌++◌, length, refl, ap, sym, ◌∙◌, arith, inl, inr}
use Rattle.std.specs.Prelude.{nat_le, Contains}
use Rattle.std.specs.List.{list_all}
use Rattle.std.proofs.lemmas.Bool.{leb-true}
use Rattle.std.proofs.lemmas.List.{length-append}
use Rattle.std.proofs.lemmas.List.Sums.{count_by-le-length}
use Rattle.star_model.specs.Every.{Every}
use Rattle.star_model.specs.Monotone.{nodes}
use Rattle.star_model.specs.Numbers.{top}
use Rattle.star_model.specs.WellFormedRules.{WellFormedRules, nesting}
use Rattle.star_model.specs.declared.faults.LimitKind.{LimitKind}
use Rattle.star_model.specs.declared.faults.LimitKind.TheVariants as limit
use Rattle.star_model.specs.declared.faults.RuleFault.{RuleFault}
use Rattle.star_model.specs.declared.rules.Alternative.{Alternative}
use Rattle.star_model.specs.declared.rules.FormulaDef.{FormulaDef}
use Rattle.star_model.specs.declared.rules.StarDef.{StarDef}
use Rattle.spelling.specs.Firsts.{NoneFrom, NoneHas}
use Rattle.spelling.specs.Lexemes.{Lexeme, Word, Number, Text, Symbol}
use Rattle.spelling.specs.Limits.{HasGreatNumber, HasLongWord}
use Rattle.cost_formula.specs.FormulaCanonical.{words_of, rank_of}
use Rattle.cost_formula.specs.Formulas.{formula_lexeme}
use Rattle.rule_grammar.specs.Values.{value_lexemes, condition_lexemes}
use Rattle.rule_grammar.specs.Rules.{Definition, OfVersion, OfSelect, OfFormula, OfStar, plan_lexemes}
use Rattle.rule_grammar.specs.RuleLimits.{RuleStatement, count_of_stars, is_star, Beyond, IsBeyond, KeepsLexemeLimits}
use Rattle.star_syntax.specs.Faults.{HasFault}
use Rattle.star_syntax.proofs.Laws.{no_fault, rules_formed, rules_fit}
use Rattle.workload_gen.specs.RulesText.{rules_text}
use Rattle.workload_runs.specs.RulesTree.{formulas, access_root, join_root, both, generator_rules}
use Rattle.workload_runs.proofs.RulesSpelled.{generator_statements, no_text_fault, spells_rules, says_rules}

left : (a b : Bool) → (a && b) ≡ true → a ≡ true
left true b h = refl
left false b h = h

right : (a b : Bool) → (a && b) ≡ true → b ≡ true
right true b h = h
right false b h = cc

-- ---- the limits as tests

abbrev lexeme_fits : Lexeme → Bool
lexeme_fits (Word bytes) = nat_le (length bytes) 64
lexeme_fits (Number n) = nat_le n top
lexeme_fits (Text bytes) = true
lexeme_fits (Symbol bytes) = true

abbrev lexemes_fit : List Lexeme → Bool
lexemes_fit lexemes = list_all lexeme_fits lexemes

abbrev formula_fits : FormulaDef → Bool
formula_fits d = nat_le (length (nodes d.formula)) 256

abbrev alternative_fits : Alternative → Bool
alternative_fits a = nat_le (length a.ranges) 2 && nat_le (nesting a.body) 8

abbrev star_fits : StarDef → Bool
star_fits s = nat_le (length s.params) 8 && nat_le (length s.alternatives) 16 && list_all alternative_fits s.alternatives

-- no statement is of the first two kinds
abbrev definition_fits : Definition → Bool
definition_fits OfVersion = false
definition_fits (OfSelect d) = false
definition_fits (OfFormula d) = formula_fits d
definition_fits (OfStar s) = star_fits s

-- ---- what passes goes beyond none

no_great : (lexemes : List Lexeme) → lexemes_fit lexemes ≡ true → HasGreatNumber lexemes → ⊥
no_great [] h great = great
no_great (Word bytes ∷ rest) h great = no_great rest (right (nat_le (length bytes) 64) _ h) great
no_great (Number n ∷ rest) h (inl great) = omega (arith, leb-true n top (left (nat_le n top) _ h), great)
no_great (Number n ∷ rest) h (inr great) = no_great rest (right (nat_le n top) _ h) great
no_great (Text bytes ∷ rest) h great = no_great rest h great
no_great (Symbol bytes ∷ rest) h great = no_great rest h great

no_long : (lexemes : List Lexeme) → lexemes_fit lexemes ≡ true → HasLongWord lexemes → ⊥
no_long [] h long = long
no_long (Word bytes ∷ rest) h (inl long) = omega (arith, leb-true (length bytes) 64 (left (nat_le (length bytes) 64) _ h), long)
no_long (Word bytes ∷ rest) h (inr long) = no_long rest (right (nat_le (length bytes) 64) _ h) long
no_long (Number n ∷ rest) h long = no_long rest (right (nat_le n top) _ h) long
no_long (Text bytes ∷ rest) h long = no_long rest h long
no_long (Symbol bytes ∷ rest) h long = no_long rest h long

passes : {A : Type 0} (test : A → Bool) (xs : List A) (x : A) → list_all test xs ≡ true → Contains xs x → test x ≡ true
passes test [] x h (k, lt, is) = absurd (omega (arith, lt))
passes test (y ∷ xs) x h (zero, lt, is) = ap (λ z. test z) (sym is) ∙ left (test y) _ h
passes test (y ∷ xs) x h (suc k, lt, is) = passes test xs x (right (test y) _ h) (k, omega (arith, lt), is)

module _ (earlier : List RuleStatement) (few : length earlier < 64) (lexemes : List Lexeme) (words : lexemes_fit lexemes ≡ true) where
  few_stars : count_of_stars earlier < 64
  few_stars = omega (arith, few, count_by-le-length is_star earlier)

  formula_within : (d : FormulaDef) → formula_fits d ≡ true → (what : LimitKind) → Beyond earlier (record { lexemes = lexemes; defines = OfFormula d }) what → ⊥
  formula_within d h limit.Number b = no_great lexemes words b
  formula_within d h limit.Name b = no_long lexemes words b
  formula_within d h limit.File b = b
  formula_within d h limit.Params b = b
  formula_within d h limit.Alternatives b = b
  formula_within d h limit.ForAlls b = b
  formula_within d h limit.Stars b = b
  formula_within d h limit.Depth b = b
  formula_within d h limit.Formula b = omega (arith, leb-true (length (nodes d.formula)) 256 h, b)
  formula_within d h limit.Sites b = b
  formula_within d h limit.Tables b = b
  formula_within d h limit.Columns b = b
  formula_within d h limit.Indexes b = b
  formula_within d h limit.IndexColumns b = b
  formula_within d h limit.Quantifiers b = b
  formula_within d h limit.Predicates b = b
  formula_within d h limit.Select b = b
  formula_within d h limit.OrderBy b = b

  star_within : (s : StarDef) → star_fits s ≡ true → (what : LimitKind) → Beyond earlier (record { lexemes = lexemes; defines = OfStar s }) what → ⊥
  star_within s h limit.Number b = no_great lexemes words b
  star_within s h limit.Name b = no_long lexemes words b
  star_within s h limit.File b = b
  star_within s h limit.Params b =
      omega (arith, leb-true (length s.params) 8 (left (nat_le (length s.params) 8) _ (left (nat_le (length s.params) 8 && nat_le (length s.alternatives) 16) _ h)), b)
  star_within s h limit.Alternatives b =
      omega (arith, leb-true (length s.alternatives) 16 (right (nat_le (length s.params) 8) _ (left (nat_le (length s.params) 8 && nat_le (length s.alternatives) 16) _ h)), b)
  star_within s h limit.ForAlls b =
      let fits = passes alternative_fits s.alternatives b.0 (right (nat_le (length s.params) 8 && nat_le (length s.alternatives) 16) _ h) b.1 in
      omega (arith, leb-true (length (b.0).ranges) 2 (left (nat_le (length (b.0).ranges) 2) _ fits), b.2)
  star_within s h limit.Stars b = omega (arith, few_stars, b)
  star_within s h limit.Depth b =
      let fits = passes alternative_fits s.alternatives b.0 (right (nat_le (length s.params) 8 && nat_le (length s.alternatives) 16) _ h) b.1 in
      omega (arith, leb-true (nesting (b.0).body) 8 (right (nat_le (length (b.0).ranges) 2) _ fits), b.2)
  star_within s h limit.Formula b = b
  star_within s h limit.Sites b = b
  star_within s h limit.Tables b = b
  star_within s h limit.Columns b = b
  star_within s h limit.Indexes b = b
  star_within s h limit.IndexColumns b = b
  star_within s h limit.Quantifiers b = b
  star_within s h limit.Predicates b = b
  star_within s h limit.Select b = b
  star_within s h limit.OrderBy b = b

-- ---- all statements

record Fits (statement : RuleStatement) : Type 0 where
  words : lexemes_fit statement.lexemes ≡ true
  definition : definition_fits statement.defines ≡ true

statement_within : (earlier : List RuleStatement) → length earlier < 64 → (statement : RuleStatement) → Fits statement → IsBeyond earlier statement → ⊥
statement_within earlier few statement fits beyond = go statement.defines fits.definition beyond.1
  where
    go : (d : Definition) → definition_fits d ≡ true → Beyond earlier (record { lexemes = statement.lexemes; defines = d }) beyond.0 → ⊥
    go OfVersion h b = cc
    go (OfSelect d) h b = cc
    go (OfFormula d) h b = formula_within earlier few statement.lexemes fits.words d h beyond.0 b
    go (OfStar s) h b = star_within earlier few statement.lexemes fits.words s h beyond.0 b

none_beyond : (before statements : List RuleStatement) → length before + length statements ≤ 64 → Every Fits statements → NoneFrom IsBeyond before statements
none_beyond before [] few fits = tt
none_beyond before (s ∷ later) few fits =
    let longer : length (before ++ s ∷ []) ≡ length before + 1 = length-append before (s ∷ []) in
    (statement_within before (omega (arith, few)) s fits.0, none_beyond (before ++ s ∷ []) later (omega (arith, few, longer)) fits.1)

-- ---- the statements of the rules

abbrev statement_fits : RuleStatement → Bool
statement_fits s = lexemes_fit s.lexemes && definition_fits s.defines

each_fits : (statements : List RuleStatement) → list_all statement_fits statements ≡ true → Every Fits statements
each_fits [] h = tt
each_fits (s ∷ later) h =
    let own = left (statement_fits s) (list_all statement_fits later) h in
    let rest = right (statement_fits s) (list_all statement_fits later) h in
    (record { words = left (lexemes_fit s.lexemes) (definition_fits s.defines) own; definition = right (lexemes_fit s.lexemes) (definition_fits s.defines) own }, each_fits later rest)

all_fit : list_all statement_fits generator_statements ≡ true
unfolding formulas access_root join_root both nodes nesting words_of rank_of formula_lexeme value_lexemes condition_lexemes plan_lexemes
all_fit = refl

few_statements : length generator_statements ≡ 25
unfolding formulas
few_statements = refl

within : NoneHas IsBeyond generator_statements
within = none_beyond [] generator_statements (omega (arith, few_statements)) (each_fits generator_statements all_fit)

pub no_rules_fault : (fault : RuleFault) → HasFault rules_text fault → ⊥
no_rules_fault = no_fault rules_text generator_statements no_text_fault says_rules within

pub formed_rules : WellFormedRules generator_rules
formed_rules = rules_formed rules_text generator_rules generator_statements spells_rules says_rules within

pub fitting_rules : KeepsLexemeLimits generator_rules
fitting_rules = rules_fit rules_text generator_rules generator_statements spells_rules says_rules within
