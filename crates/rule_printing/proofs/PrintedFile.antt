-- The statements of a rule file, printed in order.
use Rattle.std.proofs.Common.{◌≡◌, ℕ, suc, ◌+◌, ◌<◌, ◌≤◌, List, [], ◌∷◌, map, drop, get_or, length, refl, sym, ap, ◌∙◌, add-one, drop-cons}
use Rattle.std.proofs.lemmas.List.{drop_all}
use Rattle.star_model.specs.declared.rules.RuleFile.{RuleFile}
use Rattle.spelling.specs.Lexemes.{Lexeme}
use Rattle.rule_grammar.specs.Rules.{version_statements, definition_lexemes, definitions, rule_lexemes, canonical}
use Rattle.spelling.specs.Writing.{Written, whole, put, puts, ended, lines}
use Rattle.spelling.proofs.Laws.{puts-more, lines-more, lines-none, lines-append, lines-layout}
use Rattle.rule_printing.specs.declared.print.Statement.{Statement}
use Rattle.rule_printing.specs.Printing.{definition_of, statement_lexemes}

-- the statements from a place on complete the whole
abbrev pub LinesLeft : {A : Type 0} → (A → List Lexeme) → Written → List A → ℕ → Written → Type 0
LinesLeft spell w statements place all = lines w (map spell (drop place statements)) ≡ all

pub line_next : {A : Type 0} (spell : A → List Lexeme) (w u v all : Written) (statements : List A) (place : ℕ) (x : A) → place < length statements → LinesLeft spell w statements place all
    → x ≡ get_or statements place x → u ≡ puts w (spell x) → v ≡ ended u → LinesLeft spell v statements (place + 1) all
line_next spell w u v all statements place x below left at is ends =
    let later = map spell (drop (place + 1) statements) in
    let split : drop place statements ≡ x ∷ drop (place + 1) statements = rw (add-one, drop-cons statements place x) (ap (λ y. y ∷ drop (suc place) statements) (sym at)) in
    ap (λ z. lines z later) (ends ∙ ap ended is) ∙ sym (lines-more w (spell x) later) ∙ ap (λ l. lines w (map spell l)) (sym split) ∙ left

pub lines_done : {A : Type 0} (spell : A → List Lexeme) (w all : Written) (statements : List A) (place : ℕ) → length statements ≤ place → LinesLeft spell w statements place all → w ≡ all
lines_done spell w all statements place above left = sym (ap (λ l. lines w (map spell l)) (drop_all place statements above) ∙ lines-none w) ∙ left

-- three lexemes before others
pub puts_three : (w : Written) (a b c : Lexeme) (later : List Lexeme) → puts w (a ∷ b ∷ c ∷ later) ≡ puts (put (put (put w a) b) c) later
puts_three w a b c later = puts-more w a (b ∷ c ∷ later) ∙ puts-more (put w a) b (c ∷ later) ∙ puts-more (put (put w a) b) c later

lexemes_are : (statements : List Statement) → map statement_lexemes statements ≡ map definition_lexemes (map definition_of statements)
lexemes_are [] = refl
lexemes_are (s ∷ statements) = ap (λ l. statement_lexemes s ∷ l) (lexemes_are statements)

-- the whole text
pub text_is : (rules : RuleFile) (statements : List Statement) (w : Written) → map definition_of statements ≡ definitions rules.selects rules.formulas rules.stars
    → w ≡ lines (lines (whole []) (version_statements rules.version)) (map statement_lexemes statements) → w.text ≡ canonical rules
text_is rules statements w in_order are =
    let said = version_statements rules.version in
    ap (λ (u : Written). u.text) (
    are ∙ ap (lines (lines (whole []) said)) (lexemes_are statements ∙ ap (map definition_lexemes) in_order)
    ∙ sym (lines-append (whole []) said (map definition_lexemes (definitions rules.selects rules.formulas rules.stars))) ∙ lines-layout [] (rule_lexemes rules))
