-- Which text spells a derivation: one statement a node, in preorder.
use Rattle.std.specs.Prelude.{◌≡◌, refl, ℕ, ◌+◌, ◌^◌, ◌<◌, ◌≤◌, Bool, true, false, List, [], ◌∷◌, ◌++◌, length, map, Option, Some, None, codes}
use denote.Hole.Carrier.{hidden}
use Rattle.star_model.specs.declared.plans.GlueOp.{GlueOp}
use Rattle.star_model.specs.declared.plans.GlueOp.TheVariants as glue
use Rattle.star_model.specs.declared.plans.Goal as model
use Rattle.star_model.specs.declared.rules.Flavour.{Flavour}
use Rattle.star_model.specs.declared.derivations.Deriv.{Deriv}
use Rattle.star_model.specs.declared.derivations.Deriv.TheBlock.{hidden-the_row-Deriv-0}
use Rattle.star_model.specs.declared.derivations.Deriv.TheVariants as made
use Rattle.star_model.specs.DerivCases as d
use Rattle.sb_text.specs.Forms.{IsWord}
use Rattle.star_model.specs.Sets.{members}
use Rattle.spelling.specs.Lexemes.{Lexeme, Word, Number, IsStatements, left_brace, right_brace, comma, joined_by}
use Rattle.star_model.specs.Every.{Every}
use Rattle.spelling.specs.Layout.{layout}
use Rattle.star_model.specs.FlavourWords.{flavour_word}
use Rattle.star_model.specs.Kinds.{inputs_of}

-- what one statement says of its node
pub data Step : Type 0 where
  Glue : List GlueOp → Step
  Goal : model.Goal → Option (ℕ × ℕ) → Step
  Reference : List ℕ → ℕ → List ℕ → Step
  Operator : Flavour → Step

abbrev pub glue_word : GlueOp → List ℕ
glue_word glue.Sort = codes "sort"
glue_word glue.Ship = codes "ship"
glue_word glue.Store = codes "store"

-- a set between braces, its members counted from 1
abbrev pub set_lexemes : ℕ → List Lexeme
set_lexemes s = left_brace ∷ (joined_by comma (map (λ n. Number (n + 1) ∷ []) (members s)) ++ right_brace ∷ [])

abbrev pub split_lexemes : Option (ℕ × ℕ) → List Lexeme
split_lexemes None = []
split_lexemes (Some parts) = Word (codes "split") ∷ (set_lexemes parts.0 ++ set_lexemes parts.1)

abbrev pub statement_of : Step → List Lexeme
statement_of (Glue chain) = Word (codes "glue") ∷ map (λ o. Word (glue_word o)) chain
statement_of (Goal goal split) =
    Word (codes "goal") ∷ (set_lexemes goal.tables ++ Word (codes "pushed") ∷ (set_lexemes goal.pushed ++ split_lexemes split))
statement_of (Reference star alternative values) = Word (codes "ref") ∷ Word star ∷ Number alternative ∷ map Number values
statement_of (Operator f) = Word (flavour_word f) ∷ []

-- a set of numbers from 0 to 31
abbrev pub IsMask : ℕ → Type 0
IsMask s = s < 2 ^ 32

-- a number of an alternative or of a for-all value
abbrev pub IsCounted : ℕ → Type 0
IsCounted n = (1 ≤ n) × (n ≤ 65535)

abbrev pub AreMasks : Option (ℕ × ℕ) → Type 0
AreMasks None = Unit {0}
AreMasks (Some parts) = IsMask parts.0 × IsMask parts.1

-- what a statement can say
abbrev pub IsStep : Step → Type 0
IsStep (Glue chain) = length chain ≤ 3
IsStep (Goal goal split) = IsMask goal.tables × IsMask goal.pushed × AreMasks split
IsStep (Reference star alternative values) = IsCounted alternative × (length values ≤ 2) × Every IsCounted values
IsStep (Operator f) = Unit {0}

-- a STAR is named by a word
abbrev pub NamesWord : Step → Type 0
NamesWord (Reference star alternative values) = IsWord star
NamesWord _ = Unit {0}

-- the nodes, in preorder
unfoldable pub steps : Deriv → List Step
steps (d.Glue chain goal) = Glue chain ∷ steps goal
steps (d.Goal goal split body) = Goal goal split ∷ steps body
steps (d.Reference star alternative values body) = Reference star alternative values ∷ steps body
steps (made.Leaf f) = Operator f ∷ []
steps (d.Unary f input) = Operator f ∷ steps input
steps (d.Binary f left right) = Operator f ∷ (steps left ++ steps right)

abbrev pub statements_of : Deriv → List (List Lexeme)
statements_of tree = map statement_of (steps tree)

abbrev pub canonical : Deriv → List ℕ
canonical tree = layout (statements_of tree)

abbrev pub is_glue : Step → Bool
is_glue (Glue chain) = true
is_glue _ = false

abbrev pub is_goal : Step → Bool
is_goal (Goal goal split) = true
is_goal _ = false

abbrev pub BeginsGlue : List Step → Type 0
BeginsGlue [] = ⊥
BeginsGlue (step ∷ later) = is_glue step ≡ true

-- A goal stands exactly behind a Glue, thus first where one is due.
abbrev pub InOrder : Bool → List Step → Type 0
InOrder due [] = Unit {0}
InOrder due (step ∷ later) = (is_goal step ≡ due) × InOrder (is_glue step) later

-- Each operator has as many inputs as it takes plans.
unfoldable pub HasInputs : Deriv → Type 0
HasInputs (d.Glue chain goal) = HasInputs goal
HasInputs (d.Goal goal split body) = HasInputs body
HasInputs (d.Reference star alternative values body) = HasInputs body
HasInputs (made.Leaf f) = inputs_of f ≡ 0
HasInputs (d.Unary f input) = (inputs_of f ≡ 1) × HasInputs input
HasInputs (d.Binary f left right) = (inputs_of f ≡ 2) × HasInputs left × HasInputs right

-- a derivation that a text can spell
pub record IsWritable (tree : Deriv) : Type 0 where
  pub each : Every IsStep (steps tree)
  pub begins : BeginsGlue (steps tree)
  pub order : InOrder false (steps tree)
  pub inputs : HasInputs tree

pub record SpellsDerivation (text : List ℕ) (tree : Deriv) : Type 0 where
  pub statements : IsStatements text (statements_of tree)
  pub writable : IsWritable tree

-- ---- what code makes: a lemma for each case, for proofs about code

pub steps-Glue : (chain : List GlueOp) (goal : Deriv) → steps (made.Glue chain goal) ≡ Glue chain ∷ steps goal
unfolding steps hidden-the_row-Deriv-0 hidden
steps-Glue chain goal = refl

pub steps-Goal : (goal : model.Goal) (split : Option (ℕ × ℕ)) (body : Deriv) → steps (made.Goal goal split body) ≡ Goal goal split ∷ steps body
unfolding steps hidden-the_row-Deriv-0 hidden
steps-Goal goal split body = refl

pub steps-Reference : (star : List ℕ) (alternative : ℕ) (values : List ℕ) (body : Deriv) → steps (made.Reference star alternative values body) ≡ Reference star alternative values ∷ steps body
unfolding steps hidden-the_row-Deriv-0 hidden
steps-Reference star alternative values body = refl

pub steps-Leaf : (f : Flavour) → steps (made.Leaf f) ≡ Operator f ∷ []
unfolding steps
steps-Leaf f = refl

pub steps-Unary : (f : Flavour) (input : Deriv) → steps (made.Unary f input) ≡ Operator f ∷ steps input
unfolding steps hidden-the_row-Deriv-0 hidden
steps-Unary f input = refl

pub steps-Binary : (f : Flavour) (left right : Deriv) → steps (made.Binary f left right) ≡ Operator f ∷ (steps left ++ steps right)
unfolding steps hidden-the_row-Deriv-0 hidden
steps-Binary f left right = refl

pub ruleset steps_cases = (steps-Glue, steps-Goal, steps-Reference, steps-Leaf, steps-Unary, steps-Binary)
