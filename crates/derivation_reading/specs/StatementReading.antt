-- How a statement of a derivation is read from the front of its lexemes.
use Rattle.std.specs.Prelude.{ℕ, zero, suc, ◌+◌, ◌-◌, ◌&&◌, nat_lt, List, [], ◌∷◌, ◌++◌, Option, Some, None, option_map, codes, if◌then◌else◌}
use Rattle.star_model.specs.Sets.{single, union}
use Rattle.star_model.specs.Vectors.{same_numbers}
use Rattle.star_model.specs.declared.plans.GlueOp.{GlueOp}
use Rattle.star_model.specs.declared.plans.GlueOp.TheVariants as glue
use Rattle.spelling.specs.Reading.{Reader, ◌>>=◌, ◌>>◌, pure, given, the_word, the_symbol, a_word, a_number, either}
use Rattle.star_model.specs.FlavourWords.{flavour_of}
use Rattle.derivation_reading.specs.Derivations.{Step, Glue, Goal, Reference, Operator}

-- ---- items up to a count

module _ {A B : Type 0} (head : Reader A) (item : A → Option B) where
  -- behind those that are done, so many more at most
  unfoldable pub up_to : ℕ → List B → Reader (List B)
  up_to zero done lexemes = pure done lexemes
  up_to (suc n) done lexemes = either head (λ x. given (item x) >>= λ y. up_to n (done ++ y ∷ [])) (pure done) lexemes

-- the operator of Glue that is so called
abbrev pub glue_operator : List ℕ → Option GlueOp
glue_operator word =
    if same_numbers word (codes "sort") then Some glue.Sort
    else if same_numbers word (codes "ship") then Some glue.Ship
    else if same_numbers word (codes "store") then Some glue.Store
    else None

unfoldable pub chain_at : Reader (List GlueOp)
chain_at = up_to a_word glue_operator 3 []

-- the number, where it is one of an alternative or of a for-all value
abbrev pub counted : ℕ → Option ℕ
counted n = if nat_lt 0 n && nat_lt n 65536 then Some n else None

unfoldable pub counted_at : Reader ℕ
counted_at = a_number >>= λ n. given (counted n)

unfoldable pub values_at : Reader (List ℕ)
values_at = up_to a_number counted 2 []

-- ---- sets

-- the member that a number stands for, counted from 1, where it isn't below the least that may come
abbrev pub member_of : ℕ → ℕ → Option ℕ
member_of least n = if nat_lt least n && nat_lt n 33 then Some (n - 1) else None

-- the set with the members that come up to the closing brace, of which there are so many at most and one at least
unfoldable pub members_behind : ℕ → ℕ → ℕ → Reader ℕ
members_behind zero least set lexemes = None
members_behind (suc n) least set lexemes =
    (a_number >>= λ m. given (member_of least m) >>= λ k.
    either (the_symbol (codes "}")) (λ _. pure (union set (single k))) (the_symbol (codes ",") >> members_behind n (k + 1) (union set (single k)))) lexemes

unfoldable pub set_at : Reader ℕ
set_at = the_symbol (codes "{") >> either (the_symbol (codes "}")) (λ _. pure 0) (members_behind 32 0 0)

-- ---- statements

unfoldable pub split_at : Reader (Option (ℕ × ℕ))
split_at = either (the_word (codes "split")) (λ _. set_at >>= λ left. set_at >>= λ right. pure (Some (left, right))) (pure None)

unfoldable pub goal_at : Reader Step
goal_at = do
  tables ← set_at
  the_word (codes "pushed")
  pushed ← set_at
  split ← split_at
  pure (Goal (record { tables = tables; pushed = pushed }) split)

unfoldable pub reference_at : Reader Step
reference_at = do
  star ← a_word
  alternative ← counted_at
  values ← values_at
  pure (Reference star alternative values)

-- what follows the first word of a statement
abbrev pub behind : List ℕ → Reader Step
behind word =
    if same_numbers word (codes "glue") then chain_at >>= (λ chain. pure (Glue chain))
    else if same_numbers word (codes "goal") then goal_at
    else if same_numbers word (codes "ref") then reference_at
    else given (option_map Operator (flavour_of word))

unfoldable pub node_at : Reader Step
node_at = do
  word ← a_word
  behind word
