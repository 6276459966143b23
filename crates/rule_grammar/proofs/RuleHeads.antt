-- The words that values, requirements, ranges and conditions of the rule language begin with.
use Rattle.std.proofs.Common.{◌≡◌, ℕ, Bool, true, false, if◌then◌else◌, List, [], ◌∷◌, ◌++◌, codes, refl, sym, ap, ◌∙◌}
use Rattle.std.proofs.lemmas.Bool.{and_parts}
use Rattle.std.specs.List.{list_all}
use Rattle.star_model.specs.declared.rules.ValueExpr.{ValueExpr}
use Rattle.star_model.specs.declared.rules.Condition.{Condition}
use Rattle.star_model.specs.Vectors.{same_numbers}
use Rattle.rule_grammar.specs.declared.words.ValueHead.{ValueHead}
use Rattle.rule_grammar.specs.declared.words.ValueHead.TheVariants as head
use Rattle.rule_grammar.specs.declared.words.ConstantHead.{ConstantHead}
use Rattle.rule_grammar.specs.declared.words.ConstantHead.TheVariants as constant
use Rattle.rule_grammar.specs.declared.words.UnaryHead.{UnaryHead}
use Rattle.rule_grammar.specs.declared.words.UnaryHead.TheVariants as unary
use Rattle.rule_grammar.specs.declared.words.BinaryHead.{BinaryHead}
use Rattle.rule_grammar.specs.declared.words.BinaryHead.TheVariants as binary
use Rattle.rule_grammar.specs.declared.words.RequirementHead.{RequirementHead}
use Rattle.rule_grammar.specs.declared.words.RequirementHead.TheVariants as requirement
use Rattle.rule_grammar.specs.declared.words.ValuedHead.{ValuedHead}
use Rattle.rule_grammar.specs.declared.words.ValuedHead.TheVariants as valued
use Rattle.rule_grammar.specs.declared.words.RangeHead.{RangeHead}
use Rattle.rule_grammar.specs.declared.words.RangeHead.TheVariants as ranged
use Rattle.rule_grammar.specs.declared.words.ConditionHead.{ConditionHead}
use Rattle.rule_grammar.specs.declared.words.ConditionHead.TheVariants as conditional
use Rattle.rule_grammar.specs.declared.words.UnaryTest.{UnaryTest}
use Rattle.rule_grammar.specs.declared.words.UnaryTest.TheVariants as unary_test
use Rattle.rule_grammar.specs.declared.words.BinaryTest.{BinaryTest}
use Rattle.rule_grammar.specs.declared.words.BinaryTest.TheVariants as binary_test
use Rattle.rule_grammar.specs.declared.words.Junction.{Junction}
use Rattle.rule_grammar.specs.declared.words.Junction.TheVariants as junction
use Rattle.spelling.specs.Lexemes.{Word, call}
use Rattle.spelling.specs.Names.{found_in}
use Rattle.star_model.specs.WellFormedRules.{Scope, IsName, IsValue, IsCondition}
use Rattle.rule_grammar.specs.Values.{in_squares, value_lexemes, condition_lexemes}
use Rattle.rule_grammar.specs.ValueReading.{value_heads, value_head, requirement_heads, requirement_head, range_heads, range_head, constant_of, unary_of, binary_of, valued_of}
use Rattle.rule_grammar.specs.ConditionReading as test
use Rattle.rule_grammar.specs.ConditionReading.{condition_heads, condition_head}
use Rattle.rule_grammar.proofs.FreeNames.{not_found}
use Rattle.star_model.proofs.Laws.{same_are}

-- a word that stands for something is the one that spells it
module _ {A : Type 0} (other : A) (spell : A → List ℕ) where
  abbrev spelled : List ℕ × A → Bool
  spelled row = same_numbers row.0 (spell row.1)

  found_word : (rows : List (List ℕ × A)) → list_all spelled rows ≡ true → (word : List ℕ) (x : A) → found_in other rows word ≡ x → (other ≡ x → ⊥) → word ≡ spell x
  found_word [] all word x found else_ = absurd (else_ found)
  found_word (row ∷ rows) all word x found else_ =
      let both = and_parts (spelled row) (list_all spelled rows) all in
      at (same_numbers row.0 word) refl (same_are row.0 (spell row.1) both.0) found (λ later. found_word rows both.1 word x later else_)
    where
      at : (b : Bool) → same_numbers row.0 word ≡ b → row.0 ≡ spell row.1 → (if b then row.1 else found_in other rows word) ≡ x → (found_in other rows word ≡ x → word ≡ spell x) → word ≡ spell x
      at true same is found later = sym (same_are row.0 word same) ∙ is ∙ ap spell found
      at false same is found later = later found

-- ---- values

unfoldable pub constant_word : ConstantHead → List ℕ
constant_word constant.All = codes "all"
constant_word constant.NoPreds = codes "none"
constant_word constant.NoCols = codes "nocols"
constant_word constant.OrderBy = codes "orderby"
constant_word constant.QuerySite = codes "querysite"

unfoldable pub unary_word : UnaryHead → List ℕ
unary_word unary.Tables = codes "tables"
unary_word unary.Inside = codes "inside"
unary_word unary.Crossing = codes "crossing"
unary_word unary.Equalities = codes "equalities"
unary_word unary.Home = codes "home"

unfoldable pub binary_word : BinaryHead → List ℕ
binary_word binary.Between = codes "between"
binary_word binary.Columns = codes "columns"
binary_word binary.Keys = codes "keys"
binary_word binary.Union = codes "union"
binary_word binary.Minus = codes "minus"
binary_word binary.Meet = codes "meet"

unfoldable pub value_word : ValueHead → List ℕ
value_word (head.Constant c) = constant_word c
value_word (head.Unary f) = unary_word f
value_word (head.Binary f) = binary_word f
value_word head.Indexable = codes "indexable"
value_word head.Other = []

pub head_of_word : (word : List ℕ) (h : ValueHead) → value_head word ≡ h → (head.Other ≡ h → ⊥) → word ≡ value_word h
unfolding value_head value_word constant_word unary_word binary_word
head_of_word word h found else_ =
    found_word head.Other value_word value_heads refl word h found else_

pub constant_head : (c : ConstantHead) → value_head (constant_word c) ≡ head.Constant c
unfolding value_head constant_word
constant_head constant.All = refl
constant_head constant.NoPreds = refl
constant_head constant.NoCols = refl
constant_head constant.OrderBy = refl
constant_head constant.QuerySite = refl

pub unary_head : (f : UnaryHead) → value_head (unary_word f) ≡ head.Unary f
unfolding value_head unary_word
unary_head unary.Tables = refl
unary_head unary.Inside = refl
unary_head unary.Crossing = refl
unary_head unary.Equalities = refl
unary_head unary.Home = refl

pub binary_head : (f : BinaryHead) → value_head (binary_word f) ≡ head.Binary f
unfolding value_head binary_word
binary_head binary.Between = refl
binary_head binary.Columns = refl
binary_head binary.Keys = refl
binary_head binary.Union = refl
binary_head binary.Minus = refl
binary_head binary.Meet = refl

pub name_head : (version : ℕ) (name : List ℕ) → IsName version name → value_head name ≡ head.Other
unfolding value_head
name_head version name free = not_found version head.Other value_heads name refl free

pub constant_lexemes : (c : ConstantHead) → value_lexemes (constant_of c) ≡ Word (constant_word c) ∷ []
unfolding value_lexemes constant_word
constant_lexemes constant.All = refl
constant_lexemes constant.NoPreds = refl
constant_lexemes constant.NoCols = refl
constant_lexemes constant.OrderBy = refl
constant_lexemes constant.QuerySite = refl

pub unary_lexemes : (f : UnaryHead) (v : ValueExpr) → value_lexemes (unary_of f v) ≡ call (unary_word f) (value_lexemes v ∷ [])
unfolding value_lexemes unary_word
unary_lexemes unary.Tables v = refl
unary_lexemes unary.Inside v = refl
unary_lexemes unary.Crossing v = refl
unary_lexemes unary.Equalities v = refl
unary_lexemes unary.Home v = refl

pub binary_lexemes : (f : BinaryHead) (v w : ValueExpr) → value_lexemes (binary_of f v w) ≡ call (binary_word f) (value_lexemes v ∷ value_lexemes w ∷ [])
unfolding value_lexemes binary_word
binary_lexemes binary.Between v w = refl
binary_lexemes binary.Columns v w = refl
binary_lexemes binary.Keys v w = refl
binary_lexemes binary.Union v w = refl
binary_lexemes binary.Minus v w = refl
binary_lexemes binary.Meet v w = refl

pub constant_is_value : (scope : Scope) (c : ConstantHead) → IsValue scope (constant_of c)
unfolding IsValue
constant_is_value scope constant.All = tt
constant_is_value scope constant.NoPreds = tt
constant_is_value scope constant.NoCols = tt
constant_is_value scope constant.OrderBy = tt
constant_is_value scope constant.QuerySite = tt

pub unary_is_value : (scope : Scope) (f : UnaryHead) (v : ValueExpr) → IsValue scope v → IsValue scope (unary_of f v)
unfolding IsValue
unary_is_value scope unary.Tables v h = h
unary_is_value scope unary.Inside v h = h
unary_is_value scope unary.Crossing v h = h
unary_is_value scope unary.Equalities v h = h
unary_is_value scope unary.Home v h = h

pub binary_is_value : (scope : Scope) (f : BinaryHead) (v w : ValueExpr) → IsValue scope v → IsValue scope w → IsValue scope (binary_of f v w)
unfolding IsValue
binary_is_value scope binary.Between v w h k = (h, k)
binary_is_value scope binary.Columns v w h k = (h, k)
binary_is_value scope binary.Keys v w h k = (h, k)
binary_is_value scope binary.Union v w h k = (h, k)
binary_is_value scope binary.Minus v w h k = (h, k)
binary_is_value scope binary.Meet v w h k = (h, k)

-- ---- requirements, ranges and conditions

unfoldable pub valued_word : ValuedHead → List ℕ
valued_word valued.Order = codes "order"
valued_word valued.Site = codes "site"
valued_word valued.Path = codes "path"

unfoldable pub requirement_word : RequirementHead → List ℕ
requirement_word (requirement.Valued r) = valued_word r
requirement_word requirement.Temp = codes "temp"
requirement_word requirement.Other = []

pub valued_head : (r : ValuedHead) → requirement_head (valued_word r) ≡ requirement.Valued r
unfolding requirement_head valued_word
valued_head valued.Order = refl
valued_head valued.Site = refl
valued_head valued.Path = refl

pub valued_lexemes : (r : ValuedHead) (t v : ValueExpr) → value_lexemes (valued_of r t v) ≡ value_lexemes t ++ in_squares (Word (valued_word r) ∷ value_lexemes v)
unfolding value_lexemes valued_word
valued_lexemes valued.Order t v = refl
valued_lexemes valued.Site t v = refl
valued_lexemes valued.Path t v = refl

pub valued_is_value : (scope : Scope) (r : ValuedHead) (t v : ValueExpr) → IsValue scope t → IsValue scope v → IsValue scope (valued_of r t v)
unfolding IsValue
valued_is_value scope valued.Order t v h k = (h, k)
valued_is_value scope valued.Site t v h k = (h, k)
valued_is_value scope valued.Path t v h k = (h, k)

pub requirement_of_word : (word : List ℕ) (h : RequirementHead) → requirement_head word ≡ h → (requirement.Other ≡ h → ⊥) → word ≡ requirement_word h
unfolding requirement_head requirement_word valued_word
requirement_of_word word h found else_ = found_word requirement.Other requirement_word requirement_heads refl word h found else_

unfoldable pub range_word : RangeHead → List ℕ
range_word ranged.Indexes = codes "indexes"
range_word ranged.Sites = codes "sites"
range_word ranged.Members = codes "members"
range_word ranged.Each = codes "each"
range_word ranged.Other = []

pub range_of_word : (word : List ℕ) (h : RangeHead) → range_head word ≡ h → (ranged.Other ≡ h → ⊥) → word ≡ range_word h
unfolding range_head range_word
range_of_word word h found else_ = found_word ranged.Other range_word range_heads refl word h found else_

unfoldable pub unary_test_word : UnaryTest → List ℕ
unary_test_word unary_test.Empty = codes "empty"
unary_test_word unary_test.Single = codes "single"

unfoldable pub binary_test_word : BinaryTest → List ℕ
binary_test_word binary_test.Same = codes "same"
binary_test_word binary_test.Within = codes "within"
binary_test_word binary_test.Begins = codes "begins"

unfoldable pub junction_word : Junction → List ℕ
junction_word junction.And = codes "and"
junction_word junction.Or = codes "or"

unfoldable pub condition_word : ConditionHead → List ℕ
condition_word (conditional.Unary f) = unary_test_word f
condition_word (conditional.Binary f) = binary_test_word f
condition_word conditional.Not = codes "not"
condition_word (conditional.Junction f) = junction_word f
condition_word conditional.Other = []

pub unary_test_head : (f : UnaryTest) → condition_head (unary_test_word f) ≡ conditional.Unary f
unfolding condition_head unary_test_word
unary_test_head unary_test.Empty = refl
unary_test_head unary_test.Single = refl

pub binary_test_head : (f : BinaryTest) → condition_head (binary_test_word f) ≡ conditional.Binary f
unfolding condition_head binary_test_word
binary_test_head binary_test.Same = refl
binary_test_head binary_test.Within = refl
binary_test_head binary_test.Begins = refl

pub junction_head : (f : Junction) → condition_head (junction_word f) ≡ conditional.Junction f
unfolding condition_head junction_word
junction_head junction.And = refl
junction_head junction.Or = refl

pub unary_test_lexemes : (f : UnaryTest) (v : ValueExpr) → condition_lexemes (test.unary_of f v) ≡ call (unary_test_word f) (value_lexemes v ∷ [])
unfolding condition_lexemes unary_test_word
unary_test_lexemes unary_test.Empty v = refl
unary_test_lexemes unary_test.Single v = refl

pub binary_test_lexemes : (f : BinaryTest) (v w : ValueExpr) → condition_lexemes (test.binary_of f v w) ≡ call (binary_test_word f) (value_lexemes v ∷ value_lexemes w ∷ [])
unfolding condition_lexemes binary_test_word
binary_test_lexemes binary_test.Same v w = refl
binary_test_lexemes binary_test.Within v w = refl
binary_test_lexemes binary_test.Begins v w = refl

pub junction_lexemes : (f : Junction) (c d : Condition) → condition_lexemes (test.junction_of f c d) ≡ call (junction_word f) (condition_lexemes c ∷ condition_lexemes d ∷ [])
unfolding condition_lexemes junction_word
junction_lexemes junction.And c d = refl
junction_lexemes junction.Or c d = refl

pub unary_test_is_condition : (scope : Scope) (f : UnaryTest) (v : ValueExpr) → IsValue scope v → IsCondition scope (test.unary_of f v)
unfolding IsCondition
unary_test_is_condition scope unary_test.Empty v h = h
unary_test_is_condition scope unary_test.Single v h = h

pub binary_test_is_condition : (scope : Scope) (f : BinaryTest) (v w : ValueExpr) → IsValue scope v → IsValue scope w → IsCondition scope (test.binary_of f v w)
unfolding IsCondition
binary_test_is_condition scope binary_test.Same v w h k = (h, k)
binary_test_is_condition scope binary_test.Within v w h k = (h, k)
binary_test_is_condition scope binary_test.Begins v w h k = (h, k)

pub junction_is_condition : (scope : Scope) (f : Junction) (c d : Condition) → IsCondition scope c → IsCondition scope d → IsCondition scope (test.junction_of f c d)
unfolding IsCondition
junction_is_condition scope junction.And c d h k = (h, k)
junction_is_condition scope junction.Or c d h k = (h, k)

pub condition_of_word : (word : List ℕ) (h : ConditionHead) → condition_head word ≡ h → (conditional.Other ≡ h → ⊥) → word ≡ condition_word h
unfolding condition_head condition_word unary_test_word binary_test_word junction_word
condition_of_word word h found else_ = found_word conditional.Other condition_word condition_heads refl word h found else_
