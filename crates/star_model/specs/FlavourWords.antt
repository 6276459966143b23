-- How operators, costs, kinds and classes of predicates are written in rule files, derivations and messages.
use Rattle.std.specs.Prelude.{ℕ, Bool, true, nat_eq, List, [], ◌∷◌, Option, Some, None, option_and_then, if◌then◌else◌, codes}
use Rattle.std.specs.List.{find}
use Rattle.star_model.specs.declared.rules.Flavour.{Flavour}
use Rattle.star_model.specs.declared.rules.Flavour.TheVariants as flavour
use Rattle.star_model.specs.declared.rules.Which.{Which}
use Rattle.star_model.specs.declared.rules.Which.TheVariants as which
use Rattle.star_model.specs.declared.rules.Kind.{Kind}
use Rattle.star_model.specs.declared.rules.Kind.TheVariants as kind
use Rattle.star_model.specs.declared.rules.Class.{Class}
use Rattle.star_model.specs.declared.rules.Class.TheVariants as class
use Rattle.star_model.specs.Costs.{flavours}
use Rattle.star_model.specs.Vectors.{same_numbers}

abbrev pub flavour_word : Flavour → List ℕ
flavour_word flavour.AccessHeap = codes "ACCESS_HEAP"
flavour_word flavour.AccessIndex = codes "ACCESS_INDEX"
flavour_word flavour.Get = codes "GET"
flavour_word flavour.Filter = codes "FILTER"
flavour_word flavour.Sort = codes "SORT"
flavour_word flavour.Store = codes "STORE"
flavour_word flavour.Ship = codes "SHIP"
flavour_word flavour.Probe = codes "PROBE"
flavour_word flavour.JoinNl = codes "JOIN_NL"
flavour_word flavour.JoinMerge = codes "JOIN_MERGE"
flavour_word flavour.JoinHash = codes "JOIN_HASH"
flavour_word flavour.Intersect = codes "INTERSECT"

abbrev pub which_word : Which → List ℕ
which_word which.Cost = codes "cost"
which_word which.Rescan = codes "rescan"

abbrev pub kind_word : Kind → List ℕ
kind_word kind.Stream = codes "stream"
kind_word kind.Quants = codes "quants"
kind_word kind.Preds = codes "preds"
kind_word kind.Cols = codes "cols"
kind_word kind.Site = codes "site"
kind_word kind.Index = codes "index"

-- the operator that is so called
unfoldable pub flavour_of : List ℕ → Option Flavour
flavour_of word = find (λ f. same_numbers (flavour_word f) word) flavours

-- whether rule files of this version have the operator
abbrev pub is_flavour_of : ℕ → Flavour → Bool
is_flavour_of version flavour.Intersect = nat_eq version 2
is_flavour_of version _ = true

-- the operator that is so called in rule files of this version
unfoldable pub flavour_in : ℕ → List ℕ → Option Flavour
flavour_in version word = option_and_then (λ f. if is_flavour_of version f then Some f else None) (flavour_of word)

abbrev pub all_kinds : List Kind
all_kinds = kind.Stream ∷ kind.Quants ∷ kind.Preds ∷ kind.Cols ∷ kind.Site ∷ kind.Index ∷ []

-- the kind that is so called
unfoldable pub kind_of_word : List ℕ → Option Kind
kind_of_word word = find (λ k. same_numbers (kind_word k) word) all_kinds

abbrev pub class_word : Class → List ℕ
class_word class.EqConst = codes "EQ_CONST"
class_word class.EqColumn = codes "EQ_COLUMN"
class_word class.Ne = codes "NE"
class_word class.Less = codes "LESS"

abbrev pub all_classes : List Class
all_classes = class.EqConst ∷ class.EqColumn ∷ class.Ne ∷ class.Less ∷ []

-- the class that is so called
unfoldable pub class_of_word : List ℕ → Option Class
class_of_word word = find (λ c. same_numbers (class_word c) word) all_classes
