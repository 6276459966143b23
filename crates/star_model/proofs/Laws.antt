-- The laws that other crates may cite. Each is the clause of a function of the module `theorems`.
use Rattle.std.proofs.Common.{◌≡◌, ℕ, true, sym, ◌↔◌}
use Rattle.std.specs.Prelude.{Some}
pub use Rattle.star_model.proofs.NumberLaws.{sum-cut, difference-cut, product-cut, quotient-cut, sum-le, difference-le, product-le, quotient-le, sum-exact, difference-exact, product-exact, quotient-exact, quotient_enough, quotient_least}
pub use Rattle.star_model.proofs.SetLaws.{has-zero, has-union, has-meet, has-minus, has-single, has-set_of, has-above, same_set, union-lt, meet-lt, minus-lt, single-lt, set_of-lt, within-members}
pub use Rattle.star_model.proofs.ColumnLaws.{has_column-empty, has_column-with, has_column-union, has_column-where, within-columns, same_columns, empty_columns, union-where, with_column-where}
pub use Rattle.star_model.proofs.MembersBelow.{kept_below, members_below}
pub use Rattle.star_model.proofs.FlavourLaws.{same_flavour_word}
pub use Rattle.star_model.proofs.SplitLaws.{split_once, split_only}
pub use Rattle.star_model.proofs.SizeLaws.{part_is_smaller, left_is_smaller, right_is_smaller}
pub use Rattle.star_model.proofs.MonotoneLaws.{monotone}
pub use Rattle.star_model.proofs.OffendLaws.{passes_where}
pub use Rattle.star_model.proofs.BetterLaws.{same_are, same_self, better_reflexive, better_transitive, better_antisymmetric, better_costs, better_meets}
pub use Rattle.star_model.proofs.ExchangeLaws.{stepped, operators_exchange}
pub use Rattle.star_model.proofs.ChainLaws.{vector_card, chains_exchange, better_satisfies}
pub use Rattle.star_model.proofs.CanonLaws.{canon_prefix, canon_again}
pub use Rattle.star_model.proofs.CanonLeast.{least_is_equal, none_is_lower}
pub use Rattle.star_model.proofs.CanonOrder.{values_are}
pub use Rattle.star_model.proofs.CanonAnswers.{compared_by_canon, earlier_by_canon, sorted_by_canon}
pub use Rattle.star_model.proofs.CanonColumns.{canon_within}
pub use Rattle.star_model.proofs.KindLaws.{means}
pub use Rattle.star_model.proofs.StreamLaws.{streams_pass, stream_passes}
pub use Rattle.star_model.proofs.MemberLaws.{member_has_kind, members_have_kind, member_passes, members_pass, few_members_of}
pub use Rattle.star_model.proofs.CostLaws.{one_row, one_flavour, formula_of-push}
pub use Rattle.star_model.proofs.SelectLaws.{one_class, same_class_word, select_of-push}
pub use Rattle.star_model.proofs.WeighLaws.{weighed_again, weighed_formed}
use Rattle.star_model.proofs.InvalidLaws.{first}
use Rattle.star_model.proofs.JudgeLaws.{judged, valid_from, valid_to, vector_from, vector_to, root_from, root_to}
use Rattle.star_model.specs.Plans.{vector}
use Rattle.star_model.specs.Costs.{costs_of}
use Rattle.star_model.specs.Expected.{Expected, ForQuery}
use Rattle.star_model.specs.Derivations.{plan_of, is_valid, HasVector, IsRoot}
use Rattle.star_model.specs.Judging.{Vector, judge, judge_root, invalid_number}
use Rattle.star_model.specs.InvalidNodes.{first_invalid}
use Rattle.star_model.specs.declared.query.Query.{Query}
use Rattle.star_model.specs.declared.plans.Props.{Props}
use Rattle.star_model.specs.declared.plans.Plan.{Plan}
use Rattle.star_model.specs.declared.rules.RuleFile.{RuleFile}
use Rattle.star_model.specs.declared.derivations.Deriv.{Deriv}

-- ---- derivations

pub judges_plan : (q : Query) (rules : RuleFile) (d : Deriv) (x : Expected) (n : ℕ) (v : Props) → judge q rules d x n ≡ Vector v
    → (p : Plan) × (plan_of q rules d x ≡ Some p) × (vector q (costs_of rules) p ≡ Some v)
judges_plan q rules d x n v h = judged q rules d x n v h

pub judges_vector : (q : Query) (rules : RuleFile) (d : Deriv) (x : Expected) (n : ℕ) (v : Props) → (judge q rules d x n ≡ Vector v) ↔ HasVector q rules d x v
judges_vector q rules d x n v = (vector_from q rules d x n v, vector_to q rules d x n v)

pub judges_valid : (q : Query) (rules : RuleFile) (d : Deriv) (x : Expected) (n : ℕ) → (is_valid q rules d x ≡ true) ↔ ((v : Props) × (judge q rules d x n ≡ Vector v))
judges_valid q rules d x n = (valid_to q rules d x n, (λ h. valid_from q rules d x n h.0 h.1))

pub judges_root : (q : Query) (rules : RuleFile) (tree : Deriv) (v : Props) → (judge_root q rules tree ≡ Vector v) ↔ IsRoot q rules tree v
judges_root q rules tree v = (
  (λ h. root_from q rules tree v (vector_from q rules tree ForQuery 1 v h)),
  (λ h. vector_to q rules tree ForQuery 1 v (root_to q rules tree v h)),
)

pub judges_first : (q : Query) (rules : RuleFile) (d : Deriv) (x : Expected) (n : ℕ) → invalid_number (judge q rules d x n) ≡ first_invalid q rules d x n
judges_first q rules d x n = sym (first q rules d x n)
