-- The members that a range has left.
use Rattle.std.proofs.Common.{◌≡◌, ℕ, ◌+◌, ◌-◌, ◌<◌, ◌≤◌, Bool, true, List, [], ◌∷◌, length, map, filter, refl, ap, ◌∙◌, arith}
use Rattle.std.specs.List.{range_with_len}
use Rattle.star_model.specs.Meaning.{meaning, as_stream, as_quants, as_preds, only_member, members_of, numbers_of, member_at as member_of}
use Rattle.star_model.specs.declared.query.Query.{Query}
use Rattle.star_model.specs.declared.rules.ValueExpr.{ValueExpr}
use Rattle.star_model.specs.declared.rules.Range.TheVariants as range
use Rattle.star_model.specs.declared.values.RuleValue.{RuleValue}
use Rattle.star_value.specs.declared.ranges.Over.{Over}
use Rattle.star_value.specs.declared.ranges.Over.TheVariants as over
use Rattle.star_value.specs.RangeNumbers.{passes, end_of, member_at, passing, members_from, numbered_from, NumberFrom}
use Rattle.star_value.proofs.Passing.{passing_none, passing_more, members_passing}

-- ---- one step

pub first_member : (q : Query) (o : Over) (n k : ℕ) → NumberFrom (passes q o) n (end_of o) k → k < end_of o → members_from q o n ≡ member_at o k ∷ members_from q o (k + 1)
first_member q o n k h l = ap (map (member_at o)) (h.same ∙ passing_more (passes q o) k (end_of o) l (h.passes l))

pub none_left : (q : Query) (o : Over) (n k : ℕ) → NumberFrom (passes q o) n (end_of o) k → end_of o ≤ k → members_from q o n ≡ []
none_left q o n k h l = ap (map (member_at o)) (h.same ∙ passing_none (passes q o) k (end_of o) l)

pub none_after : (q : Query) (o : Over) (k : ℕ) → end_of o ≤ k → members_from q o k ≡ []
none_after q o k l = ap (map (member_at o)) (passing_none (passes q o) k (end_of o) l)

-- ---- the whole range

all_pass : (ns : List ℕ) → filter (λ n. true) ns ≡ ns
all_pass [] = refl
all_pass (n ∷ ns) = ap (λ ms. n ∷ ms) (all_pass ns)

from_start : (test : ℕ → Bool) (end : ℕ) → passing test 0 end ≡ filter test (range_with_len 0 end)
unfolding passing
from_start test end = let e : end - 0 ≡ end = omega arith in ap (λ n. filter test (range_with_len 0 n)) e

pub over_indexes : (q : Query) (b : List RuleValue) (t : ValueExpr)
    → members_from q (over.Indexes (only_member (as_stream (meaning q b t)).tables) (length q.catalogue.indexes)) 0 ≡ members_of q b (range.Indexes t)
over_indexes q b t =
    let o = over.Indexes (only_member (as_stream (meaning q b t)).tables) (length q.catalogue.indexes) in
    ap (map (member_at o)) (from_start (passes q o) (length q.catalogue.indexes))

pub over_sites : (q : Query) (b : List RuleValue) → members_from q (over.Sites (length q.catalogue.sites)) 0 ≡ members_of q b range.Sites
over_sites q b =
    let o = over.Sites (length q.catalogue.sites) in
    ap (map (member_at o)) (from_start (passes q o) (length q.catalogue.sites) ∙ all_pass (range_with_len 0 (length q.catalogue.sites)))

pub over_members : (q : Query) (b : List RuleValue) (s : ValueExpr) → members_from q (over.Members (as_quants (meaning q b s))) 0 ≡ members_of q b (range.Members s)
over_members q b s = ap (map (member_at (over.Members (as_quants (meaning q b s))))) (members_passing (as_quants (meaning q b s)))

pub over_each : (q : Query) (b : List RuleValue) (p : ValueExpr) → members_from q (over.Each (as_preds (meaning q b p))) 0 ≡ members_of q b (range.Each p)
over_each q b p = ap (map (member_at (over.Each (as_preds (meaning q b p))))) (members_passing (as_preds (meaning q b p)))

-- ---- the same with numbers

pub first_numbered : (q : Query) (o : Over) (n k : ℕ) → NumberFrom (passes q o) n (end_of o) k → k < end_of o → numbered_from q o n ≡ (k, member_at o k) ∷ numbered_from q o (k + 1)
first_numbered q o n k h l = ap (map (λ n. (n, member_at o n))) (h.same ∙ passing_more (passes q o) k (end_of o) l (h.passes l))

pub no_number_left : (q : Query) (o : Over) (n k : ℕ) → NumberFrom (passes q o) n (end_of o) k → end_of o ≤ k → numbered_from q o n ≡ []
no_number_left q o n k h l = ap (map (λ n. (n, member_at o n))) (h.same ∙ passing_none (passes q o) k (end_of o) l)

pub no_number_after : (q : Query) (o : Over) (k : ℕ) → end_of o ≤ k → numbered_from q o k ≡ []
no_number_after q o k l = ap (map (λ n. (n, member_at o n))) (passing_none (passes q o) k (end_of o) l)

pub numbered_indexes : (q : Query) (b : List RuleValue) (t : ValueExpr)
    → numbered_from q (over.Indexes (only_member (as_stream (meaning q b t)).tables) (length q.catalogue.indexes)) 0 ≡ map (λ n. (n, member_of (range.Indexes t) n)) (numbers_of q b (range.Indexes t))
numbered_indexes q b t =
    let o = over.Indexes (only_member (as_stream (meaning q b t)).tables) (length q.catalogue.indexes) in
    ap (map (λ n. (n, member_at o n))) (from_start (passes q o) (length q.catalogue.indexes))

pub numbered_sites : (q : Query) (b : List RuleValue) → numbered_from q (over.Sites (length q.catalogue.sites)) 0 ≡ map (λ n. (n, member_of range.Sites n)) (numbers_of q b range.Sites)
numbered_sites q b =
    let o = over.Sites (length q.catalogue.sites) in
    ap (map (λ n. (n, member_at o n))) (from_start (passes q o) (length q.catalogue.sites) ∙ all_pass (range_with_len 0 (length q.catalogue.sites)))

pub numbered_members : (q : Query) (b : List RuleValue) (s : ValueExpr)
    → numbered_from q (over.Members (as_quants (meaning q b s))) 0 ≡ map (λ n. (n, member_of (range.Members s) n)) (numbers_of q b (range.Members s))
numbered_members q b s = ap (map (λ n. (n, member_at (over.Members (as_quants (meaning q b s))) n))) (members_passing (as_quants (meaning q b s)))

pub numbered_each : (q : Query) (b : List RuleValue) (p : ValueExpr)
    → numbered_from q (over.Each (as_preds (meaning q b p))) 0 ≡ map (λ n. (n, member_of (range.Each p) n)) (numbers_of q b (range.Each p))
numbered_each q b p = ap (map (λ n. (n, member_at (over.Each (as_preds (meaning q b p))) n))) (members_passing (as_preds (meaning q b p)))

pub ruleset over_rules = (over_indexes, over_sites, over_members, over_each, numbered_indexes, numbered_sites, numbered_members, numbered_each)
