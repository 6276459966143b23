-- The members of ranges: their kind, and how many there are.
use Rattle.std.proofs.Common.{◌≡◌, ℕ, suc, ◌≤◌, Bool, true, false, List, [], ◌∷◌, length, map, filter, refl, ap, ◌∙◌, arith, cond, ◌&&◌}
use Rattle.std.proofs.lemmas.List.{length-map}
use Rattle.std.specs.Prelude.{Some}
use Rattle.std.specs.List.{list_all, range_with_len}
use Rattle.std.proofs.lemmas.List.FromFn.{length-range_with_len}
use Rattle.star_model.specs.Sets.{has, members, places}
use Rattle.star_model.specs.Kinds.{kind_of_value, kind_of_range}
use Rattle.star_model.specs.Meaning.{numbers_of, member_at, members_of, is_index_on, as_stream, as_quants, as_preds, meaning}
use Rattle.star_model.specs.WellFormed.{WellFormedQuery, Each, none, more}
use Rattle.star_model.specs.declared.rules.Kind.{Kind}
use Rattle.star_model.specs.declared.rules.Range.{Range}
use Rattle.star_model.specs.declared.rules.Range.TheVariants as range
use Rattle.star_model.specs.declared.query.Query.{Query}
use Rattle.star_model.specs.declared.values.RuleValue.{RuleValue}
use Rattle.star_model.specs.Streams.{tables_pass}
use Rattle.star_model.proofs.KindLaws.{was_given}

each_made : (f : ℕ → RuleValue) (k : Kind) → ((n : ℕ) → kind_of_value (f n) ≡ k) → (ns : List ℕ) → Each (λ v. kind_of_value v ≡ k) (map f ns)
each_made f k h [] = none
each_made f k h (n ∷ ns) = more (f n) (map f ns) (h n) (each_made f k h ns)

pub member_has_kind : (b : List RuleValue) (r : Range) (k : Kind) (n : ℕ) → kind_of_range (map kind_of_value b) r ≡ Some k → kind_of_value (member_at r n) ≡ k
member_has_kind b (range.Indexes t) k n h = was_given _ _ _ h
member_has_kind b range.Sites k n h = cc
member_has_kind b (range.Members s) k n h = was_given _ _ _ h
member_has_kind b (range.Each p) k n h = was_given _ _ _ h

pub members_have_kind : (q : Query) (b : List RuleValue) (r : Range) (k : Kind) → kind_of_range (map kind_of_value b) r ≡ Some k → Each (λ v. kind_of_value v ≡ k) (members_of q b r)
members_have_kind q b r k h = each_made (member_at r) k (λ n. member_has_kind b r k n h) (numbers_of q b r)

all_made : (f : ℕ → RuleValue) (passes : RuleValue → Bool) → ((n : ℕ) → passes (f n) ≡ true) → (ns : List ℕ) → list_all passes (map f ns) ≡ true
all_made f passes h [] = refl
all_made f passes h (n ∷ ns) = ap (λ t. t && list_all passes (map f ns)) (h n) ∙ all_made f passes h ns

pub member_passes : (test : ℕ → Bool) (r : Range) (n : ℕ) → tables_pass test (member_at r n) ≡ true
member_passes test (range.Indexes t) n = refl
member_passes test range.Sites n = refl
member_passes test (range.Members s) n = refl
member_passes test (range.Each p) n = refl

pub members_pass : (q : Query) (test : ℕ → Bool) (b : List RuleValue) (r : Range) → list_all (tables_pass test) (members_of q b r) ≡ true
members_pass q test b r = all_made (member_at r) (tables_pass test) (member_passes test r) (numbers_of q b r)

one_more : (n : ℕ) (ms : List ℕ) (most : ℕ) (t : Bool) → length ms ≤ most → length (cond t (n ∷ ms) ms) ≤ suc most
one_more n ms most true h = omega (arith, h)
one_more n ms most false h = omega (arith, h)

few : (test : ℕ → Bool) (ns : List ℕ) → length (filter test ns) ≤ length ns
few test [] = omega arith
few test (n ∷ ns) = one_more n (filter test ns) (length ns) (test n) (few test ns)

few_members : (s : ℕ) → length (members s) ≤ 64
unfolding members places
few_members s = let short = few (has s) (range_with_len 0 32) in let long = length-range_with_len 0 32 in omega (arith, short, long)

few_numbers : (q : Query) → WellFormedQuery q → (b : List RuleValue) (r : Range) → length (numbers_of q b r) ≤ 64
few_numbers q formed b (range.Indexes t) =
    let short = few (is_index_on q (as_stream (meaning q b t)).tables) (range_with_len 0 (length q.catalogue.indexes)) in
    let long = length-range_with_len 0 (length q.catalogue.indexes) in
    omega (arith, short, long, formed.catalogue.few_indexes)
few_numbers q formed b range.Sites = let long = length-range_with_len 0 (length q.catalogue.sites) in omega (arith, long, formed.catalogue.few_sites)
few_numbers q formed b (range.Members s) = few_members (as_quants (meaning q b s))
few_numbers q formed b (range.Each p) = few_members (as_preds (meaning q b p))

pub few_members_of : (q : Query) → WellFormedQuery q → (b : List RuleValue) (r : Range) → length (members_of q b r) ≤ 64
few_members_of q formed b r = let same = length-map (numbers_of q b r) (member_at r) in let short = few_numbers q formed b r in omega (arith, same, short)
