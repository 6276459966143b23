-- The bindings of a STAR's alternatives, and the values of a reference's arguments: their kinds, and the quantifiers of their streams.
use Prim.Native.Nat.{zero, suc}
use Rattle.std.proofs.Common.{◌≡◌, ℕ, ◌-◌, Bool, true, false, not, if◌then◌else◌, nat_eq, List, [], ◌∷◌, ◌++◌, length, map, refl, ap, sym, ◌∙◌, arith}
use Rattle.std.specs.Prelude.{◌&&◌, Option, Some, None}
use Rattle.std.specs.List.{list_all, list_any}
use Rattle.std.proofs.lemmas.Bool.{false≢true, and_parts, eqb-true}
use Rattle.std.proofs.lemmas.List.{map-append}
use Rattle.std.proofs.lemmas.List.Folds.{list_all-append}
use Rattle.std.proofs.lemmas.Option.{option_and_then_some, same_Some, none-some}
use Rattle.star_model.specs.Kinds.{place_of_kind, same_kind, asks, kind_of, kind_of_value, kind_of_range, have_kinds, kinds_after}
use Rattle.star_model.specs.Meaning.{member_at, numbers_of}
use Rattle.star_model.specs.Expected.{bound, values_of}
use Rattle.star_model.specs.Streams.{tables_pass}
use Rattle.star_model.specs.Accepted.{same_kinds}
use Rattle.star_model.specs.declared.query.Query.{Query}
use Rattle.star_model.specs.declared.rules.ForAll.{ForAll}
use Rattle.star_model.specs.declared.rules.Kind.{Kind}
use Rattle.star_model.specs.declared.rules.Kind.TheVariants as kind
use Rattle.star_model.specs.declared.rules.RuleFile.{RuleFile}
use Rattle.star_model.specs.declared.rules.ValueExpr.{ValueExpr}
use Rattle.star_model.specs.declared.values.RuleValue.{RuleValue}
use Rattle.star_model.proofs.Laws.{means, streams_pass, member_has_kind, member_passes}

-- ---- kinds that are the same

kind_at : ℕ → Kind
kind_at zero = kind.Stream
kind_at (suc zero) = kind.Quants
kind_at (suc (suc zero)) = kind.Preds
kind_at (suc (suc (suc zero))) = kind.Cols
kind_at (suc (suc (suc (suc zero)))) = kind.Site
kind_at (suc (suc (suc (suc (suc n))))) = kind.Index

at_place : (k : Kind) → kind_at (place_of_kind k) ≡ k
unfolding kind_at
at_place kind.Stream = refl
at_place kind.Quants = refl
at_place kind.Preds = refl
at_place kind.Cols = refl
at_place kind.Site = refl
at_place kind.Index = refl

same_kind_is : (k l : Kind) → same_kind k l ≡ true → k ≡ l
same_kind_is k l h = sym (at_place k) ∙ ap kind_at (eqb-true (place_of_kind k) (place_of_kind l) h) ∙ at_place l

pub is_asked : (k : Kind) (o : Option Kind) → asks k o ≡ true → o ≡ Some k
is_asked k None h = absurd (false≢true h)
is_asked k (Some l) h = ap Some (sym (same_kind_is k l h))

pub same_kinds_are : (rules : RuleFile) (ks ls : List Kind) → same_kinds rules ks ls ≡ true → ks ≡ ls
same_kinds_are rules [] [] h = refl
same_kinds_are rules [] (l ∷ ls) h = absurd (false≢true h)
same_kinds_are rules (k ∷ ks) [] h = absurd (false≢true h)
same_kinds_are rules (k ∷ ks) (l ∷ ls) h =
    let parts = and_parts (same_kind k l) (same_kinds rules ks ls) h in (λ i. same_kind_is k l parts.0 i ∷ same_kinds_are rules ks ls parts.1 i)

-- ---- arguments

module _ (q : Query) (test : ℕ → Bool) (b : List RuleValue) (streams : list_all (tables_pass test) b ≡ true) where
  pub arguments_pass : (ks : List Kind) (args : List ValueExpr) → have_kinds (map kind_of_value b) ks args ≡ true → length args ≡ length ks
      → list_all (tables_pass test) (values_of q b args) ≡ true
  arguments_pass [] [] have long = refl
  arguments_pass [] (v ∷ vs) have long = let no : ⊥ = omega (arith, long) in absurd no
  arguments_pass (k ∷ ks) [] have long = refl
  arguments_pass (k ∷ ks) (v ∷ vs) have long =
      let parts = and_parts (asks k (kind_of (map kind_of_value b) v)) (have_kinds (map kind_of_value b) ks vs) have in
      (λ i. streams_pass q test b v k (is_asked k (kind_of (map kind_of_value b) v) parts.0) streams i && arguments_pass ks vs parts.1 (omega (arith, long)) i)

pub arguments_are_of_kinds : (q : Query) (b : List RuleValue) (ks : List Kind) (args : List ValueExpr) → have_kinds (map kind_of_value b) ks args ≡ true → length args ≡ length ks
    → map kind_of_value (values_of q b args) ≡ ks
arguments_are_of_kinds q b [] [] have long = refl
arguments_are_of_kinds q b [] (v ∷ vs) have long = let no : ⊥ = omega (arith, long) in absurd no
arguments_are_of_kinds q b (k ∷ ks) [] have long = let no : ⊥ = omega (arith, long) in absurd no
arguments_are_of_kinds q b (k ∷ ks) (v ∷ vs) have long =
    let parts = and_parts (asks k (kind_of (map kind_of_value b) v)) (have_kinds (map kind_of_value b) ks vs) have in
    (λ i. means q b v k (is_asked k (kind_of (map kind_of_value b) v) parts.0) i ∷ arguments_are_of_kinds q b ks vs parts.1 (omega (arith, long)) i)

-- ---- for-all values

-- what is given under a test was given
pub under : {A : Type 0} (c : Bool) (o : Option A) (x : A) → (if c then o else None) ≡ Some x → (c ≡ true) × (o ≡ Some x)
under true o x h = (refl, h)
under false o x h = absurd (none-some x h)

pub bound_are_of_kinds : (q : Query) (fs : List ForAll) (ns : List ℕ) (b c : List RuleValue) (ls : List Kind) → kinds_after (map kind_of_value b) fs ≡ Some ls → bound q fs ns b ≡ Some c
    → map kind_of_value c ≡ ls
bound_are_of_kinds q [] [] b c ls after is = ap (map kind_of_value) (sym (same_Some b c is)) ∙ same_Some (map kind_of_value b) ls after
bound_are_of_kinds q [] (n ∷ ns) b c ls after is = absurd (none-some c is)
bound_are_of_kinds q (f ∷ fs) [] b c ls after is = absurd (none-some c is)
bound_are_of_kinds q (f ∷ fs) (n ∷ ns) b c ls after is =
    let next : List RuleValue = b ++ member_at f.range (n - 1) ∷ [] in
    option_and_then_some
    (λ k. kinds_after (map kind_of_value b ++ k ∷ []) fs)
    (kind_of_range (map kind_of_value b) f.range)
    ls
    after
    (λ k of_range later.
    let kinds : map kind_of_value next ≡ map kind_of_value b ++ k ∷ [] =
    map-append kind_of_value b (member_at f.range (n - 1) ∷ []) ∙ ap (λ l. map kind_of_value b ++ l ∷ []) (member_has_kind b f.range k (n - 1) of_range) in
    bound_are_of_kinds
    q
    fs
    ns
    next
    c
    ls
    (ap (λ ks. kinds_after ks fs) kinds ∙ later)
    (under (not (nat_eq n 0) && list_any (nat_eq (n - 1)) (numbers_of q b f.range)) (bound q fs ns next) c is).1)

pub bound_pass : (q : Query) (test : ℕ → Bool) (fs : List ForAll) (ns : List ℕ) (b c : List RuleValue) → bound q fs ns b ≡ Some c → list_all (tables_pass test) b ≡ true
    → list_all (tables_pass test) c ≡ true
bound_pass q test [] [] b c is pass = ap (list_all (tables_pass test)) (sym (same_Some b c is)) ∙ pass
bound_pass q test [] (n ∷ ns) b c is pass = absurd (none-some c is)
bound_pass q test (f ∷ fs) [] b c is pass = absurd (none-some c is)
bound_pass q test (f ∷ fs) (n ∷ ns) b c is pass =
    let next : List RuleValue = b ++ member_at f.range (n - 1) ∷ [] in
    bound_pass
    q
    test
    fs
    ns
    next
    c
    (under (not (nat_eq n 0) && list_any (nat_eq (n - 1)) (numbers_of q b f.range)) (bound q fs ns next) c is).1
    (list_all-append (tables_pass test) b (member_at f.range (n - 1) ∷ []) ∙ (λ i. pass i && (member_passes test f.range (n - 1) i && true)))
