-- What the body of a reference comes from: an alternative of the STAR, and the bindings with its for-all values.
use Rattle.std.proofs.Common.{◌≡◌, ℕ, ◌-◌, Bool, true, false, if◌then◌else◌, nat_eq, List}
use Rattle.std.specs.Prelude.{Some, None, slice_get, option_and_then}
use Rattle.std.proofs.lemmas.Option.{option_and_then_some, same_Some, none-some}
use Rattle.star_model.specs.Stars.{star_named, numbered, alternative_of}
use Rattle.star_model.specs.Expected.{Expected, Expression, bound, meets, body_of}
use Rattle.star_model.specs.declared.query.Query.{Query}
use Rattle.star_model.specs.declared.rules.Alternative.{Alternative}
use Rattle.star_model.specs.declared.rules.StarDef.{StarDef}
use Rattle.star_model.specs.declared.rules.RuleFile.{RuleFile}
use Rattle.star_model.specs.declared.values.RuleValue.{RuleValue}
use Rattle.star_check.proofs.Bindings.{under}

pub record IsBody (q : Query) (rules : RuleFile) (star : List ℕ) (b : List RuleValue) (picks : List ℕ) (y : Expected) : Type 0 where
  pub definition : StarDef
  pub position : ℕ
  pub alternative : Alternative
  pub bindings : List RuleValue
  pub named : star_named rules star ≡ Some definition
  pub at : slice_get definition.alternatives position ≡ Some alternative
  pub made : bound q alternative.ranges picks b ≡ Some bindings
  pub is : Expression alternative.body bindings ≡ y

numbered_is_at : {A : Type 0} (xs : List A) (n : ℕ) (x : A) → numbered xs n ≡ Some x → slice_get xs (n - 1) ≡ Some x
numbered_is_at {A = A} xs n x h = from (nat_eq n 0) h
  where
    from : (c : Bool) → (if c then None else slice_get xs (n - 1)) ≡ Some x → slice_get xs (n - 1) ≡ Some x
    from true e = absurd (none-some x e)
    from false e = e

pub opened : (q : Query) (rules : RuleFile) (star : List ℕ) (b : List RuleValue) (n : ℕ) (picks : List ℕ) (y : Expected) → body_of q rules star b n picks ≡ Some y
    → IsBody q rules star b picks y
opened q rules star b n picks y is =
    option_and_then_some
    (λ a. option_and_then (λ c. if meets q c a.condition then Some (Expression a.body c) else None) (bound q a.ranges picks b))
    (alternative_of rules star n)
    y
    is
    (λ a is_a body.
    option_and_then_some
    (λ c. if meets q c a.condition then Some (Expression a.body c) else None)
    (bound q a.ranges picks b)
    y
    body
    (λ c made last.
    option_and_then_some
    (λ d. numbered d.alternatives n)
    (star_named rules star)
    a
    is_a
    (λ d named in_d.
    record {
      definition = d;
      position = n - 1;
      alternative = a;
      bindings = c;
      named = named;
      at = numbered_is_at d.alternatives n a in_d;
      made = made;
      is = same_Some (Expression a.body c) y (under (meets q c a.condition) (Some (Expression a.body c)) y last).1;
    })))
