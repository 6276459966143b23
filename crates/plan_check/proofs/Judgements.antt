-- Steps of judging: a node that doesn't fit, one that does, and what is made of a judgement below.
use Rattle.std.proofs.Common.{◌≡◌, ℕ, Option, Some, None, ap, ◌∙◌}
use Rattle.star_model.specs.Judging.{Judgement, Vector, FirstInvalid, fitting, if_valid}
use Rattle.star_model.specs.declared.plans.Props.{Props}

pub unfit : {A : Type 0} (n : ℕ) (o : Option A) (k : A → Judgement) (j : Judgement) → j ≡ fitting n o k → o ≡ None → j ≡ FirstInvalid n
unfit n None k j h e = h
unfit n (Some a) k j h e = cc

pub fits : {A : Type 0} (n : ℕ) (o : Option A) (k : A → Judgement) (j : Judgement) (a : A) → j ≡ fitting n o k → o ≡ Some a → j ≡ k a
fits n None k j a h e = cc
fits n (Some b) k j a h e = let same : b ≡ a = cc in h ∙ ap k same

pub stops : (w : Judgement) (f : Props → Judgement) (j : Judgement) (m : ℕ) → j ≡ if_valid w f → w ≡ FirstInvalid m → j ≡ FirstInvalid m
stops w f j m h e = h ∙ ap (λ w. if_valid w f) e

pub goes : (w : Judgement) (f : Props → Judgement) (j : Judgement) (v : Props) → j ≡ if_valid w f → w ≡ Vector v → j ≡ f v
goes w f j v h e = h ∙ ap (λ w. if_valid w f) e
