-- The order of the limits tells them apart. (No clause of a function can say so of every property.)
use Rattle.std.specs.Prelude.{◌≡◌, ℕ, List, [], ◌∷◌, slice_get, unwrap_or}
use Rattle.std.proofs.Common.{refl, sym, ap, ◌∙◌, arith}
use Rattle.star_model.specs.declared.faults.LimitKind.{LimitKind}
use Rattle.star_model.specs.declared.faults.LimitKind.TheVariants as limit
use Rattle.spelling.specs.Limits.{limit_rank, IsFirstBeyond}

abbrev all_limits : List LimitKind
all_limits =
    limit.Number ∷ limit.Name ∷ limit.File ∷ limit.Params ∷ limit.Alternatives ∷ limit.ForAlls
    ∷ limit.Stars ∷ limit.Depth ∷ limit.Formula ∷ limit.Sites ∷ limit.Tables ∷ limit.Columns
    ∷ limit.Indexes ∷ limit.IndexColumns ∷ limit.Quantifiers ∷ limit.Predicates ∷ limit.Select ∷ limit.OrderBy ∷ []

abbrev limit_of : ℕ → LimitKind
limit_of rank = unwrap_or (slice_get all_limits rank) limit.OrderBy

ranked : (what : LimitKind) → limit_of (limit_rank what) ≡ what
ranked limit.Number = refl
ranked limit.Name = refl
ranked limit.File = refl
ranked limit.Params = refl
ranked limit.Alternatives = refl
ranked limit.ForAlls = refl
ranked limit.Stars = refl
ranked limit.Depth = refl
ranked limit.Formula = refl
ranked limit.Sites = refl
ranked limit.Tables = refl
ranked limit.Columns = refl
ranked limit.Indexes = refl
ranked limit.IndexColumns = refl
ranked limit.Quantifiers = refl
ranked limit.Predicates = refl
ranked limit.Select = refl
ranked limit.OrderBy = refl

-- of the limits that a statement goes beyond, one is the first
pub one_limit : (Beyond : LimitKind → Type 0) (what other : LimitKind) → IsFirstBeyond Beyond what → IsFirstBeyond Beyond other → what ≡ other
one_limit Beyond what other p q =
    let less = p.first other q.beyond in
    let more = q.first what p.beyond in
    let same : limit_rank what ≡ limit_rank other = omega (arith, less, more) in
    sym (ranked what) ∙ ap limit_of same ∙ ranked other
