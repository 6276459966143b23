use Rattle.std.proofs.Common.{◌∙◌, ap, sym, map}
use Rattle.star_model.specs.Meaning.{members_of, numbers_of, member_at}
use Rattle.star_model.specs.declared.rules.Range.{Range}
use Rattle.star_value.specs.declared.ranges.Over.TheVariants as over
use Rattle.star_value.specs.RangeNumbers.{members_from, numbered_from}
use Rattle.star_value.proofs.RangeLaws.{over_sites, numbered_sites}
use Rattle.star_value.proofs.ranges.over_of.Goals as goal

pub returns-in-Sites-clause-members : goal.returns-in-Sites-clause-members
returns-in-Sites-clause-members c =
    ap (λ n. members_from c.args.query.now (over.Sites n) 0) c.len-in-Sites.ensures ∙ over_sites c.args.query.now c.args.env.now
    ∙ ap (members_of c.args.query.now c.args.env.now) (sym c.in-Sites.is)

pub returns-in-Sites-clause-numbered : goal.returns-in-Sites-clause-numbered
returns-in-Sites-clause-numbered c =
    ap (λ n. numbered_from c.args.query.now (over.Sites n) 0) c.len-in-Sites.ensures ∙ numbered_sites c.args.query.now c.args.env.now
    ∙ ap (λ (r : Range). map (λ n. (n, member_at r n)) (numbers_of c.args.query.now c.args.env.now r)) (sym c.in-Sites.is)
