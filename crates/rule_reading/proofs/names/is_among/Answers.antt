use Rattle.std.proofs.Common.{rules, tests, ◌∙◌}
use Rattle.std.proofs.lemmas.Iterator.{YieldsList-from_slice}
use Rattle.std.proofs.lemmas.Iterator.Search.{any_from_yields_List}
use Rattle.star_model.specs.Vectors.{same_numbers}
use Rattle.rule_reading.proofs.Places.{any-map}
use Rattle.rule_reading.proofs.names.is_among.Goals as goal

pub returns : goal.returns
returns c =
    any_from_yields_List (λ word. same_numbers c.args.name.now word.now) _ _ c.any.result c.any.ensures.ran (YieldsList-from_slice _ c.iter.ensures.rest) (λ x b q k. search (rules, tests))
    ∙ any-map (same_numbers c.args.name.now) (λ word. word.now) c.args.names.now
