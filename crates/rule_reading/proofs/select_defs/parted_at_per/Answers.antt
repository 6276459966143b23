use Rattle.rule_reading.proofs.PerLaws.{within, nothing, parts}
use Rattle.rule_reading.proofs.select_defs.parted_at_per.Goals as goal

pub split_at-requires : goal.split_at-requires
split_at-requires c = within c.args.source.now c.args.tokens.now _ c.place_of_per.ensures

pub returns-in_default-clause-parts : goal.returns-in_default-clause-parts
returns-in_default-clause-parts c = nothing c.args.source.now c.args.tokens.now _ c.place_of_per.ensures _ c.split_at.ensures.back_len c.in_default.len_below

pub returns-clause-parts : goal.returns-clause-parts
returns-clause-parts c =
    parts c.args.source.now c.args.tokens.now _ c.place_of_per.ensures _ _ c.split_at.ensures.front c.split_at.ensures.back c.split_at.ensures.back_len c.in-len1-up.len_at_least
