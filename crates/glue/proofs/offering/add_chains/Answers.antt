use Rattle.std.proofs.Common.{Bor, List}
use Rattle.std.proofs.lemmas.List.{get_or-map, length-map}
use Rattle.star_model.specs.declared.plans.GlueOp.{GlueOp}
use Rattle.glue.proofs.GlueLaws.{chains_more}
use Rattle.glue.proofs.offering.add_chains.Goals as goal

pub loop-words-preserved : goal.loop-words-preserved
loop-words-preserved c =
    chains_more _ _ _ _ _ _ _ (simp length-map c.loop-words-test.true)
    (get_or-map (λ (words : Bor (List GlueOp)). words.now) c.args.lists.now c.loop-words.words-index _ _ c.loop-words-test.true) c.loop-words.invariant
    c.in_ok-add_chain.ensures
