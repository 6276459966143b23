use Rattle.glue.proofs.GlueLaws.{all_glued, glued_fit}
use Rattle.glue.proofs.gluing.glue.Goals as goal

pub returns-clause-glued : goal.returns-clause-glued
returns-clause-glued c = all_glued _ _ _ _ _ _ c.new-out.ensures c.in_ok-add_chains.ensures c.apart.ensures

pub returns-clause-fits : goal.returns-clause-fits
returns-clause-fits c = glued_fit _ _ _ _ _ c.requires.fits (all_glued _ _ _ _ _ _ c.new-out.ensures c.in_ok-add_chains.ensures c.apart.ensures)
