-- The row of the measure on its soil. Assumes nothing.
use Rattle.measures.proofs.FilledRows.{own_as}
use Rattle.measures.proofs.own_at.Goals as goal

pub returns : goal.returns
returns c = own_as _ _ _ _ _ c.own_of.ensures c.of.ensures.0 c.of.ensures.1
