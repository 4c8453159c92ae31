-- An estimated top is no deeper than the hypocentre. Assumes nothing.
use native.Mathlib.Omega.{arith}
use Rattle.rules.proofs.TopNear.{top_fixed-top}
use Rattle.source_stage.proofs.complete_top.Goals as goal

pub estimated_figure-requires : goal.estimated_figure-requires
estimated_figure-requires c = omega (arith, c.top_estimate.ensures, top_fixed-top c.args.tenths c.args.w c.args.dip c.requires.0)
