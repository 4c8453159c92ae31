-- An estimated width is at most the widest. Assumes nothing.
use native.Mathlib.Omega.{arith}
use Rattle.rules.proofs.WidthNear.{width_fixed-near}
use Rattle.source_stage.proofs.complete_width.Goals as goal

pub estimated_figure-requires : goal.estimated_figure-requires
estimated_figure-requires c = omega (arith, c.width_estimate.ensures, (width_fixed-near c.args.s c.args.m c.requires.0 c.requires.1).top)
