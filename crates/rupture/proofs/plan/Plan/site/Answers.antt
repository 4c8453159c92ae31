-- `rupture::plan::Plan::site`, at 90 degrees and elsewhere. Assumes nothing.
use native.Mathlib.Omega.{arith}
use Rattle.geometry.proofs.Angles.{degrees}
use Rattle.rupture.proofs.plan.Plan.site.Goals as goal

pub rx_ry-requires : goal.rx_ry-requires
rx_ry-requires c =
    omega (arith, c.of.ensures.1, (degrees c.args.azimuth c.requires.0 c.requires.1 c.if-azimuth-eq90.false).c'_far)
