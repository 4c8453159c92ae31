-- `rupture::angles::Angle::of`: neither is above 1. Assumes nothing.
use mathlib.Core.Path.{ap}
use native.Mathlib.Omega.{arith}
use Rattle.exact.specs.Near.{up}
use Rattle.fixed.proofs.SineNear.{sin_fixed-near, cos_fixed-near}
use Rattle.rupture.proofs.angles.Angle.of.Goals as goal

pub invariant_of-result : goal.invariant_of-result
invariant_of-result c =
    record {
      sin_most = omega (arith, ap up c.sin_deg.ensures, (sin_fixed-near c.args.degrees c.requires).top);
      cos_most = omega (arith, ap up c.cos_deg.ensures, (cos_fixed-near c.args.degrees c.requires).top);
    }
