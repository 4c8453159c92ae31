-- The root of a variance of at most 2.4. Assumes nothing.
use Rattle.std.proofs.Common.{arith}
use Rattle.between.specs.Fixed.{fine_sigma}
use Rattle.between.proofs.Sigma.{fine_sigma-high}
use Rattle.periods.proofs.weight.fine_sigma.Goals as goal

pub returns : goal.returns
unfolding fine_sigma
returns c = (c.whole_root.ensures, omega (arith, c.whole_root.ensures, fine_sigma-high c.args.v c.requires))
