-- A deviation of Table 3 is small. Assumes nothing.
use Rattle.std.proofs.Common.{arith}
use Rattle.model.proofs.Fair.{spread_of}
use Rattle.sigmas.proofs.intra_of.Goals as goal

pub squared-requires : goal.squared-requires
squared-requires c = omega (arith, spread_of c.args.d c.requires.0)
