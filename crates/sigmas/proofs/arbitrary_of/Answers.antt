-- The deviations of Table 3 are small. Assumes nothing.
use Rattle.std.proofs.Common.{arith}
use Rattle.sigmas.proofs.LinearSite.{spread_row}
use Rattle.sigmas.proofs.arbitrary_of.Goals as goal

pub squared-requires : goal.squared-requires
squared-requires c = omega (arith, spread_row c.args.i c.args.d c.requires.0 c.requires.1)

pub squared-requires-2 : goal.squared-requires-2
squared-requires-2 c = omega (arith, spread_row c.args.i c.args.d c.requires.0 c.requires.1)

pub squared-requires-3 : goal.squared-requires-3
squared-requires-3 c = omega (arith, spread_row c.args.i c.args.d c.requires.0 c.requires.1)
