-- A cast of at most 2^53 loses nothing. Assumes nothing.
use Rattle.std.proofs.Common.{refl}
use mir.Facts.{to_z-of_z}
use Rattle.prediction.proofs.FloatLaws.{float_is}
use Rattle.prediction.proofs.floats.of_int.Goals as goal

pub returns : goal.returns
returns c = rw (to_z-of_z c.ranges.n) (refl, float_is c.args.n c.requires)
