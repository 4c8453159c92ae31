-- Assumes nothing.
use native.Mathlib.Omega.{arith}
use lib.Dec.{lit<}
use Rattle.fixed.specs.Fixed.{LN8}
use Rattle.reckon.proofs.Fitting.{less-is}
use Rattle.reckon.proofs.ln.less_ln8.Goals as goal

pub returns : goal.returns
returns c = less-is _ LN8 (omega arith) (lit< tt)
