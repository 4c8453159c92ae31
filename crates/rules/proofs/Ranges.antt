-- The ranges of the estimates that are whole numbers by themselves. Assumes nothing.
use Prim.Native.Nat.{ℕ, ◌≤◌}
use native.Mathlib.Omega.{arith}
use lib.Dec.{lit≤}
use Rattle.request.specs.declared.Style.{Style}
use Rattle.request.specs.declared.Style.TheVariants.{StrikeSlip, Reverse, Normal}
use Rattle.rules.specs.Rules.{dip_of, hypocentre}

-- the range of a given dip
pub dip_of_range : (s : Style) → (15 ≤ dip_of s) × (dip_of s ≤ 90)
unfolding dip_of
dip_of_range StrikeSlip = (lit≤ tt, lit≤ tt)
dip_of_range Reverse = (lit≤ tt, lit≤ tt)
dip_of_range Normal = (lit≤ tt, lit≤ tt)

-- no deeper than a given ZHYP may be, 30000 m
pub hypocentre-top : (s : Style) (m : ℕ) → m ≤ 850 → hypocentre s m ≤ 300000
unfolding hypocentre
hypocentre-top StrikeSlip m h = omega arith
hypocentre-top Reverse m h = omega arith
hypocentre-top Normal m h = omega arith
