-- No refusal's number is 0, which stands for none. Assumes nothing.
use Prim.Native.Nat.{◌≤◌}
use mathlib.Core.Path.{◌≡◌}
use native.Mathlib.Omega.{arith}
use Rattle.std.specs.Prelude.{Result, Err}
use Rattle.refusals.specs.declared.Refusal.{Refusal}
use Rattle.refusals.specs.declared.Refusal.TheVariants as No
use Rattle.refusals.specs.Order.{number_of, number_in}

pub number_least : (n : Refusal) → 1 ≤ number_of n
number_least No.Malformed = omega arith
number_least No.Marked = omega arith
number_least No.NoFile = omega arith
number_least No.FileLength = omega arith
number_least No.FileField = omega arith
number_least No.Rake = omega arith
number_least No.Magnitude = omega arith
number_least No.Vs30 = omega arith
number_least No.Dip = omega arith
number_least No.Width = omega arith
number_least No.Hypocentre = omega arith
number_least No.Top = omega arith
number_least No.Rjb = omega arith
number_least No.Azimuth = omega arith
number_least No.Above = omega arith
number_least No.Rrup = omega arith
number_least No.TooShort = omega arith
number_least No.TooFar = omega arith
number_least No.Basin = omega arith
number_least No.NoMeasure = omega arith
number_least No.NoPeriod = omega arith
number_least No.TooLong = omega arith

-- so a refused answer's is not
pub refused_not_0 : {A : Type 0} (a : Result A Refusal) (n : Refusal) → a ≡ Err n → number_in a ≡ 0 → ⊥
refused_not_0 a n e z = let k : number_of n ≡ 0 = rw e at z in omega (arith, number_least n)
