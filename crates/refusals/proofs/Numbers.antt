-- The refusals' numbers, with those that requests of document 02 yet to come will give, are 1 to as many as there are, each once. Assumes
-- nothing.
use Prim.Native.Nat.{ℕ, ◌≤◌}
use mathlib.Core.List.{List, [], ◌∷◌, ◌++◌}
use lib.Dec.{T}
use lib.ListN.{length}
use native.Mathlib.Omega.{arith}
use Rattle.refusals.specs.declared.Refusal.{Refusal}
use Rattle.refusals.specs.declared.Refusal.TheVariants as No
use Rattle.refusals.specs.Order.{number_of, order, numbers, apart, up_to}

-- not given yet
abbrev later : List ℕ
later = 22 ∷ 23 ∷ 24 ∷ 25 ∷ []

pub numbers_apart : T (apart (numbers order ++ later))
numbers_apart = tt

pub numbers_whole : T (up_to (length (numbers order ++ later)) (numbers order ++ later))
numbers_whole = tt

-- none is above that of a figure already marked as ours
pub number-most : (n : Refusal) → number_of n ≤ number_of No.Marked
number-most No.Malformed = omega arith
number-most No.Marked = omega arith
number-most No.NoFile = omega arith
number-most No.FileLength = omega arith
number-most No.FileField = omega arith
number-most No.Rake = omega arith
number-most No.Magnitude = omega arith
number-most No.Vs30 = omega arith
number-most No.Dip = omega arith
number-most No.Width = omega arith
number-most No.Hypocentre = omega arith
number-most No.Top = omega arith
number-most No.Rjb = omega arith
number-most No.Azimuth = omega arith
number-most No.Above = omega arith
number-most No.Rrup = omega arith
number-most No.TooShort = omega arith
number-most No.TooFar = omega arith
number-most No.Basin = omega arith
number-most No.NoMeasure = omega arith
number-most No.NoPeriod = omega arith
number-most No.TooLong = omega arith
