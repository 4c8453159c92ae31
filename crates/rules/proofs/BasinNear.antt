-- The program's Z2.5 from Vs30 lies from 0 to 10000 m and within 2 m of equations 23 and 26: one test, computed at every Vs30 from 150
-- to 1500. Assumes nothing.
use Prim.Native.Nat.{ℕ, ◌≤◌}
use mathlib.Core.Bool.{Bool}
use native.Mathlib.Omega.{arith}
use lib.Dec.{T}
use Rattle.exact.proofs.Computed.{run, run-from}
use Rattle.rules.specs.Rules.{basin_e}
use Rattle.rules.specs.Fixed.{basin_fixed}
use Rattle.rules.proofs.Figures.{Figure, figured, figure}

test : ℕ → Bool
unfolding figured basin_fixed basin_e
test v = figured 0 10000 (basin_fixed v) (basin_e v)

all : T (run test 150 1351)
unfolding test
all = tt

pub basin_fixed-near : (v : ℕ) → 150 ≤ v → v ≤ 1500 → Figure 0 10000 (basin_fixed v) (basin_e v)
unfolding test
basin_fixed-near v l h = figure 0 10000 (basin_fixed v) (basin_e v) (run-from test 150 1351 all v l (omega arith))
