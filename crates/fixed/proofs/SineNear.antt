-- The program's sines and cosines of whole degrees lie within 2 units of 10^-9 of the exact ones, and from 0 to 1: one test, computed
-- at every degree from 0 to 180. Assumes nothing.
use Prim.Native.Nat.{ℕ, ◌*◌, ◌≤◌}
use mathlib.Core.Bool.{Bool, ◌&&◌}
use native.Mathlib.Omega.{arith}
use lib.Dec.{T, leb, leb→le}
use lib.Ieee.Fits.{and_l, and_r}
use lib.IntN.{ℤ, pos, nat_abs, ◌-ℤ◌, ◌*ℤ◌}
use Rattle.exact.specs.Near.{up, dn}
use Rattle.exact.specs.Exact.{sin_e, cos_e}
use Rattle.exact.proofs.Computed.{run, run-from}
use Rattle.exact.proofs.NearLaws.{near←}
use Rattle.fixed.specs.Fixed.{E9, K21, sin_fixed, cos_fixed}
use Rattle.fixed.specs.Bounds.{Sine}

-- a is from 0 to 1 and within 2 units of b
good : ℤ → ℤ → Bool
good a b = leb (up a) E9 && (leb (dn a) 0 && leb (nat_abs (a *ℤ pos K21 -ℤ b)) (2 * K21))

test : ℕ → Bool
unfolding good sin_fixed cos_fixed sin_e cos_e
test d = good (sin_fixed d) (sin_e (pos d)) && good (cos_fixed d) (pos (nat_abs (cos_e (pos d))))

all : T (run test 0 181)
unfolding test
all = tt

sine : (a b : ℤ) → T (good a b) → Sine a b
unfolding good
sine a b t =
    let u = and_r (leb (up a) E9) _ t in
    record {
      top = leb→le (up a) E9 (and_l (leb (up a) E9) _ t);
      positive = leb→le (dn a) 0 (and_l (leb (dn a) 0) _ u);
      near = near← K21 2 a b (leb→le _ _ (and_r (leb (dn a) 0) _ u));
    }

pub sin_fixed-near : (d : ℕ) → d ≤ 180 → Sine (sin_fixed d) (sin_e (pos d))
unfolding test
sin_fixed-near d h =
    sine (sin_fixed d) (sin_e (pos d))
    (and_l (good (sin_fixed d) (sin_e (pos d))) _ (run-from test 0 181 all d (omega arith) (omega arith)))

-- of the cosine the size, which is what the function answers
pub cos_fixed-near : (d : ℕ) → d ≤ 180 → Sine (cos_fixed d) (pos (nat_abs (cos_e (pos d))))
unfolding test
cos_fixed-near d h =
    sine (cos_fixed d) (pos (nat_abs (cos_e (pos d))))
    (and_r (good (sin_fixed d) (sin_e (pos d))) _ (run-from test 0 181 all d (omega arith) (omega arith)))
