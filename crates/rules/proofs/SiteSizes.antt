-- The sizes of what comes up on the way from Vs30 to Z2.5, so that it fits 64 bits: one test, computed at every Vs30 from 150 to 1500.
-- Assumes nothing.
use Prim.Native.Nat.{ℕ, ◌≤◌}
use mathlib.Core.Bool.{Bool, ◌&&◌}
use native.Mathlib.Omega.{arith}
use lib.Dec.{T, leb, leb→le}
use lib.Ieee.Fits.{and_l, and_r}
use lib.IntN.{nat_abs}
use Rattle.exact.proofs.Computed.{run, run-from}
use Rattle.fixed.specs.Fixed.{ln_quotient, exp_fixed}
use Rattle.rules.specs.Fixed.{ln_z10_fixed}

-- the logarithms in units of 10^-9, Z1.0 in units of 10^-10 m
pub record Sizes (v : ℕ) : Type 0 where
  pub by_180 : nat_abs (ln_quotient v 180) ≤ 10000000000
  pub by_500 : nat_abs (ln_quotient v 500) ≤ 10000000000
  pub ln_z10 : nat_abs (ln_z10_fixed v) ≤ 20000000000
  pub z10 : exp_fixed (ln_z10_fixed v) ≤ 10000000000000

test : ℕ → Bool
unfolding ln_quotient ln_z10_fixed exp_fixed
test v =
    leb (nat_abs (ln_quotient v 180)) 10000000000
    && (leb (nat_abs (ln_quotient v 500)) 10000000000
    && (leb (nat_abs (ln_z10_fixed v)) 20000000000 && leb (exp_fixed (ln_z10_fixed v)) 10000000000000))

all : T (run test 150 1351)
unfolding test
all = tt

pub sizes : (v : ℕ) → 150 ≤ v → v ≤ 1500 → Sizes v
unfolding test
sizes v l h =
    let t : T (test v) = run-from test 150 1351 all v l (omega arith) in
    let u = and_r (leb (nat_abs (ln_quotient v 180)) 10000000000) _ t in
    let w = and_r (leb (nat_abs (ln_quotient v 500)) 10000000000) _ u in
    record {
      by_180 = leb→le _ _ (and_l (leb (nat_abs (ln_quotient v 180)) 10000000000) _ t);
      by_500 = leb→le _ _ (and_l (leb (nat_abs (ln_quotient v 500)) 10000000000) _ u);
      ln_z10 = leb→le _ _ (and_l (leb (nat_abs (ln_z10_fixed v)) 20000000000) _ w);
      z10 = leb→le _ _ (and_r (leb (nat_abs (ln_z10_fixed v)) 20000000000) _ w);
    }
