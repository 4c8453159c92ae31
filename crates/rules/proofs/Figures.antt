-- A figure in whole metres against its exact value: the test that is computed over a domain, and what it says. Assumes nothing.
use Prim.Native.Nat.{ℕ, ◌*◌, ◌≤◌}
use mathlib.Core.Bool.{Bool, ◌&&◌}
use lib.Dec.{T, leb, leb→le}
use lib.Ieee.Fits.{and_l, and_r}
use lib.IntN.{pos, nat_abs, ◌-ℤ◌, ◌*ℤ◌}
use Rattle.exact.specs.Near.{NearZ}
use Rattle.exact.specs.Exact.{E30}
use Rattle.exact.proofs.NearLaws.{near←}

-- a metres lie from low to high, and within 2 m of b, which stands in units of 10^-30 m
pub record Figure (low high a b : ℕ) : Type 0 where
  pub bottom : low ≤ a
  pub top : a ≤ high
  pub near : NearZ E30 2 (pos a) (pos b)

-- the same as a test
unfoldable pub figured : ℕ → ℕ → ℕ → ℕ → Bool
figured low high a b = leb low a && (leb a high && leb (nat_abs (pos a *ℤ pos E30 -ℤ pos b)) (2 * E30))

pub figure : (low high a b : ℕ) → T (figured low high a b) → Figure low high a b
unfolding figured
figure low high a b t =
    let u = and_r (leb low a) _ t in
    record {
      bottom = leb→le low a (and_l (leb low a) _ t);
      top = leb→le a high (and_l (leb a high) _ u);
      near = near← E30 2 (pos a) (pos b) (leb→le _ _ (and_r (leb a high) _ u));
    }
