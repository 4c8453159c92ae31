-- What is proved of the exact value and of what is reckoned is said in these words, beside `Near`. No promise to a user needs them.
-- Definitions only.
use Rattle.std.specs.Prelude.{ℕ, ◌+◌, ◌-◌, ◌*◌, ◌≤◌, ℤ, pos, neg_ℤ, nat_abs, ◌-ℤ◌}
use Rattle.exact.specs.Near.{up, dn, Within}
use Rattle.exact.specs.Exact.{E30, sin_e, cos_e}

-- ---- two numbers
-- b is at a scale K times finer than a: it is a K, or up to e K more
pub record Close (K e a b : ℕ) : Type 0 where
  pub low : a * K ≤ b
  pub high : b ≤ (a + e) * K

-- each of a and b is at most the other times 1 + ρ/N, and T/N more
pub record Rel (N ρ T a b : ℕ) : Type 0 where
  pub low : a * N ≤ b * (N + ρ) + T
  pub high : b * N ≤ a * (N + ρ) + T

-- D q and b are at most D apart: q is b/D to within one, whichever way it was rounded
pub record Whole (D : ℕ) (q b : ℤ) : Type 0 where
  pub low : D * up q + dn b ≤ up b + D * dn q + D
  pub high : up b + D * dn q ≤ D * up q + dn b + D

-- ---- sine and cosine of d whole degrees
-- 180 less the angle and 90 less the angle, each to within 5 units
pub record Symmetric (d : ℕ) : Type 0 where
  pub sin_supplement : Within 5 (sin_e (pos 180 -ℤ pos d)) (sin_e (pos d))
  pub cos_supplement : Within 5 (cos_e (pos 180 -ℤ pos d)) (neg_ℤ (cos_e (pos d)))
  pub sin_complement : Within 5 (sin_e (pos 90 -ℤ pos d)) (cos_e (pos d))

-- sin² + cos² is 1 up to (1 ± 4 · 10^-30)², a square, so that lengths stay products
pub record Circle (d : ℕ) : Type 0 where
  pub low : (E30 - 4) * (E30 - 4) ≤ nat_abs (sin_e (pos d)) * nat_abs (sin_e (pos d)) + nat_abs (cos_e (pos d)) * nat_abs (cos_e (pos d))
  pub high : nat_abs (sin_e (pos d)) * nat_abs (sin_e (pos d)) + nat_abs (cos_e (pos d)) * nat_abs (cos_e (pos d)) ≤ (E30 + 4) * (E30 + 4)
