-- The logarithm's series for a quotient from 1 to 2: it is never above its value at z = 1/3. Assumes nothing.
use Prim.Native.Nat.{ℕ, ◌+◌, ◌-◌, ◌*◌, ◌/◌, ◌≤◌, ◌<◌}
use mathlib.Core.Path.{◌≡◌, refl}
use native.Mathlib.Nat.{le_trans, mul-le-mul}
use native.Mathlib.Omega.{arith}
use lib.Dec.{lit≤}
use Rattle.exact.specs.Series.{ln_terms}
use Rattle.fixed.specs.Fixed.{E12, ln_one, ln_count, narrow_count, ln_ratio, ln_narrow}
use Rattle.exact.proofs.Quotients.{div-le}
use Rattle.exact.proofs.LnSeries.{ln_terms_mono}
use Rattle.fixed.proofs.LnNarrow.{ln_narrow-top}

at-third : ln_terms ln_one (ln_one / 3 * (ln_one / 3) / ln_one) (ln_one / 3) 1 ln_count ≤ 3500000000
unfolding ln_terms
at-third = lit≤ tt

-- all of them, for z up to 1/3
pub ln_most : {z : ℕ} → z ≤ ln_one / 3 → ln_terms ln_one (z * z / ln_one) z 1 ln_count ≤ 3500000000
ln_most h = le_trans (ln_terms_mono ln_one ln_count 1 (div-le ln_one (mul-le-mul h h)) h) at-third

-- ln (p/q) is twice what the loop sums
pub ratio_is :
    (p q : ℕ)
    → 2 * ln_terms ln_one ((p - q) * ln_one / (p + q) * ((p - q) * ln_one / (p + q)) / ln_one) ((p - q) * ln_one / (p + q)) 1 ln_count ≡ ln_ratio p q
unfolding ln_ratio
ratio_is p q = refl

-- the same of the more precise one, and how much the loop sums at most
abbrev pub narrow : ℕ → ℕ → ℕ
narrow p q = ln_terms ((p + q) * (p + q)) ((p - q) * (p - q)) ((p - q) * E12 / (p + q)) 1 narrow_count

pub narrow-is : (p q : ℕ) → 2 * narrow p q / 100 ≡ ln_narrow p q
unfolding ln_narrow
narrow-is p q = refl

pub narrow-most : (p q : ℕ) → 0 < q → q ≤ p → p ≤ 2 * q → narrow p q ≤ 350000000000
narrow-most p q hq low top = fin (narrow p q) (ln_narrow p q) (narrow-is p q) (ln_narrow-top p q hq low top)
  where
    fin : (s r : ℕ) → 2 * s / 100 ≡ r → r ≤ 6931471806 → s ≤ 350000000000
    fin s r e h = omega arith
