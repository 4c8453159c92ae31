-- The power series of the logarithm, the exponential, the sine and the cosine, over whole numbers in units of 1/S, with n terms.
-- Each term's size is worked out from the term before and rounded down; then it is added or taken away. Definitions only.
use Rattle.std.specs.Prelude.{ℕ, zero, suc, ◌+◌, ◌-◌, ◌*◌, ◌/◌, ◌%◌, ◌^◌, true, false, ltb, ℤ, pos, negsuc, ◌-ℤ◌}

-- ---- the logarithm
-- p/d + p w/(d + 2) + p w²/(d + 4) + ..: w is the square of z, p the present power of z, d the present odd number
unfoldable pub ln_terms : ℕ → ℕ → ℕ → ℕ → ℕ → ℕ
ln_terms S w p d zero = 0
ln_terms S w p d (suc n) = p / d + ln_terms S w (p * w / S) (d + 2) n

-- 2 (z + z³/3 + z⁵/5 + ..)
unfoldable pub ln_series : ℕ → ℕ → ℕ → ℕ
unfolding ln_terms
ln_series S n z = 2 * ln_terms S (z * z / S) z 1 n

-- ln m for m from 1 to 2, by z = (m - 1)/(m + 1)
unfoldable pub ln_unit : ℕ → ℕ → ℕ → ℕ
unfolding ln_series
ln_unit S n m = ln_series S n ((m - S) * S / (m + S))

-- ln 2, by z = 1/3
unfoldable pub ln2 : ℕ → ℕ → ℕ
unfolding ln_series
ln2 S n = ln_series S n (S / 3)

-- ln x for x from 1 up: while x is 2 or more it is halved, f times at most, and each time L, which is ln 2, is added
unfoldable pub ln_halving : ℕ → ℕ → ℕ → ℕ → ℕ → ℕ
unfolding ln_unit
ln_halving S n L zero x = ln_unit S n x
ln_halving S n L (suc f) x = elim (ltb x (2 * S)) [ true ↦ ln_unit S n x | false ↦ L + ln_halving S n L f (x / 2) ]

-- the same with as many halvings as x asks for: fewer than x
unfoldable pub ln_from : ℕ → ℕ → ℕ → ℕ → ℕ
unfolding ln_halving
ln_from S n L x = ln_halving S n L x x

-- ---- the exponential
-- t + t r/k + t r²/(k (k + 1)) + ..: t is the present term, k the number of the next
unfoldable pub exp_terms : ℕ → ℕ → ℕ → ℕ → ℕ → ℕ
exp_terms S r t k zero = 0
exp_terms S r t k (suc n) = t + exp_terms S r (t * r / S / k) (k + 1) n

-- 1 + r + r²/2 + r³/6 + ..
unfoldable pub exp_series : ℕ → ℕ → ℕ → ℕ
unfolding exp_terms
exp_series S n r = exp_terms S r S 1 n

-- e^x for x from 0 up, whole multiples of L, which is ln 2, taken out
unfoldable pub exp_from : ℕ → ℕ → ℕ → ℕ → ℕ
unfolding exp_series
exp_from S n L x = 2 ^ (x / L) * exp_series S n (x % L)

-- e^x for any x: x = k L + r with 0 ≤ r < L. Below zero k is negative, and its power of two divides, rounded down
unfoldable pub exp_whole : ℕ → ℕ → ℕ → ℤ → ℕ
unfolding exp_from
exp_whole S n L (pos x) = exp_from S n L x
exp_whole S n L (negsuc x) = let k : ℕ = suc (x / L) in exp_series S n (k * L - suc x) / 2 ^ k

-- ---- the sine and the cosine
-- t - t w/(d (d + 1)) + t w²/(d (d + 1)(d + 2)(d + 3)) - ..: w is the square of the angle, t the size of the present term
unfoldable pub alternating : ℕ → ℕ → ℕ → ℕ → ℕ → ℤ
alternating S w t d zero = pos 0
alternating S w t d (suc n) = pos t -ℤ alternating S w (t * w / S / (d * (d + 1))) (d + 2) n

-- x - x³/6 + x⁵/120 - .., x in radians
unfoldable pub sin_series : ℕ → ℕ → ℕ → ℤ
unfolding alternating
sin_series S n x = alternating S (x * x / S) x 2 n

-- 1 - x²/2 + x⁴/24 - ..
unfoldable pub cos_series : ℕ → ℕ → ℕ → ℤ
unfolding alternating
cos_series S n x = alternating S (x * x / S) S 1 n
