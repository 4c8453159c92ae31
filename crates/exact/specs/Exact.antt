-- The exact value: a fixed reckoning in whole numbers of 10^-30, sixty terms a series, each division and root rounded down.
-- A number of terms n stands as a parameter where "more terms move nothing" is stated of it. Definitions only.
use Rattle.std.specs.Prelude.{ℕ, suc, ◌*◌, ◌/◌, ◌^◌, ℤ, pos, negsuc, neg_ℤ, nat_abs, ◌-ℤ◌, ◌*ℤ◌}
use Rattle.std.specs.Int.Signed.{shr_z}
use Rattle.exact.specs.Series.{ln2, ln_from, exp_whole, sin_series, cos_series}
use Rattle.exact.specs.Root.{root}

-- one, in units of 10^-30
abbrev pub E30 : ℕ
E30 = 1_000000_000000_000000_000000_000000

abbrev pub PI30 : ℕ
PI30 = 3_141592_653589_793238_462643_383279

-- ---- the logarithm of any x above 0: a hundred powers of two are put in, so that x is 1 or more, and taken out again
unfoldable pub ln_with : ℕ → ℕ → ℤ
unfolding ln_from ln2
ln_with n x = pos (ln_from E30 n (ln2 E30 n) (2 ^ 100 * x)) -ℤ pos (100 * ln2 E30 n)

unfoldable pub ln_e : ℕ → ℤ
unfolding ln_with
ln_e x = ln_with 60 x

-- ---- the exponential of any x
unfoldable pub exp_with : ℕ → ℤ → ℕ
unfolding exp_whole ln2
exp_with n x = exp_whole E30 n (ln2 E30 n) x

unfoldable pub exp_e : ℤ → ℕ
unfolding exp_with
exp_e x = exp_with 60 x

-- ---- powers
-- a product, rounded down once
unfoldable pub mul_e : ℤ → ℤ → ℤ
mul_e a b = shr_z (a *ℤ b) E30

-- u^n is e^(n ln u)
unfoldable pub pow_e : ℕ → ℤ → ℕ
unfolding exp_e mul_e ln_e
pow_e u n = exp_e (mul_e n (ln_e u))

-- 10^x
unfoldable pub ten_e : ℤ → ℕ
unfolding pow_e
ten_e x = pow_e (10 * E30) x

-- ---- sine and cosine of an angle in whole degrees; the size of the angle decides, and its sign is put on afterwards
unfoldable pub radians : ℕ → ℕ
radians d = d * PI30 / 180

unfoldable pub sin_with : ℕ → ℤ → ℤ
unfolding sin_series radians
sin_with n (pos d) = sin_series E30 n (radians d)
sin_with n (negsuc d) = neg_ℤ (sin_series E30 n (radians (suc d)))

unfoldable pub cos_with : ℕ → ℤ → ℤ
unfolding cos_series radians
cos_with n d = cos_series E30 n (radians (nat_abs d))

unfoldable pub sin_e : ℤ → ℤ
unfolding sin_with
sin_e d = sin_with 60 d

unfoldable pub cos_e : ℤ → ℤ
unfolding cos_with
cos_e d = cos_with 60 d

-- ---- the root of x, both in units of 10^-30
unfoldable pub root_e : ℕ → ℕ
unfolding root
root_e x = root (x * E30)
