-- The program's exponential and its nearest whole number do not fall as their argument grows. Each term of the series grows with r, and
-- at ln 2, which is rounded down, their sum has not passed 2: so nothing is lost from one multiple of ln 2 to the next. Assumes nothing.
use Prim.Native.Nat.{ℕ, suc, ◌+◌, ◌-◌, ◌*◌, ◌/◌, ◌^◌, ◌≤◌}
use native.Mathlib.Omega.{arith}
use native.Mathlib.Nat.{le_refl, add-le-add, mul-le-mul}
use lib.Dec.{lit≤}
use lib.IntN.{ℤ, pos, negsuc, neg_ℤ}
use Rattle.exact.specs.Near.{up, dn}
use Rattle.exact.proofs.Signed.{neg-up, neg-dn}
use Rattle.exact.proofs.Quotients.{div-le}
use Rattle.exact.proofs.ExpSeries.{exp_terms_mono}
use Rattle.exact.proofs.ExpWhole.{doubling_mono}
use Rattle.fixed.specs.Fixed.{E9, exp_one, exp_two, exp_count, nearest, exp_unit, exp_shifted, exp_fixed}

-- ---- the exponential
unit_mono : (r r' : ℕ) → r ≤ r' → exp_unit r ≤ exp_unit r'
unfolding exp_unit
unit_mono r r' h =
    add-le-add (add-le-add (le_refl exp_one) h) (exp_terms_mono exp_one (exp_count - 2) 3 h (div-le (exp_one / 2) (mul-le-mul (div-le 4 h) h)))

unit_one : (r : ℕ) → exp_one ≤ exp_unit r
unfolding exp_unit
unit_one r = omega arith

unit_top : exp_unit exp_two ≤ 2 * exp_one
unfolding exp_unit
unit_top = lit≤ tt

shifted_mono : (x y : ℕ) → x ≤ y → exp_shifted x ≤ exp_shifted y
unfolding exp_shifted
shifted_mono x y h = div-le (2 ^ 32) (doubling_mono exp_unit exp_one exp_two (lit≤ tt) unit_mono unit_one unit_top x y h)

pub exp_fixed_mono : (x y : ℤ) → up x + dn y ≤ up y + dn x → exp_fixed x ≤ exp_fixed y
unfolding exp_fixed
exp_fixed_mono x y h =
    shifted_mono (exp_one / E9 * up x + 32 * exp_two - exp_one / E9 * dn x) (exp_one / E9 * up y + 32 * exp_two - exp_one / E9 * dn y) (put_in (up x) (dn x) (up y) (dn y) h)
  where
    put_in : (a b c d : ℕ) → a + d ≤ c + b → exp_one / E9 * a + 32 * exp_two - exp_one / E9 * b ≤ exp_one / E9 * c + 32 * exp_two - exp_one / E9 * d
    put_in a b c d k = omega arith

-- ---- the nearest whole number
pub nearest_mono :
    (d : ℕ) (a b : ℤ) → up a + dn b ≤ up b + dn a
    → up (nearest a d) + dn (nearest b d) ≤ up (nearest b d) + dn (nearest a d)
unfolding nearest
nearest_mono d (pos m) (pos n) h = add-le-add (div-le d (add-le-add (omega arith) (le_refl (d / 2)))) (le_refl 0)
nearest_mono d (pos m) (negsuc n) h = absurd (omega arith)
nearest_mono d (negsuc m) (pos n) h = below ((suc m + d / 2) / d) ((n + d / 2) / d)
  where
    below : (a b : ℕ) → up (neg_ℤ (pos a)) + 0 ≤ b + dn (neg_ℤ (pos a))
    below a b = omega (arith, neg-up (pos a), neg-dn (pos a))
nearest_mono d (negsuc m) (negsuc n) h =
    turned ((suc m + d / 2) / d) ((suc n + d / 2) / d) (div-le d (add-le-add (omega arith) (le_refl (d / 2))))
  where
    turned : (a b : ℕ) → b ≤ a → up (neg_ℤ (pos a)) + dn (neg_ℤ (pos b)) ≤ up (neg_ℤ (pos b)) + dn (neg_ℤ (pos a))
    turned a b k = omega (arith, neg-up (pos a), neg-dn (pos a), neg-up (pos b), neg-dn (pos b))
