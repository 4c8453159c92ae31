-- What the signed product and quotient mean around zero: the sign changes with the sign of an argument, a result smaller than one is
-- 0 on both sides, and the rounding is toward zero in the one and to the nearest in the other. Assumes nothing.
use Prim.Native.Nat.{ℕ, zero, suc, ◌+◌, ◌*◌, ◌/◌, ◌≤◌, ◌<◌}
use mathlib.Core.Path.{◌≡◌, refl, sym, ap, ◌∙◌}
use native.Mathlib.Omega.{arith}
use native.Mathlib.Nat.{div-eq_of_lt, zero-div, mul-zero, mul_comm, lt-div-mul-add, div-mul-le_self}
use lib.IntN.{ℤ, pos, negsuc, neg_ℤ, nat_abs, neg_ℤ-neg_ℤ, ◌*ℤ◌}
use lib.Signed.{quot_z}
use Rattle.exact.specs.Near.{up, dn}
use Rattle.exact.specs.Laws.{Whole}
use Rattle.exact.proofs.Signed.{same_parts, neg-up, neg-dn, mul-up, mul-dn, mul-abs, quot-abs, abs-parts}
use Rattle.exact.proofs.Rounding.{quot-whole}
use Rattle.fixed.specs.Fixed.{mul_div, nearest}
use Rattle.fixed.specs.Bounds.{Halfway}

-- ---- a b / d toward zero
-- within one of the quotient
pub mul_div-whole : (a b : ℤ) (d : ℕ) → 0 < d → Whole d (mul_div a b (pos d)) (a *ℤ b)
unfolding mul_div
mul_div-whole a b d h = quot-whole d (a *ℤ b) h

-- the sizes alone are multiplied and divided
pub mul_div-abs : (a b d : ℤ) → nat_abs (mul_div a b d) ≡ nat_abs a * nat_abs b / nat_abs d
unfolding mul_div
mul_div-abs a b d = quot-abs (a *ℤ b) d ∙ ap (λ (t : ℕ). t / nat_abs d) (mul-abs a b)

abs_zero : (z : ℤ) → nat_abs z ≡ 0 → z ≡ pos 0
abs_zero z h = same_parts z (pos 0) (omega (arith, abs-parts z)) (omega (arith, abs-parts z))

-- a product smaller than the divisor gives 0, whatever the signs
pub mul_div_zero : (a b d : ℤ) → nat_abs a * nat_abs b < nat_abs d → mul_div a b d ≡ pos 0
mul_div_zero a b d h = abs_zero (mul_div a b d) (mul_div-abs a b d ∙ div-eq_of_lt h)

neg-mul : (a b : ℤ) → neg_ℤ a *ℤ b ≡ neg_ℤ (a *ℤ b)
neg-mul a b =
    same_parts (neg_ℤ a *ℤ b) (neg_ℤ (a *ℤ b))
    (rw (mul-up (neg_ℤ a) b, neg-up a, neg-dn a, neg-up (a *ℤ b), mul-dn a b) (omega arith))
    (rw (mul-dn (neg_ℤ a) b, neg-up a, neg-dn a, neg-dn (a *ℤ b), mul-up a b) (omega arith))

neg-quot : (a d : ℤ) → quot_z (neg_ℤ a) d ≡ neg_ℤ (quot_z a d)
neg-quot (pos zero) (pos d) = rw (zero-div d)
neg-quot (pos zero) (negsuc d) = rw (zero-div (suc d))
neg-quot (pos (suc a)) (pos d) = refl
neg-quot (pos (suc a)) (negsuc d) = sym (neg_ℤ-neg_ℤ (pos (suc a / suc d)))
neg-quot (negsuc a) (pos d) = sym (neg_ℤ-neg_ℤ (pos (suc a / d)))
neg-quot (negsuc a) (negsuc d) = refl

-- the other sign of an argument gives the other sign of the result, and nothing else
pub mul_div_odd : (a b d : ℤ) → mul_div (neg_ℤ a) b d ≡ neg_ℤ (mul_div a b d)
unfolding mul_div
mul_div_odd a b d = ap (λ (z : ℤ). quot_z z d) (neg-mul a b) ∙ neg-quot (a *ℤ b) d

-- ---- a/d to the nearest
pub nearest_odd : (a : ℤ) (d : ℕ) → 0 < d → nearest (neg_ℤ a) d ≡ neg_ℤ (nearest a d)
unfolding nearest
nearest_odd (pos zero) d h = rw (div-eq_of_lt (half d h))
  where
    half : (d : ℕ) → 0 < d → 0 + d / 2 < d
    half d h = omega arith
nearest_odd (pos (suc n)) d h = refl
nearest_odd (negsuc n) d h = sym (neg_ℤ-neg_ℤ (pos ((suc n + d / 2) / d)))

half_core : (n d : ℕ) → 0 < d → (2 * (d * ((n + d / 2) / d)) ≤ 2 * n + d) × (2 * n ≤ 2 * (d * ((n + d / 2) / d)) + d)
half_core n d h =
    let q : ℕ = (n + d / 2) / d in (
      omega (arith, mul_comm d q, div-mul-le_self (n + d / 2) d),
      omega (arith, mul_comm d q, lt-div-mul-add {a = n + d / 2} {b = d} h),
    )

pub nearest-half : (a : ℤ) (d : ℕ) → 0 < d → Halfway d (nearest a d) a
unfolding nearest
nearest-half (pos n) d h =
    record {
      low = omega (arith, (half_core n d h).0, mul-zero d);
      high = omega (arith, (half_core n d h).1, mul-zero d);
    }
nearest-half (negsuc n) d h =
    let q : ℕ = (suc n + d / 2) / d in
    let u : d * up (neg_ℤ (pos q)) ≡ 0 = ap (λ (t : ℕ). d * t) (neg-up (pos q)) ∙ mul-zero d in
    let v : d * dn (neg_ℤ (pos q)) ≡ d * q = ap (λ (t : ℕ). d * t) (neg-dn (pos q)) in
    record {
      low = omega (arith, (half_core (suc n) d h).1, u, v);
      high = omega (arith, (half_core (suc n) d h).0, u, v);
    }
