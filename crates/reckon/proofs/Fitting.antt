-- What fits the 64 bits of a machine number. Assumes nothing.
use Prim.Native.Nat.{ℕ, ◌*◌, ◌^◌, ◌≤◌, ◌<◌}
use mathlib.Core.Path.{◌≡◌}
use native.Mathlib.Nat.{le_trans, le_of_eq, lt_of_le_of_lt, div-le_self, mul-le-mul}
use native.Mathlib.Omega.{arith}
use lib.Dec.{T, ltb, lit<}
use lib.IntN.{ℤ, pos, nat_abs, ◌-ℤ◌}
use lib.Signed.{quot_z}
use mir.Syntax.{w64}
use mir.Val.{Fits, SFits, to_z, of_z}
use mir.Facts.{to_z-of_z, to_z_pos}
use Rattle.exact.proofs.Signed.{by_sign, sfits, sfits-abs, sub_is, quot-abs}

-- a product, where that of its factors' bounds does
pub mul-fits : (A B : ℕ) {a b : ℕ} → a ≤ A → b ≤ B → T (ltb (A * B) (2 ^ 64)) → Fits w64 (a * b)
mul-fits A B h k t = record { fits = lt_of_le_of_lt (mul-le-mul h k) (lit< t) }

-- a signed quotient, where the dividend's size does
pub quot_fits : (z d : ℤ) → nat_abs z < 2 ^ 63 → SFits w64 (quot_z z d)
quot_fits z d h =
    sfits-abs (quot_z z d) (lt_of_le_of_lt (le_trans (le_of_eq (quot-abs z d)) (div-le_self (nat_abs z) (nat_abs d))) h)

-- a difference of two numbers that do; and the machine reads it back as itself
module _ (a b : ℕ) (h : a < 2 ^ 63) (k : b < 2 ^ 63) where
  less : SFits w64 (pos a -ℤ pos b)
  less =
      let z : ℤ = pos a -ℤ pos b in
      by_sign z
      (λ p. sfits z (omega (arith, sub_is (pos a) (pos b))) (omega arith))
      (λ p. sfits z (omega arith) (omega (arith, sub_is (pos a) (pos b))))

  pub less-fits : SFits w64 (to_z w64 a -ℤ pos b)
  less-fits = rw (to_z_pos w64 h) less

  pub less-is : to_z w64 (of_z w64 (to_z w64 a -ℤ pos b)) ≡ pos a -ℤ pos b
  less-is = simp (to_z_pos w64 h, to_z-of_z less)
