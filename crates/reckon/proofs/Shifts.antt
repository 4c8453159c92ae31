-- A power of two put in and w of them taken out is one shift, to the right or to the left. Assumes nothing.
use Prim.Native.Nat.{ℕ, ◌+◌, ◌-◌, ◌*◌, ◌/◌, ◌^◌, ◌≤◌}
use mathlib.Core.Path.{◌≡◌, sym, ap, ◌∙◌}
use native.Mathlib.Nat.{mul-div-mul_left, mul-div_cancel_left, mul_assoc, mul_comm}
use native.Mathlib.Omega.{arith}
use lib.Pow.{pow_pos, pow-add}

power_split : (i j : ℕ) → i ≤ j → 2 ^ j ≡ 2 ^ i * 2 ^ (j - i)
power_split i j h = let e : j ≡ i + (j - i) = omega arith in ap (λ (k : ℕ). 2 ^ k) e ∙ pow-add 2 i (j - i)

pub shift_right : (w e : ℕ) {k : ℕ} → k ≤ w → e / 2 ^ (w - k) ≡ 2 ^ k * e / 2 ^ w
shift_right w e {k} h =
    sym (mul-div-mul_left e (2 ^ (w - k)) (pow_pos k)) ∙ ap (λ (m : ℕ). 2 ^ k * e / m) (sym (power_split k w h))

pub shift_left : (w e : ℕ) {k : ℕ} → w ≤ k → e * 2 ^ (k - w) ≡ 2 ^ k * e / 2 ^ w
shift_left w e {k} h =
    mul_comm e (2 ^ (k - w))
    ∙ sym (mul-div_cancel_left (2 ^ (k - w) * e) (pow_pos w))
    ∙ ap (λ (m : ℕ). m / 2 ^ w) (sym (mul_assoc (2 ^ w) (2 ^ (k - w)) e))
    ∙ ap (λ (m : ℕ). m * e / 2 ^ w) (sym (power_split w k h))
