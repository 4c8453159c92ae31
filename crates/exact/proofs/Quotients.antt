-- What the library lacks about quotients, and products and quotients at two scales, S and S * K. Assumes nothing.
use Prim.Native.Nat.{ℕ, zero, suc, ◌+◌, ◌-◌, ◌*◌, ◌/◌, ◌≤◌, ◌<◌}
use mathlib.Core.Path.{◌≡◌, sym, ap, ◌∙◌}
use native.Mathlib.Omega.{arith}
use native.Mathlib.Nat.{le_trans, le_of_eq, zero-lt-suc, div-zero, div-mul-le_self, le-div_iff_mul-le, div-le_of_le-mul, le_of_mul-le-mul_right, mul-le-mul, mul-le-mul_left, mul-le-mul_right, mul_assoc, mul_comm, mul_left_comm, mul-sub, mul-pos, add-mul, lt-div-mul-add}

-- a quotient grows with its dividend
pub div-le : (d : ℕ) {a b : ℕ} → a ≤ b → a / d ≤ b / d
div-le zero {a} {b} h = le_of_eq (div-zero a ∙ sym (div-zero b))
div-le (suc d) {a} {b} h = (le-div_iff_mul-le (zero-lt-suc d)).1 (le_trans (div-mul-le_self a (suc d)) h)

-- a factor above 0 is cancelled
pub cancel : (c a b : ℕ) → 0 < c → a * c ≤ b * c → a ≤ b
cancel c a b h k = le_of_mul-le-mul_right k h

-- p w is at most p where w is at most one
pub mul_small : (S p : ℕ) {w : ℕ} → w ≤ S → p * w / S ≤ p
mul_small S p h = div-le_of_le-mul S (le_trans (mul-le-mul_left p h) (le_of_eq (mul_comm p S)))

-- a product at the coarse scale is not above the one at the fine scale
pub mul-below : (S K a b : ℕ) {a' b' : ℕ} → 0 < S → 0 < K → a * K ≤ a' → b * K ≤ b' → a * b / S * K ≤ a' * b' / (S * K)
mul-below S K a b h_s h_k ha hb =
    (le-div_iff_mul-le (mul-pos h_s h_k)).1
    (le_trans (le_of_eq (regroup (a * b / S)))
    (le_trans (mul-le-mul_right (K * K) (div-mul-le_self (a * b) S)) (le_trans (le_of_eq spread) (mul-le-mul ha hb))))
  where
    regroup : (q : ℕ) → q * K * (S * K) ≡ q * S * (K * K)
    regroup q = simp (mul_assoc, mul_comm, mul_left_comm)

    spread : a * b * (K * K) ≡ a * K * (b * K)
    spread = simp (mul_assoc, mul_comm, mul_left_comm)

-- and the one at the fine scale is at most c coarse units where A B is at most c
pub mul-above : (S K A B c : ℕ) {a' b' : ℕ} → a' ≤ A * K → b' ≤ B * K → A * B ≤ c * S → a' * b' / (S * K) ≤ c * K
mul-above S K A B c ha hb h =
    div-le_of_le-mul (S * K)
    (le_trans (mul-le-mul ha hb) (le_trans (le_of_eq gather) (le_trans (mul-le-mul_right (K * K) h) (le_of_eq regroup))))
  where
    gather : A * K * (B * K) ≡ A * B * (K * K)
    gather = simp (mul_assoc, mul_comm, mul_left_comm)

    regroup : c * S * (K * K) ≡ S * K * (c * K)
    regroup = simp (mul_assoc, mul_comm, mul_left_comm)

-- the same of a quotient by a whole number
pub quot_below : (d K p : ℕ) {p' : ℕ} → 0 < d → p * K ≤ p' → p / d * K ≤ p' / d
quot_below d K p hd h =
    (le-div_iff_mul-le hd).1
    (le_trans (le_of_eq (simp (mul_assoc, mul_comm, mul_left_comm))) (le_trans (mul-le-mul_right K (div-mul-le_self p d)) h))

pub quot_above : (d K P c : ℕ) {p' : ℕ} → p' ≤ P * K → P ≤ c * d → p' / d ≤ c * K
quot_above d K P c hp h =
    div-le_of_le-mul d (le_trans hp (le_trans (mul-le-mul_right K h) (le_of_eq (simp (mul_assoc, mul_comm)))))

-- a quotient and one more is not below
pub over_quot : (p d : ℕ) → 0 < d → p ≤ (p / d + 1) * d
over_quot p d h = omega (arith, add-mul (p / d) 1 d, lt-div-mul-add {a = p} {b = d} h)

-- a factor of a difference
pub sub-mul : (a b c : ℕ) → (a - b) * c ≡ a * c - b * c
sub-mul a b c =
    mul_comm (a - b) c ∙ mul-sub c a b ∙ ap (λ (t : ℕ). t - c * b) (mul_comm c a) ∙ ap (λ (t : ℕ). a * c - t) (mul_comm c b)
