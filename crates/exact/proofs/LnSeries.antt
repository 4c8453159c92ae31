-- The series of the logarithm grows with z, and once the running power of z is 0 further terms add nothing. Assumes nothing.
use Prim.Native.Nat.{ℕ, zero, suc, ◌+◌, ◌-◌, ◌*◌, ◌/◌, ◌≤◌, ◌<◌}
use mathlib.Core.Path.{◌≡◌, refl, sym, ap, ap₂, subst₂, ◌∙◌}
use native.Mathlib.Omega.{arith}
use native.Mathlib.Nat.{le_refl, le_trans, le_of_eq, add-le-add, mul-le-mul, mul-le-mul_left, mul-le-mul_right, zero-mul, zero-div, zero-add, add-zero, suc-add, add_assoc, zero-lt-suc, mul-add, mul_assoc, mul_comm, mul_right_comm, mul-mul-mul_comm, div-mul-le_self, le_of_mul-le-mul_right}
use lib.Arith.{le-zero}
use lib.Ieee.Nearest.{div_mono}
use Rattle.exact.specs.Series.{ln_terms, ln_series, ln_unit}
use Rattle.exact.proofs.Quotients.{div-le}

-- ---- it grows
pub ln_terms_mono : (S n d : ℕ) {w w' p p' : ℕ} → w ≤ w' → p ≤ p' → ln_terms S w p d n ≤ ln_terms S w' p' d n
unfolding ln_terms
ln_terms_mono S zero d hw hp = le_refl 0
ln_terms_mono S (suc n) d hw hp = add-le-add (div-le d hp) (ln_terms_mono S n (d + 2) hw (div-le S (mul-le-mul hp hw)))

pub ln_series_mono : (S n : ℕ) {z z' : ℕ} → z ≤ z' → ln_series S n z ≤ ln_series S n z'
unfolding ln_series
ln_series_mono S n h = mul-le-mul_left 2 (ln_terms_mono S n 1 (div-le S (mul-le-mul h h)) h)

-- ---- it ends
-- the power and the odd number after n terms
unfoldable pub power_after : ℕ → ℕ → ℕ → ℕ → ℕ
power_after S w p zero = p
power_after S w p (suc n) = power_after S w (p * w / S) n

unfoldable pub odd_after : ℕ → ℕ → ℕ
odd_after d zero = d
odd_after d (suc n) = odd_after (d + 2) n

pub power_after_mono : (S n : ℕ) {w w' p p' : ℕ} → w ≤ w' → p ≤ p' → power_after S w p n ≤ power_after S w' p' n
unfolding power_after
power_after_mono S zero hw hp = hp
power_after_mono S (suc n) hw hp = power_after_mono S n hw (div-le S (mul-le-mul hp hw))

-- n + k terms are n terms and k more
pub ln_terms_split :
    (S w p d n k : ℕ) → ln_terms S w p d (n + k) ≡ ln_terms S w p d n + ln_terms S w (power_after S w p n) (odd_after d n) k
unfolding ln_terms power_after odd_after
ln_terms_split S w p d zero k = ap (λ (j : ℕ). ln_terms S w p d j) (zero-add k) ∙ sym (zero-add (ln_terms S w p d k))
ln_terms_split S w p d (suc n) k =
    ap (λ (j : ℕ). ln_terms S w p d j) (suc-add n k)
    ∙ ap (λ (s : ℕ). p / d + s) (ln_terms_split S w (p * w / S) (d + 2) n k)
    ∙ sym (add_assoc (p / d) (ln_terms S w (p * w / S) (d + 2) n) _)

pub ln_terms_zero : (S w d n : ℕ) → ln_terms S w 0 d n ≡ 0
unfolding ln_terms
ln_terms_zero S w d zero = refl
ln_terms_zero S w d (suc n) =
    ap₂ (λ (a b : ℕ). a + b) (zero-div d)
    (ap (λ (x : ℕ). ln_terms S w x (d + 2) n) (ap (λ (x : ℕ). x / S) (zero-mul w) ∙ zero-div S) ∙ ln_terms_zero S w (d + 2) n)

-- what k terms past the n-th come to, at z; it grows with z
abbrev pub ln_tail : ℕ → ℕ → ℕ → ℕ → ℕ
ln_tail S n k z = ln_terms S (z * z / S) (power_after S (z * z / S) z n) (odd_after 1 n) k

pub ln_tail_mono : (S n k : ℕ) {z z' : ℕ} → z ≤ z' → ln_tail S n k z ≤ ln_tail S n k z'
ln_tail_mono S n k h =
    ln_terms_mono S k (odd_after 1 n) (div-le S (mul-le-mul h h)) (power_after_mono S n (div-le S (mul-le-mul h h)) h)

-- where the power of z' is 0 after n terms, further terms at any smaller z add nothing
pub ln_series_ends :
    (S n z' : ℕ) → power_after S (z' * z' / S) z' n ≡ 0 → {z : ℕ} → z ≤ z' → (k : ℕ) → ln_series S (n + k) z ≡ ln_series S n z
unfolding ln_series
ln_series_ends S n z' e {z} h k =
    let w : ℕ = z * z / S in
    let none : power_after S w z n ≡ 0 = le-zero (le_trans (power_after_mono S n (div-le S (mul-le-mul h h)) h) (le_of_eq e)) in
    ap (λ (s : ℕ). 2 * s)
    (ln_terms_split S w z 1 n k
    ∙ ap (λ (s : ℕ). ln_terms S w z 1 n + s)
    (ap (λ (x : ℕ). ln_terms S w x (odd_after 1 n) k) none ∙ ln_terms_zero S w (odd_after 1 n) k)
    ∙ add-zero (ln_terms S w z 1 n))

-- ---- z = (m - 1)/(m + 1)
-- it grows with m
pub ratio_mono : (S a b : ℕ) → 0 < S → S ≤ a → a ≤ b → (a - S) * S / (a + S) ≤ (b - S) * S / (b + S)
ratio_mono S a b h_s low h =
    div_mono ((a - S) * S) (a + S) ((b - S) * S) (b + S) (omega arith) (omega arith)
    (le_trans (le_of_eq (mul_right_comm (a - S) S (b + S)))
    (le_trans (mul-le-mul_right S cross) (le_of_eq (mul_right_comm (b - S) (a + S) S))))
  where
    cross_at : (u v : ℕ) → u ≤ v → u * (v + (S + S)) ≤ v * (u + (S + S))
    cross_at u v k = omega (arith, mul-add u v (S + S), mul-add v u (S + S), mul_comm u v, mul-le-mul_right (S + S) k)

    cross : (a - S) * (b + S) ≤ (b - S) * (a + S)
    cross =
        let ea : a - S + (S + S) ≡ a + S = omega arith in
        let eb : b - S + (S + S) ≡ b + S = omega arith in
        subst₂ (λ (p q : ℕ). (a - S) * p ≤ (b - S) * q) eb ea (cross_at (a - S) (b - S) (omega arith))

-- a quotient of at most a third, at the scale; z is one, and its square is at most a ninth
pub below-third : (S a d : ℕ) → 0 < d → 3 * a ≤ d → a * S / d ≤ S / 3
below-third S a d hd h =
    div_mono (a * S) d S 3 hd (zero-lt-suc 2) (omega (arith, mul-le-mul_right S h, mul_assoc 3 a S, mul_comm d S))

pub three_thirds : (S z : ℕ) → z ≤ S / 3 → z * 3 ≤ S
three_thirds S z h = omega arith

pub ratio_third : (S m : ℕ) → 0 < S → m ≤ 2 * S → (m - S) * S / (m + S) ≤ S / 3
ratio_third S m h_s h = below-third S (m - S) (m + S) (omega arith) (omega arith)

pub square-ninth : (S z : ℕ) → 0 < S → z * 3 ≤ S → z * z / S * 9 ≤ S
square-ninth S z h_s h =
    le_of_mul-le-mul_right
    (le_trans (le_of_eq (mul_right_comm (z * z / S) 9 S))
    (le_trans (mul-le-mul_right 9 (div-mul-le_self (z * z) S)) (le_trans (le_of_eq (mul-mul-mul_comm z z 3 3)) (mul-le-mul h h))))
    h_s

-- ---- the logarithm from 1 to 2
pub ln_unit_mono : (S n m m' : ℕ) → 0 < S → S ≤ m → m ≤ m' → ln_unit S n m ≤ ln_unit S n m'
unfolding ln_unit
ln_unit_mono S n m m' h_s hm h = ln_series_mono S n (ratio_mono S m m' h_s hm h)

pub ln_unit-one : (S n : ℕ) → ln_unit S n S ≡ 0
unfolding ln_unit ln_series
ln_unit-one S n =
    let none : S - S ≡ 0 = omega arith in
    let z : (S - S) * S / (S + S) ≡ 0 =
    ap (λ (t : ℕ). t * S / (S + S)) none ∙ ap (λ (t : ℕ). t / (S + S)) (zero-mul S) ∙ zero-div (S + S) in
    ap (λ (t : ℕ). 2 * ln_terms S (t * t / S) t 1 n) z ∙ ap (λ (t : ℕ). 2 * t) (ln_terms_zero S (0 * 0 / S) 1 n)
