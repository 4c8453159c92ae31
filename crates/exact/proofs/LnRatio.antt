-- The logarithm of a quotient of two whole numbers: the series at z = (p - q)/(p + q), and the logarithm of m = p/q rounded down to
-- the scale, are a few units apart. Assumes nothing.
use Prim.Native.Nat.{ℕ, suc, ◌+◌, ◌-◌, ◌*◌, ◌/◌, ◌≤◌, ◌<◌}
use mathlib.Core.Path.{◌≡◌, ap, subst₂}
use native.Mathlib.Omega.{arith}
use native.Mathlib.Nat.{le_trans, le_of_eq, mul-le-mul_right, mul-add, add-mul, mul_comm, mul_right_comm, lt-div-mul-add, div-mul-le_self, div-le_of_le-mul, le-div_iff_mul-le}
use lib.Ieee.Nearest.{div_mono}
use Rattle.exact.specs.Series.{ln_series, ln_unit}
use Rattle.exact.proofs.LnSeries.{ln_series_mono, below-third, three_thirds}
use Rattle.exact.proofs.LnLip.{ln_series_lip}

-- of two quotients c/s and b/q above 1, by what they have above 1, the one that is smaller has the smaller z
cross : (a b q s : ℕ) → a * q ≤ b * s → a * (q + b + q) ≤ b * (s + a + s)
cross a b q s h =
    omega (arith, mul-add a (q + b) q, mul-add a q b, mul-add b (s + a) s, mul-add b s a, mul_comm a b)

smaller_z :
    (S c s b q : ℕ) → 0 < s → 0 < q → s ≤ c → q ≤ b → c * q ≤ b * s → (c - s) * S / (c + s) ≤ (b - q) * S / (b + q)
smaller_z S c s b q hs hq hc hb h =
    div_mono ((c - s) * S) (c + s) ((b - q) * S) (b + q) (omega arith) (omega arith)
    (le_trans (le_of_eq (mul_right_comm (c - s) S (b + q)))
    (le_trans (mul-le-mul_right S whole) (le_of_eq (mul_right_comm (b - q) (c + s) S))))
  where
    above : (x y m n : ℕ) → n ≤ y → m ≤ x → x * n ≤ y * m → (x - m) * n ≤ (y - n) * m
    above x y m n k l g = go (x - m) (y - n) (omega arith) (omega arith)
      where
        go : (i j : ℕ) → x ≡ m + i → y ≡ n + j → i * n ≤ j * m
        go i j ei ej =
            omega (
              arith,
              subst₂ (λ (u v : ℕ). u * n ≤ v * m) ei ej g,
              add-mul m i n,
              add-mul n j m,
              mul_comm m n,
            )

    whole : (c - s) * (b + q) ≤ (b - q) * (c + s)
    whole =
        let eb : q + (b - q) + q ≡ b + q = omega arith in
        let ec : s + (c - s) + s ≡ c + s = omega arith in
        subst₂ (λ (u v : ℕ). (c - s) * u ≤ (b - q) * v) eb ec (cross (c - s) (b - q) q s (above c b s q hb hc h))

-- one unit more of m moves z by at most two
next_z : (S m : ℕ) → 0 < S → S ≤ m → (m + 1 - S) * S / (m + 1 + S) ≤ (m - S) * S / (m + S) + 2
next_z S m h_s hm =
    div-le_of_le-mul (m + 1 + S) (go ((m - S) * S / (m + S)) (lt-div-mul-add {a = (m - S) * S} {b = m + S} (omega arith)))
  where
    go : (z : ℕ) → (m - S) * S < z * (m + S) + (m + S) → (m + 1 - S) * S ≤ (m + 1 + S) * (z + 2)
    go z h =
        let e : m + 1 - S ≡ m - S + 1 = omega arith in
        omega (
          arith,
          ap (λ (t : ℕ). t * S) e,
          add-mul (m - S) 1 S,
          mul-add (m + 1 + S) z 2,
          add-mul (m + 1) S z,
          add-mul m 1 z,
          mul-add z m S,
          mul_comm z m,
          mul_comm z S,
        )

pub from_one : (S p q : ℕ) → 0 < q → q ≤ p → S ≤ p * S / q
from_one S p q hq h = (le-div_iff_mul-le hq).1 (le_trans (le_of_eq (mul_comm S q)) (mul-le-mul_right S h))

pub ln_ratio-below :
    (S n p q : ℕ) → 0 < S → 0 < q → q ≤ p → ln_unit S n (p * S / q) ≤ ln_series S n ((p - q) * S / (p + q))
unfolding ln_unit
ln_ratio-below S n p q h_s hq h =
    ln_series_mono S n (smaller_z S (p * S / q) S p q h_s hq (from_one S p q hq h) h (div-mul-le_self (p * S) q))

pub ln_ratio-above :
    (S n p q : ℕ) → 0 < S → 0 < q → q ≤ p → p ≤ 2 * q
    → 32 * ln_series S (suc n) ((p - q) * S / (p + q)) ≤ 32 * ln_unit S (suc n) (p * S / q) + (250 * n + 1146)
unfolding ln_unit
ln_ratio-above S n p q h_s hq h top =
    let m : ℕ = p * S / q in
    let low : S ≤ m = from_one S p q hq h in
    let z : ℕ = (m - S) * S / (m + S) in
    let z' : ℕ = (p - q) * S / (p + q) in
    let up : z' ≤ z + 2 =
    le_trans (smaller_z S p q (m + 1) S hq h_s h (omega arith) (omega (arith, lt-div-mul-add {a = p * S} {b = q} hq, add-mul m 1 q)))
    (next_z S m h_s low) in
    fin (ln_series S (suc n) z') (ln_series S (suc n) z)
    (ln_series_lip S n z z' 2 h_s (three_thirds S z' (below-third S (p - q) (p + q) (omega arith) (omega arith)))
    (smaller_z S m S p q h_s hq low h (div-mul-le_self (p * S) q)) up)
  where
    fin : (A B : ℕ) → 32 * A ≤ 32 * B + 73 * 2 + (250 * n + 1000) → 32 * A ≤ 32 * B + (250 * n + 1146)
    fin A B k = omega arith
