-- A sigma reported to the nearest millionth is within one of the exact root, where its variance is within e units of 10^-9 and 1000 e
-- is below the sigma in millionths: half a millionth for the nearest, and e/(2 sigma), less than the other half. A variance of 0.09
-- or more bears 298 units. The exact total sigma is made from the exact intra-event sigma rounded down: its square is at most 5 units
-- of 10^-30 short. Assumes nothing.
use Prim.Native.Nat.{ℕ, ◌+◌, ◌-◌, ◌*◌, ◌/◌, ◌≤◌, ◌<◌}
use mathlib.Core.Path.{◌≡◌, ap}
use native.Mathlib.Omega.{arith}
use native.Mathlib.Decide.{dec_le}
use native.Mathlib.Nat.{le_trans, le_of_lt, lt_of_not-le, mul-le-mul, mul-le-mul_right, mul_assoc, mul_left_comm, mul-mul-mul_comm, mul-add, add-mul, mul-pos, le_of_mul-le-mul_right}
use lib.Dec.{lit≤}
use lib.IntN.{pos}
use Rattle.exact.specs.Near.{NearZ}
use Rattle.exact.specs.Root.{root}
use Rattle.exact.specs.Exact.{E30, root_e}
use Rattle.fixed.specs.Fixed.{K21}
use Rattle.model.specs.Fixed.{sigma_of}
use Rattle.model.specs.Equations.{E24}
use Rattle.exact.proofs.Root.{root_is, side-lt}
use Rattle.model.proofs.Variance.{square-root}
use Rattle.model.proofs.Quotients.{near_pos, pos_high, pos_low}

-- ---- the root of v, in units of 1/(10^9 K) on the fine side: s is the nearest to the root of 1000 v
half_step : (s : ℕ) → 4 * ((s + 1) * (s + 1)) ≡ (2 * s + 1) * (2 * s + 1) + 4 * s + 3
half_step s = simp (mul-add, add-mul) (omega (arith, mul-mul-mul_comm 2 s 2 s))

whole-step : (m : ℕ) → (2 * m + 1) * (2 * m + 1) ≡ 4 * (m * m) + 4 * m + 1
whole-step m = simp (mul-add, add-mul) (omega (arith, mul-mul-mul_comm 2 m 2 m))

-- squares of numbers of millionths, and variances, at the fine scale
square-fine : (m k : ℕ) → 1000000 * (m * m) * (k * k) ≡ m * (1000 * k) * (m * (1000 * k))
square-fine m k =
    omega (
      arith,
      mul-mul-mul_comm m (1000 * k) m (1000 * k),
      ap (λ (t : ℕ). m * m * t) (mul-mul-mul_comm 1000 k 1000 k),
      mul_left_comm (m * m) 1000000 (k * k),
      mul_assoc 1000000 (m * m) (k * k),
    )

variance_fine : (w k : ℕ) → w * k * (1000000000 * k) ≡ 1000000000 * w * (k * k)
variance_fine w k = omega (arith, mul_left_comm (w * k) 1000000000 k, mul_assoc w k k, mul_assoc 1000000000 w (k * k))

root-high :
    (K v e s v' r : ℕ) → 0 < K → v' ≤ (v + e) * K → r * r ≤ v' * (1000000000 * K) → 4000 * v < (2 * s + 1) * (2 * s + 1)
    → 1000 * e ≤ s
    → r ≤ (s + 1) * (1000 * K)
root-high K v e s v' r h_k hv hr hs he = either (dec_le r ((s + 1) * (1000 * K)))
  where
    far : (s + 1) * (1000 * K) < r → ⊥
    far h =
        let below : (s + 1) * (1000 * K) ≤ r = omega arith in
        let one : (s + 1) * (1000 * K) * ((s + 1) * (1000 * K)) ≤ (v + e) * K * (1000000000 * K) =
        le_trans (mul-le-mul below below) (le_trans hr (mul-le-mul_right (1000000000 * K) hv)) in
        let two : 1000000 * ((s + 1) * (s + 1)) * (K * K) ≤ 1000000000 * (v + e) * (K * K) =
        omega (arith, one, square-fine (s + 1) K, variance_fine (v + e) K) in
        let three : 1000000 * ((s + 1) * (s + 1)) ≤ 1000000000 * (v + e) = le_of_mul-le-mul_right two (mul-pos h_k h_k) in
        omega (arith, three, half_step s, hs, he)

    either : Dec (r ≤ (s + 1) * (1000 * K)) → r ≤ (s + 1) * (1000 * K)
    either (yes h) = h
    either (no h) = absurd (far (lt_of_not-le h))

-- m is s - 1
root-low :
    (K v e m v' r : ℕ) → 0 < K → v * K ≤ v' + e * K → v' * (1000000000 * K) < (r + 1) * (r + 1)
    → (2 * m + 1) * (2 * m + 1) ≤ 4000 * v
    → 1000 * e ≤ m
    → m * (1000 * K) ≤ r
root-low K v e m v' r h_k hv hr hs he = either (dec_le (m * (1000 * K)) r)
  where
    far : r < m * (1000 * K) → ⊥
    far h =
        let above : r + 1 ≤ m * (1000 * K) = omega arith in
        let one : v' * (1000000000 * K) ≤ m * (1000 * K) * (m * (1000 * K)) = le_trans (le_of_lt hr) (mul-le-mul above above) in
        let two : v * K * (1000000000 * K) ≤ m * (1000 * K) * (m * (1000 * K)) + e * K * (1000000000 * K) =
        omega (arith, one, mul-le-mul_right (1000000000 * K) hv, add-mul v' (e * K) (1000000000 * K)) in
        let three : 1000000000 * v * (K * K) ≤ (1000000 * (m * m) + 1000000000 * e) * (K * K) =
        omega (
          arith,
          two,
          variance_fine v K,
          variance_fine e K,
          square-fine m K,
          add-mul (1000000 * (m * m)) (1000000000 * e) (K * K),
        ) in
        let four : 1000000000 * v ≤ 1000000 * (m * m) + 1000000000 * e = le_of_mul-le-mul_right three (mul-pos h_k h_k) in
        omega (arith, four, whole-step m, hs, he)

    either : Dec (m * (1000 * K) ≤ r) → m * (1000 * K) ≤ r
    either (yes h) = h
    either (no h) = absurd (far (lt_of_not-le h))

-- ---- the reported sigma
pub sigma_near :
    (e v v' : ℕ) → e ≤ 298 → 89999000 ≤ v → NearZ K21 e (pos v) (pos v') → NearZ (1000 * K21) 1 (pos (sigma_of v)) (pos (root_e v'))
unfolding sigma_of root_e
sigma_near e v v' he hv n =
    let t : ℕ = root (4000 * v) in
    let lo : t * t ≤ 4000 * v = (root_is (4000 * v)).low in
    let hi : 4000 * v < (t + 1) * (t + 1) = (root_is (4000 * v)).high in
    let big : 599996 < t + 1 = side-lt 599996 (t + 1) (omega (arith, hi)) in
    let s : ℕ = (t + 1) / 2 in
    let m : ℕ = s - 1 in
    let up : t + 1 ≤ 2 * s + 1 = omega arith in
    let down : 2 * m + 1 ≤ t = omega arith in
    let r : ℕ = root (v' * E30) in
    let a : r ≤ (s + 1) * (1000 * K21) =
    root-high K21 v e s v' r (lit≤ tt) (omega (arith, pos_high n, add-mul v e K21)) (root_is (v' * E30)).low
    (omega (arith, hi, mul-le-mul up up)) (omega arith) in
    let b : m * (1000 * K21) ≤ r =
    root-low K21 v e m v' r (lit≤ tt) (pos_low n) (root_is (v' * E30)).high (le_trans (mul-le-mul down down) lo) (omega arith) in
    let one : s ≡ m + 1 = omega arith in
    near_pos s r (omega (arith, b, one)) (omega (arith, a))

-- ---- a further deviation joined, on both sides
pub joined-near :
    (e v v' t : ℕ) → v' ≤ 4 * E30 → NearZ K21 e (pos v) (pos v')
    → NearZ K21 (e + 1) (pos (v + t * t * 1000)) (pos (root_e v' * root_e v' / E30 + t * t * E24))
joined-near e v v' t top n =
    let q = square-root v' top in
    near_pos (v + t * t * 1000) (root_e v' * root_e v' / E30 + t * t * E24)
    (low K21 (root_e v' * root_e v' / E30) (lit≤ tt) q.1 (pos_low n))
    (high K21 (root_e v' * root_e v' / E30) q.0 (pos_high n))
  where
    low : (K s : ℕ) → 5 ≤ K → v' ≤ s + 5 → v * K ≤ v' + e * K → (v + t * t * 1000) * K ≤ s + t * t * (1000 * K) + (e + 1) * K
    low K s h k l = omega (arith, add-mul v (t * t * 1000) K, mul_assoc (t * t) 1000 K, add-mul e 1 K)

    high : (K s : ℕ) → s ≤ v' → v' ≤ v * K + e * K → s + t * t * (1000 * K) ≤ (v + t * t * 1000) * K + (e + 1) * K
    high K s k l = omega (arith, add-mul v (t * t * 1000) K, mul_assoc (t * t) 1000 K, add-mul e 1 K)
