-- A sigma of nine decimals lies within 485 units of the exact root, where its variance, 0.09 or more, is within 290: 290/(2 · 0.3) is
-- 483.4, and the root is rounded down on both sides. Assumes nothing.
use Prim.Native.Nat.{ℕ, ◌+◌, ◌-◌, ◌*◌, ◌≤◌, ◌<◌}
use mathlib.Core.Path.{◌≡◌, sym, subst}
use native.Mathlib.Omega.{arith}
use native.Mathlib.Decide.{dec_le}
use native.Mathlib.Nat.{le_trans, le_of_lt, le_of_eq, lt_of_not-le, mul-le-mul, mul-le-mul_right, mul_comm, mul-mul-mul_comm, mul-add, add-mul, mul-pos, le_of_mul-le-mul_right}
use lib.Dec.{lit≤}
use lib.IntN.{pos}
use Rattle.exact.specs.Near.{NearZ}
use Rattle.exact.specs.Root.{root}
use Rattle.exact.specs.Exact.{E30, root_e}
use Rattle.exact.proofs.Root.{root_is, side-lt}
use Rattle.fixed.specs.Fixed.{E9, K21}
use Rattle.model.specs.FineNear.{RootNear}
use Rattle.model.proofs.Quotients.{near_pos, pos_high, pos_low}
use Rattle.between.specs.Fixed.{fine_sigma}

-- a sum squared
square-sum : (a b : ℕ) → (a + b) * (a + b) ≡ a * a + 2 * (a * b) + b * b
square-sum a b = omega (arith, add-mul a b (a + b), mul-add a a b, mul-add b a b, mul_comm b a)

-- v and f coarse, u and r fine: f the root of v, r that of u
root-above :
    (K v u f r : ℕ) → 0 < K → 299998333 ≤ f + 1 → u ≤ (v + 290) * K → r * r ≤ u * (E9 * K) → v * E9 < (f + 1) * (f + 1)
    → r ≤ (f + 485) * K
root-above K v u f r h_k big hu hr hf = either (dec_le r ((f + 485) * K))
  where
    far : (f + 485) * K < r → ⊥
    far h =
        let below : (f + 485) * K ≤ r = omega arith in
        let one : (f + 485) * K * ((f + 485) * K) ≤ (v + 290) * K * (E9 * K) =
        le_trans (mul-le-mul below below) (le_trans hr (mul-le-mul_right (E9 * K) hu)) in
        let two : (f + 485) * (f + 485) * (K * K) ≤ (v + 290) * E9 * (K * K) =
        le_trans (le_of_eq (sym (mul-mul-mul_comm (f + 485) K (f + 485) K)))
        (le_trans one (le_of_eq (mul-mul-mul_comm (v + 290) K E9 K))) in
        let three : (f + 485) * (f + 485) ≤ (v + 290) * E9 = le_of_mul-le-mul_right two (mul-pos h_k h_k) in
        fin (f + 1) ((f + 1) * (f + 1)) (v * E9) big hf (square-sum (f + 1) 484) (shifted f) three
      where
        shifted : (f : ℕ) → (f + 485) * (f + 485) ≡ (f + 1 + 484) * (f + 1 + 484)
        shifted f = let e : f + 485 ≡ f + 1 + 484 = omega arith in rw e

        fin :
            (g gg ve : ℕ) → 299998333 ≤ g → ve < gg → (g + 484) * (g + 484) ≡ gg + 2 * (g * 484) + 484 * 484
            → (f + 485) * (f + 485) ≡ (g + 484) * (g + 484)
            → (f + 485) * (f + 485) ≤ (v + 290) * E9
            → ⊥
        fin g gg ve a b c d e = omega arith

    either : Dec (r ≤ (f + 485) * K) → r ≤ (f + 485) * K
    either (yes h) = h
    either (no h) = absurd (far (lt_of_not-le h))

root_below :
    (K v u m r : ℕ) → 0 < K → 299990000 ≤ m → v * K ≤ u + 290 * K → u * (E9 * K) < (r + 1) * (r + 1) → (m + 485) * (m + 485) ≤ v * E9
    → m * K ≤ r
root_below K v u m r h_k big hu hr hf = either (dec_le (m * K) r)
  where
    far : r < m * K → ⊥
    far h =
        let above : r + 1 ≤ m * K = omega arith in
        let one : u * (E9 * K) ≤ m * K * (m * K) = le_trans (le_of_lt hr) (mul-le-mul above above) in
        let two : v * K * (E9 * K) ≤ m * K * (m * K) + 290 * K * (E9 * K) =
        omega (arith, one, mul-le-mul_right (E9 * K) hu, add-mul u (290 * K) (E9 * K)) in
        let three : v * E9 * (K * K) ≤ (m * m + 290 * E9) * (K * K) =
        omega (
          arith,
          two,
          mul-mul-mul_comm v K E9 K,
          mul-mul-mul_comm m K m K,
          mul-mul-mul_comm 290 K E9 K,
          add-mul (m * m) (290 * E9) (K * K),
        ) in
        let four : v * E9 ≤ m * m + 290 * E9 = le_of_mul-le-mul_right three (mul-pos h_k h_k) in
        omega (arith, four, hf, square-sum m 485, big)

    either : Dec (m * K ≤ r) → m * K ≤ r
    either (yes h) = h
    either (no h) = absurd (far (lt_of_not-le h))

-- ---- of a variance
-- its size
pub fine_sigma-low : (v : ℕ) → 89999000 ≤ v → 299998333 ≤ fine_sigma v
unfolding fine_sigma
fine_sigma-low v h = let k : 299998333 < root (v * E9) + 1 = side-lt 299998333 (root (v * E9) + 1) (omega (arith, (root_is (v * E9)).high)) in omega arith

pub fine_sigma-high : (v : ℕ) → v ≤ 2400000000 → fine_sigma v < 1549200000
unfolding fine_sigma
fine_sigma-high v h = side-lt (root (v * E9)) 1549200000 (omega (arith, (root_is (v * E9)).low))

pub fine_sigma-near : (v s : ℕ) → RootNear v s → NearZ K21 485 (pos (fine_sigma v)) (pos s)
unfolding fine_sigma root_e
fine_sigma-near v s n =
    let f : ℕ = root (v * E9) in
    let u : ℕ = n.under in
    let r : ℕ = root (u * E30) in
    let big : 299998333 ≤ f = fine_sigma-low v n.least in
    let e : f - 485 + 485 ≡ f = omega arith in
    let over : r ≤ (f + 485) * K21 =
    root-above K21 v u f r (lit≤ tt) (omega arith) (wide v u (pos_high n.near)) (root_is (u * E30)).low (root_is (v * E9)).high in
    let under : (f - 485) * K21 ≤ r =
    root_below K21 v u (f - 485) r (lit≤ tt) (omega arith) (pos_low n.near) (root_is (u * E30)).high
    (subst (λ (t : ℕ). t * t ≤ v * E9) (sym e) (root_is (v * E9)).low) in
    subst (λ (t : ℕ). NearZ K21 485 (pos f) (pos t)) (sym n.is)
    (near_pos f r (low f (f - 485) r e under) (le_trans over (le_of_eq (add-mul f 485 K21))))
  where
    wide : (v u : ℕ) → u ≤ v * K21 + 290 * K21 → u ≤ (v + 290) * K21
    wide v u h = le_trans h (le_of_eq (sym (add-mul v 290 K21)))

    low : (f m r : ℕ) → m + 485 ≡ f → m * K21 ≤ r → f * K21 ≤ r + 485 * K21
    low f m r e h = omega (arith, add-mul m 485 K21)
