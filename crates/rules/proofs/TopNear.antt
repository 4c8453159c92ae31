-- The program's ZTOR lies within 2 m of equation 3, at every ZHYP, W and dip. The sine is within 2 units of 10^-9, of which six times W
-- has at most 600000, and the exact product is rounded by one unit: so 0.6 W sin(dip) moves by far less than a metre. The larger of 0
-- and the difference moves no further, and the whole metre takes one more. Assumes nothing.
use Prim.Native.Nat.{ℕ, ◌+◌, ◌-◌, ◌*◌, ◌/◌, ◌≤◌, ◌<◌}
use mathlib.Core.Path.{◌≡◌, refl, sym, ap, ap₂, subst, ◌∙◌}
use native.Mathlib.Omega.{arith}
use native.Mathlib.Nat.{mul-le-mul_left, mul-le-mul_right, mul_comm, mul_assoc, mul_left_comm, mul_right_comm, add-mul, mul-add, mul-sub, mul-zero, zero-mul, div-mul-le_self}
use lib.Dec.{lit≤}
use lib.IntN.{ℤ, pos, ◌-ℤ◌, ◌*ℤ◌}
use Rattle.exact.specs.Near.{up, dn, NearZ}
use Rattle.exact.specs.Laws.{Whole}
use Rattle.exact.specs.Exact.{E30, mul_e, sin_e}
use Rattle.exact.proofs.Signed.{by_sign, sub_is, mul-up, mul-dn}
use Rattle.exact.proofs.Quotients.{cancel}
use Rattle.exact.proofs.Rounding.{mul_e-whole}
use Rattle.fixed.specs.Fixed.{E9, E10, K21, sin_fixed}
use Rattle.fixed.proofs.SineNear.{sin_fixed-near}
use Rattle.rules.specs.Rules.{◌over◌, top_e}
use Rattle.rules.specs.Fixed.{top_fixed}

-- a tenth of a whole number has no rest; t is the tenth of one
tenth-is : (t n : ℕ) → n * (10 * t) / 10 ≡ n * t
tenth-is t n = omega (arith, mul_left_comm n 10 t)

-- n whole metres at the scale S, rounded down from a tenth of p, against the larger of 0 and x = A - q. Of the two products b stands at
-- ten times the scale, where it and q are at most e, and what q's rounding took, apart
whole-near :
    (S A b e n p : ℕ) (q x : ℤ) → e + 10 ≤ S → p ≡ 10 * A - b → 10 * (n * S) ≤ p → p ≤ 10 * (n * S) + 10 * S
    → 10 * up q ≤ b + e + 10 * dn q + 10 → b + 10 * dn q ≤ 10 * up q + e + 10 → up x + (0 + up q) ≡ dn x + (A + dn q)
    → NearZ S 2 (pos n) (pos (up x))
whole-near S A b e n p q x small hp low high more less hx =
    by_sign x (λ h. record { low = omega arith; high = omega arith }) (λ h. record { low = omega arith; high = omega arith })

-- t is a tenth of one, K a unit of 10^-9; s and r are the sine at the two scales, c is six times W, and q the product of c tenths and r
module _
    (t K c : ℕ) (s r q : ℤ) (ht : 0 < t) (unit : E9 * K ≡ 10 * t) (small : c * (2 * K) + 10 ≤ 10 * t) (positive : dn s ≤ 0)
    (sine : NearZ K 2 s r) (product : Whole (10 * t) q (pos (c * t) *ℤ r))
  where
    -- ten times q against c times the exact sine
    parts_up : up (pos (c * t) *ℤ r) ≡ c * up r * t
    parts_up = omega (arith, mul-up (pos (c * t)) r, zero-mul (dn r), mul_right_comm c t (up r))

    parts-dn : dn (pos (c * t) *ℤ r) ≡ c * dn r * t
    parts-dn = omega (arith, mul-dn (pos (c * t)) r, zero-mul (up r), mul_right_comm c t (dn r))

    exact_low : 10 * up q + c * dn r ≤ c * up r + 10 * dn q + 10
    exact_low =
        cancel t (10 * up q + c * dn r) (c * up r + 10 * dn q + 10) ht
        (omega (
          arith,
          product.low,
          parts_up,
          parts-dn,
          add-mul (10 * up q) (c * dn r) t,
          add-mul (c * up r + 10 * dn q) 10 t,
          add-mul (c * up r) (10 * dn q) t,
          mul_right_comm 10 t (up q),
          mul_right_comm 10 t (dn q),
        ))

    exact_high : c * up r + 10 * dn q ≤ 10 * up q + c * dn r + 10
    exact_high =
        cancel t (c * up r + 10 * dn q) (10 * up q + c * dn r + 10) ht
        (omega (
          arith,
          product.high,
          parts_up,
          parts-dn,
          add-mul (c * up r) (10 * dn q) t,
          add-mul (10 * up q + c * dn r) 10 t,
          add-mul (10 * up q) (c * dn r) t,
          mul_right_comm 10 t (up q),
          mul_right_comm 10 t (dn q),
        ))

    -- and c times the program's sine against it
    no_dn : c * (dn s * K) ≡ 0
    no_dn = let e : dn s ≡ 0 = omega arith in ap (λ (n : ℕ). c * (n * K)) e ∙ ap (λ (n : ℕ). c * n) (zero-mul K) ∙ mul-zero c

    sine-low : c * up s * K + c * dn r ≤ c * up r + c * (2 * K)
    sine-low =
        omega (
          arith,
          mul-le-mul_left c sine.low,
          mul-add c (up s * K) (dn r),
          mul-add c (up r + dn s * K) (2 * K),
          mul-add c (up r) (dn s * K),
          mul_assoc c (up s) K,
          no_dn,
        )

    sine-high : c * up r ≤ c * up s * K + c * dn r + c * (2 * K)
    sine-high =
        omega (
          arith,
          mul-le-mul_left c sine.high,
          mul-add c (up r) (dn s * K),
          mul-add c (up s * K + dn r) (2 * K),
          mul-add c (up s * K) (dn r),
          mul_assoc c (up s) K,
          no_dn,
        )

    top-near : (z : ℕ) → NearZ (10 * t) 2 (pos ((z * E9 - c * up s) / E10)) (pos (up (pos (z * t) -ℤ q)))
    top-near z =
        let p : ℕ = z * E9 - c * up s in
        let n : ℕ = p / E10 in
        let depth : K * (z * E9) ≡ 10 * (z * t) =
        omega (arith, mul_left_comm K z E9, mul_comm K E9, ap (λ (m : ℕ). z * m) unit, mul_left_comm z 10 t) in
        let scaled : p * K ≡ 10 * (z * t) - c * up s * K =
        mul_comm p K ∙ mul-sub K (z * E9) (c * up s) ∙ ap₂ (λ (a b : ℕ). a - b) depth (mul_comm K (c * up s)) in
        let metres : n * E10 * K ≡ 10 * (n * (10 * t)) =
        omega (arith, mul_right_comm n E10 K, mul_assoc n K E10, ap (λ (m : ℕ). n * m) unit, mul_assoc n E9 K) in
        let below : p ≤ n * E10 + E10 = omega arith in
        whole-near (10 * t) (z * t) (c * up s * K) (c * (2 * K)) n (p * K) q (pos (z * t) -ℤ q) small scaled
        (omega (arith, metres, mul-le-mul_right K (div-mul-le_self p E10)))
        (omega (arith, metres, mul-le-mul_right K below, add-mul (n * E10) E10 K))
        (omega (arith, exact_low, sine-high))
        (omega (arith, exact_high, sine-low))
        (sub_is (pos (z * t)) q)

-- a tenth in units of 10^-30
tenth : ℕ
tenth = E30 / 10

pub top_fixed-near :
    (zhyp w dip : ℕ) → w ≤ 100000 → dip ≤ 90 → NearZ E30 2 (pos (top_fixed zhyp w dip)) (pos (top_e zhyp w dip))
unfolding top_fixed top_e tenth
top_fixed-near zhyp w dip hw hd =
    let sine = sin_fixed-near dip (omega arith) in
    let r : ℤ = sin_e (pos dip) in
    let q : ℤ = mul_e (pos (6 * w over 10)) r in
    subst (λ (a : ℕ). NearZ E30 2 (pos (top_fixed zhyp w dip)) (pos (up (pos a -ℤ q)))) (sym (tenth-is tenth zhyp))
    (top-near tenth K21 (6 * w) (sin_fixed dip) r q (lit≤ tt) refl (omega arith) sine.positive sine.near
    (subst (λ (a : ℕ). Whole E30 q (pos a *ℤ r)) (tenth-is tenth (6 * w)) (mul_e-whole (pos (6 * w over 10)) r)) zhyp)

-- no deeper than the hypocentre
pub top_fixed-top : (zhyp w dip : ℕ) → zhyp ≤ 300000 → top_fixed zhyp w dip ≤ 30000
unfolding top_fixed
top_fixed-top zhyp w dip h = omega arith
