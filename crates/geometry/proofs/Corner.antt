-- Equations 7, 8 and 20, their roundings as orders, and what follows for a site beyond the strip that the rupture covers on the plan.
-- R is RJB in exact units. Write c and s for cos a and sin a. Equation 8 says RX = s o, and then RY = c o, with o = r + h s and r the
-- root of R² - g², where g = h c. Beyond the strip h c ≤ R s. Without the roundings:
--   r ≥ R c, since r² = R² - g² ≥ R² (1 - s²); so RX = s r + h s² ≥ h (c² + s²) = h                  (edge)
--   c o = c r + s g ≤ R, by Cauchy's inequality                                                     (rim)
--   (RX - h)² + RY² = o² - 2 h s o + h² = r² + g² = R²                                              (square, square-high)
-- The roundings cost a few exact units of length each, so of a square at most the square of a tenth of a millimetre. Assumes nothing.
use Prim.Native.Nat.{ℕ, ◌+◌, ◌-◌, ◌*◌, ◌/◌, ◌≤◌, ◌<◌}
use mathlib.Core.Path.{ap, sym}
use native.Mathlib.Omega.{arith}
use native.Mathlib.Nat.{le_trans, le_of_eq, add-mul, mul-add, mul_comm, mul_assoc, mul_left_comm, mul-le-mul, mul-le-mul_left, mul-le-mul_right, div-mul-le_self, mul-pos}
use Rattle.exact.specs.Root.{IsRoot}
use Rattle.geometry.specs.Geometry.{tangent}
use Rattle.exact.proofs.Quotients.{cancel, over_quot}
use Rattle.geometry.proofs.Lengths.{square-sum, square-mul, square_mono, side-le, triangle, turn}
use Rattle.geometry.proofs.Scales.{Scale, S_pos, speck}
use Rattle.geometry.proofs.Angles.{Angle}

-- x is RJB |tan a|, rounded down at the tangent
pub record Eq7 (S sa ca rjb x : ℕ) : Type 0 where
  pub low : x * ca ≤ rjb * S * sa
  pub high : rjb * S * sa ≤ (x + rjb) * ca

-- equation 8 beyond the strip: x is sa (r + e) / S
pub record Eq8 (S sa ca h R g e r x : ℕ) : Type 0 where
  pub beyond : h * ca ≤ R * sa
  pub g_low : g * S ≤ h * ca
  pub g_high : h * ca ≤ (g + 1) * S
  pub e_low : e * S ≤ h * sa
  pub e_high : h * sa ≤ (e + 1) * S
  pub x_low : x * S ≤ sa * (r + e)
  pub x_high : sa * (r + e) ≤ (x + 1) * S
  pub r_low : r * r + g * g ≤ R * R
  pub r_high : R * R ≤ (r + 1) * (r + 1) + g * g

-- y is x |cot a|
pub record Eq20 (sa ca x y : ℕ) : Type 0 where
  pub low : y * sa ≤ x * ca
  pub high : x * ca ≤ (y + 1000001) * sa

module _ {S K k sa ca sa' ca' : ℕ} (scale : Scale S K k) (a : Angle S k sa ca sa' ca') where
  sa_pos : 0 < sa
  sa_pos = omega arith

  pub ca_pos : 0 < ca
  ca_pos = omega arith

  pub eq7 : (rjb : ℕ) → Eq7 S sa ca rjb (rjb * tangent S sa ca)
  eq7 rjb =
      record {
        low = omega (arith, mul-le-mul_left rjb (div-mul-le_self (sa * S) ca));
        high =
            omega (arith, mul-le-mul_left rjb (over_quot (sa * S) ca ca_pos));
      }

  pub eq20 : (x : ℕ) → x ≤ 1000000 * S → Eq20 sa ca x (x * tangent S ca sa / S)
  eq20 x hx =
      let C : ℕ = tangent S ca sa in
      let y : ℕ = x * C / S in
      record {
        low =
            cancel S (y * sa) (x * ca) (S_pos scale)
            (omega (arith, mul-le-mul_right sa (div-mul-le_self (x * C) S), mul-le-mul_left x (div-mul-le_self (ca * S) sa)));
        high =
            cancel S (x * ca) ((y + 1000001) * sa) (S_pos scale)
            (omega (arith, mul-le-mul_left x (over_quot (ca * S) sa sa_pos), mul-le-mul_right sa (over_quot (x * C) S (S_pos scale)), mul-le-mul_right sa hx));
      }

  -- beside the strip RY is R
  pub beside_low : {rjb x y : ℕ} → Eq7 S sa ca rjb x → Eq20 sa ca x y → y ≤ rjb * S
  beside_low {rjb} {x} {y} q p = cancel sa y (rjb * S) sa_pos (omega arith)

  pub beside_high : {rjb x y : ℕ} → rjb ≤ 200000 → Eq7 S sa ca rjb x → Eq20 sa ca x y → rjb * S ≤ y + 12600001
  beside_high {rjb} {x} {y} rjb-le q p =
      let rest : rjb * ca ≤ 200000 * (58 * sa) = mul-le-mul rjb-le (le_trans a.c_le a.s_far) in
      cancel sa (rjb * S) (y + 12600001) sa_pos
      (omega arith)

  -- R tan a is above h, and r is the root
  pub eq8 : (h rjb r : ℕ) → h < rjb * tangent S sa ca → IsRoot (rjb * S * (rjb * S) - h * ca / S * (h * ca / S)) r
      → Eq8 S sa ca h (rjb * S) (h * ca / S) (h * sa / S) r (sa * (r + h * sa / S) / S)
  eq8 h rjb r l i =
      let R : ℕ = rjb * S in
      let g : ℕ = h * ca / S in
      let out : h * ca ≤ R * sa = le_trans (mul-le-mul_right ca (omega arith)) (eq7 rjb).low in
      let in_r : g * g ≤ R * R =
      square_mono g R
      (cancel S g R (S_pos scale) (le_trans (div-mul-le_self (h * ca) S) (le_trans out (mul-le-mul_left R a.s_le)))) in
      record {
        beyond = out;
        g_low = div-mul-le_self (h * ca) S;
        g_high = over_quot (h * ca) S (S_pos scale);
        e_low = div-mul-le_self (h * sa) S;
        e_high = over_quot (h * sa) S (S_pos scale);
        x_low = div-mul-le_self (sa * (r + h * sa / S)) S;
        x_high = over_quot (sa * (r + h * sa / S)) S (S_pos scale);
        r_low = omega arith;
        r_high = omega arith;
      }

  module _ {h R g e r x : ℕ} (q : Eq8 S sa ca h R g e r x) (h_le : h ≤ 100000 * S) (R-le : R ≤ 200000 * S) where
    pub g_in : g ≤ R
    g_in = cancel S g R (S_pos scale) (le_trans q.g_low (le_trans q.beyond (mul-le-mul_left R a.s_le)))

    pub e_in : e ≤ h
    e_in = cancel S e h (S_pos scale) (le_trans q.e_low (mul-le-mul_left h a.s_le))

    pub r_in : r ≤ R
    r_in = side-le r R (omega arith)

    pub x_in : x ≤ r + e
    x_in =
        cancel S x (r + e) (S_pos scale)
        (le_trans q.x_low (le_trans (mul-le-mul_right (r + e) a.s_le) (le_of_eq (mul_comm S (r + e)))))

    g_square : g * g * (S * S) ≤ R * R * (sa * sa)
    g_square =
        le_trans (le_of_eq (sym (square-mul g S)))
        (le_trans (square_mono (g * S) (R * sa) (le_trans q.g_low q.beyond)) (le_of_eq (square-mul R sa)))

    -- the root is not small beside R
    pub root_far : R ≤ 58 * (r + 1)
    root_far =
        side-le R (58 * (r + 1))
        (omega (
          arith,
          cancel (S * S) (3364 * (g * g) + R * R) (3364 * (R * R)) (mul-pos (S_pos scale) (S_pos scale))
              (omega (arith, g_square, mul-le-mul_left (R * R) a.steep)),
        ))

    -- r ≥ R cos a
    root-low : R * ca ≤ (r + 1) * S + k * S
    root-low =
        triangle (R * ca) ((r + 1) * S) (k * S)
        (omega (arith, g_square, mul-le-mul_right (S * S) q.r_high, mul-le-mul_left (R * R) a.one-high, small))
      where
        small : 9 * (R * R * S) ≤ k * S * (k * S)
        small =
            omega (arith, mul-le-mul_right S (mul-le-mul R-le R-le), mul-le-mul_left (S * S) room)
          where
            room : 400000000000 * S ≤ k * k
            room = omega (arith, mul-le-mul_right k scale.big, scale.S-is)

    pub edge : h ≤ x + 2 * k
    edge =
        let ends : h * (S * S) ≤ (x + (k + 900003)) * (S * S) =
        omega (arith, mul-le-mul_left h a.one-low, sines, cosines, mul-le-mul_right S q.x_high, mul-le-mul_right S h_le, add-mul (sa * r) (sa * e) S, mul-le-mul_right S a.s_le, mul-le-mul_left k (mul-le-mul_right S a.s_le)) in
        omega (arith, cancel (S * S) h (x + (k + 900003)) (mul-pos (S_pos scale) (S_pos scale)) ends)
      where
        sines : h * (sa * sa) ≤ sa * e * S + sa * S
        sines =
            omega (arith, mul-le-mul_left sa q.e_high)

        cosines : h * (ca * ca) ≤ sa * r * S + sa * S + k * (sa * S)
        cosines =
            omega (arith, mul-le-mul_right ca q.beyond, mul-le-mul_right sa root-low)

    -- RY is not above R
    pub rim : (r + e) * ca ≤ (R + 1000001) * S
    rim =
        omega (arith, across, long)
      where
        across : e * ca ≤ g * sa + sa
        across =
            cancel S (e * ca) (g * sa + sa) (S_pos scale)
            (omega (arith, mul-le-mul_right ca q.e_low, mul-le-mul_right sa q.g_high))

        long : g * sa + r * ca ≤ R * (S + 5)
        long =
            side-le (g * sa + r * ca) (R * (S + 5))
            (omega (arith, turn g r sa ca, mul-le-mul (sum q.r_low) a.one-high))
          where
            sum : r * r + g * g ≤ R * R → g * g + r * r ≤ R * R
            sum l = omega arith

            five : S * S + 9 * S ≤ (S + 5) * (S + 5)
            five = omega arith

    module _ {y : ℕ} (p : Eq20 sa ca x y) where
      -- RY is c o
      pub y_low_lem : y * S ≤ (r + e) * ca
      y_low_lem =
          cancel sa (y * S) ((r + e) * ca) sa_pos
          (omega (arith, mul-le-mul_right S p.low, mul-le-mul_right ca q.x_low))

      pub y_high : (r + e) * ca ≤ (y + 1000059) * S
      y_high =
          cancel sa ((r + e) * ca) ((y + 1000059) * S) sa_pos
          (omega (arith, mul-le-mul_right ca q.x_high, mul-le-mul_right S p.high, mul-le-mul_right S (le_trans a.c_le a.s_far)))

      -- the plan's right triangle, from either side
      pub square : R * R + 2 * (x * h) ≤ x * x + y * y + h * h + K * K
      square =
          let o : ℕ = r + e in
          let y_le : y ≤ R + 1000001 = cancel S y (R + 1000001) (S_pos scale) (le_trans y_low_lem rim) in
          omega (arith, along, legs, bracket, square-sum r e, mul-add o e 1, r_in, e_in, x_in, speck scale, S_pos scale)
        where
          along : x * h ≤ (r + e) * (e + 1)
          along =
              cancel S (x * h) ((r + e) * (e + 1)) (S_pos scale)
              (omega (arith, mul-le-mul_right h q.x_low, mul-le-mul_left (r + e) q.e_high))

          legs : e * e + g * g ≤ h * h + 900000 * h
          legs =
              cancel (S * S) (e * e + g * g) (h * h + 900000 * h) (mul-pos (S_pos scale) (S_pos scale))
              (omega (arith, square_mono (e * S) (h * sa) q.e_low, square_mono (g * S) (h * ca) q.g_low, mul-le-mul_left (h * h) a.one-high, mul-le-mul_left h (mul-le-mul_right S h_le)))

          bracket : (r + e) * (r + e) ≤ (x + 1) * (x + 1) + (y + 1000059) * (y + 1000059) + 2700000 * (r + e)
          bracket =
              let o : ℕ = r + e in
              let o_le : o ≤ 300000 * S = omega (arith, r_in, e_in) in
              cancel (S * S) (o * o) ((x + 1) * (x + 1) + (y + 1000059) * (y + 1000059) + 2700000 * o)
              (mul-pos (S_pos scale) (S_pos scale))
              (omega (
                arith,
                mul-le-mul_left (o * o) a.one-low,
                mul-add (o * o) (sa * sa + ca * ca) (9 * S),
                mul-add (o * o) (sa * sa) (ca * ca),
                square_mono (sa * o) ((x + 1) * S) q.x_high,
                square_mono (o * ca) ((y + 1000059) * S) y_high,
                square-mul sa o,
                mul_comm (sa * sa) (o * o),
                square-mul o ca,
                square-mul (x + 1) S,
                square-mul (y + 1000059) S,
                mul_left_comm (o * o) 9 S,
                mul_assoc o o S,
                mul-le-mul_left o (mul-le-mul_right S o_le),
                ap (λ (n : ℕ). o * n) (mul_assoc 300000 S S),
                mul_left_comm o 300000 (S * S),
                mul_assoc 2700000 o (S * S),
                add-mul ((x + 1) * (x + 1) + (y + 1000059) * (y + 1000059)) (2700000 * o) (S * S),
                add-mul ((x + 1) * (x + 1)) ((y + 1000059) * (y + 1000059)) (S * S),
              ))

      pub square-high : x * x + y * y + h * h ≤ R * R + 2 * (x * h) + K * K
      square-high = omega (arith, along, legs, bracket, q.r_low, r_in, e_in, g_in, speck scale, S_pos scale)
        where
          along : (r + e) * e ≤ (x + 1) * h
          along =
              cancel S ((r + e) * e) ((x + 1) * h) (S_pos scale)
              (omega (arith, mul-le-mul_left (r + e) q.e_low, mul-le-mul_right h q.x_high))

          legs : h * h ≤ (e + 1) * (e + 1) + (g + 1) * (g + 1) + 900000 * h
          legs =
              cancel (S * S) (h * h) ((e + 1) * (e + 1) + (g + 1) * (g + 1) + 900000 * h) (mul-pos (S_pos scale) (S_pos scale))
              (omega (arith, square_mono (h * sa) ((e + 1) * S) q.e_high, square_mono (h * ca) ((g + 1) * S) q.g_high, mul-le-mul_left (h * h) a.one-low, mul-le-mul_left h (mul-le-mul_right S h_le)))

          bracket : x * x + y * y ≤ (r + e) * (r + e) + 2700000 * (r + e)
          bracket =
              let o : ℕ = r + e in
              let o_le : o ≤ 300000 * S = omega (arith, r_in, e_in) in
              cancel (S * S) (x * x + y * y) (o * o + 2700000 * o) (mul-pos (S_pos scale) (S_pos scale))
              (omega (arith, square_mono (x * S) (sa * o) q.x_low, square_mono (y * S) (o * ca) y_low_lem, mul-le-mul_left (o * o) a.one-high, mul-le-mul_left o (mul-le-mul_right S o_le)))
