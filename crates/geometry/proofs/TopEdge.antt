-- RJB 0 on the hanging wall, at an azimuth other than 90: RX and RY are 0, the site stands above the end of the top edge, and RRUP is ZTOR,
-- exactly and as reported. The reported figure rounds up a root that is at most 1000 ZTOR, in millimetres: v² + e² is at most
-- (1000 ZTOR)² (s² + c²), and s² + c² is above 1 by less than 10^-8. Assumes nothing.
use Prim.Native.Nat.{ℕ, ◌+◌, ◌-◌, ◌*◌, ◌/◌, ◌≤◌, zero-le}
use mathlib.Core.Path.{◌≡◌, refl, sym, ap, subst, ◌∙◌}
use mathlib.Core.Bool.{Bool, true, false}
use native.Mathlib.Omega.{arith}
use native.Mathlib.Nat.{le_trans, le_of_eq, mul-le-mul_left, mul-pos, zero-mul, zero-div, max-eq_left, min-le_right}
use borrow.Author.Tests.{ne_eqb}
use lib.IntN.{ℤ, pos, negsuc}
use Rattle.exact.specs.Root.{root, IsRoot}
use Rattle.exact.specs.Exact.{E30}
use Rattle.exact.proofs.Root.{root_is, root-one, side-lt}
use Rattle.geometry.specs.Geometry.{tangent, rx, ry, r_prime, rrup, sin_size, cos_size, rrup_e, hanging_wall_e, ceil_root, on_hanging_wall, rupture_distance_e, RuptureInRange}
use Rattle.geometry.specs.Fixed.{sin9, cos9, projected_width_fixed, site_fixed, off_plane_fixed, off_edges_fixed, rrup_fixed, from_plan_fixed, hanging_wall_fixed, rupture_distance}
use Rattle.geometry.specs.declared.Place.{Place}
use Rattle.exact.proofs.Quotients.{cancel}
use Rattle.geometry.proofs.Lengths.{square-mul, square_mono, side-le}
use Rattle.geometry.proofs.Scales.{Scale, S_pos}
use Rattle.geometry.proofs.Angles.{Angle, WholeDegree, degrees, scale30}
use Rattle.geometry.proofs.PlanNear.{rx_beside, place_beside}
use Rattle.geometry.proofs.Zones.{by_zone}
use Rattle.geometry.proofs.Reported.{HangingWall, hanging_wall, ceil_above, ceil_least, distance_on, distance_off}

-- ---- exact
-- the root of a square
root-square : (n : ℕ) → root (n * n + 0 * 0) ≡ n
root-square n =
    root-one (n * n + 0 * 0) (root (n * n + 0 * 0)) n (root_is _) (record { low = omega arith; high = omega arith })

-- R' is ZTOR
r_prime_zero : {S K k sd cd sd' cd' : ℕ} → Scale S K k → Angle S k sd cd sd' cd' → (w z : ℕ) → 1 ≤ w → w ≤ 100000 → z ≤ 15000
    → r_prime S sd cd w z 0 ≡ z * S
r_prime_zero {S} {K} {k} {sd} {cd} scale d w z w_low w_le z_le =
    by_zone scale d w z 0 w_low w_le z_le (omega arith) (λ r. r ≡ z * S) zone_a zone_b zone_c
  where
    under : z * cd ≤ z * S
    under = mul-le-mul_left z d.c_le

    twice : z * S * 2 ≤ z * S * sd
    twice = mul-le-mul_left (z * S) (omega arith)

    zone_a : (r : ℕ) → 0 * cd ≤ z * S * sd → IsRoot (0 * 0 + z * S * (z * S)) r → r ≡ z * S
    zone_a r l i = root-one _ r (z * S) i (record { low = omega arith; high = omega arith })

    zone_b : (r : ℕ) → z * S * sd ≤ 0 * cd + z * cd → 0 * cd ≤ z * S * sd + w * (S * S) → r * S ≤ 0 * sd + z * S * cd
        → 0 * sd + z * S * cd ≤ (r + 1) * S → r ≡ z * S
    zone_b r l m low high =
        let none : z * S ≡ 0 = omega (arith, under, twice) in
        let r_none : r ≤ 0 =
        cancel S r 0 (S_pos scale) (omega (arith, ap (λ (t : ℕ). t * cd) none)) in
        omega arith

    zone_c : (r : ℕ) → z * S * sd + w * (S * S) ≤ 0 * cd + z * cd
        → IsRoot ((0 - w * cd) * (0 - w * cd) + (z * S + w * sd) * (z * S + w * sd)) r → r ≡ z * S
    zone_c r l i = absurd (omega (arith, under, twice, mul-pos w_low (mul-pos (S_pos scale) (S_pos scale))))

-- ---- as reported
rrup_zero : (s c w z : ℕ) → s * s + c * c ≤ 1000000010000000000 → z ≤ 15000 → rrup_fixed s c w (10000 * z) 0 0 ≤ 1000 * z
unfolding rrup_fixed off_edges_fixed
rrup_zero s c w z one z_le =
    let v : ℕ = off_plane_fixed s c (10000 * z) 0 in
    let e : ℕ = off_edges_fixed (10000 * z * s) (0 * c) w in
    let v_le : v * 1000000 ≤ z * c = omega arith in
    let e_le : e * 1000000 ≤ z * s = omega arith in
    omega (
      arith,
      side-lt (rrup_fixed s c w (10000 * z) 0 0) (1000 * z + 1)
          (omega (arith, (root_is (v * v + e * e + 0 * 0)).low, square_mono (v * 1000000) (z * c) v_le, square_mono (e * 1000000) (z * s) e_le, mul-le-mul_left (z * z) one, square-mul 1000 z, mul-le-mul_left z z_le)),
    )

-- the place is the end of the top edge
site_zero : (a h : ℕ) → (a ≡ 90 → ⊥) → site_fixed a h 0 ≡ record { x = 0; y = 0 }
unfolding site_fixed
site_zero a h not_90 =
    rw (ne_eqb a 90 not_90, site_fixed)
    (sym (place_beside (sin9 a) (cos9 a) h 0 (omega arith))
    ∙ ap {B = Place} (λ (x : ℕ). record { x = x; y = 0 }) (ap (λ (t : ℕ). t / cos9 a) none ∙ zero-div (cos9 a)))
  where
    none : 0 * sin9 a ≡ 0
    none = zero-mul (sin9 a)

ceil_square : (z : ℕ) → ceil_root (0 * 0 + z * z) ≡ z
ceil_square z =
    omega (
      arith,
      side-le z (ceil_root (0 * 0 + z * z)) (omega (arith, ceil_above (0 * 0 + z * z))),
      ceil_least (0 * 0 + z * z) z (omega arith),
    )

-- ---- of whole degrees
module _ (dip a w z : ℕ) (ranges : RuptureInRange dip w z 0) (o : HangingWall dip (pos a)) (not_90 : a ≡ 90 → ⊥) where
  dip_degree : WholeDegree dip
  dip_degree = degrees dip (omega arith) (omega arith) (λ e. omega arith)

  exact_zero : hanging_wall_e dip a w z 0 ≡ z * E30
  unfolding hanging_wall_e rrup_e rrup ry
  exact_zero =
      rw (ne_eqb a 90 not_90, hanging_wall_e)
      (ap (λ (x : ℕ). rrup_e dip w z x (ry E30 (sin_size a) (cos_size a) x)) x_zero
      ∙ ap (λ (y : ℕ). rrup_e dip w z 0 y) y_zero
      ∙ ap (λ (r : ℕ). root (r * r + 0 * 0)) (r_prime_zero scale30 dip_degree w z ranges.w_low ranges.w_high ranges.ztor-high)
      ∙ root-square (z * E30))
    where
      none : 0 * tangent E30 (sin_size a) (cos_size a) ≡ 0
      none = zero-mul _

      x_zero : rx E30 (sin_size a) (cos_size a) (w * cos_size dip) 0 ≡ 0
      x_zero = sym (rx_beside E30 (sin_size a) (cos_size a) (w * cos_size dip) 0 (subst (λ (t : ℕ). t ≤ w * cos_size dip) (sym none) zero-le)) ∙ none

      y_zero : ry E30 (sin_size a) (cos_size a) 0 ≡ 0
      y_zero = ap (λ (t : ℕ). t / E30) (zero-mul (tangent E30 (cos_size a) (sin_size a))) ∙ zero-div E30

  fixed_zero : hanging_wall_fixed dip a w z 0 ≤ z
  unfolding hanging_wall_fixed from_plan_fixed
  fixed_zero =
      rw (site_zero a (projected_width_fixed w (cos9 dip)) not_90)
      (omega (arith, rrup_zero (sin9 dip) (cos9 dip) w z dip_degree.one'_high ranges.ztor-high))

-- RRUP is ZTOR
pub reported_top_edge : (dip : ℕ) (azimuth : ℤ) (w ztor : ℕ) → RuptureInRange dip w ztor 0 → (azimuth ≡ pos 90 → ⊥)
    → (rupture_distance dip azimuth w ztor 0 ≡ ztor) × (rupture_distance_e dip azimuth w ztor 0 ≡ ztor * E30)
reported_top_edge dip azimuth w ztor ranges not_90 = go azimuth not_90 (on_hanging_wall dip azimuth) refl
  where
    go : (azimuth : ℤ) → (azimuth ≡ pos 90 → ⊥) → (t : Bool) → on_hanging_wall dip azimuth ≡ t
        → (rupture_distance dip azimuth w ztor 0 ≡ ztor) × (rupture_distance_e dip azimuth w ztor 0 ≡ ztor * E30)
    go azimuth n false e =
        let is = distance_off dip azimuth w ztor 0 e in
        (is.0 ∙ ceil_square ztor, is.1 ∙ ap (λ (m : ℕ). m * E30) (ceil_square ztor))
    go (negsuc m) n true e = absurd (omega (arith, (hanging_wall dip (negsuc m) e).not_negative))
    go (pos a) n true e =
        let is = distance_on dip (pos a) w ztor 0 e in
        let o = hanging_wall dip (pos a) e in
        let site_le = fixed_zero dip a w ztor ranges o (λ q. n (ap pos q)) in (
          is.0
              ∙ max-eq_left (le_trans (min-le_right _ (hanging_wall_fixed dip a w ztor 0)) (le_trans site_le (le_of_eq (sym (ceil_square ztor)))))
              ∙ ceil_square ztor,
          is.1 ∙ exact_zero dip a w ztor ranges o (λ q. n (ap pos q)),
        )
