-- The terms of the median but the site's, the program's against the exact ones, and their sum with a site term that is near.
-- Magnitude and style are the same numbers at both scales. The logarithm of RRUP² + c6² is within 7 units of 10^-9; half of c4 + c5
-- M, at most 0.85, takes it to 6, and two roundings to less than 8. Assumes nothing.
use Prim.Native.Nat.{ℕ, ◌+◌, ◌*◌, ◌/◌, ◌≤◌, ◌<◌}
use mathlib.Core.Path.{◌≡◌, subst, ap}
use native.Mathlib.Omega.{arith}
use native.Mathlib.Nat.{mul-le-mul, mul_assoc, zero-mul, mul-le-mul_left, mul-zero}
use lib.Dec.{lit≤}
use lib.IntN.{pos, nat_abs, ◌*ℤ◌}
use Rattle.exact.specs.Near.{up, dn, NearZ}
use Rattle.exact.specs.Exact.{ln_e}
use Rattle.exact.proofs.NearLaws.{near_wide}
use Rattle.fixed.specs.Fixed.{E9, K21, ln_fixed}
use Rattle.request.specs.declared.Style.{Style}
use Rattle.request.specs.declared.Style.TheVariants.{StrikeSlip, Reverse, Normal}
use Rattle.tables.specs.declared.Coefficients.{Coefficients}
use Rattle.model.specs.declared.Scenario.{Scenario}
use Rattle.model.specs.Fixed.{f_mag_fixed, f_flt_fixed, ln_distance, f_dis_fixed, ln_median_at_fixed, f_site_fixed}
use Rattle.model.proofs.Fair.{Fair, rest_err}
use Rattle.model.specs.Equations.{f_mag, f_flt, slope, E24, f_dis, ln_median_at, f_site, by_magnitude, f_flt_z}
use Rattle.model.proofs.NearSums.{near_exact, share_err, near_share, near_add}
use Rattle.exact.proofs.Signed.{by_sign, abs-parts, add_parts, mul-up, mul-dn}
use Rattle.model.specs.Accuracy.{InRange}
use Rattle.fixed.proofs.LnNear.{ln_fixed-near}
use Rattle.model.proofs.WallNear.{f_hng-near}
use Rattle.model.proofs.Basin.{f_sed-near}

f_mag-near : (c : Coefficients) (m : ℕ) → NearZ K21 0 (f_mag_fixed c m) (f_mag c m)
unfolding f_mag_fixed f_mag
f_mag-near c m = near_exact K21 10000 (by_magnitude c m)

f_flt-near : (c : Coefficients) (s : Style) (z : ℕ) → NearZ K21 0 (f_flt_fixed c s z) (f_flt c s z)
unfolding f_flt_fixed f_flt
f_flt-near c StrikeSlip z = record { low = lit≤ tt; high = lit≤ tt }
f_flt-near c Reverse z = near_exact K21 1000 (c.c7 *ℤ pos (f_flt_z z))
f_flt-near c Normal z = near_exact K21 1000000 c.c8

-- ---- the distance term
-- the parts of c4 + c5 M
slope-parts : (c : Coefficients) (m : ℕ) → Fair c → up (slope c m) + 100 * dn c.c4 ≡ dn (slope c m) + up c.c5 * m
slope-parts c m f =
    let z : dn c.c5 ≡ 0 = omega (arith, f.c5_sign) in
    omega (
      arith,
      add_parts (pos 100 *ℤ c.c4) (c.c5 *ℤ pos m),
      mul-up (pos 100) c.c4,
      mul-dn (pos 100) c.c4,
      mul-up c.c5 (pos m),
      mul-dn c.c5 (pos m),
      f.c4_sign,
      ap (λ (t : ℕ). t * m) z,
      zero-mul m,
      zero-mul (dn c.c4),
      zero-mul (up c.c4),
      mul-zero (up c.c5),
      mul-zero (dn c.c5),
    )

-- c4 + c5 M is not positive and at most 1.7 in size
pub slope_sign : (c : Coefficients) (m : ℕ) → Fair c → m ≤ 850 → up (slope c m) ≡ 0
slope_sign c m f h =
    by_sign (slope c m)
    (λ z. omega (arith, slope-parts c m f, z, f.slope-high, mul-le-mul_left (up c.c5) h))
    (λ z. z)

pub slope-size : (c : Coefficients) (m : ℕ) → Fair c → 400 ≤ m → m ≤ 850 → nat_abs (slope c m) ≤ 170000
slope-size c m f l h =
    omega (
      arith,
      abs-parts (slope c m),
      slope_sign c m f h,
      slope-parts c m f,
      f.slope-low,
      mul-le-mul_left (up c.c5) l,
    )

-- the distance is in the program's range
pub distance_low : (c6 r : ℕ) → 4000 ≤ c6 → E9 ≤ 8 * ((r * r + c6 * c6) * 1000)
distance_low c6 r h = omega (arith, mul-le-mul h h)

pub distance_high : (c6 r : ℕ) → c6 ≤ 9000 → r ≤ 200000 → (r * r + c6 * c6) * 1000 < 65536 * E9
distance_high c6 r h k = omega (arith, mul-le-mul h h, mul-le-mul k k)

pub ln_distance-near :
    (c6 r : ℕ) → 4000 ≤ c6 → c6 ≤ 9000 → r ≤ 200000 → NearZ K21 7 (ln_distance c6 r) (ln_e ((r * r + c6 * c6) * E24))
unfolding ln_distance
ln_distance-near c6 r l h k =
    subst (λ (t : ℕ). NearZ K21 7 (ln_fixed ((r * r + c6 * c6) * 1000)) (ln_e t)) (mul_assoc (r * r + c6 * c6) 1000 K21)
    (ln_fixed-near ((r * r + c6 * c6) * 1000) (distance_low c6 r l) (distance_high c6 r h k))

f_dis-near :
    (c : Coefficients) (x : Scenario) → Fair c → InRange x → NearZ K21 7 (f_dis_fixed c x.m x.rrup) (f_dis c x.m x.rrup)
unfolding f_dis_fixed f_dis
f_dis-near c x f i =
    near_wide K21 (share_err 200000 (slope c x.m) 7) 7 _ _
    (room (nat_abs (slope c x.m)) (slope-size c x.m f i.m_low i.m_high))
    (near_share 200000 (slope c x.m) (lit≤ tt) (lit≤ tt)
    (ln_distance-near c.c6 x.rrup f.c6_low f.c6_high i.rrup-high))
  where
    room : (n : ℕ) → n ≤ 170000 → (n * 7 + 2 * 200000) / 200000 ≤ 7
    room n h = omega arith

-- ---- the sum, with a site term within e units
pub terms_near :
    {e : ℕ} (c : Coefficients) (x : Scenario) (v a b : ℕ) → Fair c → InRange x → NearZ K21 e (f_site_fixed c v a) (f_site c v b)
    → NearZ K21 (rest_err c + e) (ln_median_at_fixed c x v a) (ln_median_at c x v b)
unfolding ln_median_at_fixed ln_median_at
terms_near {e} c x v a b f i n =
    near_wide K21 (0 + 7 + 0 + share_err 1000 c.c9 56 + e + share_err 1000000 (c.c12 *ℤ c.k3) 9) (rest_err c + e) _ _ (omega arith)
    (near_add
    (near_add
    (near_add
    (near_add (near_add (f_mag-near c x.m) (f_dis-near c x f i)) (f_flt-near c x.style x.ztor))
    (f_hng-near c x i))
    n)
    (f_sed-near c x.z25 i.z25-high))
