-- How large the program's numbers are, so that each fits 64 bits: in units of 10^-9, magnitude term 28 · 10^9, distance 9.1, style
-- 0.3, hanging wall 0.5, basin 1.4, site 13.1; the largest product on the way is a1100 · 10^9, below 1.5 · 10^18, or the distance
-- factor's dividend, below 2.1 · 10^18. Assumes nothing.
use Prim.Native.Nat.{ℕ, ◌+◌, ◌-◌, ◌*◌, ◌/◌, ◌^◌, ◌≤◌, ◌<◌}
use mathlib.Core.Path.{◌≡◌, refl}
use mathlib.Core.Bool.{Bool, true, false}
use native.Mathlib.Omega.{arith}
use native.Mathlib.Nat.{le_refl, le_trans, mul-le-mul, mul-le-mul_left, mul-le-mul_right, div-le_of_le-mul, sub-le, le_of_lt}
use lib.Dec.{ltb, leb, eqb, lit≤}
use lib.IntN.{ℤ, pos, nat_abs, ◌+ℤ◌, ◌-ℤ◌, ◌*ℤ◌}
use Rattle.exact.specs.Near.{up, dn}
use Rattle.exact.specs.Root.{root}
use Rattle.fixed.specs.Fixed.{E9, mul_div, ln_fixed, ln_quotient, nearest, K21}
use Rattle.request.specs.declared.Style.{Style}
use Rattle.request.specs.declared.Style.TheVariants.{StrikeSlip, Reverse, Normal}
use Rattle.tables.specs.declared.Coefficients.{Coefficients}
use Rattle.model.specs.declared.Scenario.{Scenario}
use Rattle.fixed.proofs.SignedLaws.{mul_div-abs, nearest-half}
use Rattle.exact.proofs.Signed.{by_sign, abs-parts, mul-abs-le, sub_is, add-abs, mul-abs}
use Rattle.model.proofs.Fair.{Fair}
use Rattle.model.specs.Fixed.{f_mag_fixed, ln_distance, f_dis_fixed, f_flt_fixed, wall_distance_fixed, f_hng_r_fixed, wall_fixed, f_hng_fixed, deep_fixed, f_sed_fixed, f_site_fixed, sigma_of, curve_fixed, alpha_fixed, site_c_fixed, at_base_fixed}
use Rattle.model.specs.Equations.{by_magnitude, slope, f_flt_z, most, linear, least}
use Rattle.model.proofs.Between.{near_between, between_ln}
use Rattle.exact.proofs.Root.{side-lt, root_is}
use Rattle.model.proofs.WallNear.{others-le, most_by}
use Rattle.model.proofs.Ends.{distance_between, f_flt_z-le}
use Rattle.model.proofs.TermsNear.{slope-size, ln_distance-near}
use borrow.Author.Tests.{ltb-true, lt-ltb, le-ltb, ltb-false}
use Rattle.model.proofs.Median.{ln_sixteen, difference_between}
use Rattle.model.proofs.Curve.{Paired, quotient-size}
use Rattle.model.proofs.SiteNear.{RockNear, logarithms_near, paired, capped}
use Rattle.model.proofs.Alpha.{alpha_between, alpha-near}
use Rattle.exact.specs.Exact.{ln_e}
use Rattle.fixed.proofs.LnNear.{ln_fixed-near}
use Rattle.tables.specs.Tables.{PGA, deviations_at}
use Rattle.model.proofs.Variance.{rock_sigma_le}

-- a share of a number, by their sizes
pub share_size : (c a : ℤ) (D A B C : ℕ) → nat_abs c ≤ A → nat_abs a ≤ B → A * B ≤ D * C → nat_abs (mul_div c a (pos D)) ≤ C
share_size c a D A B C h k l = rw (mul_div-abs c a (pos D)) (div-le_of_le-mul D (le_trans (mul-le-mul h k) l))

-- a number whose parts are both at most n
pub by_parts : (z : ℤ) (n : ℕ) → dn z ≤ n → up z ≤ n → nat_abs z ≤ n
by_parts z n l h = by_sign z (λ k. omega (arith, abs-parts z)) (λ k. omega (arith, abs-parts z))

-- ---- the terms
pub by_magnitude-size : (c : Coefficients) (m : ℕ) → Fair c → m ≤ 850 → nat_abs (by_magnitude c m) ≤ 2800000
by_magnitude-size c m f h =
    let a : ℤ = pos 100 *ℤ c.c0 in
    let b : ℤ = c.c1 *ℤ pos m in
    let p : ℤ = c.c2 *ℤ pos (m - 550) in
    let q : ℤ = c.c3 *ℤ pos (m - 650) in
    let mid : m - 550 ≤ 300 = omega arith in
    let big : m - 650 ≤ 200 = omega arith in
    omega (
      arith,
      f.magnitude-small,
      add-abs (a +ℤ b +ℤ p) q,
      add-abs (a +ℤ b) p,
      add-abs a b,
      mul-abs (pos 100) c.c0,
      mul-abs-le c.c1 (pos m) (le_refl (nat_abs c.c1)) h,
      mul-abs-le c.c2 (pos (m - 550)) (le_refl (nat_abs c.c2)) mid,
      mul-abs-le c.c3 (pos (m - 650)) (le_refl (nat_abs c.c3)) big,
    )

pub f_mag-size : (c : Coefficients) (m : ℕ) → Fair c → m ≤ 850 → nat_abs (f_mag_fixed c m) ≤ 28000000000
unfolding f_mag_fixed
f_mag-size c m f h = mul-abs-le (by_magnitude c m) (pos 10000) (by_magnitude-size c m f h) (le_refl 10000)

pub ln_distance-size : (c6 r : ℕ) → 4000 ≤ c6 → c6 ≤ 9000 → r ≤ 200000 → nat_abs (ln_distance c6 r) ≤ 10600000007
ln_distance-size c6 r l h k =
    let s =
    near_between 0 10600000000 (lit≤ tt) (lit≤ tt) (lit≤ tt) (distance_between 4000 c6 r (pos 0) (lit≤ tt) l h k ln_sixteen)
    (ln_distance-near c6 r l h k) in
    by_parts (ln_distance c6 r) 10600000007 (le_trans s.0 (lit≤ tt)) s.1

pub f_dis-size : (c : Coefficients) (m r : ℕ) → Fair c → 400 ≤ m → m ≤ 850 → r ≤ 200000 → nat_abs (f_dis_fixed c m r) ≤ 9100000000
unfolding f_dis_fixed
f_dis-size c m r f l h k =
    share_size (slope c m) (ln_distance c.c6 r) 200000 170000 10600000007 9100000000 (slope-size c m f l h)
    (ln_distance-size c.c6 r f.c6_low f.c6_high k)
    (lit≤ tt)

pub f_flt-size : (c : Coefficients) (s : Style) (z : ℕ) → Fair c → nat_abs (f_flt_fixed c s z) ≤ 300000000
unfolding f_flt_fixed
f_flt-size c StrikeSlip z f = lit≤ tt
f_flt-size c Reverse z f =
    mul-abs-le (c.c7 *ℤ pos (f_flt_z z)) (pos 1000) (mul-abs-le c.c7 (pos (f_flt_z z)) f.c7_small (f_flt_z-le z)) (le_refl 1000)
f_flt-size c Normal z f = le_trans (mul-abs-le c.c8 (pos 1000000) f.c8_small (le_refl 1000000)) (lit≤ tt)

-- the distance factor's radicand, divisor and value
pub radicand-size : (j : ℕ) → j ≤ 200000 → (j * j + 1000000) * 100000000 < 2 ^ 62
radicand-size j h = omega (arith, mul-le-mul h h)

pub wall_distance-size : (z j r : ℕ) → j ≤ 200000 → r ≤ 200000 → wall_distance_fixed z j r ≤ 2000100000
unfolding wall_distance_fixed
wall_distance-size z j r hj hr = go (ltb z 1000)
  where
    root-le : root ((j * j + 1000000) * 100000000) < 2000100000
    root-le =
        side-lt (root ((j * j + 1000000) * 100000000)) 2000100000
        (omega (arith, (root_is ((j * j + 1000000) * 100000000)).low, mul-le-mul hj hj))

    go :
        (t : Bool)
        → elim t [ true ↦ most (r * 10000) (root ((j * j + 1000000) * 100000000)) | false ↦ r * 10000 ] ≤ 2000100000
    go true =
        most_by (λ (d : ℕ). d ≤ 2000100000) (r * 10000) (root ((j * j + 1000000) * 100000000)) (λ k. omega arith)
        (λ k. le_of_lt root-le)
    go false = omega arith

pub f_hng_r-size : (z j r : ℕ) → f_hng_r_fixed z j r ≤ E9
unfolding f_hng_r_fixed
f_hng_r-size z j r = go (eqb j 0)
  where
    go : (t : Bool) → elim t [ true ↦ E9 | false ↦ (wall_distance_fixed z j r - j * 10000) * E9 / wall_distance_fixed z j r ] ≤ E9
    go true = le_refl E9
    go false = div-le_of_le-mul (wall_distance_fixed z j r) (mul-le-mul_right E9 (sub-le (wall_distance_fixed z j r) (j * 10000)))

pub wall_size : (x : Scenario) → wall_fixed x ≤ E9
unfolding wall_fixed
wall_size x = div-le_of_le-mul 40000000 (le_trans (mul-le-mul (f_hng_r-size x.ztor x.rjb x.rrup) (others-le x)) (lit≤ tt))

pub f_hng-size : (c : Coefficients) (x : Scenario) → Fair c → nat_abs (f_hng_fixed c x) ≤ 500000000
unfolding f_hng_fixed
f_hng-size c x f = share_size c.c9 (pos (wall_fixed x)) 1000 500 E9 500000000 f.c9_small (wall_size x) (lit≤ tt)

pub deep-size : (z : ℕ) → deep_fixed z ≤ 472366552
unfolding deep_fixed
deep-size z = div-le_of_le-mul E9 (le_trans (mul-le-mul_left 472366552 (sub-le E9 _)) (lit≤ tt))

-- a depth less a kilometre
pub shallow-size : (z : ℕ) → z ≤ 10000 → nat_abs (pos z -ℤ pos 1000) ≤ 10000
shallow-size z h =
    by_sign (pos z -ℤ pos 1000)
    (λ k. omega (arith, k, abs-parts (pos z -ℤ pos 1000), sub_is (pos z) (pos 1000)))
    (λ k. omega (arith, k, abs-parts (pos z -ℤ pos 1000), sub_is (pos z) (pos 1000)))

pub f_sed-size : (c : Coefficients) (z : ℕ) → Fair c → nat_abs (f_sed_fixed c z) ≤ 1400000000
unfolding f_sed_fixed
f_sed-size c z f = first (ltb z 1000) refl
  where
    shallow-le : z < 1000 → nat_abs (pos z -ℤ pos 1000) ≤ 1000
    shallow-le h = by_parts (pos z -ℤ pos 1000) 1000 parts.0 parts.1
      where
        parts : (dn (pos z -ℤ pos 1000) ≤ 1000) × (up (pos z -ℤ pos 1000) ≤ 1000)
        parts =
            by_sign (pos z -ℤ pos 1000)
            (λ k. (omega (arith, k), omega (arith, k, sub_is (pos z) (pos 1000))))
            (λ k. (omega (arith, k, sub_is (pos z) (pos 1000)), omega (arith, k)))

    second :
        (t : Bool)
        → nat_abs (elim t [ true ↦ pos 0 | false ↦ mul_div (c.c12 *ℤ c.k3) (pos (deep_fixed z)) (pos 1000000) ]) ≤ 1400000000
    second true = lit≤ tt
    second false =
        share_size (c.c12 *ℤ c.k3) (pos (deep_fixed z)) 1000000 2800000 472366552 1400000000 f.basin-small (deep-size z) (lit≤ tt)

    first :
        (t : Bool) → ltb z 1000 ≡ t
        → nat_abs (elim t [
          | true ↦ c.c11 *ℤ (pos z -ℤ pos 1000) *ℤ pos 1000
          | false ↦ elim (leb z 3000) [ true ↦ pos 0 | false ↦ mul_div (c.c12 *ℤ c.k3) (pos (deep_fixed z)) (pos 1000000) ]
        ])
        ≤ 1400000000
    first true e =
        le_trans
        (mul-abs-le (c.c11 *ℤ (pos z -ℤ pos 1000)) (pos 1000)
        (mul-abs-le c.c11 (pos z -ℤ pos 1000) f.c11_small (shallow-le (ltb-true z 1000 e)))
        (le_refl 1000))
        (lit≤ tt)
    first false e = second (leb z 3000)

-- a logarithm of a sum of A1100 and c or its curve: from ln (1/8) to ln 4
pub log_size : (n : ℕ) → 125000000 ≤ n → n ≤ 4000000000 → nat_abs (ln_fixed n) ≤ 2080000007
unfolding ln_e
log_size n l h =
    let s =
    near_between 2080000000 1400000000 (lit≤ tt) low_end high_end
    (between_ln (125000000 * K21) (n * K21) (4000000000 * K21) (lit≤ tt) (mul-le-mul_right K21 l) (mul-le-mul_right K21 h))
    (ln_fixed-near n (omega arith) (omega arith)) in
    by_parts (ln_fixed n) 2080000007 s.0 (le_trans s.1 (lit≤ tt))
  where
    low_end : dn (ln_e (125000000 * K21)) ≤ 2080000000 * K21
    low_end = lit≤ tt

    high_end : up (ln_e (4000000000 * K21)) ≤ 1400000000 * K21
    high_end = lit≤ tt

-- ---- the site term: below k1 the difference of the two logarithms is at most 2.93 and 123 units
pub logarithms_size :
    (v k1 a b : ℕ) → Paired v k1 → v < k1 → RockNear a b
    → nat_abs (ln_fixed (a + curve_fixed v k1) -ℤ ln_fixed (a + site_c_fixed)) ≤ 2930000123
logarithms_size v k1 a b p h r =
    let s =
    near_between 2930000000 0 (lit≤ tt) (lit≤ tt) (lit≤ tt) (difference_between v k1 b p h r.exact_top)
    (logarithms_near v k1 a b p h r) in
    by_parts (ln_fixed (a + curve_fixed v k1) -ℤ ln_fixed (a + site_c_fixed)) 2930000123 s.0 (le_trans s.1 (lit≤ tt))

linear_site_size :
    (c : Coefficients) (v a : ℕ) → Fair c → 150 ≤ v → v ≤ 1500 → c.k1 ≤ v → nat_abs (f_site_fixed c v a) ≤ 13100000000
unfolding f_site_fixed
linear_site_size c v a f l h k =
    rw (f_site_fixed, le-ltb v c.k1 k)
    (share_size (linear c) (ln_quotient (least v 1100) c.k1) 100000 82000 2000000005 13100000000 f.linear-small
    (quotient-size (least v 1100) c.k1 (capped c v f l h))
    (lit≤ tt))

pub f_site-size :
    (c : Coefficients) (v a b : ℕ) → Fair c → 150 ≤ v → v ≤ 1500 → RockNear a b → nat_abs (f_site_fixed c v a) ≤ 13100000000
unfolding f_site_fixed
f_site-size c v a b f l h r = go (ltb v c.k1) refl
  where
    soft : v < c.k1 → nat_abs (f_site_fixed c v a) ≤ 13100000000
    soft k =
        let p : ℤ = mul_div c.c10 (ln_quotient v c.k1) (pos 1000) in
        let q : ℤ = mul_div c.k2 (ln_fixed (a + curve_fixed v c.k1) -ℤ ln_fixed (a + site_c_fixed)) (pos 1000) in
        rw (f_site_fixed, lt-ltb v c.k1 k)
        (omega (
          arith,
          add-abs p q,
          share_size c.c10 (ln_quotient v c.k1) 1000 2600 2000000005 5200000013 f.c10_small
              (quotient-size v c.k1 (paired c v f l h)) (lit≤ tt),
          share_size c.k2 (ln_fixed (a + curve_fixed v c.k1) -ℤ ln_fixed (a + site_c_fixed)) 1000 2670 2930000123 7823100329 k2_small
              (logarithms_size v c.k1 a b (paired c v f l h) k r)
              (lit≤ tt),
        ))
      where
        k2_small : nat_abs c.k2 ≤ 2670
        k2_small = omega (arith, abs-parts c.k2, f.k2_sign, f.k2_small)

    go : (t : Bool) → ltb v c.k1 ≡ t → nat_abs (f_site_fixed c v a) ≤ 13100000000
    go true e = soft (ltb-true v c.k1 e)
    go false e = linear_site_size c v a f l h (ltb-false v c.k1 e)

-- ---- alpha
pub alpha-size :
    (c : Coefficients) (v a b : ℕ) → Fair c → 150 ≤ v → v ≤ 1500 → RockNear a b → nat_abs (alpha_fixed c v a) ≤ 2671000367
alpha-size c v a b f l h r =
    let s = near_between 2671000000 0 (lit≤ tt) (lit≤ tt) (lit≤ tt) (alpha_between c v b f l h) (alpha-near c v a b f l h r) in
    by_parts (alpha_fixed c v a) 2671000367 s.0 (le_trans s.1 (lit≤ tt))

-- ---- what is reported
pub ln_size : (z : ℤ) → dn z ≤ 15000000400 → up z ≤ 13000000400 → nat_abs (nearest z 1000) ≤ 15000001
ln_size z l h =
    let q : ℤ = nearest z 1000 in
    let n = nearest-half z 1000 (lit≤ tt) in
    by_sign q
    (λ k. by_sign z (λ e. omega (arith, abs-parts q, n.low, h)) (λ e. omega (arith, abs-parts q, n.low, h)))
    (λ k. by_sign z (λ e. omega (arith, abs-parts q, n.high, l)) (λ e. omega (arith, abs-parts q, n.high, l)))

-- a variance of at most 2.4 has a sigma of at most 1.55
pub sigma_size : (v : ℕ) → v ≤ 2400000000 → sigma_of v ≤ 1550000
unfolding sigma_of
sigma_size v h =
    let t : ℕ = root (4000 * v) in
    let small : t < 3099000 = side-lt t 3099000 (omega (arith, (root_is (4000 * v)).low)) in
    omega arith

-- alpha sigma_lnAB
pub y_fits : (a : ℤ) → nat_abs a ≤ 2671000367 → nat_abs (mul_div (pos (at_base_fixed (deviations_at PGA).s)) a (pos E9)) ≤ 995000000
y_fits a h = share_size (pos (at_base_fixed (deviations_at PGA).s)) a E9 372134384 2671000367 995000000 rock_sigma_le h (lit≤ tt)
