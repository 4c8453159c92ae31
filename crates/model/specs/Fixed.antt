-- What the 64-bit functions reckon: the terms of `Equations` in whole numbers of 10^-9, under the same names. Each function's
-- contract is equality with its definition here; how near that lies to the exact value is a law of `proofs/`. Products of a
-- coefficient are rounded toward zero. A request needs the rock PGA, the distance factor and the basin factor once, a logarithm of
-- the distance for each c6, and a curve and its logarithm for each k1. Definitions only.
use Rattle.std.specs.Prelude.{ℕ, ◌+◌, ◌-◌, ◌*◌, ◌/◌, ◌≤◌, true, false, ltb, leb, eqb, ℤ, pos, neg_ℤ, ◌+ℤ◌, ◌-ℤ◌, ◌*ℤ◌}
use Rattle.exact.specs.Near.{up, dn}
use Rattle.exact.specs.Root.{root}
use Rattle.fixed.specs.Fixed.{E9, mul_div, nearest, ln_fixed, ln_quotient, exp_fixed}
use Rattle.request.specs.declared.Style.{Style}
use Rattle.request.specs.declared.Style.TheVariants.{StrikeSlip, Reverse, Normal}
use Rattle.tables.specs.declared.Coefficients.{Coefficients}
use Rattle.tables.specs.declared.Deviations.{Deviations}
use Rattle.tables.specs.Tables.{PGA, coefficients_at, deviations_at}
use Rattle.model.specs.declared.Scenario.{Scenario}
use Rattle.model.specs.declared.Fine.{Fine}
use Rattle.model.specs.declared.Row.{Row}
use Rattle.model.specs.Equations.{by_magnitude, slope, c100, n100, linear, ln_af, least, most, f_flt_z, f_hng_m, f_hng_z, f_hng_dip, is_short, not_below_pga}

-- ---- the terms of the median
unfoldable pub f_mag_fixed : Coefficients → ℕ → ℤ
f_mag_fixed c m = by_magnitude c m *ℤ pos 10000

-- ln (RRUP² + c6²)
unfoldable pub ln_distance : ℕ → ℕ → ℤ
unfolding ln_fixed
ln_distance c6 rrup = ln_fixed ((rrup * rrup + c6 * c6) * 1000)

unfoldable pub f_dis_fixed : Coefficients → ℕ → ℕ → ℤ
unfolding mul_div ln_distance
f_dis_fixed c m rrup = mul_div (slope c m) (ln_distance c.c6 rrup) (pos 200000)

unfoldable pub f_flt_fixed : Coefficients → Style → ℕ → ℤ
f_flt_fixed c StrikeSlip ztor = pos 0
f_flt_fixed c Reverse ztor = c.c7 *ℤ pos (f_flt_z ztor) *ℤ pos 1000
f_flt_fixed c Normal ztor = c.c8 *ℤ pos 1000000

-- in tenths of a millimetre
unfoldable pub wall_distance_fixed : ℕ → ℕ → ℕ → ℕ
unfolding root
wall_distance_fixed ztor rjb rrup = elim (ltb ztor 1000) [
  | true ↦ most (rrup * 10000) (root ((rjb * rjb + 1000000) * 100000000))
  | false ↦ rrup * 10000
]

unfoldable pub f_hng_r_fixed : ℕ → ℕ → ℕ → ℕ
unfolding wall_distance_fixed
f_hng_r_fixed ztor rjb rrup = elim (eqb rjb 0) [
  | true ↦ E9
  | false ↦ let d : ℕ = wall_distance_fixed ztor rjb rrup in (d - rjb * 10000) * E9 / d
]

-- the product of the four factors
unfoldable pub wall_fixed : Scenario → ℕ
unfolding f_hng_r_fixed
wall_fixed x =
    f_hng_r_fixed x.ztor x.rjb x.rrup * (f_hng_m x.m * f_hng_z x.ztor * f_hng_dip x.dip) / 40000000

unfoldable pub f_hng_fixed : Coefficients → Scenario → ℤ
unfolding wall_fixed mul_div
f_hng_fixed c x = mul_div c.c9 (pos (wall_fixed x)) (pos 1000)

abbrev pub site_c_fixed : ℕ
site_c_fixed = c100 * 10000000

-- c (V/k1)^n, from ln(V/k1)
abbrev pub curve_of : ℤ → ℕ
curve_of l = c100 * exp_fixed (mul_div (pos n100) l (pos 100)) / 1000

unfoldable pub curve_fixed : ℕ → ℕ → ℕ
unfolding ln_quotient mul_div exp_fixed
curve_fixed v k1 = curve_of (ln_quotient v k1)

unfoldable pub f_site_fixed : Coefficients → ℕ → ℕ → ℤ
unfolding mul_div ln_quotient ln_fixed curve_fixed
f_site_fixed c v a = elim (ltb v c.k1) [
  | true ↦ mul_div c.c10 (ln_quotient v c.k1) (pos 1000)
      +ℤ mul_div c.k2 (ln_fixed (a + curve_fixed v c.k1) -ℤ ln_fixed (a + site_c_fixed)) (pos 1000)
  | false ↦ mul_div (linear c) (ln_quotient (least v 1100) c.k1) (pos 100000)
]

-- e^-0.75 is 0.472366552
unfoldable pub deep_fixed : ℕ → ℕ
unfolding exp_fixed
deep_fixed z = 472366552 * (E9 - exp_fixed (neg_ℤ (pos ((z - 3000) * 250000))) / 10) / E9

unfoldable pub f_sed_fixed : Coefficients → ℕ → ℤ
unfolding deep_fixed mul_div
f_sed_fixed c z = elim (ltb z 1000) [
  | true ↦ c.c11 *ℤ (pos z -ℤ pos 1000) *ℤ pos 1000
  | false ↦ elim (leb z 3000) [ true ↦ pos 0 | false ↦ mul_div (c.c12 *ℤ c.k3) (pos (deep_fixed z)) (pos 1000000) ]
]

-- ---- the median
-- ln Y with a site term
abbrev pub ln_sum : Coefficients → Scenario → ℤ → ℤ
ln_sum c x site =
    f_mag_fixed c x.m +ℤ f_dis_fixed c x.m x.rrup +ℤ f_flt_fixed c x.style x.ztor +ℤ f_hng_fixed c x +ℤ site
    +ℤ f_sed_fixed c x.z25

unfoldable pub ln_median_at_fixed : Coefficients → Scenario → ℕ → ℕ → ℤ
unfolding f_mag_fixed f_dis_fixed f_flt_fixed f_hng_fixed f_site_fixed f_sed_fixed
ln_median_at_fixed c x v a = ln_sum c x (f_site_fixed c v a)

unfoldable pub rock_pga_fixed : Scenario → ℕ
unfolding ln_median_at_fixed exp_fixed coefficients_at
rock_pga_fixed x = exp_fixed (ln_median_at_fixed (coefficients_at PGA) x 1100 0) / 10

-- of a measure by itself
unfoldable pub ln_own_fixed : ℕ → Scenario → ℤ
unfolding ln_median_at_fixed rock_pga_fixed coefficients_at
ln_own_fixed i x = ln_median_at_fixed (coefficients_at i) x x.vs30 (rock_pga_fixed x)

-- ---- the variances
-- a deviation of Table 3 squared
abbrev pub squared_fixed : ℕ → ℕ
squared_fixed n = n * n * 1000

-- a/(a + b)
abbrev pub share_fixed : ℕ → ℕ → ℕ
share_fixed a b = a * E9 / (a + b)

-- A/(A + c (V/k1)^n) - A/(A + c) is alpha/k2
unfoldable pub alpha_fixed : Coefficients → ℕ → ℕ → ℤ
unfolding mul_div curve_fixed
alpha_fixed c v a = elim (ltb v c.k1) [
  | true ↦ mul_div c.k2 (pos (share_fixed a (curve_fixed v c.k1)) -ℤ pos (share_fixed a site_c_fixed)) (pos 1000)
  | false ↦ pos 0
]

unfoldable pub at_base_fixed : ℕ → ℕ
unfolding root
at_base_fixed s = root ((s * s - ln_af * ln_af) * 1000000000000)

-- 2 rho sigma_lnYB
unfoldable pub cross_fixed : Deviations → ℕ
unfolding at_base_fixed
cross_fixed d = 2 * d.rho * at_base_fixed d.s / 1000

-- s² + y (y + 2 rho sigma_lnYB), as sigma_lnYB² + sigma_lnAF² is s²; y is alpha sigma_lnAB
unfoldable pub intra_variance_fixed : Deviations → ℤ → ℤ
unfolding mul_div at_base_fixed cross_fixed deviations_at
intra_variance_fixed d a =
    let y : ℤ = mul_div (pos (at_base_fixed (deviations_at PGA).s)) a (pos E9) in
    pos (squared_fixed d.s) +ℤ mul_div y (y +ℤ pos (cross_fixed d)) (pos E9)

unfoldable pub variance_fixed : ℕ → Scenario → ℕ
unfolding intra_variance_fixed alpha_fixed rock_pga_fixed coefficients_at deviations_at
variance_fixed i x = up (intra_variance_fixed (deviations_at i) (alpha_fixed (coefficients_at i) x.vs30 (rock_pga_fixed x)))

-- ---- a measure before it is rounded
-- by itself
unfoldable pub own_fixed : ℕ → Scenario → Fine
unfolding ln_own_fixed variance_fixed deviations_at
own_fixed i x =
    let v : ℕ = variance_fixed i x in
    let d : Deviations = deviations_at i in
    record {
      ln = ln_own_fixed i x;
      intra = v;
      t = d.t;
      total = v + squared_fixed d.t;
      arbitrary = v + squared_fixed d.t + squared_fixed d.sC;
    }

-- a row whose ln median is not below PGA's, with its own variances
unfoldable pub raised : ℕ → Fine → Fine → Fine
unfolding is_short
raised i own pga =
    record {
      ln = not_below_pga i own.ln pga.ln;
      intra = own.intra;
      t = own.t;
      total = own.total;
      arbitrary = own.arbitrary;
    }

unfoldable pub fine_fixed : ℕ → Scenario → Fine
unfolding raised own_fixed
fine_fixed i x = raised i (own_fixed i x) (own_fixed PGA x)

-- how large the fine row of an accepted request is: ln median from -15 to 13 and 400 units, a variance at most 2.4
pub record FineInRange (f : Fine) : Type 0 where
  pub ln_low : dn f.ln ≤ 15000000400
  pub ln_high : up f.ln ≤ 13000000400
  pub intra-high : f.intra ≤ 2400000000
  pub t_high : f.t ≤ 500
  pub total-high : f.total ≤ 2400000000
  pub arbitrary-high : f.arbitrary ≤ 2400000000

-- ---- what is reported
-- the root of a variance, to the nearest millionth
unfoldable pub sigma_of : ℕ → ℕ
unfolding root
sigma_of v = (root (4000 * v) + 1) / 2

unfoldable pub report : Fine → Row
unfolding nearest exp_fixed sigma_of
report f =
    record {
      ln = nearest f.ln 1000;
      median = most 1 (exp_fixed f.ln);
      intra = sigma_of f.intra;
      inter = f.t * 1000;
      total = sigma_of f.total;
      arbitrary = sigma_of f.arbitrary;
    }

unfoldable pub row_fixed : ℕ → Scenario → Row
unfolding fine_fixed report
row_fixed i x = report (fine_fixed i x)

-- zeros
abbrev pub no_fine : Fine
no_fine = record { ln = pos 0; intra = 0; t = 0; total = 0; arbitrary = 0 }
