-- The model of Campbell and Bozorgnia 2008 (003) as printed: each term under the paper's name, with the paper's equation number. A
-- value is a whole number of 10^-30, each division and root rounded down. M stands in hundredths, a length or depth in metres, which
-- are thousandths of a kilometre, a coefficient of Tables 2 and 3 in thousandths: so a sum or product of these is a whole number of
-- 10^-5 or 10^-6, and no rounding touches it. A difference `a - b` of numbers that have no sign stops at 0. Definitions only.
use Rattle.std.specs.Prelude.{ℕ, ◌+◌, ◌-◌, ◌*◌, ◌/◌, Bool, true, false, ◌&&◌, map, ltb, leb, eqb, ℤ, pos, neg_ℤ, ◌+ℤ◌, ◌-ℤ◌, ◌*ℤ◌, get_or}
use Rattle.std.specs.Int.Signed.{lt_z, shr_z}
use Rattle.exact.specs.Near.{up}
use Rattle.exact.specs.Exact.{E30, ln_e, exp_e, mul_e, pow_e, root_e}
use Rattle.request.specs.declared.Style.{Style}
use Rattle.request.specs.declared.Style.TheVariants.{StrikeSlip, Reverse, Normal}
use Rattle.tables.specs.declared.Coefficients.{Coefficients}
use Rattle.tables.specs.declared.Deviations.{Deviations}
use Rattle.tables.specs.Tables.{PGA, periods, coefficients_at, deviations_at}
use Rattle.model.specs.declared.Scenario.{Scenario}

-- ---- units
-- 10^-2, 10^-3, 10^-5, 10^-6 and 10^-10
abbrev pub E28 : ℕ
E28 = 10_000000_000000_000000_000000_000

abbrev pub E27 : ℕ
E27 = 1_000000_000000_000000_000000_000

abbrev pub E25 : ℕ
E25 = 10_000000_000000_000000_000000

abbrev pub E24 : ℕ
E24 = 1_000000_000000_000000_000000

abbrev pub E20 : ℕ
E20 = 100_000000_000000_000000

-- a coefficient times a number
unfoldable pub times : ℤ → ℤ → ℤ
times c x = shr_z (c *ℤ x) 1000

-- the smaller and the larger
abbrev pub least : ℕ → ℕ → ℕ
least a b = elim (ltb a b) [ true ↦ a | false ↦ b ]

abbrev pub most : ℕ → ℕ → ℕ
most a b = elim (ltb a b) [ true ↦ b | false ↦ a ]

-- ---- the magnitude term (2)
-- in units of 10^-5
abbrev pub by_magnitude : Coefficients → ℕ → ℤ
by_magnitude c m = pos 100 *ℤ c.c0 +ℤ c.c1 *ℤ pos m +ℤ c.c2 *ℤ pos (m - 550) +ℤ c.c3 *ℤ pos (m - 650)

unfoldable pub f_mag : Coefficients → ℕ → ℤ
f_mag c m = by_magnitude c m *ℤ pos E25

-- ---- the distance term (3), the logarithm of the root being half that of RRUP² + c6²
-- c4 + c5 M, in units of 10^-5
abbrev pub slope : Coefficients → ℕ → ℤ
slope c m = pos 100 *ℤ c.c4 +ℤ c.c5 *ℤ pos m

unfoldable pub f_dis : Coefficients → ℕ → ℕ → ℤ
unfolding ln_e
f_dis c m rrup = shr_z (slope c m *ℤ ln_e ((rrup * rrup + c.c6 * c.c6) * E24)) 200000

-- ---- the style-of-faulting term (4)
-- in metres (5)
abbrev pub f_flt_z : ℕ → ℕ
f_flt_z ztor = elim (ltb ztor 1000) [ true ↦ ztor | false ↦ 1000 ]

unfoldable pub f_flt : Coefficients → Style → ℕ → ℤ
f_flt c StrikeSlip ztor = pos 0
f_flt c Reverse ztor = c.c7 *ℤ pos (f_flt_z ztor) *ℤ pos E24
f_flt c Normal ztor = c.c8 *ℤ pos E27

-- ---- the hanging-wall term (6)
-- the distance that divides (7): max(RRUP, root of RJB² + 1), or RRUP
unfoldable pub wall_distance : ℕ → ℕ → ℕ → ℕ
unfolding root_e
wall_distance ztor rjb rrup = elim (ltb ztor 1000) [
  | true ↦ most (rrup * E27) (root_e ((rjb * rjb + 1000000) * E24))
  | false ↦ rrup * E27
]

unfoldable pub f_hng_r : ℕ → ℕ → ℕ → ℕ
unfolding wall_distance
f_hng_r ztor rjb rrup = elim (eqb rjb 0) [
  | true ↦ E30
  | false ↦ let d : ℕ = wall_distance ztor rjb rrup in (d - rjb * E27) * E30 / d
]

-- in hundredths (8)
abbrev pub f_hng_m : ℕ → ℕ
f_hng_m m = elim (leb m 600) [ true ↦ 0 | false ↦ elim (ltb m 650) [ true ↦ 2 * (m - 600) | false ↦ 100 ] ]

-- in parts of 20000 (9)
abbrev pub f_hng_z : ℕ → ℕ
f_hng_z ztor = 20000 - ztor

-- in parts of 20 (10)
abbrev pub f_hng_dip : ℕ → ℕ
f_hng_dip dip = elim (leb dip 70) [ true ↦ 20 | false ↦ 90 - dip ]

unfoldable pub f_hng : Coefficients → Scenario → ℤ
unfolding f_hng_r times
f_hng c x =
    times c.c9
    (pos (f_hng_r x.ztor x.rjb x.rrup * (f_hng_m x.m * f_hng_z x.ztor * f_hng_dip x.dip) / (100 * 20000 * 20)))

-- ---- the shallow site response term (11), at Vs30 = v and A1100 = a
-- c and n, in hundredths
abbrev pub c100 : ℕ
c100 = 188

abbrev pub n100 : ℕ
n100 = 118

-- and in units of 10^-30
abbrev pub site_c : ℕ
site_c = c100 * E28

abbrev pub site_n : ℤ
site_n = pos (n100 * E28)

-- c (V/k1)^n
unfoldable pub curve : ℕ → ℕ → ℕ
unfolding pow_e
curve v k1 = c100 * pow_e (v * E30 / k1) site_n / 100

-- c10 + k2 n, in units of 10^-5
abbrev pub linear : Coefficients → ℤ
linear c = pos 100 *ℤ c.c10 +ℤ pos n100 *ℤ c.k2

unfoldable pub f_site : Coefficients → ℕ → ℕ → ℤ
unfolding times ln_e curve
f_site c v a = elim (ltb v c.k1) [
  | true ↦ times c.c10 (ln_e (v * E30 / c.k1)) +ℤ times c.k2 (ln_e (a + curve v c.k1) -ℤ ln_e (a + site_c))
  | false ↦ shr_z (linear c *ℤ ln_e (least v 1100 * E30 / c.k1)) 100000
]

-- ---- the basin response term (12)
-- e^-0.75 (1 - e^(-0.25 (Z - 3)))
unfoldable pub deep : ℕ → ℕ
unfolding exp_e
deep z = exp_e (neg_ℤ (pos (750 * E27))) * (E30 - exp_e (neg_ℤ (pos ((z - 3000) * (250 * E24))))) / E30

unfoldable pub f_sed : Coefficients → ℕ → ℤ
unfolding deep
f_sed c z = elim (ltb z 1000) [
  | true ↦ c.c11 *ℤ (pos z -ℤ pos 1000) *ℤ pos E24
  | false ↦ elim (leb z 3000) [ true ↦ pos 0 | false ↦ shr_z (c.c12 *ℤ c.k3 *ℤ pos (deep z)) 1000000 ]
]

-- ---- the median
-- ln Y (1), with the Vs30 and the A1100 to be used
unfoldable pub ln_median_at : Coefficients → Scenario → ℕ → ℕ → ℤ
unfolding f_mag f_dis f_flt f_hng f_site f_sed
ln_median_at c x v a =
    f_mag c x.m +ℤ f_dis c x.m x.rrup +ℤ f_flt c x.style x.ztor +ℤ f_hng c x +ℤ f_site c v a +ℤ f_sed c x.z25

-- A1100, the median PGA at Vs30 = 1100: PGA's own k1 is below that, so that its site term reads no A1100
unfoldable pub rock_pga : Scenario → ℕ
unfolding ln_median_at exp_e coefficients_at
rock_pga x = exp_e (ln_median_at (coefficients_at PGA) x 1100 0)

-- of a measure by itself
unfoldable pub ln_own : ℕ → Scenario → ℤ
unfolding ln_median_at rock_pga coefficients_at
ln_own i x = ln_median_at (coefficients_at i) x x.vs30 (rock_pga x)

-- T ≤ 0.25 s: PGA, PGV and PGD have no period
unfoldable pub is_short : ℕ → Bool
is_short i = get_or (map (λ (t : ℕ). leb t 0_250) periods) i false

-- below (12): when PSA < PGA and T ≤ 0.25 s, PSA is PGA; as logarithms
abbrev pub not_below_pga : ℕ → ℤ → ℤ → ℤ
not_below_pga i psa pga = elim (is_short i && lt_z psa pga) [ true ↦ pga | false ↦ psa ]

-- of a measure
unfoldable pub ln_median : ℕ → Scenario → ℤ
unfolding ln_own is_short
ln_median i x = not_below_pga i (ln_own i x) (ln_own PGA x)

unfoldable pub median : ℕ → Scenario → ℕ
unfolding ln_median exp_e
median i x = exp_e (ln_median i x)

-- ---- the sigmas
-- alpha (17), at Vs30 = v and A1100 = a
unfoldable pub alpha : Coefficients → ℕ → ℕ → ℤ
unfolding times mul_e curve
alpha c v a = elim (ltb v c.k1) [
  | true ↦ times c.k2 (mul_e (pos a) (pos (E30 * E30 / (a + curve v c.k1)) -ℤ pos (E30 * E30 / (a + site_c))))
  | false ↦ pos 0
]

-- sigma_lnAF, that of the site's amplification, in thousandths
abbrev pub ln_af : ℕ
ln_af = 300

-- sigma at the base of the site profile: the root of s² - sigma_lnAF²
unfoldable pub at_base : ℕ → ℕ
unfolding root_e
at_base s = root_e ((s * s - ln_af * ln_af) * E24)

-- what stands under the root of (15): a is alpha, y alpha sigma_lnAB
unfoldable pub intra_variance : Deviations → ℤ → ℤ
unfolding mul_e times at_base deviations_at
intra_variance d a =
    let b : ℤ = pos (at_base d.s) in
    let y : ℤ = mul_e (pos (at_base (deviations_at PGA).s)) a in
    mul_e b b +ℤ pos (ln_af * ln_af * E24) +ℤ mul_e y y +ℤ mul_e y (times (pos (2 * d.rho)) b)

-- the intra-event sigma (15)
unfoldable pub intra : ℕ → Scenario → ℕ
unfolding root_e intra_variance alpha rock_pga coefficients_at deviations_at
intra i x = root_e (up (intra_variance (deviations_at i) (alpha (coefficients_at i) x.vs30 (rock_pga x))))

-- the inter-event sigma (14)
unfoldable pub inter : ℕ → ℕ
unfolding deviations_at
inter i = (deviations_at i).t * E27

-- the root of a² + b², b a number of Table 3
unfoldable pub joined : ℕ → ℕ → ℕ
unfolding root_e
joined a b = root_e (a * a / E30 + b * b * E24)

-- the total sigma (16)
unfoldable pub total : ℕ → Scenario → ℕ
unfolding joined intra deviations_at
total i x = joined (intra i x) (deviations_at i).t

-- the arbitrary horizontal component's (18)
unfoldable pub arbitrary : ℕ → Scenario → ℕ
unfolding joined total deviations_at
arbitrary i x = joined (total i x) (deviations_at i).sC
