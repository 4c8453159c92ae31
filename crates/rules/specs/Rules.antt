-- The published estimates of what a request leaves blank, by source document 000, whose equations the numbers name. A magnitude m stands in
-- hundredths, an angle in degrees, Vs30 in m/s; a name that ends in E is the exact value, in units of 10^-30. Definitions only.
use Rattle.std.specs.Prelude.{ℕ, ◌+◌, ◌-◌, ◌*◌, ◌/◌, true, false, ltb, leb, ℤ, pos, ◌-ℤ◌}
use Rattle.exact.specs.Near.{up}
use Rattle.exact.specs.Exact.{E30, ln_e, exp_e, mul_e, ten_e, sin_e}
use Rattle.request.specs.declared.Style.{Style}
use Rattle.request.specs.declared.Style.TheVariants.{StrikeSlip, Reverse, Normal}

-- n/d in units of 10^-30, rounded down
infixl 70 ◌over◌
abbrev pub ◌over◌ : ℕ → ℕ → ℕ
n over d = n * E30 / d

-- ---- the source
-- the dip ("Fault dip angle")
unfoldable pub dip_of : Style → ℕ
dip_of StrikeSlip = 90
dip_of Reverse = 40
dip_of Normal = 50

-- log10 of W in km: -0.76 + 0.27 M, -1.61 + 0.41 M, -1.14 + 0.35 M (equation 2)
unfoldable pub log_width_e : Style → ℕ → ℤ
log_width_e StrikeSlip m = pos (27 * m over 10000) -ℤ pos (76 over 100)
log_width_e Reverse m = pos (41 * m over 10000) -ℤ pos (161 over 100)
log_width_e Normal m = pos (35 * m over 10000) -ℤ pos (114 over 100)

-- W in m
unfoldable pub width_e : Style → ℕ → ℕ
unfolding ten_e log_width_e
width_e s m = 1000 * ten_e (log_width_e s m)

-- ZHYP in tenths of a metre, where it is a whole number: 5.63 + 0.68 M km, 11.24 - 0.2 M km (equation 4)
unfoldable pub hypocentre : Style → ℕ → ℕ
hypocentre StrikeSlip m = 56300 + 68 * m
hypocentre Reverse m = 112400 - 20 * m
hypocentre Normal m = 112400 - 20 * m

-- ZTOR in m, the larger of 0 and ZHYP - 0.6 W sin(dip) (equation 3): ZHYP in tenths of a metre, W in m
unfoldable pub top_e : ℕ → ℕ → ℕ → ℕ
unfolding mul_e sin_e
top_e zhyp w dip = up (pos (zhyp over 10) -ℤ mul_e (pos (6 * w over 10)) (sin_e (pos dip)))

-- ---- the site
-- Z2.5 in m from Z1.5 in m, rounded down: 636 + 1.549 Z1.5 (equation 25)
abbrev pub basin_from_z15 : ℕ → ℕ
basin_from_z15 z = 636 + 1549 * z / 1000

-- Z2.5 from Z1.0, both in units of which u are a metre, rounded down: 519 + 3.595 Z1.0 (equation 26)
abbrev pub extrapolated : ℕ → ℕ → ℕ
extrapolated u z = 519 * u + 3595 * z / 1000

-- both in m
abbrev pub basin_from_z10 : ℕ → ℕ
basin_from_z10 z = extrapolated 1 z

-- ln of Z1.0 in m, by Vs30 (equation 23): three rules, which do not join at 500
unfoldable pub ln_z10_e : ℕ → ℤ
unfolding mul_e ln_e
ln_z10_e v =
    elim (ltb v 180) [
      | true ↦ pos (6745 over 1000)
      | false ↦
          elim (leb v 500) [
            | true ↦ pos (6745 over 1000) -ℤ mul_e (pos (135 over 100)) (ln_e (v over 180))
            | false ↦ pos (5394 over 1000) -ℤ mul_e (pos (448 over 100)) (ln_e (v over 500))
          ]
    ]

-- Z2.5 in m, by Vs30 (equation 23 into 26)
unfoldable pub basin_e : ℕ → ℕ
unfolding exp_e ln_z10_e
basin_e v = extrapolated E30 (exp_e (ln_z10_e v))
