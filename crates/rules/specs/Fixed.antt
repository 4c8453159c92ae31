-- What the 64-bit functions of `estimate` give: the rules by `fixed`'s definitions, rounded down to the metre. Each function's contract
-- is equality with its definition here or in `Rules`; how near that lies to the rule is a law of `proofs/`. Definitions only.
use Rattle.std.specs.Prelude.{ℕ, ◌+◌, ◌-◌, ◌*◌, ◌/◌, true, false, ltb, leb, ℤ, pos, ◌-ℤ◌}
use Rattle.exact.specs.Near.{up}
use Rattle.fixed.specs.Fixed.{E9, E10, mul_div, ln_quotient, exp_fixed, sin_fixed}
use Rattle.request.specs.declared.Style.{Style}
use Rattle.request.specs.declared.Style.TheVariants.{StrikeSlip, Reverse, Normal}
use Rattle.rules.specs.Rules.{extrapolated}

-- ln 10 in units of 10^-9, rounded down
abbrev pub LN10 : ℕ
LN10 = 2302585092

-- log10 of W in m, in units of 10^-4
unfoldable pub log_width_fixed : Style → ℕ → ℕ
log_width_fixed StrikeSlip m = 22400 + 27 * m
log_width_fixed Reverse m = 13900 + 41 * m
log_width_fixed Normal m = 18600 + 35 * m

-- W
unfoldable pub width_fixed : Style → ℕ → ℕ
unfolding exp_fixed log_width_fixed
width_fixed s m = exp_fixed (pos (log_width_fixed s m * LN10 / 10000)) / E10

-- ZTOR, ZHYP in tenths of a metre
unfoldable pub top_fixed : ℕ → ℕ → ℕ → ℕ
unfolding sin_fixed
top_fixed zhyp w dip = (zhyp * E9 - 6 * w * up (sin_fixed dip)) / E10

-- ln of Z1.0 in m, in units of 10^-9
unfoldable pub ln_z10_fixed : ℕ → ℤ
unfolding mul_div ln_quotient
ln_z10_fixed v =
    elim (ltb v 180) [
      | true ↦ pos 6745000000
      | false ↦
          elim (leb v 500) [
            | true ↦ pos 6745000000 -ℤ mul_div (pos 135) (ln_quotient v 180) (pos 100)
            | false ↦ pos 5394000000 -ℤ mul_div (pos 448) (ln_quotient v 500) (pos 100)
          ]
    ]

-- Z2.5 by Vs30
unfoldable pub basin_fixed : ℕ → ℕ
unfolding exp_fixed ln_z10_fixed
basin_fixed v = extrapolated E10 (exp_fixed (ln_z10_fixed v)) / E10
