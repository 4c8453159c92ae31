-- What the 64-bit functions of `reckon` give: the series of `exact` at a coarse decimal scale, with fewer terms. Each function's
-- contract is equality with its definition here; how near that lies to the exact value is a law of `proofs/`. Definitions only.
-- Numbers go in and come out in units of 10^-9; inside the logarithm and the exponential they stand in units of 10^-10.
use Rattle.std.specs.Prelude.{ℕ, zero, suc, ◌+◌, ◌-◌, ◌*◌, ◌/◌, ◌%◌, ◌^◌, true, false, ltb, leb, ℤ, pos, negsuc, neg_ℤ, ◌-ℤ◌, ◌*ℤ◌}
use Rattle.std.specs.Int.Signed.{quot_z}
use Rattle.exact.specs.Series.{ln_terms, ln_series, exp_terms, sin_series}
use Rattle.exact.specs.Near.{up, dn}

-- one, in units of 10^-9, of 10^-10 and of 10^-12
abbrev pub E9 : ℕ
E9 = 1_000000_000

abbrev pub E10 : ℕ
E10 = 10_000000_000

abbrev pub E12 : ℕ
E12 = 1_000000_000000

-- how many units of 10^-30 one of 10^-9, and one of 10^-10, has
abbrev pub K21 : ℕ
K21 = 1_000000_000000_000000_000

abbrev pub K20 : ℕ
K20 = 100_000000_000000_000000

-- ---- signed numbers
-- a b / d, rounded toward zero
unfoldable pub mul_div : ℤ → ℤ → ℤ → ℤ
mul_div a b d = quot_z (a *ℤ b) d

-- a/d to the nearest whole number, a half away from zero
unfoldable pub nearest : ℤ → ℕ → ℤ
nearest (pos n) d = pos ((n + d / 2) / d)
nearest (negsuc n) d = neg_ℤ (pos ((suc n + d / 2) / d))

-- ---- the logarithm
-- one inside it, in units of 10^-10, and ln 2 in the same, rounded down
abbrev pub ln_one : ℕ
ln_one = E10

abbrev pub ln_two : ℕ
ln_two = 6931471805

-- how many terms: as many as leave out at most one such unit of their sum
abbrev pub ln_count : ℕ
ln_count = 9

-- ln (p/q) for p/q from 1 to 2, in units of 10^-10
unfoldable pub ln_ratio : ℕ → ℕ → ℕ
unfolding ln_series
ln_ratio p q = ln_series ln_one ln_count ((p - q) * ln_one / (p + q))

-- how many terms the next has: as many as leave out at most one unit of 10^-12 of their sum
abbrev pub narrow_count : ℕ
narrow_count = 11

-- the same for small whole numbers, more precise: z² is a quotient of two of them, so that each power of z stands in units of 10^-12
unfoldable pub ln_narrow : ℕ → ℕ → ℕ
unfolding ln_terms
ln_narrow p q = 2 * ln_terms ((p + q) * (p + q)) ((p - q) * (p - q)) ((p - q) * E12 / (p + q)) 1 narrow_count / 100

-- ln y, y in units of 10^-9 from 1 up, halved f times at most; in units of 10^-10
unfoldable pub ln_halved : ℕ → ℕ → ℕ
unfolding ln_ratio
ln_halved zero y = ln_ratio y E9
ln_halved (suc f) y = elim (ltb y (2 * E9)) [ true ↦ ln_ratio y E9 | false ↦ ln_two + ln_halved f (y / 2) ]

-- 3 ln 2 in units of 10^-9, rounded down
abbrev pub LN8 : ℕ
LN8 = 2079441541

-- ln x, x in units of 10^-9 from 1/8 up: three powers of two are put in and taken out again
unfoldable pub ln_fixed : ℕ → ℤ
unfolding ln_halved
ln_fixed x = pos (ln_halved 18 (8 * x) / (ln_one / E9)) -ℤ pos LN8

-- ln (p/q) for p/q from 1 up, q doubled f times at most; in units of 10^-10
unfoldable pub ln_doubled : ℕ → ℕ → ℕ → ℕ
unfolding ln_ratio
ln_doubled zero p q = ln_ratio p q
ln_doubled (suc f) p q = elim (ltb p (2 * q)) [ true ↦ ln_ratio p q | false ↦ ln_two + ln_doubled f p (2 * q) ]

-- ln (p/q) for whole numbers p and q, p/q from 1/8 to 8
unfoldable pub ln_quotient : ℕ → ℕ → ℤ
unfolding ln_doubled
ln_quotient p q = pos (ln_doubled 6 (8 * p) q / (ln_one / E9)) -ℤ pos LN8

-- ---- the exponential
-- one inside it, in units of 10^-10, and ln 2 in the same, rounded down
abbrev pub exp_one : ℕ
exp_one = E10

abbrev pub exp_two : ℕ
exp_two = 6931471805

-- how many terms: as many as leave out at most one such unit
abbrev pub exp_count : ℕ
exp_count = 12

-- e^r, r from 0 to ln 2, both in units of 10^-10; the third term is made from a quarter of r so that it fits 64 bits
unfoldable pub exp_unit : ℕ → ℕ
unfolding exp_terms
exp_unit r = exp_one + r + exp_terms exp_one r (r / 4 * r / (exp_one / 2)) 3 (exp_count - 2)

-- e^x in units of 10^-10, y being x + 32 ln 2 in units of 10^-10
unfoldable pub exp_shifted : ℕ → ℕ
unfolding exp_unit
exp_shifted y = 2 ^ (y / exp_two) * exp_unit (y % exp_two) / 2 ^ 32

-- e^x in units of 10^-10, x in units of 10^-9
unfoldable pub exp_fixed : ℤ → ℕ
unfolding exp_shifted
exp_fixed x = exp_shifted (exp_one / E9 * up x + 32 * exp_two - exp_one / E9 * dn x)

-- ---- sine and cosine of whole degrees, in units of 10^-9
-- an angle of d degrees in radians; pi in units of 10^-16
unfoldable pub radians9 : ℕ → ℕ
radians9 d = d * 31415926535897932 / 1800000000

-- seven terms, d from 0 to 90
unfoldable pub sin_acute : ℕ → ℤ
unfolding sin_series radians9
sin_acute d = sin_series E9 7 (radians9 d)

-- d from 0 to 180
unfoldable pub sin_fixed : ℕ → ℤ
unfolding sin_acute
sin_fixed d = elim (leb d 90) [ true ↦ sin_acute d | false ↦ sin_acute (180 - d) ]

-- the size of the cosine, d from 0 to 180
unfoldable pub cos_fixed : ℕ → ℤ
unfolding sin_acute
cos_fixed d = elim (leb d 90) [ true ↦ sin_acute (90 - d) | false ↦ sin_acute (d - 90) ]
