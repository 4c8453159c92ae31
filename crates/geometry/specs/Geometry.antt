-- The rupture distance, exact: equations 7 to 9 and 14 to 20 of Kaklamanos, Baise and Boore (2011), which is source document 000.
-- W, ZTOR and RJB are whole metres; RX, RY, R' and RRUP are whole numbers of 1/S m. sd and cd are the sizes of the sine and the
-- cosine of the dip, sa and ca those of the azimuth a, in units of 1/S. Each division and each root is rounded down; a square under
-- a root is not divided. Definitions only.
use Rattle.std.specs.Prelude.{ℕ, ◌+◌, ◌-◌, ◌*◌, ◌/◌, ◌≤◌, Bool, true, false, cond, ◌&&◌, eqb, leb, ltb, ℤ, pos, nat_abs}
use Rattle.std.specs.Int.Signed.{lt_z}
use Rattle.exact.specs.Root.{root}
use Rattle.exact.specs.Exact.{E30, sin_e, cos_e}

-- the tangent from sine and cosine; with the two exchanged it is the cotangent
abbrev pub tangent : ℕ → ℕ → ℕ → ℕ
tangent S s c = s * S / c

-- ---- RX and RY, a not 90; h is W cos(dip)
-- equation 8, the arcsine taken out: sin a (root of (RJB² - h² cos² a) + h sin a)
unfoldable pub rx8 : ℕ → ℕ → ℕ → ℕ → ℕ → ℕ
unfolding root
rx8 S sa ca h rjb = let g : ℕ = h * ca / S in sa * (root (rjb * S * (rjb * S) - g * g) + h * sa / S) / S

-- equation 7, RJB |tan a|, where that is at most h; else equation 8
unfoldable pub rx : ℕ → ℕ → ℕ → ℕ → ℕ → ℕ
unfolding rx8
rx S sa ca h rjb = let x : ℕ = rjb * tangent S sa ca in elim (leb x h) [ true ↦ x | false ↦ rx8 S sa ca h rjb ]

-- equation 20: RX |cot a|
unfoldable pub ry : ℕ → ℕ → ℕ → ℕ → ℕ
ry S sa ca x = x * tangent S ca sa / S

-- ---- RRUP from RX and RY
-- the first RX of equation 16, ZTOR tan(dip), and its last, ZTOR tan(dip) + W/cos(dip)
abbrev pub first16 : ℕ → ℕ → ℕ → ℕ → ℕ
first16 S sd cd ztor = ztor * tangent S sd cd

abbrev pub last16 : ℕ → ℕ → ℕ → ℕ → ℕ → ℕ
last16 S sd cd w ztor = ztor * tangent S sd cd + w * S * S / cd

-- R': equation 15 below the first, 16 between them, both included, and 17 beyond
unfoldable pub r_prime : ℕ → ℕ → ℕ → ℕ → ℕ → ℕ → ℕ
unfolding root
r_prime S sd cd w ztor x =
    elim (ltb x (first16 S sd cd ztor)) [
      | true ↦ root (x * x + ztor * S * (ztor * S))
      | false ↦ elim (leb x (last16 S sd cd w ztor)) [
        | true ↦ x * sd / S + ztor * cd
        | false ↦ root ((x - w * cd) * (x - w * cd) + (ztor * S + w * sd) * (ztor * S + w * sd))
      ]
    ]

-- equation 14
unfoldable pub rrup : ℕ → ℕ → ℕ → ℕ → ℕ → ℕ → ℕ → ℕ
unfolding r_prime root
rrup S sd cd w ztor x y = let r : ℕ = r_prime S sd cd w ztor x in root (r * r + y * y)

-- ---- in units of 10^-30 m, from whole degrees
-- the sizes of sine and cosine
unfoldable pub sin_size : ℕ → ℕ
unfolding sin_e
sin_size d = nat_abs (sin_e (pos d))

unfoldable pub cos_size : ℕ → ℕ
unfolding cos_e
cos_size d = nat_abs (cos_e (pos d))

-- equation 14 with the dip in degrees
unfoldable pub rrup_e : ℕ → ℕ → ℕ → ℕ → ℕ → ℕ
unfolding rrup sin_size cos_size
rrup_e dip w ztor x y = rrup E30 (sin_size dip) (cos_size dip) w ztor x y

-- the hanging wall, dip below 90 and a from 1 to 179: at 90 degrees equations 9 and 18, RX = RJB + h and RY = 0; 9 is for RJB > 0, and
-- RJB 0 there is refused before
unfoldable pub hanging_wall_e : ℕ → ℕ → ℕ → ℕ → ℕ → ℕ
unfolding rrup_e rx ry sin_size cos_size
hanging_wall_e dip a w ztor rjb =
    let h : ℕ = w * cos_size dip in
    elim (eqb a 90) [
      | true ↦ rrup_e dip w ztor (rjb * E30 + h) 0
      | false ↦ let x : ℕ = rx E30 (sin_size a) (cos_size a) h rjb in rrup_e dip w ztor x (ry E30 (sin_size a) (cos_size a) x)
    ]

-- the smallest whole number whose square is not below n
unfoldable pub ceil_root : ℕ → ℕ
unfolding root
ceil_root n = let r : ℕ = root n in cond (leb n (r * r)) r (r + 1)

-- which of the two rules a site is under
unfoldable pub on_hanging_wall : ℕ → ℤ → Bool
on_hanging_wall dip azimuth = ltb dip 90 && (lt_z (pos 0) azimuth && lt_z azimuth (pos 180))

-- RRUP: on the footwall, in line with the top edge and at a vertical fault the smallest whole metre not below the root of RJB² + ZTOR²
unfoldable pub rupture_distance_e : ℕ → ℤ → ℕ → ℕ → ℕ → ℕ
unfolding hanging_wall_e ceil_root on_hanging_wall
rupture_distance_e dip azimuth w ztor rjb =
    elim (on_hanging_wall dip azimuth) [
      | true ↦ hanging_wall_e dip (nat_abs azimuth) w ztor rjb
      | false ↦ ceil_root (rjb * rjb + ztor * ztor) * E30
    ]

-- the figures of which it is promised, in degrees and metres; the azimuth may be any number, since its size is used on the hanging wall only
pub record RuptureInRange (dip w ztor rjb : ℕ) : Type 0 where
  pub dip-low : 15 ≤ dip
  pub dip-high : dip ≤ 90
  pub w_low : 1 ≤ w
  pub w_high : w ≤ 100000
  pub ztor-high : ztor ≤ 15000
  pub rjb-high : rjb ≤ 200000
