-- What the 64-bit functions of `rupture` give, sines and cosines in units of 10^-9: the plan in tenths of a millimetre, the section in
-- millimetres, what is reported in metres. Definitions only.
use Rattle.std.specs.Prelude.{ℕ, ◌+◌, ◌-◌, ◌*◌, ◌/◌, min, max, Bool, true, false, eqb, leb, ℤ, nat_abs}
use Rattle.exact.specs.Root.{root}
use Rattle.fixed.specs.Fixed.{E9, sin_fixed, cos_fixed}
use Rattle.geometry.specs.Geometry.{ceil_root, on_hanging_wall}
use Rattle.geometry.specs.declared.Place.{Place}

-- the sizes of sine and cosine
unfoldable pub sin9 : ℕ → ℕ
unfolding sin_fixed
sin9 d = nat_abs (sin_fixed d)

unfoldable pub cos9 : ℕ → ℕ
unfolding cos_fixed
cos9 d = nat_abs (cos_fixed d)

-- ---- the plan
-- h = W cos(dip), the width of the rupture's projection
abbrev pub projected_width_fixed : ℕ → ℕ → ℕ
projected_width_fixed w cd = w * cd / 100000

-- whether equation 7 holds, RJB sin a ≤ h cos a, with a millimetre to spare: where this fails the exact test fails too
abbrev pub beside_fixed : ℕ → ℕ → ℕ → ℕ → Bool
beside_fixed sa ca h rjb = leb (rjb * sa) (h * ca + 10 * E9)

-- the bracket of equation 8, root of (RJB² - h² cos² a) + h sin a: how far the site lies from the end of the top edge
unfoldable pub from_top_fixed : ℕ → ℕ → ℕ → ℕ → ℕ
unfolding root
from_top_fixed sa ca h rjb = let g : ℕ = h * ca / E9 in root (rjb * rjb - g * g) + h * sa / E9

-- RX and RY, a not 90: RJB |tan a| and RJB, or the sides of the bracket
unfoldable pub place_fixed : ℕ → ℕ → ℕ → ℕ → Place
unfolding from_top_fixed
place_fixed sa ca h rjb =
    elim (beside_fixed sa ca h rjb) [
      | true ↦ record { x = rjb * sa / ca; y = rjb }
      | false ↦ let d : ℕ = from_top_fixed sa ca h rjb in record { x = d * sa / E9; y = d * ca / E9 }
    ]

-- from the azimuth in degrees and RJB in metres
unfoldable pub site_fixed : ℕ → ℕ → ℕ → Place
unfolding place_fixed sin9 cos9
site_fixed a h rjb =
    elim (eqb a 90) [
      | true ↦ record { x = 10000 * rjb + h; y = 0 }
      | false ↦ place_fixed (sin9 a) (cos9 a) h (10000 * rjb)
    ]

-- ---- the section
-- the site's distance from the plane of the rupture; x and z in tenths of a millimetre
abbrev pub off_plane_fixed : ℕ → ℕ → ℕ → ℕ → ℕ
off_plane_fixed sd cd z x = (x * sd + z * cd) / (10 * E9)

-- how far along the dip it lies above the upper or beyond the lower edge, W metres apart; up is z sin(dip), down x cos(dip)
unfoldable pub off_edges_fixed : ℕ → ℕ → ℕ → ℕ
off_edges_fixed up down w = (up - down) / (10 * E9) + ((down - up) / (10 * E9) - 1000 * w)

-- RRUP in millimetres: those two and RY are at right angles
unfoldable pub rrup_fixed : ℕ → ℕ → ℕ → ℕ → ℕ → ℕ → ℕ
unfolding off_edges_fixed root
rrup_fixed sd cd w z x y =
    let v : ℕ = off_plane_fixed sd cd z x in
    let e : ℕ = off_edges_fixed (z * sd) (x * cd) w in
    let u : ℕ = y / 10 in
    root (v * v + e * e + u * u)

-- RRUP in metres, rounded up, from the dip in degrees and ZTOR in metres
unfoldable pub from_plan_fixed : ℕ → ℕ → ℕ → Place → ℕ
unfolding rrup_fixed sin9 cos9
from_plan_fixed dip w ztor p = (rrup_fixed (sin9 dip) (cos9 dip) w (10000 * ztor) p.x p.y + 999) / 1000

-- ---- what is reported
-- on the hanging wall
unfoldable pub hanging_wall_fixed : ℕ → ℕ → ℕ → ℕ → ℕ → ℕ
unfolding from_plan_fixed site_fixed cos9
hanging_wall_fixed dip a w ztor rjb = from_plan_fixed dip w ztor (site_fixed a (projected_width_fixed w (cos9 dip)) rjb)

-- the smallest whole metre not below the root of RJB² + ZTOR²; on the hanging wall RRUP rounded up, held between that and the smallest
-- whole metre not below the root of RJB² + (ZTOR + W)²
unfoldable pub rupture_distance : ℕ → ℤ → ℕ → ℕ → ℕ → ℕ
unfolding hanging_wall_fixed ceil_root on_hanging_wall
rupture_distance dip azimuth w ztor rjb =
    let least : ℕ = ceil_root (rjb * rjb + ztor * ztor) in
    let most : ℕ = ceil_root (rjb * rjb + (ztor + w) * (ztor + w)) in
    elim (on_hanging_wall dip azimuth) [
      | true ↦ max least (min most (hanging_wall_fixed dip (nat_abs azimuth) w ztor rjb))
      | false ↦ least
    ]
