-- Values of the rules, by which a number wrong in code and specs alike is refused, and the jump of equation 23 at Vs30 500. Assumes nothing.
use Prim.Native.Nat.{◌/◌, ◌<◌}
use mathlib.Core.Path.{◌≡◌, refl}
use lib.Dec.{lit<}
use Rattle.exact.specs.Exact.{E30}
use Rattle.rules.specs.Rules.{basin_from_z15, basin_from_z10, basin_e}

z15_known : basin_from_z15 6045 ≡ 9999
z15_known = refl

z15_more : basin_from_z15 6046 ≡ 10001
z15_more = refl

z10_known : basin_from_z10 1000 ≡ 4114
z10_known = refl

-- the first two rules of equation 23 join at 180
joined : basin_e 179 ≡ basin_e 180
unfolding basin_e
joined = refl

-- the others do not at 500: 1288.172 m there, and 1303.144 m at 501
before_jump : basin_e 500 / (E30 / 1000) ≡ 1288172
unfolding basin_e
before_jump = refl

after-jump : basin_e 501 / (E30 / 1000) ≡ 1303144
unfolding basin_e
after-jump = refl

jump : basin_e 500 < basin_e 501
unfolding basin_e
jump = lit< tt
