-- `rupture::rupture_distance`. Assumes nothing.
use Rattle.std.proofs.Common.{◌≡◌, ℕ, ◌+◌, ◌*◌, min, max, Bool, ℤ, arith, sym, ap₂, ◌∙◌}
use Rattle.std.proofs.Math.Nat.{le_trans, min_comm}
use mir.Facts.{to_z-of_z}
use mir.Syntax.{w64}
use mir.Val.{SFits, to_z, of_z}
use Rattle.exact.proofs.Signed.{as_unsigned}
use Rattle.geometry.specs.Geometry.{ceil_root, on_hanging_wall}
use Rattle.geometry.proofs.Reported.{hanging_wall, ceil_above, ceil_least, distance_on, distance_off}
use Rattle.rupture.proofs.rupture_distance.Goals as goal

-- what the code's test says of the azimuth that was passed
tested : (dip : ℕ) (azimuth : ℤ) {b t : Bool} → SFits w64 azimuth → b ≡ on_hanging_wall dip (to_z w64 (of_z w64 azimuth)) → b ≡ t
    → on_hanging_wall dip azimuth ≡ t
tested dip azimuth f e is = sym (simp (to_z-of_z f) at e) ∙ is

pub overflow_cast-azimuth : goal.overflow_cast-azimuth
overflow_cast-azimuth c =
    let f = c.ranges.azimuth in
    let on = tested c.args.dip c.args.azimuth f c.on_hanging_wall.ensures c.if-on_hanging_wall.true in
    simp (to_z-of_z f) (as_unsigned c.args.azimuth f (hanging_wall c.args.dip c.args.azimuth on).not_negative)

pub hanging_wall-d-requires : goal.hanging_wall-d-requires
hanging_wall-d-requires c =
    let f = c.ranges.azimuth in
    let on = tested c.args.dip c.args.azimuth f c.on_hanging_wall.ensures c.if-on_hanging_wall.true in
    let o = hanging_wall c.args.dip c.args.azimuth on in
    simp (to_z-of_z f) (c.requires, o.dip-lt, o.a_low, o.a_high)

pub clamp-requires : goal.clamp-requires
clamp-requires c =
    let a = c.args in
    let n : ℕ = a.rjb * a.rjb + a.ztor * a.ztor in
    let m : ℕ = a.rjb * a.rjb + (a.ztor + a.w) * (a.ztor + a.w) in
    omega (arith, c.ceil_root-least.ensures, c.ceil_root-most.ensures, ceil_least n (ceil_root m) (le_trans (omega arith) (ceil_above m)))

pub returns-then-on_hanging_wall : goal.returns-then-on_hanging_wall
returns-then-on_hanging_wall c =
    let a = c.args in
    let f = c.ranges.azimuth in
    let on = tested c.args.dip c.args.azimuth f c.on_hanging_wall.ensures c.if-on_hanging_wall.true in
    c.clamp.ensures
    ∙ ap₂ max c.ceil_root-least.ensures
    (min_comm _ _ ∙ ap₂ min c.ceil_root-most.ensures (simp (to_z-of_z f) at c.hanging_wall-d.ensures))
    ∙ sym (distance_on a.dip a.azimuth a.w a.ztor a.rjb on).0

pub returns : goal.returns
returns c =
    let a = c.args in
    let off = tested a.dip a.azimuth c.ranges.azimuth c.on_hanging_wall.ensures c.if-on_hanging_wall.false in
    c.ceil_root-least.ensures ∙ sym (distance_off a.dip a.azimuth a.w a.ztor a.rjb off).0
