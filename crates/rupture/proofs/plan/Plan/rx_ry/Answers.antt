-- `rupture::plan::Plan::rx_ry`, beside the strip and beyond it. Assumes nothing.
use Prim.Native.Nat.{ℕ, ◌*◌, ◌/◌}
use mathlib.Core.Path.{ap, ◌∙◌}
use native.Mathlib.Omega.{arith}
use native.Mathlib.Nat.{le_trans, mul-le-mul_right, mul_comm, div-le_of_le-mul}
use Rattle.geometry.specs.declared.Place.{Place}
use Rattle.geometry.proofs.PlanNear.{product_le, place_beside, place_beyond}
use Rattle.rupture.proofs.plan.Plan.rx_ry.Goals as goal

pub returns-then-rjb-sin : goal.returns-then-rjb-sin
returns-then-rjb-sin c =
    let p = c.args.self in
    let a = c.args.azimuth in (
      place_beside a.sin a.cos p.h (10000 * p.rjb) c.if-rjb-sin.true,
      div-le_of_le-mul a.cos (omega (arith, c.if-rjb-sin.true, mul-le-mul_right a.cos p.h_most, mul_comm a.cos 3000000000, c.requires)),
      omega (arith, p.rjb_most),
    )

pub returns : goal.returns
returns c =
    let p = c.args.self in
    let a = c.args.azimuth in
    let sides : ℕ → Place = λ d. record { x = d * a.sin / 1000000000; y = d * a.cos / 1000000000 } in (
      ap sides c.from_top-d.ensures.0 ∙ place_beyond a.sin a.cos p.h (10000 * p.rjb) c.if-rjb-sin.false,
      le_trans (product_le c.from_top-d.result a.sin a.sin_most) c.from_top-d.ensures.1,
      le_trans (product_le c.from_top-d.result a.cos a.cos_most) c.from_top-d.ensures.1,
    )
