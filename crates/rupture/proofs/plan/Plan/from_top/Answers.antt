-- `rupture::plan::Plan::from_top`: h cos a is at most RJB beyond the strip, so nothing goes below 0. Assumes nothing.
use Prim.Native.Nat.{ℕ, ◌+◌, ◌-◌, ◌*◌, ◌/◌, ◌≤◌}
use mathlib.Core.Path.{◌≡◌, ap}
use native.Mathlib.Omega.{arith}
use Rattle.exact.specs.Root.{root}
use Rattle.geometry.specs.Fixed.{from_top_fixed}
use Rattle.geometry.proofs.Lengths.{root-le}
use Rattle.geometry.proofs.PlanNear.{product_le}
use Rattle.rupture.proofs.plan.Plan.from_top.Goals as goal

small :
    (h sa rjb g r : ℕ) → sa ≤ 1000000000 → h ≤ 1000000000 → rjb ≤ 2000000000 → r ≡ root (rjb * rjb - g)
    → r + h * sa / 1000000000 ≤ 3000000000
small h sa rjb g r s k l e = omega (arith, e, root-le (rjb * rjb - g) rjb (omega arith), product_le h sa s)

pub overflow_add-result : goal.overflow_add-result
overflow_add-result c =
    let p = c.args.self in
    let a = c.args.azimuth in
    omega (arith, small p.h a.sin (10000 * p.rjb) _ c.whole_root.result a.sin_most p.h_most (omega arith) c.whole_root.ensures)

pub returns : goal.returns
unfolding from_top_fixed
returns c =
    let p = c.args.self in
    let a = c.args.azimuth in (
      ap (λ (r : ℕ). r + p.h * a.sin / 1000000000) c.whole_root.ensures,
      small p.h a.sin (10000 * p.rjb) _ c.whole_root.result a.sin_most p.h_most (omega arith) c.whole_root.ensures,
    )
