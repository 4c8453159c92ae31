-- The sine is the positive part of its definition and at most 1. Assumes nothing.
use Prim.Native.Nat.{◌*◌, ◌≤◌}
use mathlib.Core.Path.{ap}
use native.Mathlib.Omega.{arith}
use native.Mathlib.Nat.{mul-le-mul}
use Rattle.exact.specs.Near.{up}
use Rattle.fixed.specs.Fixed.{E9}
use Rattle.fixed.proofs.SineNear.{sin_fixed-near}
use Rattle.estimate.proofs.source.top_estimate.Goals as goal

pub overflow_mul-w-2 : goal.overflow_mul-w-2
overflow_mul-w-2 c =
    let a = c.args in
    let six : 6 * a.w ≤ 600000 = omega arith in
    let one : c.sin_deg.result ≤ E9 = omega (arith, ap up c.sin_deg.ensures, (sin_fixed-near a.dip (omega arith)).top) in
    record { fits = omega (arith, mul-le-mul six one) }
