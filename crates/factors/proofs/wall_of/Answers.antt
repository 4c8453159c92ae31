-- The product of the four factors, each at most one. Assumes nothing.
use Prim.Native.Nat.{◌*◌, ◌≤◌}
use native.Mathlib.Omega.{arith}
use native.Mathlib.Nat.{mul-le-mul}
use Rattle.fixed.specs.Fixed.{E9}
use Rattle.model.specs.Fixed.{wall_fixed}
use Rattle.model.proofs.Sizes.{f_hng_r-size}
use Rattle.model.proofs.WallNear.{others-le}
use Rattle.factors.proofs.wall_of.Goals as goal

pub overflow_mul-result-3 : goal.overflow_mul-result-3
overflow_mul-result-3 c =
    let x = c.args.x in
    let a : c.f_hng_r.result ≤ E9 = omega (arith, c.f_hng_r.ensures, f_hng_r-size x.ztor x.rjb x.rrup) in
    let b : c.f_hng_m.result * c.f_hng_z.result * c.f_hng_dip.result ≤ 40000000 =
    rw (c.f_hng_m.ensures, c.f_hng_z.ensures, c.f_hng_dip.ensures) (others-le x) in
    omega (arith, mul-le-mul a b)

pub returns : goal.returns
unfolding wall_fixed
returns c = rw (c.f_hng_r.ensures, c.f_hng_m.ensures, c.f_hng_z.ensures, c.f_hng_dip.ensures)
