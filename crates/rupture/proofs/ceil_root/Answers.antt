-- `rupture::ceil_root`. Assumes nothing.
use Prim.Native.Nat.{ℕ, ◌≤◌}
use mathlib.Core.Path.{◌≡◌}
use native.Mathlib.Omega.{arith}
use native.Mathlib.Nat.{mul-le-mul}
use Rattle.exact.specs.Root.{root}
use Rattle.geometry.proofs.Lengths.{root-le}
use Rattle.rupture.proofs.ceil_root.Goals as goal

small : (n r : ℕ) → r ≡ root n → n ≤ 1000000000000 → r ≤ 1000000
small n r e h = omega (arith, e, root-le n 1000000 h)

pub overflow_mul-r : goal.overflow_mul-r
overflow_mul-r c =
    let r_le = small c.args.n c.whole_root-r.result c.whole_root-r.ensures c.requires in
    omega (arith, mul-le-mul r_le r_le)
