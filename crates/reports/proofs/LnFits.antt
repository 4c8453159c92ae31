-- A ln median in range, and its nearest millionth, fit 64 bits. Assumes nothing.
use Prim.Native.Nat.{◌≤◌}
use native.Mathlib.Omega.{arith}
use native.Mathlib.Nat.{le_trans}
use lib.Dec.{lit≤}
use lib.IntN.{ℤ, nat_abs}
use mir.Syntax.{w64}
use mir.Val.{SFits}
use Rattle.exact.specs.Near.{up, dn}
use Rattle.exact.proofs.Signed.{sfits, sfits-abs}
use Rattle.fixed.specs.Fixed.{nearest}
use Rattle.model.proofs.Sizes.{by_parts, ln_size}

module _ (z : ℤ) (low : dn z ≤ 15000000400) (high : up z ≤ 13000000400) where
  pub ln_fits : SFits w64 z
  ln_fits = sfits z (omega (arith, high)) (omega (arith, low))

  pub ln_abs : nat_abs z ≤ 15000000400
  ln_abs = by_parts z 15000000400 low (le_trans high (lit≤ tt))

  pub nearest-fits : SFits w64 (nearest z 1000)
  nearest-fits = sfits-abs (nearest z 1000) (omega (arith, ln_size z low high))
