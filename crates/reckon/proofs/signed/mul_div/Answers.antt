-- `reckon::signed::mul_div`: the product fits, and a quotient is no larger. Assumes nothing.
use Prim.Native.Nat.{◌*◌, ◌^◌, ◌<◌}
use lib.IntN.{ℤ, nat_abs, ◌*ℤ◌}
use lib.Signed.{quot_z}
use mir.Syntax.{w64}
use mir.Val.{SFits}
use mir.Facts.{to_z-of_z}
use Rattle.exact.proofs.Signed.{sfits-abs, mul-abs}
use Rattle.fixed.specs.Fixed.{mul_div}
use Rattle.reckon.proofs.Fitting.{quot_fits}
use Rattle.reckon.proofs.signed.mul_div.Goals as goal

size : (a b : ℤ) → nat_abs a * nat_abs b < 2 ^ 63 → nat_abs (a *ℤ b) < 2 ^ 63
size a b h = rw (mul-abs a b) h

product : (a b : ℤ) → nat_abs a * nat_abs b < 2 ^ 63 → SFits w64 (a *ℤ b)
product a b h = sfits-abs (a *ℤ b) (size a b h)

quotient : (a b d : ℤ) → nat_abs a * nat_abs b < 2 ^ 63 → SFits w64 (quot_z (a *ℤ b) d)
quotient a b d h = quot_fits (a *ℤ b) d (size a b h)

pub returns : goal.returns
unfolding mul_div
returns c =
    let a = c.args.a in
    let b = c.args.b in
    simp (
      to_z-of_z c.ranges.a,
      to_z-of_z c.ranges.b,
      to_z-of_z c.ranges.d,
      to_z-of_z (product a b c.requires.0),
      to_z-of_z (quotient a b c.args.d c.requires.0),
    )
