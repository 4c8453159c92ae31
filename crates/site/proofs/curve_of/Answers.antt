-- ln(V/k1) is small, so its share lies in the exponential's range; what the curve is at most bounds the product. Assumes nothing.
use Prim.Native.Nat.{◌≤◌}
use native.Mathlib.Omega.{arith}
use lib.Dec.{lit≤}
use lib.IntN.{ℤ, pos, nat_abs}
use mir.Syntax.{w64}
use mir.Val.{SFits}
use mir.Facts.{to_z-of_z}
use Rattle.exact.proofs.Signed.{sfits-abs, abs-parts}
use Rattle.fixed.specs.Fixed.{mul_div}
use Rattle.model.proofs.Sizes.{share_size}
use Rattle.site.proofs.curve_of.Goals as goal

record Steps (l : ℤ) : Type 0 where
  l_fits : SFits w64 l
  q_small : nat_abs (mul_div (pos 118) l (pos 100)) ≤ 2400000000
  q_fits : SFits w64 (mul_div (pos 118) l (pos 100))

steps : (l : ℤ) → nat_abs l ≤ 2000000005 → Steps l
steps l h =
    let q = share_size (pos 118) l 100 118 2000000005 2400000000 (lit≤ tt) h (lit≤ tt) in
    record {
      l_fits = sfits-abs l (omega (arith, h));
      q_small = q;
      q_fits = sfits-abs (mul_div (pos 118) l (pos 100)) (omega (arith, q));
    }

pub exp_fixed-requires : goal.exp_fixed-requires
exp_fixed-requires c =
    let f = steps c.args.ratio c.requires.0 in
    let q : ℤ = mul_div (pos 118) c.args.ratio (pos 100) in
    simp (c.mul_div.ensures, to_z-of_z f.l_fits, to_z-of_z f.q_fits)
    (omega (arith, f.q_small, abs-parts q), omega (arith, f.q_small, abs-parts q))
