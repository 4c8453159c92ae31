-- What the two functions are given fits, and what they give is the definition's. Assumes nothing.
use Prim.Native.Nat.{ℕ, ◌/◌, ◌≤◌}
use mathlib.Core.Path.{◌≡◌, ap, ◌∙◌}
use native.Mathlib.Omega.{arith}
use lib.Dec.{lit≤}
use lib.IntN.{ℤ, nat_abs}
use mir.Syntax.{w64}
use mir.Val.{to_z, of_z}
use mir.Facts.{to_z-of_z}
use Rattle.exact.proofs.Signed.{abs-parts, sfits-abs}
use Rattle.fixed.specs.Fixed.{E10, exp_fixed}
use Rattle.rules.specs.Rules.{extrapolated}
use Rattle.rules.specs.Fixed.{ln_z10_fixed, basin_fixed}
use Rattle.rules.proofs.SiteSizes.{sizes}
use Rattle.estimate.proofs.site.basin_from_vs30.Goals as goal

read : (v : ℕ) (l : ℤ) → 150 ≤ v → v ≤ 1500 → l ≡ ln_z10_fixed v → to_z w64 (of_z w64 l) ≡ ln_z10_fixed v
read v l h k e = to_z-of_z (sfits-abs _ (omega (arith, ap nat_abs e, (sizes v h k).ln_z10))) ∙ e

pub exp_fixed-requires : goal.exp_fixed-requires
exp_fixed-requires c =
    let v = c.args.v in
    let p = c.requires in
    let l : ℤ = ln_z10_fixed v in
    rw (read v _ p.0 p.1 c.ln_z10.ensures)
    (omega (arith, abs-parts l, (sizes v p.0 p.1).ln_z10), omega (arith, abs-parts l, (sizes v p.0 p.1).ln_z10))

pub extrapolate-requires : goal.extrapolate-requires
extrapolate-requires c =
    let v = c.args.v in
    let p = c.requires in (
      lit≤ tt,
      omega (arith, c.exp_fixed.ensures ∙ ap exp_fixed (read v _ p.0 p.1 c.ln_z10.ensures), (sizes v p.0 p.1).z10),
    )

pub returns : goal.returns
unfolding basin_fixed
returns c =
    let p = c.requires in
    ap (λ (z : ℕ). z / E10)
    (c.extrapolate.ensures
    ∙ ap (λ (z : ℕ). extrapolated E10 z) (c.exp_fixed.ensures ∙ ap exp_fixed (read c.args.v _ p.0 p.1 c.ln_z10.ensures)))
