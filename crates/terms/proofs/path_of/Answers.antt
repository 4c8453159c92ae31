-- RRUP² + c6² lies from 16 to below 65 000 square kilometres. Assumes nothing.
use Prim.Native.Nat.{ℕ, ◌+◌, ◌*◌}
use mathlib.Core.Path.{◌≡◌, ap}
use native.Mathlib.Omega.{arith}
use native.Mathlib.Nat.{mul_comm}
use mir.Facts.{to_z-of_z}
use Rattle.exact.proofs.Signed.{sfits-abs}
use Rattle.fixed.specs.Fixed.{ln_fixed}
use Rattle.model.specs.Fixed.{ln_distance}
use Rattle.model.proofs.Sizes.{ln_distance-size}
use Rattle.terms.proofs.path_of.Goals as goal

-- the code's product has its factors the other way round
turned : (c6 r : ℕ) → ln_fixed (1000 * (r * r + c6 * c6)) ≡ ln_distance c6 r
unfolding ln_distance
turned c6 r = ap ln_fixed (mul_comm 1000 (r * r + c6 * c6))

pub returns : goal.returns
returns c =
    let k : ℕ = c.args.c6 in
    let n = sfits-abs (ln_distance k c.args.rrup)
    (omega (arith, ln_distance-size k c.args.rrup c.requires.0 c.requires.1 c.requires.2)) in
    simp (c.ln_fixed.ensures, c.from-near.ensures, turned k c.args.rrup, to_z-of_z n)
