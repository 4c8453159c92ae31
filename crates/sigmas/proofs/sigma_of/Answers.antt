-- The root is the definition's and fits 64 bits with one added. Assumes nothing.
use Rattle.std.proofs.Common.{arith, ◌≤◌, ◌<◌, ℕ, ◌+◌, ◌*◌, ◌/◌, ap}
use Rattle.exact.specs.Root.{root}
use Rattle.exact.proofs.Root.{root_is, side-lt}
use Rattle.model.specs.Fixed.{sigma_of}
use Rattle.sigmas.proofs.sigma_of.Goals as goal

-- twice the sigma is below 3.099
root-lt : (v : ℕ) → v ≤ 2400000000 → root (4000 * v) < 3099000
root-lt v h = side-lt (root (4000 * v)) 3099000 (omega (arith, (root_is (4000 * v)).low))

pub overflow_add-result : goal.overflow_add-result
overflow_add-result c = record { fits = omega (arith, c.whole_root.ensures, root-lt c.args.v c.requires) }

pub returns : goal.returns
unfolding sigma_of
returns c = ap (λ (t : ℕ). (t + 1) / 2) c.whole_root.ensures
