-- `reckon::root::whole_root`: from the root of a quarter of n, twice it or one more is the root of n. Assumes nothing.
use Prim.Native.Nat.{ℕ, ◌+◌, ◌*◌, ◌/◌, ◌≤◌, ◌<◌}
use mathlib.Core.Path.{◌≡◌}
use native.Mathlib.Omega.{arith}
use Rattle.exact.specs.Root.{root, IsRoot}
use Rattle.exact.proofs.Root.{root_is, root_unique, quarter-up, quarter_down, side-lt}
use Rattle.reckon.proofs.Fitting.{mul-fits}
use Rattle.reckon.proofs.root.+whole_root.Goals as goal

is-root : (m r : ℕ) → r ≡ root m → IsRoot m r
is-root m r e = rw e (root_is m)

-- the root of a quarter of a 64-bit number is below 2^31
small : (n r : ℕ) → n < 18446744073709551616 → r ≡ root (n / 4) → r < 2147483648
small n r h e = let s = is-root (n / 4) r e in side-lt r 2147483648 (omega (arith, s.low))

pub returns-then-n-eq0 : goal.returns-then-n-eq0
returns-then-n-eq0 t c = root_unique _ 0 (record { low = omega arith; high = omega arith })

pub overflow_mul-low : goal.overflow_mul-low
overflow_mul-low t c = omega (arith, small _ _ c.ranges.n.fits c.whole_root-low.ensures)

pub overflow_add-high : goal.overflow_add-high
overflow_add-high t c = omega (arith, small _ _ c.ranges.n.fits c.whole_root-low.ensures)

pub overflow_mul-high : goal.overflow_mul-high
overflow_mul-high t c =
    let h : 2 * c.whole_root-low.result + 1 ≤ 4294967295 = omega (arith, small _ _ c.ranges.n.fits c.whole_root-low.ensures) in
    mul-fits 4294967295 4294967295 h h tt

pub returns-then-high-n : goal.returns-then-high-n
returns-then-high-n t c = root_unique _ _ (quarter-up _ _ (is-root _ _ c.whole_root-low.ensures) (omega arith))

pub returns-else-high-n : goal.returns-else-high-n
returns-else-high-n t c = root_unique _ _ (quarter_down _ _ (is-root _ _ c.whole_root-low.ensures) (omega arith))
