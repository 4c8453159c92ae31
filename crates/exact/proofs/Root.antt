-- The root rounded down is the largest whole number whose square is not above n. Assumes nothing.
use Prim.Native.Nat.{ℕ, zero, suc, ◌+◌, ◌*◌, ◌/◌, ◌≤◌, ◌<◌}
use mathlib.Core.Path.{◌≡◌}
use mathlib.Core.Bool.{cond}
use native.Mathlib.Omega.{arith}
use native.Mathlib.Decide.{dec_le, dec_lt}
use native.Mathlib.Nat.{add-mul, mul-add, mul-mul-mul_comm, mul-le-mul, le_refl}
use lib.Dec.{leb}
use borrow.Author.Tests.{le-leb, lt-leb}
use Rattle.exact.specs.Root.{root_go, root, IsRoot}

pub square-one : (r : ℕ) → (r + 1) * (r + 1) ≡ r * r + 2 * r + 1
square-one r = simp (mul-add, add-mul) (omega arith)

pub square_two : (r : ℕ) → 2 * r * (2 * r) ≡ 4 * (r * r)
square_two r = mul-mul-mul_comm 2 r 2 r

-- a smaller square has a smaller side
pub side-lt : (r k : ℕ) → r * r < k * k → r < k
side-lt r k h = either (dec_lt r k)
  where
    more : k ≤ r → k * k ≤ r * r
    more g = mul-le-mul g g

    either : Dec (r < k) → r < k
    either (yes l) = l
    either (no f) = absurd (omega (arith, more (omega arith)))

-- from the root h of a quarter of n
pub quarter-up : (n h : ℕ) → IsRoot (n / 4) h → (2 * h + 1) * (2 * h + 1) ≤ n → IsRoot n (2 * h + 1)
quarter-up n h i g =
    record {
      low = g;
      high = omega (arith, i.high, square-one h, square_two h, square-one (2 * h), square-one (2 * h + 1));
    }

pub quarter_down : (n h : ℕ) → IsRoot (n / 4) h → n < (2 * h + 1) * (2 * h + 1) → IsRoot n (2 * h)
quarter_down n h i g = record { low = omega (arith, i.low, square_two h); high = g }

digit : (n h : ℕ) → IsRoot (n / 4) h → IsRoot n (cond (leb ((2 * h + 1) * (2 * h + 1)) n) (2 * h + 1) (2 * h))
digit n h i = either (dec_le ((2 * h + 1) * (2 * h + 1)) n)
  where
    either : Dec ((2 * h + 1) * (2 * h + 1) ≤ n) → IsRoot n (cond (leb ((2 * h + 1) * (2 * h + 1)) n) (2 * h + 1) (2 * h))
    either (yes g) = rw (le-leb _ _ g) (quarter-up n h i g)
    either (no g) =
        let l : n < (2 * h + 1) * (2 * h + 1) = omega arith in
        rw (lt-leb ((2 * h + 1) * (2 * h + 1)) n l) (quarter_down n h i l)

root_go-is : (f n : ℕ) → n ≤ f → IsRoot n (root_go f n)
unfolding root_go
root_go-is zero n h = record { low = omega arith; high = omega arith }
root_go-is (suc f) zero h = record { low = omega arith; high = omega arith }
root_go-is (suc f) (suc m) h = digit (suc m) (root_go f (suc m / 4)) (root_go-is f (suc m / 4) (omega arith))

pub root_is : (n : ℕ) → IsRoot n (root n)
unfolding root
root_is n = root_go-is n n (le_refl n)

-- no other number is
pub root-one : (n r s : ℕ) → IsRoot n r → IsRoot n s → r ≡ s
root-one n r s a b =
    omega (arith, side-lt r (s + 1) (omega (arith, a.low, b.high)), side-lt s (r + 1) (omega (arith, b.low, a.high)))

pub root_unique : (n r : ℕ) → IsRoot n r → r ≡ root n
root_unique n r i = root-one n r (root n) i (root_is n)

-- roots keep the order
pub root_mono : (m n : ℕ) → m ≤ n → root m ≤ root n
root_mono m n h = omega (arith, side-lt (root m) (root n + 1) (omega (arith, (root_is m).low, (root_is n).high)))
