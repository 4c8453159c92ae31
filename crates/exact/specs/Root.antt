-- The square root rounded down. Definitions only.
use Rattle.std.specs.Prelude.{ℕ, zero, suc, ◌+◌, ◌*◌, ◌/◌, ◌≤◌, ◌<◌, cond, leb}

-- from the root of a quarter of n: twice it, or one more where the square of that is not above n. f bounds the quarterings
unfoldable pub root_go : ℕ → ℕ → ℕ
root_go zero n = 0
root_go (suc f) zero = 0
root_go (suc f) (suc m) = let r : ℕ = 2 * root_go f (suc m / 4) in cond (leb ((r + 1) * (r + 1)) (suc m)) (r + 1) r

-- the largest r with r² ≤ n; a number is quartered fewer times than itself
unfoldable pub root : ℕ → ℕ
unfolding root_go
root n = root_go n n

-- what makes r that root
pub record IsRoot (n r : ℕ) : Type 0 where
  pub low : r * r ≤ n
  pub high : n < (r + 1) * (r + 1)
