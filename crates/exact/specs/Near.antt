-- How near two numbers are. Definitions only.
use Rattle.std.specs.Prelude.{ℕ, suc, ◌+◌, ◌*◌, ◌≤◌, ℤ, pos, negsuc}

-- a signed number is its positive part less its negative part, of which one is 0
abbrev pub up : ℤ → ℕ
up (pos n) = n
up (negsuc n) = 0

abbrev pub dn : ℤ → ℕ
dn (pos n) = 0
dn (negsuc n) = suc n

-- b is at a scale K times finer than a: a K and b are at most e K apart
pub record NearZ (K e : ℕ) (a b : ℤ) : Type 0 where
  pub low : up a * K + dn b ≤ up b + dn a * K + e * K
  pub high : up b + dn a * K ≤ up a * K + dn b + e * K

-- a and b are at most e apart
pub record Within (e : ℕ) (a b : ℤ) : Type 0 where
  pub low : up a + dn b ≤ up b + dn a + e
  pub high : up b + dn a ≤ up a + dn b + e
