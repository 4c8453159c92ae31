-- How near what is reckoned lies to what it stands for: the words in which `proofs/` says it, beside those of `exact`. Definitions only.
use Rattle.std.specs.Prelude.{ℕ, ◌+◌, ◌*◌, ◌≤◌, ℤ}
use Rattle.exact.specs.Near.{up, dn, NearZ}
use Rattle.fixed.specs.Fixed.{E9, K21}

-- q is a/d to the nearest: twice the distance of d q and a is at most d
pub record Halfway (d : ℕ) (q a : ℤ) : Type 0 where
  pub low : 2 * (d * up q) + 2 * dn a ≤ 2 * up a + 2 * (d * dn q) + d
  pub high : 2 * up a + 2 * (d * dn q) ≤ 2 * (d * up q) + 2 * dn a + d

-- a sine or the size of a cosine, a in units of 10^-9 and b in units of 10^-30: a lies from 0 to 1, and within 2 units of b
pub record Sine (a b : ℤ) : Type 0 where
  pub top : up a ≤ E9
  pub positive : dn a ≤ 0
  pub near : NearZ K21 2 a b
