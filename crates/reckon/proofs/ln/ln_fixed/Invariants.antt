-- the halvings passed, each ln 2, and the logarithm of what is left are the whole; the measure is y
use Rattle.std.proofs.Common.{◌≡◌, ◌*◌, ◌≤◌, ◌<◌, ℕ, ◌+◌, suc, ◌^◌}
use Rattle.fixed.specs.Fixed.{E9, ln_two, ln_halved}
use Rattle.reckon.proofs.ln.ln_fixed.Given as goal

-- `left` bounds the halvings still to come
pub record Inv (total y twos : ℕ) : Type 0 where
  pub left : ℕ
  pub left_is : left + twos ≡ 18
  pub low : E9 ≤ y
  pub high : y < 2 ^ suc left * E9
  pub whole : twos * ln_two + ln_halved left y ≡ total

abbrev pub invariant-loop-y : goal.invariant-loop-y
invariant-loop-y l = Inv (ln_halved 18 (8 * l.x)) l.y l.twos

abbrev pub decreases-loop-y : goal.decreases-loop-y
decreases-loop-y l = l.y
