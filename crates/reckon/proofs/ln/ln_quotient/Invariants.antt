-- the doublings passed, each ln 2, and the logarithm of what is left are the whole; the measure is how far the bottom is below the top
use Rattle.std.proofs.Common.{◌≡◌, ◌*◌, ◌≤◌, ℕ, ◌+◌, ◌-◌, ◌^◌}
use Rattle.fixed.specs.Fixed.{ln_two, ln_doubled}
use Rattle.reckon.proofs.ln.ln_quotient.Given as goal

-- `left` bounds the doublings still to come
pub record Inv (total top bottom twos : ℕ) : Type 0 where
  pub left : ℕ
  pub left_is : left + twos ≡ 6
  pub above : 1 ≤ bottom
  pub low : bottom ≤ top
  pub high : top ≤ 2 ^ left * bottom
  pub whole : twos * ln_two + ln_doubled left top bottom ≡ total

abbrev pub invariant-loop-bottom : goal.invariant-loop-bottom
invariant-loop-bottom l = Inv (ln_doubled 6 l.top l.q) l.top l.bottom l.twos

abbrev pub decreases-loop-bottom : goal.decreases-loop-bottom
decreases-loop-bottom l = l.top - l.bottom
