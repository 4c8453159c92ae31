-- at each turn the terms passed and the series from here on make the whole series
use Rattle.std.proofs.Common.{◌≡◌, ◌+◌, ◌-◌, ◌*◌, ◌≤◌, ℕ}
use Rattle.exact.specs.Series.{ln_terms}
use Rattle.reckon.proofs.ln.ln_terms.Given as goal

pub record Turn (whole square z terms power sum k : ℕ) : Type 0 where
  pub power_le : power ≤ z
  pub passed : sum + ln_terms whole square power (2 * k + 1) (terms - k) ≡ ln_terms whole square z 1 terms

abbrev pub invariant-loop-k : goal.invariant-loop-k
invariant-loop-k l = Turn l.whole l.square l.z l.terms l.power l.sum l.k
