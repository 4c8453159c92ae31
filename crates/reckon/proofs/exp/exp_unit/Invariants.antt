-- at each turn the terms passed and the series from here on make the whole series
use Rattle.std.proofs.Common.{◌≡◌, ◌*◌, ◌/◌, ◌≤◌, ℕ, ◌+◌, ◌-◌}
use Rattle.exact.specs.Series.{exp_terms}
use Rattle.fixed.specs.Fixed.{exp_one, exp_two, exp_unit}
use Rattle.reckon.proofs.exp.exp_unit.Given as goal

-- the largest term of the loop: the third of the series at ln 2
abbrev pub most : ℕ
most = exp_two / 4 * exp_two / (exp_one / 2)

pub record Inv (r term sum k : ℕ) : Type 0 where
  pub term_le : term ≤ most
  pub whole : sum + exp_terms exp_one r term k (13 - k) ≡ exp_unit r

abbrev pub invariant-loop-k : goal.invariant-loop-k
invariant-loop-k l = Inv l.r l.term l.sum l.k
