-- The exponential's series as its loop runs: a term at a time, and never above its value at ln 2. Assumes nothing.
use Prim.Native.Nat.{ℕ, suc, ◌+◌, ◌-◌, ◌*◌, ◌/◌, ◌≤◌}
use mathlib.Core.Path.{◌≡◌, ap}
use native.Mathlib.Nat.{le_refl, le_trans, add-le-add, mul-le-mul}
use lib.Dec.{lit≤}
use Rattle.exact.specs.Series.{exp_terms}
use Rattle.fixed.specs.Fixed.{exp_one, exp_two, exp_count, exp_unit}
use Rattle.exact.proofs.Quotients.{div-le}
use Rattle.exact.proofs.ExpSeries.{exp_terms_mono}

-- one term of the series
pub exp_term : (S r t k n m : ℕ) → n ≡ suc m → exp_terms S r t k n ≡ t + exp_terms S r (t * r / S / k) (k + 1) m
unfolding exp_terms
exp_term S r t k n m e = ap (λ (j : ℕ). exp_terms S r t k j) e

-- the third term, from which the loop starts
pub third_mono : {r q : ℕ} → r ≤ q → r / 4 * r / (exp_one / 2) ≤ q / 4 * q / (exp_one / 2)
third_mono h = div-le (exp_one / 2) (mul-le-mul (div-le 4 h) h)

at-ln2 : exp_unit exp_two ≤ 2 * exp_one
unfolding exp_unit
at-ln2 = lit≤ tt

-- e^r for r up to ln 2 is at most 2
pub exp_unit-most : {r : ℕ} → r ≤ exp_two → exp_unit r ≤ 2 * exp_one
unfolding exp_unit
exp_unit-most h = le_trans (add-le-add (add-le-add (le_refl exp_one) h) (exp_terms_mono exp_one (exp_count - 2) 3 h (third_mono h))) at-ln2
