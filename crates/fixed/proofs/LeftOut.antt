-- What a sum of terms leaves out of the sixty of the exact value is at most one unit of the scale at which it is reckoned: the logarithm's,
-- before it is doubled, where z is at most 1/3, and the exponential's, where r is at most ln 2. With one term fewer it would be 5.1 units of
-- either logarithm and 4.7 of the exponential; one term more would be 0 in whole units, always. Computed. Assumes nothing.
use Prim.Native.Nat.{◌-◌, ◌*◌, ◌/◌, ◌≤◌}
use lib.Dec.{lit≤}
use Rattle.exact.specs.Series.{ln_terms, exp_terms}
use Rattle.exact.specs.Exact.{E30}
use Rattle.exact.proofs.LnSeries.{power_after, odd_after, ln_tail}
use Rattle.exact.proofs.ExpSeries.{term_after, count_after}
use Rattle.exact.proofs.LnExact.{L30}
use Rattle.fixed.specs.Fixed.{E12, ln_one, ln_count, narrow_count, exp_one, exp_count}

pub ln_left_out : ln_tail E30 ln_count (60 - ln_count) (E30 / 3) ≤ E30 / ln_one
unfolding ln_terms power_after odd_after
ln_left_out = lit≤ tt

pub narrow_left_out : ln_tail E30 narrow_count (60 - narrow_count) (E30 / 3) ≤ E30 / E12
unfolding ln_terms power_after odd_after
narrow_left_out = lit≤ tt

-- from the third term on
pub exp_left_out :
    exp_terms E30 L30 (term_after E30 L30 (L30 * L30 / E30 / 2) 3 (exp_count - 2)) (count_after 3 (exp_count - 2)) (60 - exp_count) ≤ E30 / exp_one
unfolding exp_terms term_after count_after
exp_left_out = lit≤ tt
