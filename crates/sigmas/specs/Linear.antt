-- The sigmas of a linear site, where s² is the intra-event variance. Definitions only.
use Rattle.std.specs.Prelude.{ℕ, ◌+◌}
use Rattle.tables.specs.declared.Deviations.{Deviations}
use Rattle.model.specs.Fixed.{squared_fixed, sigma_of}

-- the total
unfoldable pub linear_total : Deviations → ℕ
unfolding sigma_of
linear_total d = sigma_of (squared_fixed d.s + squared_fixed d.t)

-- the arbitrary component's
unfoldable pub linear_arbitrary : Deviations → ℕ
unfolding sigma_of
linear_arbitrary d = sigma_of (squared_fixed d.s + squared_fixed d.t + squared_fixed d.sC)
