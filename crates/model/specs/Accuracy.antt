-- Demand 3, with the bounds of 02's K5: how near a reported row lies to exact values, and the figures of which it is promised. Definitions
-- only.
use Rattle.std.specs.Prelude.{ℕ, ◌+◌, ◌*◌, ◌≤◌, ℤ, pos}
use Rattle.exact.specs.Near.{NearZ}
use Rattle.model.specs.declared.Scenario.{Scenario}
use Rattle.model.specs.declared.Row.{Row}
use Rattle.model.specs.declared.Shown.{Shown}
use Rattle.model.specs.Equations.{E24, E20, ln_median, median, intra, inter, total, arbitrary}

-- the ranges of an accepted request's completed figures
pub record InRange (x : Scenario) : Type 0 where
  pub m_low : 400 ≤ x.m
  pub m_high : x.m ≤ 850
  pub vs30-low : 150 ≤ x.vs30
  pub vs30-high : x.vs30 ≤ 1500
  pub dip-high : x.dip ≤ 90
  pub ztor-high : x.ztor ≤ 15000
  pub rjb-high : x.rjb ≤ 200000
  pub rrup-high : x.rrup ≤ 200000
  pub z25-high : x.z25 ≤ 10000
  -- RRUP is at most a metre short of the root of RJB² + ZTOR²
  pub apart : x.rjb * x.rjb + x.ztor * x.ztor ≤ (x.rrup + 1) * (x.rrup + 1)

-- the exact values of one measure, in units of 10^-30
pub record Exact : Type 0 where
  pub ln : ℤ
  pub median : ℕ
  pub intra : ℕ
  pub inter : ℕ
  pub total : ℕ
  pub arbitrary : ℕ

unfoldable pub exact_of : ℕ → Scenario → Exact
unfolding ln_median median intra inter total arbitrary
exact_of i x =
    record {
      ln = ln_median i x;
      median = median i x;
      intra = intra i x;
      inter = inter i;
      total = total i x;
      arbitrary = arbitrary i x;
    }

-- ---- how near: the bounds of 02's K5, which stand here and nowhere else
-- ln median and each sigma: so many in the sixth place
abbrev pub sixth_place : ℕ
sixth_place = 1

-- the median: one unit, and one part of it in so many
abbrev pub median_parts : ℕ
median_parts = 500000

-- a reported number, in millionths, is that near an exact one
abbrev pub NearSixth : ℤ → ℤ → Type 0
NearSixth a e = NearZ E24 sixth_place a e

-- a reported median, in units of 10^-10, is at least 1 and that near the exact y
pub record NearMedian (m y : ℕ) : Type 0 where
  pub least : 1 ≤ m
  pub low : median_parts * (m * E20) ≤ median_parts * y + median_parts * E20 + y
  pub high : median_parts * y ≤ median_parts * (m * E20) + median_parts * E20 + y

-- a reported row, all six figures
pub record Accurate (e : Exact) (r : Row) : Type 0 where
  pub ln_near : NearSixth r.ln e.ln
  pub median-near : NearMedian r.median e.median
  pub intra-near : NearSixth (pos r.intra) (pos e.intra)
  pub inter-near : NearSixth (pos r.inter) (pos e.inter)
  pub total-near : NearSixth (pos r.total) (pos e.total)
  pub arbitrary-near : NearSixth (pos r.arbitrary) (pos e.arbitrary)

-- what a sheet shows of it
pub record ShownAccurate (e : Exact) (s : Shown) : Type 0 where
  pub ln_near : NearSixth s.ln e.ln
  pub median-near : NearMedian s.median e.median
  pub sigma_near : NearSixth (pos s.sigma) (pos e.total)
