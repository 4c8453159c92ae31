-- What the 64-bit functions reckon of a row between two tabulated periods: the line of `Periods` between two fine rows, in whole numbers
-- of 10^-9. Each function's contract is equality with its definition here; how near that lies to the exact value is a law of `proofs/`.
-- Definitions only.
use Rattle.std.specs.Prelude.{ℕ, ◌+◌, ◌*◌, ◌/◌, ◌≤◌, true, false, eqb, ℤ, pos, ◌+ℤ◌, ◌-ℤ◌}
use Rattle.std.specs.Int.Signed.{quot_z}
use Rattle.exact.specs.Near.{up, dn}
use Rattle.exact.specs.Root.{root}
use Rattle.fixed.specs.Fixed.{E9, mul_div, nearest, exp_fixed, ln_narrow}
use Rattle.tables.specs.Tables.{period_at}
use Rattle.model.specs.declared.Scenario.{Scenario}
use Rattle.model.specs.declared.Fine.{Fine}
use Rattle.model.specs.declared.Row.{Row}
use Rattle.model.specs.Equations.{most}
use Rattle.model.specs.Fixed.{fine_fixed, row_fixed}
use Rattle.between.specs.declared.Drawn.{Drawn}
use Rattle.between.specs.Periods.{last_up_to}

-- two neighbours among the tabulated periods: the longer is from 1.2 to 2 times the shorter
pub record Gap (t1 t2 : ℕ) : Type 0 where
  pub some : 1 ≤ t1
  pub apart : 6 * t1 ≤ 5 * t2
  pub wide : t2 ≤ 2 * t1
  pub top : t2 ≤ 10000

-- ln(T/T1)/ln(T2/T1)
unfoldable pub weight_fixed : ℕ → ℕ → ℕ → ℕ
unfolding ln_narrow
weight_fixed t t1 t2 = ln_narrow t t1 * E9 / ln_narrow t2 t1

-- a + (b - a) w, from a quarter of the difference, so that the product fits 64 bits
unfoldable pub on_line_fixed : ℕ → ℤ → ℤ → ℤ
unfolding mul_div
on_line_fixed w a b = a +ℤ mul_div (quot_z (b -ℤ a) (pos 4)) (pos w) (pos 250000000)

-- a sigma from its variance, both in units of 10^-9
unfoldable pub fine_sigma : ℕ → ℕ
unfolding root
fine_sigma v = root (v * E9)

-- the sigma on the line between those of two variances
abbrev pub sigma_on_line_fixed : ℕ → ℕ → ℕ → ℕ
sigma_on_line_fixed w v u = up (on_line_fixed w (pos (fine_sigma v)) (pos (fine_sigma u)))

-- between two fine rows
unfoldable pub drawn_fixed : ℕ → Fine → Fine → Drawn
unfolding on_line_fixed fine_sigma
drawn_fixed w f g =
    record {
      ln = on_line_fixed w f.ln g.ln;
      intra = sigma_on_line_fixed w f.intra g.intra;
      inter = up (on_line_fixed w (pos (f.t * 1000000)) (pos (g.t * 1000000)));
      total = sigma_on_line_fixed w f.total g.total;
      arbitrary = sigma_on_line_fixed w f.arbitrary g.arbitrary;
    }

-- how large such a row is: ln median from -15 to 13 and 400 units, a sigma at most 1.55
pub record DrawnInRange (d : Drawn) : Type 0 where
  pub ln_low : dn d.ln ≤ 15000000400
  pub ln_high : up d.ln ≤ 13000000400
  pub intra-high : d.intra ≤ 1549200000
  pub inter-high : d.inter ≤ 1549200000
  pub total-high : d.total ≤ 1549200000
  pub arbitrary-high : d.arbitrary ≤ 1549200000

-- a sigma to the nearest millionth
abbrev pub to_millionths : ℕ → ℕ
to_millionths s = (s + 500) / 1000

-- as it is reported
unfoldable pub drawn_report : Drawn → Row
unfolding nearest exp_fixed
drawn_report d =
    record {
      ln = nearest d.ln 1000;
      median = most 1 (exp_fixed d.ln);
      intra = to_millionths d.intra;
      inter = to_millionths d.inter;
      total = to_millionths d.total;
      arbitrary = to_millionths d.arbitrary;
    }

-- the row that is reported at a period t, from the measure i of the last tabulated one that is not longer
unfoldable pub row_from : ℕ → ℕ → Scenario → Row
unfolding weight_fixed drawn_fixed drawn_report fine_fixed row_fixed
row_from i t x = elim (eqb (period_at i) t) [
  | true ↦ row_fixed i x
  | false ↦ drawn_report (drawn_fixed (weight_fixed t (period_at i) (period_at (i + 1))) (fine_fixed i x) (fine_fixed (i + 1) x))
]

unfoldable pub row_at : ℕ → Scenario → Row
row_at t x = row_from (last_up_to t) t x
