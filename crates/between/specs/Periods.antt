-- The row at any period, 02 K3: at a tabulated period that of its measure; between two, ln median and each sigma lie on the straight line
-- over the logarithm of the period, drawn between the two rows, and the median is the exponential of that ln median. Periods are in
-- thousandths of a second, values whole numbers of 10^-30, each division rounded down. Definitions only.
use Rattle.std.specs.Prelude.{ℕ, suc, ◌+◌, ◌-◌, ◌*◌, ◌/◌, Bool, true, false, ◌&&◌, List, [], ◌∷◌, leb, eqb, ℤ, pos, ◌+ℤ◌, ◌*ℤ◌}
use Rattle.std.specs.Int.Signed.{shr_z}
use Rattle.exact.specs.Near.{up}
use Rattle.exact.specs.Exact.{E30, ln_e, exp_e}
use Rattle.tables.specs.Tables.{periods, period_at}
use Rattle.model.specs.declared.Scenario.{Scenario}
use Rattle.model.specs.Accuracy.{Exact, exact_of}

-- ---- the tabulated periods
-- from the shortest to the longest
abbrev pub covered : ℕ → Bool
covered t = leb 0_010 t && leb t 10_000

-- how many of some periods, from the first on, are not longer than t
unfoldable pub reached : List ℕ → ℕ → ℕ
reached [] t = 0
reached (p ∷ ps) t = elim (leb p t) [ true ↦ suc (reached ps t) | false ↦ 0 ]

-- the measure of the last period that is not longer than t
unfoldable pub last_up_to : ℕ → ℕ
unfolding reached
last_up_to t = reached periods t - 1

-- ---- the line
-- ln(T/T1)/ln(T2/T1): how far along the line from T1 to T2 the period T is
unfoldable pub weight : ℕ → ℕ → ℕ → ℕ
unfolding ln_e
weight t t1 t2 = up (ln_e (t * E30 / t1)) * E30 / up (ln_e (t2 * E30 / t1))

-- the number that far along the line from a to b: a (1 - w) + b w
unfoldable pub on_line : ℕ → ℤ → ℤ → ℤ
on_line w a b = shr_z (a *ℤ pos (E30 - w) +ℤ b *ℤ pos w) E30

-- the same of two numbers without a sign
abbrev pub sigma_on_line : ℕ → ℕ → ℕ → ℕ
sigma_on_line w a b = up (on_line w (pos a) (pos b))

-- ---- the row
-- between two rows: each sigma on its own line
unfoldable pub line_exact : ℕ → Exact → Exact → Exact
unfolding on_line exp_e
line_exact w e f =
    record {
      ln = on_line w e.ln f.ln;
      median = exp_e (on_line w e.ln f.ln);
      intra = sigma_on_line w e.intra f.intra;
      inter = sigma_on_line w e.inter f.inter;
      total = sigma_on_line w e.total f.total;
      arbitrary = sigma_on_line w e.arbitrary f.arbitrary;
    }

-- at a period t, from the measure i of the last tabulated one that is not longer
unfoldable pub exact_from : ℕ → ℕ → Scenario → Exact
unfolding weight line_exact exact_of
exact_from i t x = elim (eqb (period_at i) t) [
  | true ↦ exact_of i x
  | false ↦ line_exact (weight t (period_at i) (period_at (i + 1))) (exact_of i x) (exact_of (i + 1) x)
]

unfoldable pub exact_at : ℕ → Scenario → Exact
exact_at t x = exact_from (last_up_to t) t x
