-- A row that is that of a measure is a row of its table. Assumes nothing.
use Prim.Native.Nat.{ℕ, ◌<◌}
use mathlib.Core.Path.{◌≡◌}
use lib.Dec.{lit<}
use Rattle.tables.specs.declared.Coefficients.{Coefficients}
use Rattle.tables.specs.declared.Deviations.{Deviations}
use Rattle.tables.specs.Tables.{measures, PGA, coefficients_at, deviations_at}
use Rattle.tables.specs.OfTables.{OfTable2, OfTable3}

-- ---- the row of a measure, and PGA's
pub of_row : (i : ℕ) (c : Coefficients) → i < measures → c ≡ coefficients_at i → OfTable2 c
of_row i c h e = record { i = i; below = h; is = e }

pub of_deviations : (i : ℕ) (d : Deviations) → i < measures → d ≡ deviations_at i → OfTable3 d
of_deviations i d h e = record { i = i; below = h; is = e }

pub pga_row : (c : Coefficients) → c ≡ coefficients_at PGA → OfTable2 c
pga_row c e = of_row PGA c (lit< tt) e
