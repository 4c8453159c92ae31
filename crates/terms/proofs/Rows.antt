-- What a measure's row of Table 2 is known to be. Assumes nothing.
use Rattle.tables.specs.OfTables.{OfTable2}
use Rattle.terms.specs.declared.Measure.{Measure}

pub of_table : (m : Measure) → OfTable2 m.c
of_table m = record { i = m.i; below = m.below; is = m.row }
