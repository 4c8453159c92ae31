-- A row of the tables, as the functions are handed it. Definitions only.
use Rattle.std.specs.Prelude.{ℕ, ◌<◌, ◌≡◌}
use Rattle.tables.specs.declared.Coefficients.{Coefficients}
use Rattle.tables.specs.declared.Deviations.{Deviations}
use Rattle.tables.specs.Tables.{measures, coefficients_at, deviations_at}

pub record OfTable2 (c : Coefficients) : Type 0 where
  pub i : ℕ
  pub below : i < measures
  pub is : c ≡ coefficients_at i

pub record OfTable3 (d : Deviations) : Type 0 where
  pub i : ℕ
  pub below : i < measures
  pub is : d ≡ deviations_at i
