-- The answer for one period: the row, whole or as f64, or a refusal. Definitions only.
use Rattle.std.specs.Prelude.{ℕ, cond, Result, Ok, Err}
use Rattle.refusals.specs.declared.Refusal.{Refusal}
use Rattle.refusals.specs.declared.Refusal.TheVariants as No
use Rattle.request.specs.declared.Request.{Request}
use Rattle.outcome.specs.Answers.{completion_of}
use Rattle.model.specs.declared.Row.{Row}
use Rattle.model.specs.Accuracy.{Exact, Accurate}
use Rattle.between.specs.Periods.{covered}
use Rattle.between.specs.Fixed.{row_at}
use Rattle.prediction.specs.declared.floats.FloatRow.{FloatRow}
use Rattle.prediction.specs.Spectra.{scenario_of, map_ok}
use Rattle.prediction.specs.Floats.{Same, floats_of}

-- by the completion's case; the period is tested after all that is tested of the request
unfoldable pub period_for : Result Request Refusal → ℕ → Result Row Refusal
unfolding row_at scenario_of
period_for (Ok c) t = cond (covered t) (Ok (row_at t (scenario_of c))) (Err No.NoPeriod)
period_for (Err n) t = Err n

unfoldable pub period_of : Request → ℕ → Result Row Refusal
unfolding period_for completion_of
period_of r t = period_for (completion_of r) t

-- as f64
unfoldable pub float_period : Result Row Refusal → Result FloatRow Refusal
unfolding floats_of
float_period a = map_ok floats_of a

unfoldable pub float_period_of : Request → ℕ → Result FloatRow Refusal
unfolding float_period period_of
float_period_of r t = float_period (period_of r t)

-- ---- what an answer says
-- it is a row that is as near the exact values as demand 3 asks
pub data RowNear (e : Exact) : Result Row Refusal → Type 0 where
  row_near : {w : Row} → Accurate e w → RowNear e (Ok w)

-- each figure of the one answer is that of the other, and a refusal is the same: nothing is lost
pub data SamePeriod : Result FloatRow Refusal → Result Row Refusal → Type 0 where
  same_row : {f : FloatRow} {w : Row} → Same f w → SamePeriod (Ok f) (Ok w)
  same_refusal : (n : Refusal) → SamePeriod (Err n) (Err n)
