-- The answer for one measure: the median and the sigma that a sheet shows, as f64, or a refusal. Definitions only.
use Rattle.std.specs.Prelude.{ℕ, cond, ltb, pos, Float, Result, Ok, Err}
use Rattle.refusals.specs.declared.Refusal.{Refusal}
use Rattle.refusals.specs.declared.Refusal.TheVariants as No
use Rattle.request.specs.declared.Request.{Request}
use Rattle.outcome.specs.Answers.{completion_of}
use Rattle.tables.specs.Tables.{measures}
use Rattle.model.specs.declared.Shown.{Shown}
use Rattle.model.specs.Accuracy.{Exact, NearSixth, NearMedian}
use Rattle.model.specs.Fixed.{row_fixed}
use Rattle.model.specs.Rows.{shown_of}
use Rattle.prediction.specs.declared.measure.MedianAndSigma.{MedianAndSigma}
use Rattle.prediction.specs.Spectra.{scenario_of}
use Rattle.prediction.specs.Floats.{Is, float}

-- of what is shown, the median and the sigma
unfoldable pub shown_value : Shown → MedianAndSigma
shown_value s = record { median = float (pos s.median); sigma = float (pos s.sigma) }

-- by the completion's case; the measure's number is tested after all that is tested of the request
unfoldable pub measure_for : Result Request Refusal → ℕ → Result MedianAndSigma Refusal
unfolding shown_value shown_of row_fixed scenario_of
measure_for (Ok c) k = cond (ltb k measures) (Ok (shown_value (shown_of (row_fixed k (scenario_of c))))) (Err No.NoMeasure)
measure_for (Err n) k = Err n

unfoldable pub measure_of : Request → ℕ → Result MedianAndSigma Refusal
unfolding measure_for completion_of
measure_of r k = measure_for (completion_of r) k

-- ---- what an answer says
-- the median, or x where there is none
unfoldable pub median_in : Result MedianAndSigma Refusal → Float → Float
median_in (Ok v) x = v.median
median_in (Err n) x = x

-- the sigma, likewise
unfoldable pub sigma_in : Result MedianAndSigma Refusal → Float → Float
sigma_in (Ok v) x = v.sigma
sigma_in (Err n) x = x

-- it is a median and a sigma that are the whole numbers of what is shown: nothing is lost
pub data Tells (s : Shown) : Result MedianAndSigma Refusal → Type 0 where
  told : {v : MedianAndSigma} → Is v.median (pos s.median) → Is v.sigma (pos s.sigma) → Tells s (Ok v)

-- it is a median and a sigma that are whole numbers as near the exact values as demand 3 asks
pub data MeasureNear (e : Exact) : Result MedianAndSigma Refusal → Type 0 where
  measure_near :
      {v : MedianAndSigma} (m s : ℕ) → Is v.median (pos m) → Is v.sigma (pos s) → NearMedian m e.median
      → NearSixth (pos s) (pos e.total) → MeasureNear e (Ok v)
