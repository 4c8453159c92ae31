-- What the call for one measure gives back and leaves in the two lent numbers. Definitions only.
use Rattle.std.specs.Prelude.{ℕ, ◌≡◌, Float, Option, Some, None, Result, Err}
use Rattle.refusals.specs.declared.Refusal.{Refusal}
use Rattle.refusals.specs.declared.Refusal.TheVariants as No
use Rattle.refusals.specs.Order.{number_in}
use Rattle.request.specs.declared.Request.{Request}
use Rattle.prediction.specs.declared.measure.MedianAndSigma.{MedianAndSigma}
use Rattle.prediction.specs.Measures.{measure_of, median_in, sigma_in}

-- that of a line: a malformed one is refused
unfoldable pub measure_answer : Option Request → ℕ → Result MedianAndSigma Refusal
unfolding measure_of
measure_answer (Some r) k = measure_of r k
measure_answer None k = Err No.Malformed

-- what is promised of the answer a: the refusal's number n, 0 for none, and what the lent numbers y and s became
pub record MeasureGiven (a : Result MedianAndSigma Refusal) (n : ℕ) (y y₁ s s₁ : Float) : Type 0 where
  pub refusal : n ≡ number_in a
  pub median : y₁ ≡ median_in a y
  pub total : s₁ ≡ sigma_in a s
