-- A row as numbers, and what the call for one period gives back and leaves in lent numbers. Definitions only.
use Rattle.std.specs.Prelude.{ℕ, ◌≡◌, List, [], ◌∷◌, length, Float, Option, Some, None, Result, Ok, Err}
use Rattle.refusals.specs.declared.Refusal.{Refusal}
use Rattle.refusals.specs.declared.Refusal.TheVariants as No
use Rattle.refusals.specs.Order.{number_in}
use Rattle.request.specs.declared.Request.{Request}
use Rattle.prediction.specs.declared.floats.FloatRow.{FloatRow}
use Rattle.one_period.specs.OnePeriods.{float_period_of}
use Rattle.lent.specs.Lent.{wrote, after}

-- the six numbers of a row in document 01's order
unfoldable pub row_numbers : FloatRow → List Float
row_numbers r = r.ln ∷ r.median ∷ r.intra ∷ r.inter ∷ r.total ∷ r.arbitrary ∷ []

-- ---- one period
-- that of a line: a malformed one is refused
unfoldable pub period_answer : Option Request → ℕ → Result FloatRow Refusal
unfolding float_period_of
period_answer (Some r) t = float_period_of r t
period_answer None t = Err No.Malformed

-- how many numbers are laid where n are lent, or the refusal: too few are told of after all else
unfoldable pub period_laid : Result FloatRow Refusal → ℕ → Result ℕ Refusal
unfolding wrote row_numbers
period_laid (Ok f) n = wrote n (row_numbers f)
period_laid (Err m) n = Err m

-- the lent numbers b afterwards: as they were on a refusal
unfoldable pub period_after : Result FloatRow Refusal → List Float → List Float
unfolding after row_numbers
period_after (Ok f) b = after b (row_numbers f)
period_after (Err m) b = b

-- what is promised of the answer a and the lent numbers b: the refusal's number n, 0 for none, and the numbers b₁ that b became
pub record PeriodGiven (a : Result FloatRow Refusal) (b : List Float) (n : ℕ) (b₁ : List Float) : Type 0 where
  pub refusal : n ≡ number_in (period_laid a (length b))
  pub row : b₁ ≡ period_after a b
