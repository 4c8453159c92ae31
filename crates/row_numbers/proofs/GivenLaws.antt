-- Any two outcomes that the contract of the call for one period permits are equal; and 0 is no refusal's number. Assumes nothing.
use Prim.Native.Nat.{ℕ}
use mathlib.Core.Path.{◌≡◌, refl}
use mathlib.Core.List.{List}
use lib.ListN.{length}
use lib.Ieee.{Float}
use Rattle.std.specs.Prelude.{Option, Result, Err}
use Rattle.refusals.specs.declared.Refusal.{Refusal}
use Rattle.refusals.specs.Order.{number_in}
use Rattle.request.specs.declared.Request.{Request}
use Rattle.outcome.proofs.OneAnswer.{one_answer}
use Rattle.prediction.specs.declared.floats.FloatRow.{FloatRow}
use Rattle.prediction.proofs.Numbers.{refused_not_0}
use Rattle.row_numbers.specs.RowNumbers.{row_numbers, period_answer, PeriodGiven}

-- a row has six numbers
pub length_row : (f : FloatRow) → length (row_numbers f) ≡ 6
unfolding row_numbers
length_row f = refl

-- ---- one possible outcome
pub one-given :
    {a : Result FloatRow Refusal} {b : List Float} {m n : ℕ} {b₁ b₂ : List Float} → PeriodGiven a b m b₁ → PeriodGiven a b n b₂
    → (m ≡ n) × (b₁ ≡ b₂)
one-given v w = (one_answer v.refusal w.refusal, one_answer v.row w.row)

-- ---- 0 stands for no refusal
pub not_0 : (l : Option Request) (t : ℕ) (n : Refusal) → period_answer l t ≡ Err n → number_in (period_answer l t) ≡ 0 → ⊥
not_0 l t = refused_not_0 (period_answer l t)
