-- Any two outcomes that the contract permits are equal; and 0 is no refusal's number. Assumes nothing.
use Prim.Native.Nat.{ℕ}
use mathlib.Core.Path.{◌≡◌}
use lib.Ieee.{Float}
use Rattle.std.specs.Prelude.{Option, Result, Err}
use Rattle.refusals.specs.declared.Refusal.{Refusal}
use Rattle.refusals.specs.Order.{number_in}
use Rattle.request.specs.declared.Request.{Request}
use Rattle.outcome.proofs.OneAnswer.{one_answer}
use Rattle.prediction.specs.declared.measure.MedianAndSigma.{MedianAndSigma}
use Rattle.prediction.proofs.Numbers.{refused_not_0}
use Rattle.one_measure.specs.OneMeasures.{measure_answer, MeasureGiven}

-- ---- one possible outcome
pub one_measure :
    {a : Result MedianAndSigma Refusal} {m n : ℕ} {y s y₁ y₂ s₁ s₂ : Float} → MeasureGiven a m y y₁ s s₁ → MeasureGiven a n y y₂ s s₂
    → (m ≡ n) × (y₁ ≡ y₂) × (s₁ ≡ s₂)
one_measure v w = (one_answer v.refusal w.refusal, one_answer v.median w.median, one_answer v.total w.total)

-- ---- 0 stands for no refusal
pub not_0 : (l : Option Request) (k : ℕ) (n : Refusal) → measure_answer l k ≡ Err n → number_in (measure_answer l k) ≡ 0 → ⊥
not_0 l k = refused_not_0 (measure_answer l k)
