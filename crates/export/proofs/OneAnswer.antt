-- Any two answers that a contract permits are equal, and so is what they leave in lent bytes and numbers. Assumes nothing.
use Prim.Native.Nat.{ℕ}
use mathlib.Core.Path.{◌≡◌}
use mathlib.Core.List.{List}
use lib.Ieee.{Float}
use Rattle.outcome.proofs.OneAnswer.{one_answer}
use Rattle.std.specs.Prelude.{Result}
use Rattle.refusals.specs.declared.Refusal.{Refusal}
use Rattle.prediction.specs.declared.floats.FloatRow.{FloatRow}
use Rattle.kept.specs.declared.faults.Fault.{Fault}
use Rattle.site_files.specs.Given.{ToldBy}
use Rattle.export.specs.Given.{LineGiven, SpectrumGiven}

pub one_line : {b s : List ℕ} {m n : ℕ} {b₁ b₂ : List ℕ} → LineGiven b s m b₁ → LineGiven b s n b₂ → (m ≡ n) × (b₁ ≡ b₂)
one_line v w = (one_answer v.count w.count, one_answer v.bytes w.bytes)

pub one_spectrum :
    {s : Result (List FloatRow) Fault} {b : List Float} {m n : ℕ} {b₁ b₂ : List Float} → SpectrumGiven s b m b₁ → SpectrumGiven s b n b₂
    → (m ≡ n) × (b₁ ≡ b₂)
one_spectrum v w = (one_answer v.refusal w.refusal, one_answer v.rows w.rows)

-- of a file or a record
pub one_told :
    {E : Type 0} {refused : Refusal → E} {number : E → ℕ} {f : Result (List ℕ) E} {b : List ℕ} {w m n : ℕ} {b₁ b₂ : List ℕ} {w₁ w₂ : ℕ}
    → ToldBy refused number f b w m b₁ w₁ → ToldBy refused number f b w n b₂ w₂ → (◌≡◌ {A = ℕ × ℕ} (m, w₁) (n, w₂)) × (b₁ ≡ b₂)
one_told v w = (one_answer v.answer w.answer, one_answer v.became w.became)
