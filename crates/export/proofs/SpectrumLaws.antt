-- What each answer for a spectrum leaves in the lent numbers. Assumes nothing.
use Prim.Native.Nat.{ℕ, ◌*◌, ◌≤◌, ◌<◌}
use mathlib.Core.Path.{◌≡◌, sym, ap, ◌∙◌}
use mathlib.Core.List.{List}
use native.Mathlib.Omega.{arith}
use lib.ListN.{length, take}
use lib.Ieee.{Float}
use borrow.Author.Tests.{lt-ltb, le-ltb}
use Rattle.std.specs.Prelude.{Option, Some, None, Result, Ok, Err}
use Rattle.refusals.specs.declared.Refusal.{Refusal}
use Rattle.refusals.specs.declared.Refusal.TheVariants as No
use Rattle.request.specs.declared.Request.{Request}
use Rattle.tables.specs.Tables.{measures}
use Rattle.prediction.specs.declared.floats.FloatRow.{FloatRow}
use Rattle.prediction.specs.Spectra.{figures_as}
use Rattle.prediction.specs.Floats.{float_spectrum_of, float_figures_in}
use Rattle.prediction.proofs.FloatLaws.{float-length}
use Rattle.lent.specs.Lent.{LentWritten}
use Rattle.records.specs.Records.{record_size, record_in}
use Rattle.kept.specs.declared.faults.Fault.{Fault}
use Rattle.kept.specs.declared.faults.Fault.TheVariants.{Misuse, Refused}
use Rattle.kept.specs.Faults.{number_of, number_in, or_fault}
use Rattle.export.specs.Given.{spectrum_or, record_spectrum, numbers_of, spectrum_laid, spectrum_after, SpectrumGiven}
use Rattle.export.proofs.PlaceLaws.{length_numbers}

-- ---- what was read
module _ (n : Refusal) {l : Option Request} where
  pub of_malformed : l ≡ None → spectrum_or n l ≡ Err (Refused n)
  unfolding spectrum_or
  of_malformed e = rw e

  pub of_request : {r : Request} → l ≡ Some r → spectrum_or n l ≡ or_fault (float_spectrum_of r)
  unfolding spectrum_or
  of_request e = rw e

-- ---- a record, by how many bytes there are
module _ (s : List ℕ) where
  pub record_short : length s < record_size → record_spectrum s ≡ Err Misuse
  unfolding record_spectrum
  record_short h = rw (lt-ltb (length s) record_size h)

  pub record_long : record_size ≤ length s → record_spectrum s ≡ spectrum_or No.FileField (record_in (take record_size s))
  unfolding record_spectrum
  record_long h = rw (le-ltb (length s) record_size h)

-- ---- by the fault and the room
module _ {s : Result (List FloatRow) Fault} (b : List Float) where
  -- a fault leaves all as it was
  pub spectrum_refused : (f : Fault) → s ≡ Err f → SpectrumGiven s b (number_of f) b
  unfolding spectrum_laid spectrum_after
  spectrum_refused f e = record { refusal = rw e; rows = rw e }

  -- else it goes by the room
  pub spectrum_wrote : {rows : List FloatRow} {w : Result ℕ Refusal} {b₁ : List Float} → s ≡ Ok rows → LentWritten b (numbers_of rows) w b₁ → SpectrumGiven s b (number_in (or_fault w)) b₁
  unfolding spectrum_laid spectrum_after
  spectrum_wrote e v = record { refusal = rw e (ap (λ (w : Result ℕ Refusal). number_in (or_fault w)) v.answer); rows = rw e v.became }

-- ---- what stands where
-- all rows have six numbers
pub numbers_all : (r : Request) → length (numbers_of (float_figures_in (float_spectrum_of r))) ≡ 6 * measures
numbers_all r = omega (arith, length_numbers (float_figures_in (float_spectrum_of r)), float-length r)

-- of an answer, those that are laid
pub answer_numbers : (r : Request) (rows : List FloatRow) → float_spectrum_of r ≡ Ok rows → length (numbers_of rows) ≡ 6 * measures
unfolding figures_as
answer_numbers r rows e =
    ap (λ (a : Result (List FloatRow) Refusal). length (numbers_of (float_figures_in a))) (sym e) ∙ numbers_all r
