-- What the exported functions give back, and what they leave in lent bytes and numbers. Definitions only.
use Rattle.std.specs.Prelude.{ℕ, ◌≡◌, cond, List, [], ◌∷◌, ◌++◌, ltb, length, take, Float, Option, Some, None, Result, Ok, Err}
use Rattle.refusals.specs.declared.Refusal.{Refusal}
use Rattle.refusals.specs.declared.Refusal.TheVariants as No
use Rattle.request.specs.declared.Request.{Request}
use Rattle.prediction.specs.declared.floats.FloatRow.{FloatRow}
use Rattle.prediction.specs.Floats.{float_spectrum_of}
use Rattle.row_numbers.specs.RowNumbers.{row_numbers}
use Rattle.lent.specs.Lent.{count_of, wrote, after}
use Rattle.records.specs.Records.{record_size, record_in}
use Rattle.kept.specs.declared.faults.Fault.{Fault}
use Rattle.kept.specs.declared.faults.Fault.TheVariants.{Misuse, Refused}
use Rattle.kept.specs.Faults.{number_in, or_fault}

-- ---- a line
-- what is promised of the line s and the lent bytes b: the count n of those written, and the bytes b₁ that b became. No answer line is
-- empty, so that 0 is free for a refusal
pub record LineGiven (b s : List ℕ) (n : ℕ) (b₁ : List ℕ) : Type 0 where
  pub count : n ≡ count_of (wrote (length b) s)
  pub bytes : b₁ ≡ after b s

-- ---- a spectrum
-- that of what was read, refused with n if it is malformed
unfoldable pub spectrum_or : Refusal → Option Request → Result (List FloatRow) Fault
unfolding float_spectrum_of
spectrum_or n (Some r) = or_fault (float_spectrum_of r)
spectrum_or n None = Err (Refused n)

-- that of a record, read from the first bytes, of which too few are misuse
unfoldable pub record_spectrum : List ℕ → Result (List FloatRow) Fault
unfolding spectrum_or record_in
record_spectrum s = cond (ltb (length s) record_size) (Err Misuse) (spectrum_or No.FileField (record_in (take record_size s)))

-- the numbers of its rows, row after row, measure 0 first
unfoldable pub numbers_of : List FloatRow → List Float
unfolding row_numbers
numbers_of [] = []
numbers_of (r ∷ rows) = row_numbers r ++ numbers_of rows

-- how many numbers are laid where n are lent, or the fault: too few are told of after all else
unfoldable pub spectrum_laid : Result (List FloatRow) Fault → ℕ → Result ℕ Fault
unfolding wrote numbers_of
spectrum_laid (Ok rows) n = or_fault (wrote n (numbers_of rows))
spectrum_laid (Err f) n = Err f

-- the lent numbers b afterwards: as they were on a fault
unfoldable pub spectrum_after : Result (List FloatRow) Fault → List Float → List Float
unfolding after numbers_of
spectrum_after (Ok rows) b = after b (numbers_of rows)
spectrum_after (Err f) b = b

-- what is promised of the spectrum s and the lent numbers b: the fault's number n, 0 for none, and the numbers b₁ that b became
pub record SpectrumGiven (s : Result (List FloatRow) Fault) (b : List Float) (n : ℕ) (b₁ : List Float) : Type 0 where
  pub refusal : n ≡ number_in (spectrum_laid s (length b))
  pub rows : b₁ ≡ spectrum_after s b
