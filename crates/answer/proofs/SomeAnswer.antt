-- No answer is empty. Assumes nothing.
use Prim.Native.Nat.{ℕ, ◌<◌}
use mathlib.Core.List.{List}
use native.Mathlib.Omega.{arith}
use lib.ListN.{length, get_or, length-append}
use Rattle.std.specs.Prelude.{Option, Some, None, Result, Ok, Err}
use Rattle.refusals.specs.declared.Refusal.TheVariants as No
use Rattle.refusals.specs.Order.{number_of}
use Rattle.request.specs.declared.Request.{Request}
use Rattle.outcome.specs.Answers.{completion_of}
use Rattle.tables.specs.Tables.{measures}
use Rattle.model.specs.declared.Row.{Row}
use Rattle.model.specs.declared.Shown.{Shown}
use Rattle.model.specs.Rows.{shown_of, no_shown}
use Rattle.prediction.specs.Spectra.{shown_spectrum_of}
use Rattle.one_period.specs.OnePeriods.{period_of}
use Rattle.text.specs.Grammar.{line_of}
use Rattle.lines.specs.Lines.{completion_line}
use Rattle.lines.proofs.LineLaws.{length_ok, length_no}
use Rattle.answer.specs.declared.Sheet.{Sheet}
use Rattle.answer.specs.declared.Sheet.TheVariants as S
use Rattle.answer.specs.RowLines.{row_line, row_lines, spectrum_lines, period_line}
use Rattle.answer.specs.Sheets.{sheet_of, reply_of, answer_to}
use Rattle.answer.proofs.RowLaws.{length_row}

some_rows : (rows : List Shown) → 0 < length (row_lines measures rows)
unfolding row_lines
some_rows rows =
    omega (arith, length-append (row_lines 23 rows) (row_line 23 (get_or rows 23 no_shown)), length_row 23 (get_or rows 23 no_shown))

-- whatever stands in an answer's place, and any number of it
module _ {E : Type 0} (number : E → ℕ) where
  some_completion : (a : Result Request E) → 0 < length (completion_line number a)
  unfolding completion_line
  some_completion (Ok c) = omega (arith, length_ok c)
  some_completion (Err n) = omega (arith, length_no (number n))

  some_spectrum : (a : Result (List Shown) E) → 0 < length (spectrum_lines number a)
  unfolding spectrum_lines
  some_spectrum (Ok rows) = some_rows rows
  some_spectrum (Err n) = omega (arith, length_no (number n))

  some_period : (t : ℕ) (a : Result Row E) → 0 < length (period_line number t a)
  unfolding period_line
  some_period t (Ok w) = omega (arith, length_row t (shown_of w))
  some_period t (Err n) = omega (arith, length_no (number n))

some_reply : (sheet : Sheet) (l : Option Request) → 0 < length (reply_of sheet l)
unfolding reply_of sheet_of
some_reply S.Completion (Some r) = some_completion number_of (completion_of r)
some_reply S.Prediction (Some r) = some_spectrum number_of (shown_spectrum_of r)
some_reply (S.Period t) (Some r) = some_period number_of t (period_of r t)
some_reply sheet None = omega (arith, length_no (number_of No.Malformed))

pub some-answer : (sheet : Sheet) (s : List ℕ) → 0 < length (answer_to sheet s)
unfolding answer_to
some-answer sheet s = some_reply sheet (line_of s)
