-- From a line to its answer, by the sheet that is asked for. Definitions only.
use Rattle.std.specs.Prelude.{ℕ, ◌*◌, List, Option, Some, None}
use Rattle.refusals.specs.declared.Refusal.TheVariants as No
use Rattle.refusals.specs.Order.{number_of}
use Rattle.request.specs.declared.Request.{Request}
use Rattle.outcome.specs.Answers.{completion_of}
use Rattle.tables.specs.Tables.{measures}
use Rattle.prediction.specs.Spectra.{shown_spectrum_of}
use Rattle.one_period.specs.OnePeriods.{period_of}
use Rattle.text.specs.Grammar.{line_of}
use Rattle.lines.specs.Lines.{number_line, no_line, completion_line}
use Rattle.answer.specs.declared.Sheet.{Sheet}
use Rattle.answer.specs.declared.Sheet.TheVariants as S
use Rattle.answer.specs.RowLines.{spectrum_lines, period_line}

-- the answer to a request
unfoldable pub sheet_of : Sheet → Request → List ℕ
unfolding completion_line completion_of spectrum_lines period_line
sheet_of S.Completion r = completion_line number_of (completion_of r)
sheet_of S.Prediction r = spectrum_lines number_of (shown_spectrum_of r)
sheet_of (S.Period t) r = period_line number_of t (period_of r t)

-- a malformed line is refused
unfoldable pub reply_of : Sheet → Option Request → List ℕ
unfolding sheet_of number_line
reply_of sheet (Some r) = sheet_of sheet r
reply_of sheet None = no_line No.Malformed

-- from the bytes of a line, its LF not among them, to the bytes of its answer
unfoldable pub answer_to : Sheet → List ℕ → List ℕ
unfolding reply_of line_of
answer_to sheet s = reply_of sheet (line_of s)

-- no line of an answer is longer, its LF counted
abbrev pub longest_line : ℕ
longest_line = 38

-- nor is that of a period, of which the longest has three digits more than a measure
abbrev pub longest_period : ℕ
longest_period = 41

-- and so no answer
abbrev pub longest_answer : Sheet → ℕ
longest_answer S.Completion = longest_line
longest_answer S.Prediction = measures * longest_line
longest_answer (S.Period t) = longest_period
