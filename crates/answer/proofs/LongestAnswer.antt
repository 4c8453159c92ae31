-- No answer line is longer than 38 bytes, its LF counted, nor that of a period than 41: an accepted request's figures lie in their
-- ranges, its rows' too, and no refusal has more than two digits. Assumes nothing.
use Prim.Native.Nat.{ℕ, zero, suc, ◌+◌, ◌*◌, ◌^◌, ◌≤◌, ◌<◌}
use mathlib.Core.Path.{◌≡◌, refl, subst}
use mathlib.Core.Bool.{Bool, true, false}
use mathlib.Core.List.{List}
use native.Mathlib.Omega.{arith}
use lib.ListN.{length, get_or, length-append}
use Rattle.std.specs.Prelude.{Option, Some, None, Result, Ok, Err}
use Rattle.refusals.specs.declared.Refusal.{Refusal}
use Rattle.refusals.specs.declared.Refusal.TheVariants as No
use Rattle.refusals.specs.Order.{number_of, unless}
use Rattle.refusals.proofs.Numbers.{number-most}
use Rattle.request.specs.declared.Request.{Request}
use Rattle.request.specs.Fields.{size_of}
use Rattle.outcome.specs.Refusals.{refusal}
use Rattle.outcome.specs.Answers.{completed, completion_of}
use Rattle.outcome.proofs.ExactlyWhen.{stages}
use Rattle.outcome.proofs.Ranges.{source_range, source_given_lem, top_range}
use Rattle.outcome.proofs.SentBackWhole.{rrup-high, site_rows_lem}
use Rattle.tables.specs.Tables.{measures}
use Rattle.model.specs.declared.Shown.{Shown}
use Rattle.model.specs.Rows.{shown_of, no_shown}
use Rattle.between.specs.Periods.{covered}
use Rattle.between.specs.Fixed.{row_at}
use Rattle.prediction.specs.Spectra.{scenario_of, shown_spectrum_of, figures_as, shown_figures_in}
use Rattle.prediction.specs.Sizes.{ShownSmall}
use Rattle.prediction.proofs.DemandThree.{shown_small, shown_rows_small}
use Rattle.prediction.proofs.RowLaws.{by_completion}
use Rattle.one_period.specs.OnePeriods.{period_of}
use Rattle.one_period.proofs.PeriodLaws.{period_refused, period_none, period_row, covered-high, value-small}
use Rattle.text.specs.Grammar.{line_of}
use Rattle.numerals.proofs.RenderLaws.{length-render, length-signed}
use Rattle.lines.specs.Lines.{ok_line, no_line, completion_line}
use Rattle.lines.proofs.LineLaws.{length_ok, length_no}
use Rattle.answer.specs.declared.Sheet.{Sheet}
use Rattle.answer.specs.declared.Sheet.TheVariants as S
use Rattle.answer.specs.RowLines.{row_line, row_lines, spectrum_lines, period_line}
use Rattle.answer.specs.Sheets.{sheet_of, reply_of, answer_to, longest_line, longest_period, longest_answer}
use Rattle.answer.proofs.RowLaws.{length_row}

-- ---- the lines
no_short : (n : Refusal) → length (no_line n) ≤ longest_line
no_short n = omega (arith, length_no (number_of n), length-render 1 (number_of n) (omega (arith, number-most n)))

ok_short : (r : Request) → refusal r ≡ None → length (ok_line (completed r)) ≤ longest_line
unfolding completed
ok_short r e =
    let s = stages r e in
    let range = source_range r (source_given_lem r s.source) in
    omega (
      arith,
      length_ok (completed r),
      length-render 1 (size_of (completed r).dip) (omega (arith, range.dip-high)),
      length-render 5 (size_of (completed r).w) (omega (arith, range.w_high)),
      length-render 4 (size_of (completed r).ztor) (omega (arith, top_range r s.source)),
      length-render 5 (size_of (completed r).rrup) (omega (arith, rrup-high r e)),
      length-render 4 (size_of (completed r).z25) (omega (arith, (site_rows_lem r e).3)),
    )

completion_short : (r : Request) → length (completion_line number_of (completion_of r)) ≤ longest_line
unfolding completion_line completion_of
completion_short r = go (refusal r) refl
  where
    go : (o : Option Refusal) → refusal r ≡ o → length (completion_line number_of (unless o (completed r))) ≤ longest_line
    go None e = ok_short r e
    go (Some n) e = no_short n

-- behind a number of at most d + 1 digits
shown_short : (d k : ℕ) (row : Shown) → k < 10 ^ suc d → ShownSmall row → length (row_line k row) ≤ d + 37
shown_short d k row h b =
    omega (
      arith,
      length_row k row,
      length-render d k h,
      length-signed 7 row.ln (omega (arith, b.ln)),
      length-render 15 row.median (omega (arith, b.median)),
      length-render 6 row.sigma (omega (arith, b.sigma)),
    )

row_short : (k : ℕ) (row : Shown) → k < measures → ShownSmall row → length (row_line k row) ≤ longest_line
row_short k row h b = shown_short 1 k row (omega arith) b

rows_short : (rows : List Shown) → ((k : ℕ) → k < measures → ShownSmall (get_or rows k no_shown)) → (n : ℕ) → n ≤ measures → length (row_lines n rows) ≤ n * longest_line
unfolding row_lines
rows_short rows b zero h = omega arith
rows_short rows b (suc n) h =
    omega (
      arith,
      rows_short rows b n (omega arith),
      length-append (row_lines n rows) (row_line n (get_or rows n no_shown)),
      row_short n (get_or rows n no_shown) (omega arith) (b n (omega arith)),
    )

spectrum_short : (r : Request) → length (spectrum_lines number_of (shown_spectrum_of r)) ≤ longest_answer S.Prediction
unfolding spectrum_lines figures_as
spectrum_short r = go (shown_spectrum_of r) (shown_rows_small r)
  where
    go :
        (a : Result (List Shown) Refusal) → ((k : ℕ) → k < measures → ShownSmall (get_or (shown_figures_in a) k no_shown))
        → length (spectrum_lines number_of a) ≤ longest_answer S.Prediction
    go (Ok rows) small = rows_short rows small measures (omega arith)
    go (Err n) small = omega (arith, no_short n)

period_short : (r : Request) (t : ℕ) → length (period_line number_of t (period_of r t)) ≤ longest_period
unfolding period_line
period_short r t =
    by_completion r (λ c e. by_test c e (covered t) refl) (λ n e. rw (period_refused r n t e) (no_shorter n))
  where
    no_shorter : (n : Refusal) → length (no_line n) ≤ longest_period
    no_shorter n = omega (arith, no_short n)

    by_test : (c : Request) → completion_of r ≡ Ok c → (b : Bool) → covered t ≡ b → length (period_line number_of t (period_of r t)) ≤ longest_period
    by_test c e true h =
        let v = period_row r c t e h in
        rw v
        (shown_short 4 t (shown_of (row_at t (scenario_of c))) (omega (arith, covered-high t h)) (shown_small (row_at t (scenario_of c)) (value-small r t (row_at t (scenario_of c)) v)))
    by_test c e false h = rw (period_none r c t e h) (no_shorter No.NoPeriod)

-- ---- the answers
reply_short : (sheet : Sheet) (l : Option Request) → length (reply_of sheet l) ≤ longest_answer sheet
unfolding reply_of sheet_of
reply_short S.Completion (Some r) = completion_short r
reply_short S.Prediction (Some r) = spectrum_short r
reply_short (S.Period t) (Some r) = period_short r t
reply_short S.Completion None = no_short No.Malformed
reply_short S.Prediction None = omega (arith, no_short No.Malformed)
reply_short (S.Period t) None = omega (arith, no_short No.Malformed)

pub answer-short : (sheet : Sheet) (s : List ℕ) → length (answer_to sheet s) ≤ longest_answer sheet
unfolding answer_to
answer-short sheet s = reply_short sheet (line_of s)
