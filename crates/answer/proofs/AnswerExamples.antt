-- Document 01's listing, line by line, and the line of a measure, worked out by the definitions. Assumes nothing.
use mathlib.Core.Path.{◌≡◌, refl}
use lib.IntN.{negsuc}
use Rattle.numerals.specs.Plain.{is_digit, digits_of}
use Rattle.text.specs.Grammar.{unsigned_of, negative, signed_of, field_of, space_at, in_front, fields_of, request_of, line_of}
use Rattle.numerals.specs.Render.{ascii, digits_in, render, render_signed}
use Rattle.answer.specs.declared.Sheet.TheVariants as S
use Rattle.answer.specs.RowLines.{row_line}
use Rattle.answer.specs.Sheets.{answer_to}

listing :
    (answer_to S.Completion (ascii "650 0 760 - 10000 - 3000 4000 30 - - - 2000") ≡ ascii "ok 90 10000 3000 5000 2000 emmem\n")
    × (answer_to S.Completion (ascii "851 0 760 - 10000 - 3000 4000 30 - - - 2000") ≡ ascii "no 2\n")
    × (answer_to S.Completion (ascii "650 90 300 40 10000 - 3000 0 90 - - - 2000") ≡ ascii "no 10\n")
    × (answer_to S.Completion (ascii "") ≡ ascii "no 14\n")
    × (answer_to S.Prediction (ascii "") ≡ ascii "no 14\n")
unfolding answer_to ascii line_of fields_of space_at in_front field_of signed_of negative unsigned_of digits_of is_digit request_of render digits_in
listing = (refl, refl, refl, refl, refl)

line_of_a_measure :
    row_line 21 (record { ln = negsuc 1234; median = 2909; sigma = 525 })
    ≡ ascii "21 -1235 2909 525\n"
unfolding row_line ascii render_signed render digits_in
line_of_a_measure = refl
