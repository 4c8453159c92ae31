-- All lines are read first; then there are too many, or their records are handed over. Of the system it is assumed that each call returns.
use Prim.Native.Nat.{ℕ, ◌+◌, ◌*◌, ◌≤◌, ◌<◌}
use mathlib.Core.Path.{◌≡◌, refl, sym, ◌∙◌}
use mathlib.Core.Bool.{true}
use mathlib.Core.List.{List}
use native.Mathlib.Omega.{arith}
use lib.ListN.{length}
use Rattle.std.specs.Prelude.{Option, Some}
use Rattle.list_lines.specs.ListLines.{lines_of, all_read, requests_in, surveyed}
use Rattle.list_lines.proofs.SurveyLaws.{are_read, not_read}
use Rattle.site_files.specs.Format.{most_records, records_of}
use Rattle.file_streams.specs.Ends.{block_size, room_size, lines_so_far}
use Rattle.file_streams.proofs.StreamLaws.{few-lines, records_long, so_many, more}
use Rattle.file_streams.proofs.EndLaws.{within, stands}
use Rattle.file_streams.proofs.pack.pack_lines.Goals as goal

pub returns-in_default : goal.returns-in_default
returns-in_default g c = (not_read _ _ (sym c.in_default.is ∙ c.survey_lines.ensures), refl)

-- the lines, and how many there are
module _ {v : Option ℕ} {n : ℕ} (lines : List ℕ) (is : v ≡ Some n) (told : v ≡ surveyed (lines_of lines) (length (lines_of lines))) where
  counted : (all_read (lines_of lines) ≡ true) × (n ≡ length (lines_of lines))
  counted = are_read (lines_of lines) (length (lines_of lines)) n (sym is ∙ told)

  few : 26 * n ≤ length lines
  few = omega (arith, few-lines lines counted.0, counted.1)

  -- the records have room
  fits : length lines ≤ block_size → length (records_of (requests_in (lines_of lines))) ≤ room_size
  fits h = omega (arith, records_long lines counted.0, counted.1, few, h)

  over : (count : ℕ) → most_records < count + n → (all_read (lines_of lines) ≡ true) × (most_records + 1 ≡ lines_so_far count lines)
  over count h = (counted.0, sym (more count lines (omega (arith, counted.1, h))))

  so_far : (count : ℕ) → count + n ≤ most_records → (all_read (lines_of lines) ≡ true) × (count + n ≡ lines_so_far count lines)
  so_far count h = (counted.0, omega (arith, so_many count lines (omega (arith, counted.1, h)), counted.1))

pub overflow_add-count : goal.overflow_add-count
overflow_add-count g c = omega (arith, few c.args.lines.now c.in-Some.is c.survey_lines.ensures, c.requires)

pub returns-then-count-n-gt-MOST : goal.returns-then-count-n-gt-MOST
returns-then-count-n-gt-MOST g c = over c.args.lines.now c.in-Some.is c.survey_lines.ensures c.args.count c.if-count-n-gt-MOST.true

pub put_records-p-requires : goal.put_records-p-requires
put_records-p-requires g c = omega (arith, fits c.args.lines.now c.in-Some.is c.survey_lines.ensures c.requires.1)

pub shared_ref_as_front-put_block : goal.shared_ref_as_front-put_block
shared_ref_as_front-put_block g c =
    omega (arith, within (omega (arith, fits c.args.lines.now c.in-Some.is c.survey_lines.ensures c.requires.1)) c.put_records-p.ensures)

pub put_block-requires : goal.put_block-requires
put_block-requires g c = stands (omega (arith, fits c.args.lines.now c.in-Some.is c.survey_lines.ensures c.requires.1)) c.put_records-p.ensures

pub returns : goal.returns
returns g c = so_far c.args.lines.now c.in-Some.is c.survey_lines.ensures c.args.count c.if-count-n-gt-MOST.false
