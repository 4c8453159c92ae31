-- All records are read first; then their lines are handed over. Of the system it is assumed that each call returns.
use Prim.Native.Nat.{ℕ, ◌≤◌}
use mathlib.Core.Path.{◌≡◌, sym, ◌∙◌}
use mathlib.Core.Bool.{true}
use mathlib.Core.List.{List}
use native.Mathlib.Omega.{arith}
use lib.ListN.{length}
use Rattle.std.specs.Prelude.{Option, Some}
use Rattle.request_lines.specs.RequestText.{list_text}
use Rattle.list_lines.specs.ListLines.{all_read, requests_in, surveyed}
use Rattle.list_lines.proofs.SurveyLaws.{are_read, not_read}
use Rattle.site_files.specs.Format.{records_in}
use Rattle.site_files.proofs.RecordSteps.{lines-short}
use Rattle.file_streams.specs.Ends.{some_records, room_size}
use Rattle.file_streams.proofs.EndLaws.{within, stands}
use Rattle.file_streams.proofs.unpack.unpack_block.Goals as goal

pub returns-in_default : goal.returns-in_default
returns-in_default g c = not_read _ _ (sym c.in_default.is ∙ c.survey_records.ensures)

-- the records that were read, and their lines, which have room
module _ {v : Option ℕ} {n : ℕ} (size count : ℕ) (records : List ℕ) (is : v ≡ Some n) (told : v ≡ surveyed (records_in count records) size) where
  all : all_read (records_in count records) ≡ true
  all = (are_read (records_in count records) size n (sym is ∙ told)).0

  fits : {out : ℕ} → count ≤ some_records → room_size ≤ out → length (list_text (requests_in (records_in count records))) ≤ out
  fits h k = omega (arith, lines-short count records all, h, k)

pub put_lines-p-requires : goal.put_lines-p-requires
put_lines-p-requires g c =
    (c.requires.1, fits _ c.args.count c.args.records.now c.in-Some.is c.survey_records.ensures c.requires.0 (omega arith))

pub shared_ref_as_front-put_list : goal.shared_ref_as_front-put_list
shared_ref_as_front-put_list g c =
    omega (arith, within (fits _ c.args.count c.args.records.now c.in-Some.is c.survey_records.ensures c.requires.0 (omega arith)) c.put_lines-p.ensures)

pub put_list-requires : goal.put_list-requires
put_list-requires g c =
    stands (fits _ c.args.count c.args.records.now c.in-Some.is c.survey_records.ensures c.requires.0 (omega arith)) c.put_lines-p.ensures

pub returns : goal.returns
returns g c = all _ c.args.count c.args.records.now c.in-Some.is c.survey_records.ensures
