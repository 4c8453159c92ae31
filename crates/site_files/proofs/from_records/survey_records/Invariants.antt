-- The bytes so far and those of the rest are those of the lines of all records, and none so far is malformed.
use Rattle.std.proofs.Common.{◌≡◌, ◌+◌, ◌*◌, ◌≤◌, length}
use Rattle.list_lines.specs.ListLines.{all_read}
use Rattle.site_files.specs.Format.{records_in}
use Rattle.site_files.proofs.RecordSteps.{left, text_of}
use Rattle.site_files.proofs.from_records.survey_records.Given as goal

abbrev pub invariant-loop-k : goal.invariant-loop-k
invariant-loop-k l =
    (l.size ≤ 299 * l.k) × (all_read (left l.count l.s l.k) ≡ all_read (records_in l.count l.s))
    × (l.size + length (text_of (left l.count l.s l.k)) ≡ length (text_of (records_in l.count l.s)))
