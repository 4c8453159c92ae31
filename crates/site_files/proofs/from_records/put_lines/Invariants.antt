-- The lines of the records passed are written, and those of the rest are left.
use Rattle.lent.proofs.LeftLaws.{Left}
use Rattle.site_files.specs.Format.{records_in}
use Rattle.site_files.proofs.RecordSteps.{left, text_of}
use Rattle.site_files.proofs.from_records.put_lines.Given as goal

abbrev pub invariant-loop-k : goal.invariant-loop-k
invariant-loop-k l =
    Left l.initial.b 0 (text_of (records_in l.count l.s)) l.b l.p (text_of (left l.count l.s l.k))
