-- The records of the lines passed are written, and those of the rest are left. The measure is what is left of the list.
use Rattle.std.proofs.Common.{◌-◌, ◌≤◌, length, drop}
use Rattle.lent.proofs.LeftLaws.{Left}
use Rattle.site_files.proofs.Pieces.{records_at}
use Rattle.site_files.proofs.from_lines.put_records.Given as goal

abbrev pub invariant-loop-at : goal.invariant-loop-at
invariant-loop-at l =
    (l.at ≤ length l.list) × Left l.initial.b l.first (records_at l.list) l.b l.p (records_at (drop l.at l.list))

abbrev pub decreases-loop-at : goal.decreases-loop-at
decreases-loop-at l = length l.list - l.at
