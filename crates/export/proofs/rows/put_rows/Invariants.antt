-- The rows passed are written one after the other.
use Rattle.std.proofs.Common.{◌≡◌, length, take}
use Rattle.lent.specs.Lent.{Written}
use Rattle.export.specs.Given.{numbers_of}
use Rattle.export.proofs.rows.put_rows.Given as goal

abbrev pub invariant-loop-row : goal.invariant-loop-row
invariant-loop-row l =
    (length l.out ≡ length l.fn.out) × Written l.fn.out 0 (numbers_of (take l.row-index l.row-items)) l.at l.out
