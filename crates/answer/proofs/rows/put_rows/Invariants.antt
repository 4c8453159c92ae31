-- The lines of the measures passed are written.
use Rattle.std.proofs.Common.{◌≡◌, length}
use Rattle.lent.specs.Lent.{Written}
use Rattle.answer.specs.RowLines.{row_lines}
use Rattle.answer.proofs.rows.put_rows.Given as goal

abbrev pub invariant-loop-k : goal.invariant-loop-k
invariant-loop-k l = (length l.out ≡ length l.fn.out) × Written l.fn.out 0 (row_lines l.k l.row-items) l.at l.out
