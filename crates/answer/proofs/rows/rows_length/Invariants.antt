-- The lines of the measures passed are counted.
use Rattle.std.proofs.Common.{◌≡◌, ◌*◌, ◌≤◌, length}
use Rattle.answer.specs.RowLines.{row_lines}
use Rattle.answer.proofs.rows.rows_length.Given as goal

abbrev pub invariant-loop-k : goal.invariant-loop-k
invariant-loop-k l = (l.n ≤ 85 * l.k) × (l.n ≡ length (row_lines l.k l.row-items))
