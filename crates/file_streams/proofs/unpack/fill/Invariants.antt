-- What came is within the buffer. The measure is what has not come.
use Rattle.std.proofs.Common.{◌-◌, ◌≤◌, length}
use Rattle.file_streams.proofs.unpack.fill.Given as goal

abbrev pub invariant-loop-n : goal.invariant-loop-n
invariant-loop-n g l = l.n ≤ length l.buffer

abbrev pub decreases-loop-n : goal.decreases-loop-n
decreases-loop-n g l = length l.buffer - l.n
