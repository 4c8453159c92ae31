-- The measure is how many records are left.
use Rattle.file_streams.proofs.unpack.unpack_records.Given as goal

abbrev pub decreases-loop-left : goal.decreases-loop-left
decreases-loop-left g l = l.left
