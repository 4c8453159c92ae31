-- A block's lines are counted up to one more than a file has; a run ends as its last read says. Of the system it is assumed that each call
-- returns.
use mathlib.Core.Path.{subst}
use Rattle.file_streams.specs.Ends.{block_size, StepEnds}
use Rattle.file_streams.proofs.EndLaws.{taken_ends, read_end}
use Rattle.file_streams.proofs.pack.read_list.Goals as goal

pub returns-in_default : goal.returns-in_default
returns-in_default g c =
    read_end block_size c.loop.held.count c.loop.count c.read_behind-read.result c.end_read.result c.read_behind-read.ensures.0 c.end_read.ensures

pub loop-preserved : goal.loop-preserved
loop-preserved g c = subst StepEnds c.in_ok-count.was (taken_ends c.take_block.ensures)
