-- The loop's invariant: the place is within the block, the lent bytes are enough for the longest answer, and the rest of the block makes
-- of the reader what the block makes of the first. The measure is how many bytes of the block are left: with that room each call takes
-- one at least.
use Rattle.std.proofs.Common.{length, ◌-◌, ◌≤◌, ◌≡◌}
use lib.ListN.{drop}
use Rattle.answer.specs.Sheets.{longest_answer}
use Rattle.filter.specs.Turns.{reader_after}
use Rattle.filter.proofs.answer_block.Given as goal

abbrev pub invariant-loop-at : goal.invariant-loop-at
invariant-loop-at g l = record {
  within : l.at ≤ length l.block;
  enough : longest_answer l.sheet ≤ length l.out;
  same : reader_after l.now (drop l.at l.block) ≡ reader_after l.reader l.block;
}

abbrev pub decreases-loop-at : goal.decreases-loop-at
decreases-loop-at g l = length l.block - l.at
