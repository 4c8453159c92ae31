-- The reader is a new one after the list so far, and the lent bytes are enough for the longest answer.
use Rattle.std.proofs.Common.{length, ◌≤◌}
use Rattle.answer.specs.Sheets.{longest_answer}
use Rattle.lists.specs.Parts.{new_reader}
use Rattle.filter.specs.Turns.{Took}
use Rattle.filter.proofs.read_list.Given as goal

abbrev pub invariant-loop : goal.invariant-loop
invariant-loop g l = Took new_reader l.reader × (longest_answer l.sheet ≤ length l.out)
