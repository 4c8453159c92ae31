-- The lines so far and those of the rest are the list's, and none so far is malformed. The measure is what is left of the list.
use Rattle.std.proofs.Common.{◌≡◌, ◌+◌, ◌-◌, ◌≤◌, length, drop}
use Rattle.list_lines.specs.ListLines.{lines_of, all_read}
use Rattle.list_lines.proofs.survey_lines.Given as goal

abbrev pub invariant-loop-at : goal.invariant-loop-at
invariant-loop-at l =
    (l.at ≤ length l.s) × (l.n ≤ l.at) × (all_read (lines_of (drop l.at l.s)) ≡ all_read (lines_of l.s))
    × (l.n + length (lines_of (drop l.at l.s)) ≡ length (lines_of l.s))

abbrev pub decreases-loop-at : goal.decreases-loop-at
decreases-loop-at l = length l.s - l.at
