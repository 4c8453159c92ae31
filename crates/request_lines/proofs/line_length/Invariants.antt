-- A space or the LF stands beside each field: the bytes counted and those of what is left are those of the whole.
use Rattle.std.proofs.Common.{◌+◌, ◌*◌, ◌≤◌, ◌≡◌, length}
use Rattle.request_lines.proofs.RestLaws.{rest}
use Rattle.request_lines.proofs.line_length.Given as goal

abbrev pub invariant-loop-f : goal.invariant-loop-f
invariant-loop-f l = (l.n ≤ 23 * l.f-index) × (l.n + length (rest l.f-items l.f-index) ≡ length (rest l.f-items 0))
