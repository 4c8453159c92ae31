-- What is counted and what the figures left are long make up the line.
use Rattle.std.proofs.Common.{◌≡◌, ◌+◌, ◌*◌, ◌≤◌, length, drop}
use Rattle.lines.specs.Lines.{ok_line, columns}
use Rattle.lines.proofs.LineLaws.{figures}
use Rattle.lines.proofs.write.ok_length.Given as goal

abbrev pub invariant-loop-f : goal.invariant-loop-f
invariant-loop-f l =
    (l.f-items ≡ columns l.fn.c) × (l.n ≤ 9 + 21 * l.f-index) × (l.n + length (figures (drop l.f-index l.f-items)) ≡ length (ok_line l.fn.c))
