-- What is left of the line, once it is written too, makes the whole.
use Rattle.std.proofs.Common.{◌≡◌, length}
use Rattle.lent.proofs.LeftLaws.{Left}
use Rattle.request_lines.proofs.RestLaws.{rest}
use Rattle.request_lines.proofs.put_line.Given as goal

abbrev pub invariant-loop-f : goal.invariant-loop-f
invariant-loop-f l =
    (length l.b ≡ length l.fn.b) × Left l.initial.b l.initial.p (rest l.f-items 0) l.b l.p (rest l.f-items l.f-index)
