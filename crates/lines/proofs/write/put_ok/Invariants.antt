-- The figures not passed and the letters are left to be written.
use Rattle.std.proofs.Common.{◌≡◌, ◌++◌, drop}
use Rattle.lent.proofs.LeftLaws.{Left}
use Rattle.lines.specs.Lines.{ok_line, columns, letters}
use Rattle.lines.proofs.LineLaws.{figures}
use Rattle.lines.proofs.write.put_ok.Given as goal

abbrev pub invariant-loop-f : goal.invariant-loop-f
invariant-loop-f l =
    (l.f-items ≡ columns l.c) × Left l.fn.out 0 (ok_line l.c) l.out l.at (figures (drop l.f-index l.f-items) ++ letters l.c)
