-- The letters of the columns not passed and the LF are left to be written.
use Rattle.std.proofs.Common.{◌≡◌, [], ◌∷◌, ◌++◌, map, drop}
use Rattle.lent.proofs.LeftLaws.{Left}
use Rattle.numerals.specs.Render.{lf}
use Rattle.lines.specs.Lines.{letter_of, columns, letters}
use Rattle.lines.proofs.write.put_letters.Given as goal

abbrev pub invariant-loop-f : goal.invariant-loop-f
invariant-loop-f l =
    (l.f-items ≡ columns l.fn.c) × Left l.fn.out l.fn.at (letters l.fn.c) l.out l.at (map letter_of (drop l.f-index l.f-items) ++ (lf ∷ []))
