-- The reader lent is as it was, and `Going`: the rest of the part makes of the reader and the text so far what the whole part makes of the reader
-- at its start.
use Rattle.std.proofs.Common.{◌≡◌}
use Rattle.lists.proofs.PartLaws.{Going}
use Rattle.lists.proofs.take_part.Given as goal

abbrev pub invariant-loop-i : goal.invariant-loop-i
invariant-loop-i l = (l.reader ≡ l.fn.reader) × Going l.sheet l.part l.fn.out l.fn.reader l.now l.out l.wrote l.i
