-- The fields read so far, with those of the rest, are the whole line's.
use Rattle.text.proofs.FieldLaws.{Part}
use Rattle.text.proofs.read.read_line.Given as goal

abbrev pub invariant-loop-k : goal.invariant-loop-k
invariant-loop-k l = Part l.s l.got l.k l.rest
