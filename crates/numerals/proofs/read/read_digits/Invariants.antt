-- The number so far, with the digits that are left, makes the whole.
use Rattle.std.proofs.Common.{drop, ◌≤◌, ◌≡◌}
use Rattle.numerals.specs.Plain.{largest}
use Rattle.numerals.proofs.PlainLaws.{Read}
use Rattle.numerals.proofs.read.read_digits.Given as goal

abbrev pub invariant-loop-c : goal.invariant-loop-c
invariant-loop-c l = (l.n ≤ largest) × (Read l.n (drop l.c-index l.s) ≡ Read 0 l.s)
