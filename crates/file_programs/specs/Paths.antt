-- What the arguments of a program with two paths ask for, and how a run of it ends. Definitions only.
use Rattle.std.specs.Prelude.{ℕ, Bool, cond, eqb, Result, Ok, Err, IsErr}
use Rattle.failures.specs.declared.Failed.{Failed}
use Rattle.file_streams.specs.declared.Failure.{Failure}
use Rattle.usage.specs.declared.Asked.{Asked}
use Rattle.usage.specs.declared.Asked.TheVariants as A

-- so many arguments, the program's own name counted: the word for help alone, or two paths
abbrev pub asked_of : ℕ → Bool → Asked (Unit {0})
asked_of count isHelp = cond (eqb count 3) (A.Run tt) (cond (eqb count 2) (cond isHelp A.Help A.Misused) A.Misused)

-- the end of a run: never well where it is refused or the system failed
abbrev pub Finished : Result (Unit {0}) Failure → Result (Unit {0}) Failed → Type 0
Finished (Ok u) end = Unit {0}
Finished (Err f) end = IsErr end
