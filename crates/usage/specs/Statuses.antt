-- How a program ends, and the exit status of each end. Definitions only.
use Rattle.std.specs.Prelude.{ℕ, ◌≤◌, ◌≡◌, Result, Ok, Err}
use Rattle.usage.specs.declared.Status.{Status}
use Rattle.usage.specs.declared.Status.TheVariants as S
use Rattle.usage.specs.declared.Asked.{Asked}
use Rattle.usage.specs.declared.Asked.TheVariants as A

-- the exit status
abbrev pub number_of : Status → ℕ
number_of S.Done = 0
number_of S.Failed = 1
number_of S.Misused = 2

-- as a conversion says it
abbrev pub IsStatusOf : Status → ℕ → Type 0
IsStatusOf status n = n ≡ number_of status

-- of a run: 0 where what was asked was done to its end, else 1
abbrev pub status_of : {E : Type 0} → Result (Unit {0}) E → Status
status_of (Ok u) = S.Done
status_of (Err e) = S.Failed

-- 2 where the arguments are misused and nowhere else
abbrev pub EndsAs : {T : Type 0} → Asked T → Status → Type 0
EndsAs (A.Run task) status = number_of status ≤ 1
EndsAs A.Help status = number_of status ≤ 1
EndsAs A.Misused status = number_of status ≡ 2

-- where a program is run: as what the run answered says
abbrev pub AnswersAs : {T E : Type 0} → (T → Result (Unit {0}) E → Type 0) → Asked T → Status → Type 0
AnswersAs {E = E} answer (A.Run task) status = (end : Result (Unit {0}) E) × answer task end × (status ≡ status_of end)
AnswersAs answer A.Help status = Unit {0}
AnswersAs answer A.Misused status = Unit {0}
