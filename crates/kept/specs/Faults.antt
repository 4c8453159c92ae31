-- Why a call does not do what it is asked, and the number by which it is told. Definitions only.
use Rattle.std.specs.Prelude.{ℕ, ◌≡◌, Result, Ok, Err}
use Rattle.refusals.specs.declared.Refusal.{Refusal}
use Rattle.refusals.specs.Order as Order
use Rattle.kept.specs.declared.faults.Fault.{Fault}
use Rattle.kept.specs.declared.faults.Fault.TheVariants.{Misuse, Refused}

-- the number of a call that is wrong in itself, which is no refusal
abbrev pub misuse : ℕ
misuse = 255

abbrev pub number_of : Fault → ℕ
number_of Misuse = misuse
number_of (Refused n) = Order.number_of n

-- what is told: 0, or the fault's number
abbrev pub number_in : {A : Type 0} → Result A Fault → ℕ
number_in (Ok a) = 0
number_in (Err f) = number_of f

-- an answer that may be refused, as one that may have a fault
abbrev pub or_fault : {A : Type 0} → Result A Refusal → Result A Fault
or_fault (Ok a) = Ok a
or_fault (Err n) = Err (Refused n)

-- what a refusal's fault is, and a fault's number, as conversions say it
abbrev pub IsFaultOf : Refusal → Fault → Type 0
IsFaultOf n f = f ≡ Refused n

abbrev pub IsNumberOf : Fault → ℕ → Type 0
IsNumberOf f n = n ≡ number_of f
