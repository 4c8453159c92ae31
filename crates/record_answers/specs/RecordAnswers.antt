-- What is answered to a record of a file for site lists, on the sheet that is asked for. Definitions only.
use Rattle.std.specs.Prelude.{ℕ, cond, List, ltb, length, take, Option, Some, None, Result, Ok, Err}
use Rattle.refusals.specs.declared.Refusal.TheVariants as No
use Rattle.request.specs.declared.Request.{Request}
use Rattle.records.specs.Records.{record_size, record_in}
use Rattle.site_files.specs.Given.{ToldBy}
use Rattle.answer.specs.declared.Sheet.{Sheet}
use Rattle.answer.specs.Sheets.{sheet_of}
use Rattle.kept.specs.declared.faults.Fault.{Fault}
use Rattle.kept.specs.declared.faults.Fault.TheVariants.{Misuse, Refused}
use Rattle.kept.specs.Faults.{number_of}

-- to what was read: the lines of its request
unfoldable pub made_of : Sheet → Option Request → Result (List ℕ) Fault
unfolding sheet_of
made_of sheet (Some r) = Ok (sheet_of sheet r)
made_of sheet None = Err (Refused No.FileField)

-- to a record, read from the first bytes: too few of them are misuse, and so is a number that is no sheet's
unfoldable pub record_reply : Option Sheet → List ℕ → Result (List ℕ) Fault
unfolding made_of record_in
record_reply None s = Err Misuse
record_reply (Some sheet) s = cond (ltb (length s) record_size) (Err Misuse) (made_of sheet (record_in (take record_size s)))

-- what is promised of that, as `Told` says it of writer and reader
abbrev pub RecordTold : Result (List ℕ) Fault → List ℕ → ℕ → ℕ → List ℕ → ℕ → Type 0
RecordTold m b w n b₁ w₁ = ToldBy Refused number_of m b w n b₁ w₁
