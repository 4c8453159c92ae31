-- What is answered to a record, test by test. Assumes nothing.
use Prim.Native.Nat.{ℕ, ◌≤◌, ◌<◌}
use mathlib.Core.Path.{◌≡◌, refl}
use mathlib.Core.List.{List}
use borrow.Author.Tests.{lt-ltb, le-ltb}
use lib.ListN.{length, take}
use Rattle.std.specs.Prelude.{Option, Some, None, Ok, Err}
use Rattle.refusals.specs.declared.Refusal.TheVariants as No
use Rattle.request.specs.declared.Request.{Request}
use Rattle.records.specs.Records.{record_size, record_in}
use Rattle.answer.specs.declared.Sheet.{Sheet}
use Rattle.answer.specs.Sheets.{sheet_of}
use Rattle.kept.specs.declared.faults.Fault.TheVariants.{Misuse, Refused}
use Rattle.record_answers.specs.RecordAnswers.{made_of, record_reply}

module _ (s : List ℕ) where
  pub reply_short : (a : Option Sheet) → length s < record_size → record_reply a s ≡ Err Misuse
  unfolding record_reply
  reply_short None h = refl
  reply_short (Some sheet) h = rw (lt-ltb (length s) record_size h)

  pub reply_none : {a : Option Sheet} → a ≡ None → record_reply a s ≡ Err Misuse
  unfolding record_reply
  reply_none e = rw e

  module _ {a : Option Sheet} {sheet : Sheet} (h : record_size ≤ length s) (e : a ≡ Some sheet) where
    pub reply_request : {r : Request} → record_in (take record_size s) ≡ Some r → record_reply a s ≡ Ok (sheet_of sheet r)
    unfolding record_reply made_of
    reply_request q = rw (e, le-ltb (length s) record_size h, q)

    pub reply_malformed : record_in (take record_size s) ≡ None → record_reply a s ≡ Err (Refused No.FileField)
    unfolding record_reply made_of
    reply_malformed q = rw (e, le-ltb (length s) record_size h, q)
