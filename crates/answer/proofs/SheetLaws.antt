-- The answer to a line, by what was read. Assumes nothing.
use mathlib.Core.Path.{◌≡◌}
use Prim.Native.Nat.{ℕ}
use mathlib.Core.List.{List}
use Rattle.std.specs.Prelude.{Some, None}
use Rattle.refusals.specs.declared.Refusal.TheVariants as No
use Rattle.request.specs.declared.Request.{Request}
use Rattle.text.specs.Grammar.{line_of}
use Rattle.lines.specs.Lines.{no_line}
use Rattle.answer.specs.declared.Sheet.{Sheet}
use Rattle.answer.specs.Sheets.{sheet_of, answer_to}

module _ (sheet : Sheet) (s : List ℕ) where
  pub malformed-line : line_of s ≡ None → answer_to sheet s ≡ no_line No.Malformed
  unfolding answer_to
  malformed-line e = rw e

  pub request-line : {r : Request} → line_of s ≡ Some r → answer_to sheet s ≡ sheet_of sheet r
  unfolding answer_to
  request-line e = rw e
