-- A writer's only refusal; the line that a reader holds: whole, or too long for a line and so malformed; and what an unfinished one is owed at the end.
-- Assumes nothing.
use Prim.Native.Nat.{ℕ, ◌+◌, ◌≤◌, ◌<◌}
use mathlib.Core.Path.{◌≡◌, refl, ap, ◌∙◌}
use mathlib.Core.Bool.{Bool, true, false}
use mathlib.Core.List.{List, []}
use native.Mathlib.Omega.{arith}
use borrow.Author.Tests.{lt-ltb, le-ltb, ltb-true, ltb-false, ne_eqb}
use lib.Dec.{ltb}
use lib.ListN.{length, take, replicate, length-replicate}
use lib.Seq.{length-take-le}
use Rattle.std.specs.Prelude.{Result, Ok, Err}
use Rattle.refusals.specs.declared.Refusal.{Refusal}
use Rattle.refusals.specs.declared.Refusal.TheVariants as No
use Rattle.lent.specs.Lent.{wrote, LentWritten}
use Rattle.lent.proofs.WroteLaws.{nothing_written, refused_full}
use Rattle.text.specs.Grammar.{longest}
use Rattle.text.proofs.FieldLaws.{too_long}
use Rattle.lines.specs.Lines.{no_line}
use Rattle.answer.specs.declared.Sheet.{Sheet}
use Rattle.answer.specs.Sheets.{answer_to}
use Rattle.answer.proofs.SheetLaws.{malformed-line}
use Rattle.lists.specs.declared.Reader.{Reader}
use Rattle.lists.specs.Whole.{ending}
use Rattle.lists.specs.Parts.{held_line, line_in, closing}

-- a writer refuses with no other number
pub refused_number : (room : ℕ) (s : List ℕ) (n : Refusal) → Err n ≡ wrote room s → n ≡ No.TooLong
unfolding wrote
refused_number room s n e =
    let same : wrote room s ≡ Err No.TooLong = rw (lt-ltb room (length s) (refused_full room s n e)) in
    cc

-- ---- the line
module _ (held : List ℕ) (count : ℕ) where
  pub held_over : longest < count → held_line held count ≡ replicate (longest + 1) 0
  unfolding held_line
  held_over h = rw (lt-ltb longest count h)

  pub held_whole : count ≤ longest → held_line held count ≡ take count held
  unfolding held_line
  held_whole h = rw (le-ltb longest count h)

-- a line too long is malformed
pub over_answer : (sheet : Sheet) (s : List ℕ) → longest < length s → answer_to sheet s ≡ no_line No.Malformed
over_answer sheet s h = malformed-line sheet s (too_long s h)

pub over_held : (sheet : Sheet) (held : List ℕ) (count : ℕ) → longest < count → answer_to sheet (held_line held count) ≡ no_line No.Malformed
over_held sheet held count h =
    ap (answer_to sheet) (held_over held count h)
    ∙ over_answer sheet (replicate (longest + 1) 0) (omega (arith, length-replicate {A = ℕ} (longest + 1) 0))

-- ---- at the end of a list
closing_none : (r : Reader) → r.count ≡ 0 → closing r ≡ []
unfolding closing ending
closing_none r e = rw (ap length (held_whole r.held r.count (omega arith)), e)

pub nothing_owed : (r : Reader) (b : List ℕ) → r.count ≡ 0 → LentWritten b (closing r) (Ok 0) b
nothing_owed r b e = rw (closing_none r e) (nothing_written b)

-- a line has bytes
some-held : (r : Reader) → length r.held ≡ longest → 0 < r.count → 0 < length (line_in r)
some-held r l h = go (ltb longest r.count) refl
  where
    go : (t : Bool) → ltb longest r.count ≡ t → 0 < length (line_in r)
    go true e = omega (arith, ap length (held_over r.held r.count (ltb-true longest r.count e)), length-replicate {A = ℕ} (longest + 1) 0)
    go false e =
        let k = ltb-false longest r.count e in
        omega (arith, ap length (held_whole r.held r.count k), length-take-le r.count r.held (omega arith))

pub closing_some : (r : Reader) → length r.held ≡ longest → 0 < r.count → closing r ≡ no_line No.Malformed
unfolding closing ending
closing_some r l h = rw (ne_eqb (length (line_in r)) 0 (λ e. omega (arith, some-held r l h)))
