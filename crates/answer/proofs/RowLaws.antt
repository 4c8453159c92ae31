-- The lines of measures: how long they are, and one after another. Assumes nothing.
use Prim.Native.Nat.{ℕ, zero, suc, ◌+◌, ◌≤◌, ◌<◌}
use mathlib.Core.Path.{◌≡◌, refl, ap}
use mathlib.Core.Bool.{Bool, true, false}
use mathlib.Core.List.{List, ◌++◌}
use native.Mathlib.Omega.{arith}
use native.Mathlib.Numerals.{add-one}
use borrow.Author.Tests.{ltb-true, ltb-false}
use lib.Dec.{ltb}
use lib.ListN.{length, get_or, length-append}
use Rattle.tables.specs.Tables.{measures}
use Rattle.model.specs.declared.Shown.{Shown}
use Rattle.model.specs.Rows.{no_shown}
use Rattle.lent.specs.Lent.{Written}
use Rattle.lent.proofs.PutLaws.{room_after, then}
use Rattle.numerals.specs.Render.{lf, space, render, render_signed}
use Rattle.numerals.proofs.RenderLaws.{length-ended}
use Rattle.answer.specs.RowLines.{row_line, row_lines}

pub length_row :
    (k : ℕ) (r : Shown)
    → length (row_line k r)
    ≡ length (render k) + length (render_signed r.ln) + length (render r.median) + length (render r.sigma) + 4
unfolding row_line
length_row k r =
    simp length-append
    (omega (arith, length-ended k space, length-ended r.median space, length-ended r.sigma lf))

-- ---- one line after another
module _ (rows : List Shown) where
  pub rows_next : (k : ℕ) → row_lines (k + 1) rows ≡ row_lines k rows ++ row_line k (get_or rows k no_shown)
  unfolding row_lines
  rows_next k = rw (add-one k)

  pub length-next : (k : ℕ) → length (row_lines (k + 1) rows) ≡ length (row_lines k rows) + length (row_line k (get_or rows k no_shown))
  length-next k = rw (rows_next k) (length-append (row_lines k rows) (row_line k (get_or rows k no_shown)))

  -- fewer lines are no longer than more
  pub fewer : (k n : ℕ) → k ≤ n → length (row_lines k rows) ≤ length (row_lines n rows)
  unfolding row_lines
  fewer k zero h = let e : k ≡ 0 = omega arith in rw e (omega arith)
  fewer k (suc n) h = go (ltb n k) refl (fewer k n)
    where
      go : (t : Bool) → ltb n k ≡ t → (k ≤ n → length (row_lines k rows) ≤ length (row_lines n rows)) → length (row_lines k rows) ≤ length (row_lines (suc n) rows)
      go true e ih = let same : k ≡ suc n = omega (arith, ltb-true n k e) in rw same (omega arith)
      go false e ih = omega (arith, ih (ltb-false n k e), length-append (row_lines n rows) (row_line n (get_or rows n no_shown)))

  -- the next line behind those written, where all have room
  module _ {b : List ℕ} {k at : ℕ} {out : List ℕ} (w : Written b 0 (row_lines k rows) at out) (more : k < measures) (room : length (row_lines measures rows) ≤ length b) where
    both : 0 + length (row_lines k rows ++ row_line k (get_or rows k no_shown)) ≤ length b
    both = omega (arith, fewer (k + 1) measures (omega arith), ap length (rows_next k))

    pub row_room : at + length (row_line k (get_or rows k no_shown)) ≤ length out
    row_room = room_after w (row_line k (get_or rows k no_shown)) both

    pub row_then : {r : ℕ} {out₁ : List ℕ} → Written out at (row_line k (get_or rows k no_shown)) r out₁ → Written b 0 (row_lines (k + 1) rows) r out₁
    row_then v = rw (rows_next k) (then w (row_line k (get_or rows k no_shown)) both v)
