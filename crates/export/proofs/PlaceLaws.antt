-- The numbers of rows one after another: how many there are, a row after those passed is one more, and column j of row k stands at 6k + j.
-- Assumes nothing.
use Prim.Native.Nat.{ℕ, zero, suc, ◌+◌, ◌*◌, ◌≤◌, ◌<◌}
use mathlib.Core.Path.{◌≡◌, refl, sym, ap, ◌∙◌}
use mathlib.Core.List.{List, [], ◌∷◌, ◌++◌, append_assoc}
use native.Mathlib.Omega.{arith}
use native.Mathlib.Numerals.{add-one}
use lib.ListN.{length, get_or, take}
use lib.Seq.{length-take-le, take_at, take-suc, get_or-take, get_or-append-add}
use lib.Ieee.{Float, nan}
use Rattle.prediction.specs.declared.floats.FloatRow.{FloatRow}
use Rattle.prediction.specs.Floats.{no_floats}
use Rattle.lent.specs.Lent.{Written}
use Rattle.lent.proofs.PutLaws.{room_after, then}
use Rattle.row_numbers.specs.RowNumbers.{row_numbers}
use Rattle.export.specs.Given.{numbers_of}

-- ---- the rows
pub length_numbers : (rows : List FloatRow) → length (numbers_of rows) ≡ 6 * length rows
unfolding numbers_of row_numbers
length_numbers [] = refl
length_numbers (r ∷ rows) = omega (arith, length_numbers rows)

numbers_snoc : (rows : List FloatRow) (r : FloatRow) → numbers_of (rows ++ (r ∷ [])) ≡ numbers_of rows ++ row_numbers r
unfolding numbers_of row_numbers
numbers_snoc [] r = refl
numbers_snoc (x ∷ rows) r = ap (λ (l : List Float). row_numbers x ++ l) (numbers_snoc rows r) ∙ sym (append_assoc (row_numbers x) (numbers_of rows) (row_numbers r))

-- ---- row after row
module _ (rows : List FloatRow) (k : ℕ) (h : k < length rows) where
  pub numbers_next : numbers_of (take (k + 1) rows) ≡ numbers_of (take k rows) ++ row_numbers (get_or rows k no_floats)
  numbers_next = rw (add-one k, take-suc rows k no_floats h) (numbers_snoc (take k rows) (get_or rows k no_floats))

  -- the next row behind those passed, where all have room
  module _ {b : List Float} {at : ℕ} {out : List Float} (w : Written b 0 (numbers_of (take k rows)) at out) (room : length (numbers_of rows) ≤ length b) where
    both : 0 + length (numbers_of (take k rows) ++ row_numbers (get_or rows k no_floats)) ≤ length b
    both =
        omega (
          arith,
          ap length numbers_next,
          length_numbers (take (k + 1) rows),
          length-take-le (k + 1) rows (omega arith),
          length_numbers rows,
        )

    pub row_room : at + length (row_numbers (get_or rows k no_floats)) ≤ length out
    row_room = room_after w (row_numbers (get_or rows k no_floats)) both

    pub row_then : {r : ℕ} {out₁ : List Float} → Written out at (row_numbers (get_or rows k no_floats)) r out₁ → Written b 0 (numbers_of (take (k + 1) rows)) r out₁
    row_then v = rw numbers_next (then w (row_numbers (get_or rows k no_floats)) both v)

-- ---- what stands where
-- column j of row k
pub number_at :
    (rows : List FloatRow) (k j : ℕ) → k < length rows → j < 6
    → get_or (numbers_of rows) (6 * k + j) nan ≡ get_or (row_numbers (get_or rows k no_floats)) j nan
unfolding numbers_of row_numbers
number_at [] k j h i = absurd (omega arith)
number_at (r ∷ rows) zero j h i =
    let e : 6 * zero + j ≡ j = omega arith in
    ap (λ (n : ℕ). get_or (row_numbers r ++ numbers_of rows) n nan) e
    ∙ sym (get_or-take 6 (row_numbers r ++ numbers_of rows) j nan i)
    ∙ ap (λ (l : List Float). get_or l j nan) (take_at (row_numbers r) (numbers_of rows) 6 refl)
number_at (r ∷ rows) (suc k) j h i =
    let e : 6 * suc k + j ≡ 6 + (6 * k + j) = omega arith in
    ap (λ (n : ℕ). get_or (row_numbers r ++ numbers_of rows) n nan) e
    ∙ get_or-append-add (row_numbers r) (numbers_of rows) (6 * k + j) nan
    ∙ number_at rows k j (omega arith) i
