-- A whole number of at most 2^53 is an f64, so that the rows for the drawing program are the spectrum's own and nothing is lost.
-- Assumes nothing.
use Prim.Native.Nat.{ℕ, zero, suc, ◌≤◌, ◌<◌}
use mathlib.Core.Path.{◌≡◌, refl, sym, ap, subst, subst₂, ◌∙◌}
use mathlib.Core.Bool.{true, false}
use mathlib.Core.List.{List, [], ◌∷◌, map}
use native.Mathlib.Omega.{arith}
use lib.Dec.{T, le→leb, lt→ltb}
use lib.IntN.{ℤ, pos, negsuc, nat_abs}
use lib.ListN.{length, get_or, length-map}
use lib.Ieee.{binary64, in_float, of_int}
use lib.Ieee.Back.{round_whole}
use Rattle.std.specs.Prelude.{Result, Ok, Err}
use Rattle.refusals.specs.declared.Refusal.{Refusal}
use Rattle.request.specs.declared.Request.{Request}
use Rattle.outcome.specs.Answers.{completion_of}
use Rattle.model.specs.declared.Row.{Row}
use Rattle.model.specs.Rows.{no_row}
use Rattle.prediction.specs.declared.floats.FloatRow.{FloatRow}
use Rattle.prediction.specs.Spectra.{spectrum_of, rows_in, figures_as, figures_in}
use Rattle.prediction.specs.Sizes.{Small}
use Rattle.prediction.specs.Floats.{Is, Same, float, floats_of, no_floats, float_spectrum_of, float_figures_in}
use Rattle.prediction.proofs.RowLaws.{told_rows, told_figures, told_refused}
use Rattle.prediction.proofs.DemandThree.{twenty_four, rows-small, rows_in-small, refused-rows}

-- ---- one number
pub whole_in_float : (z : ℤ) → nat_abs z ≤ 9007199254740992 → T (in_float binary64 z)
unfolding in_float
whole_in_float (pos n) h = le→leb n 9007199254740992 h
whole_in_float (negsuc n) h = lt→ltb n 9007199254740992 h

pub float_is : (z : ℤ) → nat_abs z ≤ 9007199254740992 → Is (float z) z
unfolding of_int
float_is (pos n) h = round_whole binary64 false n h
float_is (negsuc n) h = round_whole binary64 true (suc n) h

-- ---- a row
pub row_same : (r : Row) → Small r → Same (floats_of r) r
unfolding floats_of
row_same r s =
    record {
      ln = float_is r.ln (omega (arith, s.ln));
      median = float_is (pos r.median) (omega (arith, s.median));
      intra = float_is (pos r.intra) (omega (arith, s.intra));
      inter = float_is (pos r.inter) (omega (arith, s.inter));
      total = float_is (pos r.total) (omega (arith, s.total));
      arbitrary = float_is (pos r.arbitrary) (omega (arith, s.arbitrary));
    }

-- ---- the rows
-- those of the spectrum, and zeros beside a refusal
pub float_figures : (r : Request) → float_figures_in (float_spectrum_of r) ≡ map floats_of (figures_in (spectrum_of r))
unfolding float_spectrum_of
float_figures r = told_figures floats_of r

pub float-length : (r : Request) → length (float_figures_in (float_spectrum_of r)) ≡ 24
float-length r = rw (float_figures r) (length-map (figures_in (spectrum_of r)) floats_of ∙ twenty_four r)

map_at : (rows : List Row) (k : ℕ) → k < length rows → get_or (map floats_of rows) k no_floats ≡ floats_of (get_or rows k no_row)
map_at [] k h = absurd (omega arith)
map_at (r ∷ rows) zero h = refl
map_at (r ∷ rows) (suc k) h = map_at rows k (omega arith)

pub float_at :
    (r : Request) (k : ℕ) → k < 24
    → get_or (float_figures_in (float_spectrum_of r)) k no_floats ≡ floats_of (get_or (figures_in (spectrum_of r)) k no_row)
float_at r k h = rw (float_figures r) (map_at (figures_in (spectrum_of r)) k (omega (arith, twenty_four r)))

-- every field of every row is the spectrum's whole number
pub nothing_lost :
    (r : Request) (k : ℕ) → k < 24
    → Same (get_or (float_figures_in (float_spectrum_of r)) k no_floats) (get_or (figures_in (spectrum_of r)) k no_row)
nothing_lost r k h = rw (float_at r k h) (row_same (get_or (figures_in (spectrum_of r)) k no_row) (rows-small r k h))

-- and so it is of an answer's rows: all 24, each the spectrum's, nothing lost
pub answer_length : (r : Request) (rows : List FloatRow) → float_spectrum_of r ≡ Ok rows → length rows ≡ 24
unfolding figures_as
answer_length r rows s = ap (λ (a : Result (List FloatRow) Refusal). length (float_figures_in a)) (sym s) ∙ float-length r

pub answer_at :
    (r : Request) (rows : List FloatRow) (k : ℕ) → float_spectrum_of r ≡ Ok rows → k < 24
    → get_or rows k no_floats ≡ floats_of (get_or (rows_in (spectrum_of r)) k no_row)
unfolding float_spectrum_of figures_as
answer_at r rows k s h =
    let f = told_rows floats_of r rows s in
    rw f.1
    (subst₂
    (λ (a : Result (List FloatRow) Refusal) (b : Result (List Row) Refusal). get_or (float_figures_in a) k no_floats ≡ floats_of (get_or (figures_in b) k no_row))
    s f.1 (float_at r k h))

pub answer_whole :
    (r : Request) (rows : List FloatRow) (k : ℕ) → float_spectrum_of r ≡ Ok rows → k < 24
    → Same (get_or rows k no_floats) (get_or (rows_in (spectrum_of r)) k no_row)
answer_whole r rows k s h =
    rw (answer_at r rows k s h) (row_same (get_or (rows_in (spectrum_of r)) k no_row) (rows_in-small r k h))

-- of a refused request, zeros
pub refused_zeros :
    (r : Request) (n : Refusal) (k : ℕ) → completion_of r ≡ Err n → k < 24
    → Same (get_or (float_figures_in (float_spectrum_of r)) k no_floats) no_row
refused_zeros r n k e h =
    subst (λ (w : Row). Same (get_or (float_figures_in (float_spectrum_of r)) k no_floats) w) (refused-rows r n k e h)
    (nothing_lost r k h)

-- a refused request has its refusal
pub float_refused : (r : Request) (n : Refusal) → completion_of r ≡ Err n → float_spectrum_of r ≡ Err n
unfolding float_spectrum_of
float_refused r n e = told_refused floats_of r n e
