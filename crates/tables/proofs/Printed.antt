-- What 003 says of its own numbers, computed of the specs' copy: the totals of Table 3 are roots of sums of squares (equations 16
-- and 18), each right to the printed digit, and PGA has the numbers of 0.010 s in both tables. Assumes nothing.
use Prim.Native.Nat.{ℕ, zero, suc, ◌+◌, ◌*◌, ◌-◌}
use mathlib.Core.Path.{◌≡◌, refl}
use mathlib.Core.Bool.{Bool, true, ◌&&◌}
use mathlib.Core.List.{List, [], ◌∷◌}
use lib.Dec.{T, leb, leb→le}
use lib.Ieee.Fits.{and_l, and_r}
use lib.ListN.{get_or}
use Rattle.tables.specs.declared.Deviations.{Deviations}
use Rattle.tables.specs.Tables.{table2, table3, no_deviations, coefficients_at, deviations_at}
use Rattle.tables.specs.Totals.{square, RootOf, total, arbitrary}

-- the test of `RootOf`
abbrev is_root : ℕ → ℕ → Bool
is_root n r = leb (square (2 * r - 1)) (4 * n) && leb (4 * n) (square (2 * r + 1))

-- the test says what `RootOf` says
root_is : (n r : ℕ) → T (is_root n r) → RootOf n r
root_is n r t =
    let low : Bool = leb (square (2 * r - 1)) (4 * n) in
    let high : Bool = leb (4 * n) (square (2 * r + 1)) in
    (leb→le _ _ (and_l low high t), leb→le _ _ (and_r low high t))

-- the test of a row: sT and sArb are the two roots
abbrev sums : Deviations → Bool
sums r = is_root (total r) r.sT && is_root (arbitrary r) r.sArb

-- the test of every row
abbrev every : List Deviations → Bool
every [] = true
every (r ∷ rows) = sums r && every rows

-- so each row passes, and so do the zeros past the end
every-at : (rows : List Deviations) → T (every rows) → (i : ℕ) → T (sums (get_or rows i no_deviations))
every-at [] t i = tt
every-at (r ∷ rows) t zero = and_l (sums r) (every rows) t
every-at (r ∷ rows) t (suc i) = every-at rows (and_r (sums r) (every rows) t) i

module _ (i : ℕ) where
  -- Table 3 passes, which is computed, and so its row i does
  tested : T (sums (deviations_at i))
  unfolding deviations_at table3
  tested = every-at table3 tt i

  -- equation 16: the printed total is the root of s² + t²
  pub total-root : RootOf (total (deviations_at i)) (deviations_at i).sT
  total-root =
      let r : Deviations = deviations_at i in
      root_is (total r) r.sT (and_l (is_root (total r) r.sT) (is_root (arbitrary r) r.sArb) tested)

  -- equation 18: the printed sArb is the root of that and sC²
  pub arbitrary-root : RootOf (arbitrary (deviations_at i)) (deviations_at i).sArb
  arbitrary-root =
      let r : Deviations = deviations_at i in
      root_is (arbitrary r) r.sArb (and_r (is_root (total r) r.sT) (is_root (arbitrary r) r.sArb) tested)

-- PGA has the coefficients of 0.010 s
pub pga_coefficients : coefficients_at 21 ≡ coefficients_at 0
unfolding coefficients_at table2
pga_coefficients = refl

-- and its deviations
pub pga_deviations : deviations_at 21 ≡ deviations_at 0
unfolding deviations_at table3
pga_deviations = refl
