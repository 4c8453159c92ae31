-- At a tabulated period the row is that row, the exact one and the one that is reported; elsewhere the one that is reported is drawn
-- between its neighbours. Assumes nothing.
use Prim.Native.Nat.{ℕ, ◌+◌, ◌<◌, zero-le}
use mathlib.Core.Path.{◌≡◌, refl, sym, ap, ◌∙◌}
use mathlib.Core.Bool.{Bool, true, false}
use native.Mathlib.Omega.{arith}
use lib.Dec.{T, eqb, eqb→eq}
use borrow.Author.Tests.{eq-eqb}
use Rattle.exact.proofs.Computed.{run, run-from}
use Rattle.tables.specs.Tables.{period_at}
use Rattle.model.specs.declared.Scenario.{Scenario}
use Rattle.model.specs.Accuracy.{exact_of}
use Rattle.model.specs.Fixed.{fine_fixed, row_fixed}
use Rattle.between.specs.Periods.{covered, last_up_to, exact_from, exact_at}
use Rattle.between.specs.Fixed.{weight_fixed, drawn_fixed, drawn_report, row_from, row_at}

-- its measure is the last that it reaches
itself : ℕ → Bool
unfolding last_up_to
itself i = eqb (last_up_to (period_at i)) i

all_themselves : T (run itself 0 21)
unfolding itself
all_themselves = tt

last-at : (i : ℕ) → i < 21 → last_up_to (period_at i) ≡ i
unfolding itself
last-at i h = eqb→eq (last_up_to (period_at i)) i (run-from itself 0 21 all_themselves i zero-le (omega arith))

-- ---- the row, by the measure i of the last period that is not longer
pub row_at_lem : (t i : ℕ) (x : Scenario) → i ≡ last_up_to t → period_at i ≡ t → row_fixed i x ≡ row_at t x
unfolding row_at row_from
row_at_lem t i x e f = at_once ∙ ap (λ (k : ℕ). row_from k t x) e
  where
    at_once : row_fixed i x ≡ row_from i t x
    at_once = rw (row_from, eq-eqb (period_at i) t f)

pub row_between :
    (t i : ℕ) (x : Scenario) → i ≡ last_up_to t → eqb (period_at i) t ≡ false
    → drawn_report (drawn_fixed (weight_fixed t (period_at i) (period_at (i + 1))) (fine_fixed i x) (fine_fixed (i + 1) x)) ≡ row_at t x
unfolding row_at row_from
row_between t i x e f = at_once ∙ ap (λ (k : ℕ). row_from k t x) e
  where
    at_once :
        drawn_report (drawn_fixed (weight_fixed t (period_at i) (period_at (i + 1))) (fine_fixed i x) (fine_fixed (i + 1) x)) ≡ row_from i t x
    at_once = rw (row_from, f)

exact_at_lem : (t i : ℕ) (x : Scenario) → i ≡ last_up_to t → period_at i ≡ t → exact_of i x ≡ exact_at t x
unfolding exact_at exact_from
exact_at_lem t i x e f = at_once ∙ ap (λ (k : ℕ). exact_from k t x) e
  where
    at_once : exact_of i x ≡ exact_from i t x
    at_once = rw (exact_from, eq-eqb (period_at i) t f)

-- ---- at a tabulated period
all-covered : T (run (λ (i : ℕ). covered (period_at i)) 0 21)
all-covered = tt

is_true : (b : Bool) → T b → b ≡ true
is_true true t = refl
is_true false t = absurd t

pub tabulated_covered : (i : ℕ) → i < 21 → covered (period_at i) ≡ true
tabulated_covered i h = is_true (covered (period_at i)) (run-from (λ (k : ℕ). covered (period_at k)) 0 21 all-covered i zero-le (omega arith))

pub tabulated_row : (i : ℕ) (x : Scenario) → i < 21 → row_at (period_at i) x ≡ row_fixed i x
tabulated_row i x h = sym (row_at_lem (period_at i) i x (sym (last-at i h)) refl)

pub tabulated_exact : (i : ℕ) (x : Scenario) → i < 21 → exact_at (period_at i) x ≡ exact_of i x
tabulated_exact i x h = sym (exact_at_lem (period_at i) i x (sym (last-at i h)) refl)
