-- Where a period stands among the tabulated ones: at one of them, or between two neighbours. One computed test says of all twenty gaps
-- that the longer period is from 1.2 to 2 times the shorter. Assumes nothing.
use Prim.Native.Nat.{ℕ, zero, suc, ◌+◌, ◌-◌, ◌*◌, ◌≤◌, ◌<◌, zero-le, suc-le-suc}
use mathlib.Core.Path.{◌≡◌, refl, sym, subst}
use mathlib.Core.Bool.{Bool, true, false}
use mathlib.Core.List.{List, [], ◌∷◌}
use native.Mathlib.Omega.{arith}
use native.Mathlib.Decide.{dec_lt}
use native.Mathlib.Nat.{not-suc-le-zero, le_of_suc-le-suc}
use lib.Dec.{T, leb, eqb, lit<}
use lib.ListN.{get_or, length}
use borrow.Author.Tests.{le-leb, leb-true, leb-false, eqb-false}
use Rattle.exact.proofs.Computed.{run, run-from}
use Rattle.tables.specs.Tables.{periods, period_at}
use Rattle.model.proofs.Fair.{le_all, le-all}
use Rattle.between.specs.Periods.{reached, last_up_to}
use Rattle.between.specs.Fixed.{Gap}

-- ---- how far a list is reached
reached-low : (ps : List ℕ) (t i : ℕ) → i < reached ps t → get_or ps i 0 ≤ t
unfolding reached
reached-low [] t i h = absurd (not-suc-le-zero h)
reached-low (p ∷ ps) t i h = go i (leb p t) refl (reached-low ps t) h
  where
    go :
        (i : ℕ) (b : Bool) → leb p t ≡ b → ((j : ℕ) → j < reached ps t → get_or ps j 0 ≤ t)
        → i < elim b [ true ↦ suc (reached ps t) | false ↦ 0 ]
        → get_or (p ∷ ps) i 0 ≤ t
    go zero true e ih h = leb-true p t e
    go (suc i) true e ih h = ih i (le_of_suc-le-suc h)
    go i false e ih h = absurd (not-suc-le-zero h)

reached-high : (ps : List ℕ) (t : ℕ) → reached ps t < length ps → t < get_or ps (reached ps t) 0
unfolding reached
reached-high [] t h = absurd (not-suc-le-zero h)
reached-high (p ∷ ps) t h = go (leb p t) refl (reached-high ps t) h
  where
    go :
        (b : Bool) → leb p t ≡ b → (reached ps t < length ps → t < get_or ps (reached ps t) 0)
        → elim b [ true ↦ suc (reached ps t) | false ↦ 0 ] < suc (length ps)
        → t < get_or (p ∷ ps) (elim b [ true ↦ suc (reached ps t) | false ↦ 0 ]) 0
    go true e ih h = ih (le_of_suc-le-suc h)
    go false e ih h = leb-false p t e

reached-length : (ps : List ℕ) (t : ℕ) → reached ps t ≤ length ps
unfolding reached
reached-length [] t = zero-le
reached-length (p ∷ ps) t = go (leb p t) (reached-length ps t)
  where
    go : (b : Bool) → reached ps t ≤ length ps → elim b [ true ↦ suc (reached ps t) | false ↦ 0 ] ≤ suc (length ps)
    go true ih = suc-le-suc ih
    go false ih = zero-le

reached-some : (ps : List ℕ) (t : ℕ) → 0 < length ps → get_or ps 0 0 ≤ t → 0 < reached ps t
unfolding reached
reached-some [] t h l = absurd (not-suc-le-zero h)
reached-some (p ∷ ps) t h l = rw (reached, le-leb p t l) (suc-le-suc zero-le)

-- ---- the place of a period
pub record Placed (t i : ℕ) : Type 0 where
  pub below : i < 21
  pub low : period_at i ≤ t
  -- where it is not the measure's own
  pub next-below : eqb (period_at i) t ≡ false → i < 20
  pub high : eqb (period_at i) t ≡ false → t < period_at (i + 1)

pub placed : (t : ℕ) → 10 ≤ t → t ≤ 10000 → Placed t (last_up_to t)
unfolding last_up_to
placed t l h =
    go (reached periods t) (reached-some periods t (lit< tt) l) (reached-length periods t) (reached-low periods t) (reached-high periods t)
  where
    go :
        (r : ℕ) → 0 < r → r ≤ 21 → ((i : ℕ) → i < r → get_or periods i 0 ≤ t) → (r < 21 → t < get_or periods r 0)
        → Placed t (r - 1)
    go r pos top lows highs =
        let below_r : r - 1 < r = omega arith in
        let one : r - 1 + 1 ≡ r = omega arith in
        let not_last : eqb (period_at (r - 1)) t ≡ false → r < 21 = λ e. inner (r - 1) r one top (lows (r - 1) below_r) e in
        record {
          below = omega arith;
          low = lows (r - 1) below_r;
          next-below = λ e. one_less r (not_last e);
          high = λ e. subst (λ (k : ℕ). t < period_at k) (sym one) (highs (not_last e));
        }
      where
        one_less : (r : ℕ) → r < 21 → r - 1 < 20
        one_less r h = omega arith

        -- the last period is 10 s, which t does not pass
        inner : (i r : ℕ) → i + 1 ≡ r → r ≤ 21 → period_at i ≤ t → eqb (period_at i) t ≡ false → r < 21
        inner i r e k g f = either (dec_lt r 21)
          where
            either : Dec (r < 21) → r < 21
            either (yes q) = q
            either (no q) =
                let last : i ≡ 20 = omega arith in
                let g' : 10000 ≤ t = subst (λ (j : ℕ). period_at j ≤ t) last g in
                let f' : eqb 10000 t ≡ false = subst (λ (j : ℕ). eqb (period_at j) t ≡ false) last f in
                absurd (eqb-false 10000 t f' (omega arith))

-- ---- the twenty gaps
gap_facts : ℕ → List (ℕ × ℕ)
gap_facts i =
    (1, period_at i) ∷ (6 * period_at i, 5 * period_at (i + 1)) ∷ (period_at (i + 1), 2 * period_at i) ∷ (period_at (i + 1), 10000) ∷ []

gap_ok : ℕ → Bool
unfolding gap_facts
gap_ok i = le_all (gap_facts i)

all_gaps : T (run gap_ok 0 20)
unfolding gap_ok
all_gaps = tt

pub gap_at : (i : ℕ) → i < 20 → Gap (period_at i) (period_at (i + 1))
unfolding gap_ok
gap_at i h =
    let f = le-all (gap_facts i) (run-from gap_ok 0 20 all_gaps i zero-le (omega arith)) in
    record { some = f.0; apart = f.1.0; wide = f.1.1.0; top = f.1.1.1.0 }
