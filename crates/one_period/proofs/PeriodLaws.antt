-- The row at a period of an accepted request is as near the exact one as demand 3 asks; at a tabulated period it is the spectrum's row; no
-- figure is lost as f64; `NoPeriod` is given exactly when the request is accepted and the period is not covered. Assumes nothing.
use Prim.Native.Nat.{ℕ, ◌+◌, ◌≤◌, ◌<◌}
use mathlib.Core.Path.{◌≡◌, refl, sym, ap, subst, ◌∙◌}
use mathlib.Core.Bool.{Bool, true, false}
use mathlib.Core.Logic.{◌↔◌}
use native.Mathlib.Omega.{arith}
use native.Mathlib.Nat.{le_trans}
use lib.Dec.{T, leb, leb→le, lit≤}
use lib.Ieee.Fits.{and_l, and_r}
use lib.ListN.{get_or}
use Rattle.std.specs.Prelude.{None, Ok, Err}
use Rattle.refusals.specs.declared.Refusal.{Refusal}
use Rattle.refusals.specs.declared.Refusal.TheVariants as No
use Rattle.request.specs.declared.Request.{Request}
use Rattle.outcome.specs.Refusals.{refusal}
use Rattle.outcome.specs.Answers.{completed, completion_of}
use Rattle.outcome.proofs.ExactlyWhen.{accepted_by, period_unread}
use Rattle.tables.specs.Tables.{period_at}
use Rattle.model.specs.declared.Scenario.{Scenario}
use Rattle.model.specs.declared.Row.{Row}
use Rattle.model.specs.Accuracy.{InRange, Exact, exact_of}
use Rattle.model.specs.Rows.{no_row}
use Rattle.model.specs.Fixed.{fine_fixed}
use Rattle.model.proofs.Demand.{fine-near, fine_in_range}
use Rattle.model.proofs.Sizes.{ln_size}
use Rattle.between.specs.Periods.{covered, exact_at}
use Rattle.between.specs.Fixed.{drawn_fixed, drawn_report, to_millionths, row_at}
use Rattle.between.proofs.Accurate.{Weighed, by_place, line-median-fits, period_accurate}
use Rattle.between.proofs.Sizes.{drawn_in_range}
use Rattle.between.proofs.Tabulated.{tabulated_covered, tabulated_row}
use Rattle.prediction.specs.Spectra.{scenario_of, spectrum_of, rows_in}
use Rattle.prediction.specs.Sizes.{Small}
use Rattle.prediction.proofs.Completed.{accepted, in_range}
use Rattle.prediction.proofs.RowLaws.{row_is, spectrum_done, by_completion, fixed_small}
use Rattle.prediction.proofs.FloatLaws.{row_same}
use Rattle.one_period.specs.OnePeriods.{period_for, period_of, float_period, float_period_of, RowNear, row_near, SamePeriod, same_row, same_refusal}

-- ---- the cases
pub period_refused : (r : Request) (n : Refusal) (t : ℕ) → completion_of r ≡ Err n → period_of r t ≡ Err n
unfolding period_of period_for
period_refused r n t e = rw e

pub period_none :
    (r c : Request) (t : ℕ) → completion_of r ≡ Ok c → covered t ≡ false → period_of r t ≡ Err No.NoPeriod
unfolding period_of period_for
period_none r c t e h = rw (e, h)

pub period_row :
    (r c : Request) (t : ℕ) → completion_of r ≡ Ok c → covered t ≡ true → period_of r t ≡ Ok (row_at t (scenario_of c))
unfolding period_of period_for
period_row r c t e h = rw (e, h)

-- ---- near
-- a covered period lies from 10 to 10000
pub covered-low : (t : ℕ) → covered t ≡ true → 10 ≤ t
covered-low t h = leb→le 10 t (and_l (leb 10 t) (leb t 10000) (subst T (sym h) tt))

pub covered-high : (t : ℕ) → covered t ≡ true → t ≤ 10000
covered-high t h = leb→le t 10000 (and_r (leb 10 t) (leb t 10000) (subst T (sym h) tt))

pub accepted_period :
    (r c : Request) (t : ℕ) → completion_of r ≡ Ok c → covered t ≡ true → RowNear (exact_at t (scenario_of c)) (period_of r t)
accepted_period r c t e h =
    rw (period_row r c t e h) (row_near (period_accurate t (scenario_of c) (covered-low t h) (covered-high t h) (in_range r c e)))

-- at a tabulated period, the spectrum's row
pub tabulated_period :
    (r c : Request) (i : ℕ) → completion_of r ≡ Ok c → i < 21
    → period_of r (period_at i) ≡ Ok (get_or (rows_in (spectrum_of r)) i no_row)
tabulated_period r c i e h =
    period_row r c (period_at i) e (tabulated_covered i h)
    ∙ ap Ok
    (tabulated_row i (scenario_of c) h
    ∙ sym (rw (spectrum_done r c e) (row_is (scenario_of c) i (le_trans h (lit≤ tt)))))

-- ---- as f64
-- a row between two is small, as a measure's is
millionths_small : (s : ℕ) → s ≤ 1549200000 → to_millionths s ≤ 1550000
millionths_small s h = omega arith

drawn_small :
    (x : Scenario) (i w w' : ℕ) → InRange x → i + 1 < 24 → Weighed w w'
    → Small (drawn_report (drawn_fixed w (fine_fixed i x) (fine_fixed (i + 1) x)))
unfolding drawn_report
drawn_small x i w w' r k g =
    let j : i < 24 = omega arith in
    let d = drawn_fixed w (fine_fixed i x) (fine_fixed (i + 1) x) in
    let s = drawn_in_range w g.one (fine_fixed i x) (fine_fixed (i + 1) x) (fine_in_range i x j r) (fine_in_range (i + 1) x k r) in
    record {
      ln = ln_size d.ln s.ln_low s.ln_high;
      median =
          line-median-fits w w' g (exact_of i x) (exact_of (i + 1) x) (fine_fixed i x) (fine_fixed (i + 1) x) (fine-near i x j r)
          (fine-near (i + 1) x k r);
      intra = millionths_small d.intra s.intra-high;
      inter = millionths_small d.inter s.inter-high;
      total = millionths_small d.total s.total-high;
      arbitrary = millionths_small d.arbitrary s.arbitrary-high;
    }

pub period_small : (t : ℕ) (x : Scenario) → 10 ≤ t → t ≤ 10000 → InRange x → Small (row_at t x)
period_small t x l h r =
    by_place (λ (e : Exact) (w : Row). Small w) t x l h (λ i k. fixed_small i x k r) (λ i w w' k g. drawn_small x i w w' r k g)

-- so is any row that is answered
pub value-small : (r : Request) (t : ℕ) (w : Row) → period_of r t ≡ Ok w → Small w
value-small r t w a =
    by_completion r (λ c e. by_test c e (covered t) refl) (λ n e. let d = period_refused r n t e in absurd cc)
  where
    by_test : (c : Request) → completion_of r ≡ Ok c → (b : Bool) → covered t ≡ b → Small w
    by_test c e true h =
        let d = period_row r c t e h in
        let is : row_at t (scenario_of c) ≡ w = cc in
        subst Small is (period_small t (scenario_of c) (covered-low t h) (covered-high t h) (in_range r c e))
    by_test c e false h = let d = period_none r c t e h in absurd cc

-- and every figure is the whole number
pub nothing_lost : (r : Request) (t : ℕ) → SamePeriod (float_period_of r t) (period_of r t)
unfolding float_period_of float_period
nothing_lost r t =
    by_completion r
    (λ c e. by_test c e (covered t) refl)
    (λ n e. rw (period_refused r n t e) (same_refusal n))
  where
    by_test : (c : Request) → completion_of r ≡ Ok c → (b : Bool) → covered t ≡ b → SamePeriod (float_period (period_of r t)) (period_of r t)
    by_test c e true h =
        rw (period_row r c t e h)
        (same_row (row_same (row_at t (scenario_of c)) (period_small t (scenario_of c) (covered-low t h) (covered-high t h) (in_range r c e))))
    by_test c e false h = rw (period_none r c t e h) (same_refusal No.NoPeriod)

-- ---- exactly when
pub no_period_exactly : (r : Request) (t : ℕ) → (period_of r t ≡ Err No.NoPeriod) ↔ ((refusal r ≡ None) × (covered t ≡ false))
no_period_exactly r t = (there, λ p. period_none r (completed r) t (accepted_by r p.0) p.1)
  where
    by_test : (c : Request) → completion_of r ≡ Ok c → period_of r t ≡ Err No.NoPeriod → (b : Bool) → covered t ≡ b → covered t ≡ false
    by_test c e h false u = u
    by_test c e h true u = let d = period_row r c t e u in absurd cc

    there : period_of r t ≡ Err No.NoPeriod → (refusal r ≡ None) × (covered t ≡ false)
    there h =
        by_completion r (λ c e. (accepted r c e, by_test c e h (covered t) refl))
        (λ n e.
        let d = period_refused r n t e in
        let is : n ≡ No.NoPeriod = cc in
        absurd (period_unread r (e ∙ ap Err is)))
