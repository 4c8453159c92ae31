-- The answer for one measure is that of the spectrum's row, nothing lost, and so as near the exact values as demand 3 asks; `NoMeasure` is
-- given exactly when the request is accepted and the number is no measure's. Assumes nothing.
use Prim.Native.Nat.{ℕ, ◌≤◌, ◌<◌}
use mathlib.Core.Path.{◌≡◌, refl, sym, ap, subst, ◌∙◌}
use mathlib.Core.Bool.{Bool, true, false}
use mathlib.Core.Logic.{◌↔◌}
use native.Mathlib.Omega.{arith}
use lib.Dec.{ltb}
use lib.IntN.{pos}
use lib.ListN.{get_or}
use borrow.Author.Tests.{lt-ltb, le-ltb, ltb-true, ltb-false}
use Rattle.std.specs.Prelude.{None, Result, Ok, Err}
use Rattle.refusals.specs.declared.Refusal.{Refusal}
use Rattle.refusals.specs.declared.Refusal.TheVariants as No
use Rattle.request.specs.declared.Request.{Request}
use Rattle.outcome.specs.Refusals.{refusal}
use Rattle.outcome.specs.Answers.{completed, completion_of}
use Rattle.outcome.proofs.ExactlyWhen.{accepted_by, measure_unread}
use Rattle.tables.specs.Tables.{measures}
use Rattle.model.specs.declared.Row.{Row}
use Rattle.model.specs.declared.Scenario.{Scenario}
use Rattle.model.specs.declared.Shown.{Shown}
use Rattle.model.specs.Accuracy.{InRange, Exact, exact_of, ShownAccurate}
use Rattle.model.specs.Fixed.{row_fixed}
use Rattle.model.specs.Rows.{shown_of, no_row}
use Rattle.prediction.specs.declared.measure.MedianAndSigma.{MedianAndSigma}
use Rattle.prediction.specs.Spectra.{scenario_of, spectrum_of, rows_in}
use Rattle.prediction.specs.Measures.{shown_value, measure_for, measure_of, Tells, told, MeasureNear, measure_near}
use Rattle.prediction.specs.Sizes.{ShownSmall}
use Rattle.prediction.proofs.Completed.{accepted, in_range}
use Rattle.prediction.proofs.RowLaws.{row_is, spectrum_done, by_completion, fixed_small}
use Rattle.prediction.proofs.DemandThree.{accepted-rows, rows_in-small, shown_near, shown_small}
use Rattle.prediction.proofs.FloatLaws.{float_is}

-- ---- the cases
pub measure_refused : (r : Request) (n : Refusal) (k : ℕ) → completion_of r ≡ Err n → measure_of r k ≡ Err n
unfolding measure_of measure_for
measure_refused r n k e = rw e

pub measure_none : (r c : Request) (k : ℕ) → completion_of r ≡ Ok c → measures ≤ k → measure_of r k ≡ Err No.NoMeasure
unfolding measure_of measure_for
measure_none r c k e h = rw (e, le-ltb k measures h)

pub measure_fixed :
    (r c : Request) (k : ℕ) → completion_of r ≡ Ok c → k < measures
    → measure_of r k ≡ Ok (shown_value (shown_of (row_fixed k (scenario_of c))))
unfolding measure_of measure_for
measure_fixed r c k e h = rw (e, lt-ltb k measures h)

-- the spectrum's row
pub measure_row :
    (r c : Request) (k : ℕ) → completion_of r ≡ Ok c → k < measures
    → measure_of r k ≡ Ok (shown_value (shown_of (get_or (rows_in (spectrum_of r)) k no_row)))
measure_row r c k e h =
    measure_fixed r c k e h
    ∙ rw (spectrum_done r c e) (ap (λ (w : Row). Ok (shown_value (shown_of w))) (sym (row_is (scenario_of c) k h)))

-- and nothing of it is lost
pub measure_whole :
    (r c : Request) (k : ℕ) → completion_of r ≡ Ok c → k < measures
    → Tells (shown_of (get_or (rows_in (spectrum_of r)) k no_row)) (measure_of r k)
unfolding shown_value
measure_whole r c k e h =
    let row = get_or (rows_in (spectrum_of r)) k no_row in
    let n = shown_small row (rows_in-small r k h) in
    rw (measure_row r c k e h)
    (told (float_is (pos (shown_of row).median) (omega (arith, n.median))) (float_is (pos (shown_of row).sigma) (omega (arith, n.sigma))))

-- what is shown of a measure is small
pub fixed_shown_small :
    (r c : Request) {k : ℕ} {x : Scenario} {s : Shown} → completion_of r ≡ Ok c → x ≡ scenario_of c → k < measures
    → s ≡ shown_of (row_fixed k x) → ShownSmall s
fixed_shown_small r c {k} {x} {s} e f h i =
    let within = subst InRange (sym f) (in_range r c e) in
    subst ShownSmall (sym i) (shown_small (row_fixed k x) (fixed_small k x h within))

-- ---- demand 3
near-told : (e : Exact) (s : Shown) (a : Result MedianAndSigma Refusal) → ShownAccurate e s → Tells s a → MeasureNear e a
near-told e s (Ok v) n (told f g) = measure_near s.median s.sigma f g n.median-near n.sigma_near
near-told e s (Err _) n t = elim t [ ]

pub accepted_measure :
    (r c : Request) (k : ℕ) → completion_of r ≡ Ok c → k < measures
    → MeasureNear (exact_of k (scenario_of c)) (measure_of r k)
accepted_measure r c k e h =
    let row = get_or (rows_in (spectrum_of r)) k no_row in
    near-told (exact_of k (scenario_of c)) (shown_of row) (measure_of r k)
    (shown_near (exact_of k (scenario_of c)) row (accepted-rows r c k e h)) (measure_whole r c k e h)

-- ---- exactly when
pub no_measure_exactly : (r : Request) (k : ℕ) → (measure_of r k ≡ Err No.NoMeasure) ↔ ((refusal r ≡ None) × (measures ≤ k))
no_measure_exactly r k = (there, λ p. measure_none r (completed r) k (accepted_by r p.0) p.1)
  where
    by_number : (c : Request) → completion_of r ≡ Ok c → measure_of r k ≡ Err No.NoMeasure → (t : Bool) → ltb k measures ≡ t → measures ≤ k
    by_number c e h false u = ltb-false k measures u
    by_number c e h true u = let f = measure_fixed r c k e (ltb-true k measures u) in absurd cc

    there : measure_of r k ≡ Err No.NoMeasure → (refusal r ≡ None) × (measures ≤ k)
    there h =
        by_completion r (λ c e. (accepted r c e, by_number c e h (ltb k measures) refl))
        (λ n e.
        let same = measure_refused r n k e in
        let is : n ≡ No.NoMeasure = cc in
        absurd (measure_unread r (e ∙ ap Err is)))
