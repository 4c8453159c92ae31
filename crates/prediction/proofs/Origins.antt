-- The model reads numbers and no origins: which of the given figures were measured and which inferred changes nothing that is predicted, and
-- a completed request sent back with our estimates marked as inferred is predicted as it was. Assumes nothing.
use Prim.Native.Nat.{ℕ}
use mathlib.Core.Path.{◌≡◌, refl, ap}
use mathlib.Core.Bool.{cond}
use mathlib.Core.List.{List, map}
use lib.Dec.{ltb}
use Rattle.std.specs.Prelude.{Result, Ok, Err}
use Rattle.refusals.specs.declared.Refusal.{Refusal}
use Rattle.refusals.specs.declared.Refusal.TheVariants as No
use Rattle.request.specs.declared.Request.{Request}
use Rattle.request.specs.Origins.{each, as_inferred, forget}
use Rattle.request.proofs.OriginLaws.{value-alike, size-alike, value-inferred, size-inferred}
use Rattle.outcome.specs.Answers.{completed, completion_of}
use Rattle.outcome.specs.SentBack.{sent_back}
use Rattle.outcome.specs.Forgotten.{forgotten}
use Rattle.outcome.proofs.Origins.{origins_unread}
use Rattle.outcome.proofs.SentBackWhole.{sent_back_unread}
use Rattle.tables.specs.Tables.{measures}
use Rattle.model.specs.declared.Scenario.{Scenario}
use Rattle.model.specs.declared.Row.{Row}
use Rattle.model.specs.Fixed.{row_fixed}
use Rattle.model.specs.Rows.{shown_of}
use Rattle.prediction.specs.Spectra.{scenario_of, rows_of, map_ok, spectrum_for, spectrum_of, spectrum_as, shown_spectrum_of}
use Rattle.prediction.specs.Measures.{shown_value, measure_for, measure_of}

-- ---- what the model reads
pub scenario_alike : (c : Request) → scenario_of (forget c) ≡ scenario_of c
unfolding scenario_of forget each
scenario_alike c =
    rw (
      size-alike c.m,
      value-alike c.rake,
      size-alike c.vs30,
      size-alike c.dip,
      size-alike c.ztor,
      size-alike c.rjb,
      size-alike c.rrup,
      size-alike c.z25,
    )

pub scenario_back : (c : Request) → scenario_of (each as_inferred c) ≡ scenario_of c
unfolding scenario_of each
scenario_back c =
    rw (
      size-inferred c.m,
      value-inferred c.rake,
      size-inferred c.vs30,
      size-inferred c.dip,
      size-inferred c.ztor,
      size-inferred c.rjb,
      size-inferred c.rrup,
      size-inferred c.z25,
    )

-- ---- every row
spectrum_same : (c d : Request) → scenario_of c ≡ scenario_of d → spectrum_for (Ok c) ≡ spectrum_for (Ok d)
unfolding spectrum_for
spectrum_same c d e = ap (λ (x : Scenario). Ok (rows_of x)) e

spectrum_forgets : (c : Result Request Refusal) → spectrum_for (forgotten c) ≡ spectrum_for c
unfolding forgotten
spectrum_forgets (Ok c) = spectrum_same (forget c) c (scenario_alike c)
spectrum_forgets (Err n) = refl

pub spectrum_alike : (r s : Request) → forget r ≡ forget s → spectrum_of r ≡ spectrum_of s
unfolding spectrum_of
spectrum_alike = origins_unread spectrum_for spectrum_forgets

pub shown_alike : (r s : Request) → forget r ≡ forget s → shown_spectrum_of r ≡ shown_spectrum_of s
unfolding shown_spectrum_of spectrum_as
shown_alike r s e = ap (λ (a : Result (List Row) Refusal). map_ok (λ rows. map shown_of rows) a) (spectrum_alike r s e)

pub spectrum_back : (r : Request) → completion_of r ≡ Ok (completed r) → spectrum_of (sent_back r) ≡ spectrum_of r
unfolding spectrum_of
spectrum_back = sent_back_unread spectrum_for (λ c. spectrum_same (each as_inferred c) c (scenario_back c))

-- ---- one measure
measure_same : (k : ℕ) (c d : Request) → scenario_of c ≡ scenario_of d → measure_for (Ok c) k ≡ measure_for (Ok d) k
unfolding measure_for
measure_same k c d e = ap (λ (x : Scenario). cond (ltb k measures) (Ok (shown_value (shown_of (row_fixed k x)))) (Err No.NoMeasure)) e

measure_forgets : (k : ℕ) (c : Result Request Refusal) → measure_for (forgotten c) k ≡ measure_for c k
unfolding forgotten
measure_forgets k (Ok c) = measure_same k (forget c) c (scenario_alike c)
measure_forgets k (Err n) = refl

pub measure_alike : (k : ℕ) (r s : Request) → forget r ≡ forget s → measure_of r k ≡ measure_of s k
unfolding measure_of
measure_alike k = origins_unread (λ c. measure_for c k) (measure_forgets k)

pub measure_back : (k : ℕ) (r : Request) → completion_of r ≡ Ok (completed r) → measure_of (sent_back r) k ≡ measure_of r k
unfolding measure_of
measure_back k = sent_back_unread (λ c. measure_for c k) (λ c. measure_same k (each as_inferred c) c (scenario_back c))
