-- A row at a period reads numbers and no origins: which of the given figures were measured and which inferred changes nothing in it, and a
-- completed request sent back with our estimates marked as inferred has the same one. Assumes nothing.
use Prim.Native.Nat.{ℕ}
use mathlib.Core.Path.{◌≡◌, refl, ap}
use mathlib.Core.Bool.{cond}
use Rattle.std.specs.Prelude.{Result, Ok, Err}
use Rattle.refusals.specs.declared.Refusal.{Refusal}
use Rattle.refusals.specs.declared.Refusal.TheVariants as No
use Rattle.request.specs.declared.Request.{Request}
use Rattle.request.specs.Origins.{each, as_inferred, forget}
use Rattle.outcome.specs.Answers.{completed, completion_of}
use Rattle.outcome.specs.SentBack.{sent_back}
use Rattle.outcome.specs.Forgotten.{forgotten}
use Rattle.outcome.proofs.Origins.{origins_unread}
use Rattle.outcome.proofs.SentBackWhole.{sent_back_unread}
use Rattle.model.specs.declared.Scenario.{Scenario}
use Rattle.between.specs.Periods.{covered}
use Rattle.between.specs.Fixed.{row_at}
use Rattle.prediction.specs.Spectra.{scenario_of}
use Rattle.prediction.proofs.Origins.{scenario_alike, scenario_back}
use Rattle.one_period.specs.OnePeriods.{period_for, period_of}

period_same : (t : ℕ) (c d : Request) → scenario_of c ≡ scenario_of d → period_for (Ok c) t ≡ period_for (Ok d) t
unfolding period_for
period_same t c d e = ap (λ (x : Scenario). cond (covered t) (Ok (row_at t x)) (Err No.NoPeriod)) e

period_forgets : (t : ℕ) (c : Result Request Refusal) → period_for (forgotten c) t ≡ period_for c t
unfolding forgotten
period_forgets t (Ok c) = period_same t (forget c) c (scenario_alike c)
period_forgets t (Err n) = refl

pub period_alike : (t : ℕ) (r s : Request) → forget r ≡ forget s → period_of r t ≡ period_of s t
unfolding period_of
period_alike t = origins_unread (λ c. period_for c t) (period_forgets t)

pub period_back : (t : ℕ) (r : Request) → completion_of r ≡ Ok (completed r) → period_of (sent_back r) t ≡ period_of r t
unfolding period_of
period_back t = sent_back_unread (λ c. period_for c t) (λ c. period_same t (each as_inferred c) c (scenario_back c))
