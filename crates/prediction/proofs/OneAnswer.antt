-- Any two answers that a contract permits are equal: each is the one that its definition gives. Assumes nothing.
use Prim.Native.Nat.{ℕ}
use mathlib.Core.Path.{◌≡◌}
use mathlib.Core.List.{List}
use Rattle.std.specs.Prelude.{Result}
use Rattle.refusals.specs.declared.Refusal.{Refusal}
use Rattle.request.specs.declared.Request.{Request}
use Rattle.outcome.proofs.OneAnswer.{one_answer}
use Rattle.model.specs.declared.Row.{Row}
use Rattle.model.specs.declared.Shown.{Shown}
use Rattle.prediction.specs.declared.floats.FloatRow.{FloatRow}
use Rattle.prediction.specs.declared.measure.MedianAndSigma.{MedianAndSigma}
use Rattle.prediction.specs.Spectra.{spectrum_of, shown_spectrum_of}
use Rattle.prediction.specs.Floats.{float_spectrum_of}
use Rattle.prediction.specs.Measures.{measure_of}

pub one_spectrum : (r : Request) (a b : Result (List Row) Refusal) → a ≡ spectrum_of r → b ≡ spectrum_of r → a ≡ b
one_spectrum r a b p q = one_answer p q

pub one_shown_spectrum : (r : Request) (a b : Result (List Shown) Refusal) → a ≡ shown_spectrum_of r → b ≡ shown_spectrum_of r → a ≡ b
one_shown_spectrum r a b p q = one_answer p q

pub one_float_spectrum : (r : Request) (a b : Result (List FloatRow) Refusal) → a ≡ float_spectrum_of r → b ≡ float_spectrum_of r → a ≡ b
one_float_spectrum r a b p q = one_answer p q

pub one_measure : (r : Request) (k : ℕ) (a b : Result MedianAndSigma Refusal) → a ≡ measure_of r k → b ≡ measure_of r k → a ≡ b
one_measure r k a b p q = one_answer p q
