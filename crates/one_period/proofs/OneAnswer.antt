-- Any two answers that a contract permits are equal: each is the one that its definition gives. Assumes nothing.
use Prim.Native.Nat.{ℕ}
use mathlib.Core.Path.{◌≡◌}
use Rattle.std.specs.Prelude.{Result}
use Rattle.refusals.specs.declared.Refusal.{Refusal}
use Rattle.request.specs.declared.Request.{Request}
use Rattle.outcome.proofs.OneAnswer.{one_answer}
use Rattle.model.specs.declared.Row.{Row}
use Rattle.prediction.specs.declared.floats.FloatRow.{FloatRow}
use Rattle.one_period.specs.OnePeriods.{period_of, float_period_of}

pub one_period : (r : Request) (t : ℕ) (a b : Result Row Refusal) → a ≡ period_of r t → b ≡ period_of r t → a ≡ b
one_period r t a b p q = one_answer p q

pub one_float_period : (r : Request) (t : ℕ) (a b : Result FloatRow Refusal) → a ≡ float_period_of r t → b ≡ float_period_of r t → a ≡ b
one_float_period r t a b p q = one_answer p q
