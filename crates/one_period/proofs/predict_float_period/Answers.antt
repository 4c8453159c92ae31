-- A refusal is handed on; the row of an answer is small enough to be converted. Assumes nothing.
use mathlib.Core.Path.{sym, ap}
use Rattle.std.proofs.lemmas.Result.{err_from_is_err_and}
use Rattle.std.specs.Prelude.{Ok}
use Rattle.one_period.specs.OnePeriods.{float_period, float_period_of}
use Rattle.one_period.proofs.PeriodLaws.{value-small}
use Rattle.one_period.proofs.predict_float_period.Goals as goal

pub returns-in_err-row : goal.returns-in_err-row
unfolding float_period_of float_period
returns-in_err-row c =
    let p = err_from_is_err_and c.from_residual.result c.from_residual.ensures.1 in
    rw (p.1, p.2, ← c.in_err-row.ensures)

pub float_row-requires : goal.float_row-requires
float_row-requires c = value-small c.args.r c.args.period c.in_ok-row.row (sym c.in_ok-row.ensures)

pub returns : goal.returns
unfolding float_period_of float_period
returns c = rw (← c.in_ok-row.ensures) (ap Ok c.float_row.ensures.0)
