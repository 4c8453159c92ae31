-- A refusal is handed on, before the measure's number is looked at; what is shown of a measure is small enough to be converted. Assumes
-- nothing.
use mathlib.Core.Path.{sym}
use native.Mathlib.Omega.{arith}
use Rattle.std.proofs.lemmas.Result.{err_from_is_err_and}
use Rattle.prediction.proofs.MeasureLaws.{measure_refused, measure_none, fixed_shown_small}
use Rattle.prediction.proofs.measure.predict_measure.Goals as goal

pub returns-in_err-c : goal.returns-in_err-c
returns-in_err-c c =
    let p = err_from_is_err_and c.from_residual.result c.from_residual.ensures.1 in
    rw (p.1, p.2) (sym (measure_refused c.args.r _ c.args.measure (sym c.in_err-c.ensures)))

pub returns-then-measure : goal.returns-then-measure
returns-then-measure c = sym (measure_none c.args.r c.in_ok-c.c c.args.measure (sym c.in_ok-c.ensures) c.if-measure.true)

pub of_nat-requires : goal.of_nat-requires
of_nat-requires c =
    omega (arith, fixed_shown_small c.args.r c.in_ok-c.c (sym c.in_ok-c.ensures) c.scenario_of.ensures c.if-measure.false c.row_at-shown.ensures)

pub of_nat-requires-2 : goal.of_nat-requires-2
of_nat-requires-2 c =
    omega (arith, fixed_shown_small c.args.r c.in_ok-c.c (sym c.in_ok-c.ensures) c.scenario_of.ensures c.if-measure.false c.row_at-shown.ensures)
