-- A refusal is handed on, before the period is looked at. Assumes nothing.
use mathlib.Core.Path.{sym, ap, subst, ◌∙◌}
use Rattle.std.proofs.lemmas.Result.{err_from_is_err_and}
use Rattle.std.specs.Prelude.{Ok}
use Rattle.model.specs.declared.Scenario.{Scenario}
use Rattle.model.specs.Accuracy.{InRange}
use Rattle.between.specs.Fixed.{row_at}
use Rattle.prediction.proofs.Completed.{in_range}
use Rattle.one_period.proofs.PeriodLaws.{period_refused, period_none, period_row, covered-low, covered-high}
use Rattle.one_period.proofs.predict_period.Goals as goal

pub returns-in_err-c : goal.returns-in_err-c
returns-in_err-c c =
    let p = err_from_is_err_and c.from_residual.result c.from_residual.ensures.1 in
    rw (p.1, p.2) (sym (period_refused c.args.r _ c.args.period (sym c.in_err-c.ensures)))

pub returns-then-not-is_covered : goal.returns-then-not-is_covered
returns-then-not-is_covered c =
    sym (period_none c.args.r c.in_ok-c.c c.args.period (sym c.in_ok-c.ensures) (sym c.is_covered.ensures ∙ c.if-not-is_covered.true))

pub row_at_period-requires : goal.row_at_period-requires
row_at_period-requires c =
    let inside = sym c.is_covered.ensures ∙ c.if-not-is_covered.false in (
      covered-low c.args.period inside,
      covered-high c.args.period inside,
      subst InRange (sym c.scenario_of.ensures) (in_range c.args.r c.in_ok-c.c (sym c.in_ok-c.ensures)),
    )

pub returns : goal.returns
returns c =
    let inside = sym c.is_covered.ensures ∙ c.if-not-is_covered.false in
    ap Ok (c.row_at_period.ensures ∙ ap (λ (y : Scenario). row_at c.args.period y) c.scenario_of.ensures)
    ∙ sym (period_row c.args.r c.in_ok-c.c c.args.period (sym c.in_ok-c.ensures) inside)
