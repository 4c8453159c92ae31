-- The rows of an accepted request are those of its figures. Assumes nothing.
use mathlib.Core.Path.{sym, ap, ◌∙◌}
use mathlib.Core.List.{map}
use Rattle.std.specs.Prelude.{Ok}
use Rattle.model.specs.declared.Scenario.{Scenario}
use Rattle.prediction.specs.Spectra.{rows_of}
use Rattle.prediction.proofs.RowLaws.{rows_are, told_done}
use Rattle.prediction.proofs.predict_as.Goals as goal

pub returns : goal.returns
returns g c =
    let tell = g.T.Reported.told in
    let rows = rows_are tell c.scenario_of.result c.rows_of.result c.rows_of.ensures.0 c.rows_of.ensures.1 in
    ap Ok (rows ∙ ap (λ (x : Scenario). map tell (rows_of x)) c.scenario_of.ensures)
    ∙ sym (told_done tell c.args.r c.in_ok-c.c (sym c.in_ok-c.ensures))
