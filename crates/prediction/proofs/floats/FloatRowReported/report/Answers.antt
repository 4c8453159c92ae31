-- A row that is reported is small enough to be converted. Assumes nothing.
use mathlib.Core.Path.{sym, subst}
use Rattle.prediction.specs.Sizes.{Small}
use Rattle.prediction.proofs.RowLaws.{report_small}
use Rattle.prediction.proofs.floats.FloatRowReported.report.Goals as goal

pub float_row-requires : goal.float_row-requires
float_row-requires c = subst Small (sym c.report.ensures) (report_small c.args.f c.requires.1)
