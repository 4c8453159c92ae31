-- All twelve examples hold, each computed from the definitions. Assumes nothing.
use mathlib.Core.Path.{refl}
use Rattle.request.specs.Styles.{style_of}
use Rattle.outcome.specs.Answers.{completion_of, figures_of}
use Rattle.tables.specs.Tables.{table2, coefficients_at}
use Rattle.model.specs.Equations.{f_mag}
use Rattle.examples.specs.Twelve.{twelve, All}

pub all_hold : All twelve
unfolding f_mag table2 coefficients_at style_of completion_of figures_of
all_hold = (refl, (refl, (refl, (refl, (refl, (refl, (refl, (refl, (refl, ((refl, refl), ((refl, refl), (refl, tt))))))))))))
