-- By whether RRUP is blank: its length is then the estimate. Assumes nothing.
use mathlib.Core.Path.{sym, ap, ◌∙◌}
use Rattle.outcome.specs.Figures.{estimated}
use Rattle.outcome.proofs.FigureLaws.{length-given, by_length}
use Rattle.path_stage.proofs.known_path.Goals as goal

pub returns-else-is_blank : goal.returns-else-is_blank
returns-else-is_blank c = sym (length-given c.args.r (sym c.is_blank.ensures ∙ c.if-is_blank.false))

pub returns-then-is_blank : goal.returns-then-is_blank
returns-then-is_blank c =
    c.estimated_figure.ensures
    ∙ ap estimated c.requires.0
    ∙ sym (by_length c.args.r (sym c.is_blank.ensures ∙ c.if-is_blank.true))
