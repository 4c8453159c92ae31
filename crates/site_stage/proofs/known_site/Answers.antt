-- By whether Z2.5 is blank; the depths that were given are in their ranges. Assumes nothing.
use mathlib.Core.Path.{sym, ap, ◌∙◌}
use native.Mathlib.Omega.{arith}
use Rattle.outcome.specs.Figures.{estimated}
use Rattle.outcome.proofs.FigureLaws.{basin-given, basin-estimated}
use Rattle.outcome.proofs.Ranges.{source_range, source_given_lem, site_range, basin-most}
use Rattle.site_stage.proofs.known_site.Goals as goal

pub returns-else-is_blank : goal.returns-else-is_blank
returns-else-is_blank c = sym (basin-given c.args.s.request (sym c.is_blank.ensures ∙ c.if-is_blank.false))

pub basin_estimate-requires : goal.basin_estimate-requires
basin_estimate-requires c =
    let site = site_range c.args.s.request c.requires in
    let source = source_range c.args.s.request (source_given_lem c.args.s.request c.args.s.silent) in
    rw c.size.ensures (site.z15_given, site.z10_given, source.vs30-low, source.vs30-high)

pub estimated_figure-requires : goal.estimated_figure-requires
estimated_figure-requires c =
    let r = c.args.s.request in
    let site = site_range r c.requires in
    let source = source_range r (source_given_lem r c.args.s.silent) in
    omega (
      arith,
      rw c.size.ensures at c.basin_estimate.ensures,
      basin-most r.z15 r.z10 _ site.z15_given site.z10_given source.vs30-low source.vs30-high,
    )

pub returns-then-is_blank : goal.returns-then-is_blank
returns-then-is_blank c =
    c.estimated_figure.ensures
    ∙ ap estimated (rw c.size.ensures at c.basin_estimate.ensures)
    ∙ sym (basin-estimated c.args.s.request (sym c.is_blank.ensures ∙ c.if-is_blank.true))
