-- The row of the measure on its soil, not below PGA's. Assumes nothing.
use Rattle.std.proofs.Common.{◌∙◌}
use Rattle.model.proofs.ShortPeriods.{fine-raised}
use Rattle.measures.proofs.FilledRows.{own_as}
use Rattle.measures.proofs.next_row.Goals as goal

pub returns : goal.returns
returns c =
    let x = c.next.ensures.1 in
    let o = own_as _ _ _ _ _ c.own_of.ensures c.next.ensures.0 x in
    (c.not_below_pga.ensures ∙ fine-raised c.args.k c.args.m.now.measure.f.now.x o c.requires.2, x)
