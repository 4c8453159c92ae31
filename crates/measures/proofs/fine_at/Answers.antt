-- PGA's row of Table 2 for A1100, the measure's own rows for its own, and PGA's for PGA's where the period is short. Assumes nothing.
use Rattle.std.proofs.Common.{arith, ◌≡◌, false, ◌∙◌}
use Rattle.std.proofs.lemmas.Grind.{common_steps}
use Rattle.model.specs.Equations.{is_short}
use Rattle.model.proofs.ShortPeriods.{fine-long, fine-raised}
use Rattle.measures.proofs.FilledRows.{own_as}
use Rattle.measures.proofs.fine_at.Goals as goal

pub returns-then-not-short : goal.returns-then-not-short
returns-then-not-short c =
    let e : is_short c.args.i ≡ false = grind (arith, common_steps, c.is_short-short.ensures, c.if-not-short.true) in
    let x = c.factors_of-f.ensures in
    fine-long c.args.i c.args.x e
    (own_as _ _ _ _ _ c.own_at-own.ensures c.at-m.ensures.0 (c.at-m.ensures.1 ∙ x))

pub returns : goal.returns
returns c =
    let x = c.factors_of-f.ensures in
    c.not_below_pga.ensures
    ∙ fine-raised c.args.i c.args.x
    (own_as _ _ _ _ _ c.own_at-own.ensures c.at-m.ensures.0 (c.at-m.ensures.1 ∙ x))
    (own_as _ _ _ _ _ c.own_at.ensures c.at-pga.ensures.0 (c.at-pga.ensures.1 ∙ x))
