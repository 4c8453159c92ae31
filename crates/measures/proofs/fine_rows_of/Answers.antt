-- A turn sets the row of k. Between the two loops PGA's row is passed over. Assumes nothing.
use Rattle.std.proofs.Common.{arith, refl, ◌∙◌}
use Rattle.model.proofs.ShortPeriods.{fine_pga}
use Rattle.measures.proofs.FilledRows.{own_as}
use Rattle.measures.proofs.fine_rows_of.Goals as goal

pub loop-k-init : goal.loop-k-init
loop-k-init c =
    let s = c.of-m.ensures.1 ∙ c.at-first.ensures.1 ∙ c.factors_of-f.ensures in
    record {
      filled =
          record {
            whole = refl;
            pga = fine_pga c.args.x (own_as _ _ _ _ _ c.own_of-pga.ensures (c.of-m.ensures.0 ∙ c.at-first.ensures.0) s);
            below = λ j l. absurd (omega (arith, l));
          };
      same = s;
    }
