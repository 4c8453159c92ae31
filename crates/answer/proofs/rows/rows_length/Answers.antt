use Rattle.std.proofs.Common.{◌≡◌, refl, arith}
use Rattle.tables.specs.Tables.{measures}
use Rattle.answer.specs.RowLines.{row_lines}
use Rattle.answer.proofs.RowLaws.{length-next}
use Rattle.answer.proofs.rows.rows_length.Goals as goal

pub loop-k-init : goal.loop-k-init
unfolding row_lines
loop-k-init c = (omega arith, refl)

pub loop-k-preserved : goal.loop-k-preserved
loop-k-preserved c = omega (arith, c.row_length-n.ensures, c.loop-k.invariant, length-next c.args.rows c.loop-k.k)

pub returns : goal.returns
returns c =
    let e : c.loop-k.k ≡ measures = omega arith in
    rw e at c.loop-k.invariant.1
