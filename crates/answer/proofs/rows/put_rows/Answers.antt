use Rattle.std.proofs.Common.{◌≡◌, refl, arith}
use Rattle.tables.specs.Tables.{measures}
use Rattle.lent.proofs.PutLaws.{put-nothing}
use Rattle.answer.specs.RowLines.{row_lines}
use Rattle.answer.proofs.RowLaws.{row_room, row_then}
use Rattle.answer.proofs.rows.put_rows.Goals as goal

pub loop-k-init : goal.loop-k-init
unfolding row_lines
loop-k-init c = (refl, record { place = refl; became = put-nothing _ 0 })

pub put_row-at-requires : goal.put_row-at-requires
put_row-at-requires c = row_room c.args.rows c.loop-k.invariant.1 c.loop-k-test.true c.requires

pub loop-k-preserved : goal.loop-k-preserved
loop-k-preserved c = (
  omega (arith, c.put_row-at.auto.out, c.loop-k.invariant.0),
  row_then c.args.rows c.loop-k.invariant.1 c.loop-k-test.true c.requires c.put_row-at.ensures,
)

pub returns : goal.returns
returns c =
    let e : c.loop-k.k ≡ measures = omega arith in
    rw e at c.loop-k.invariant.1
