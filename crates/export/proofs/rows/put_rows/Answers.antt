-- The rows passed are written one after the other. Assumes nothing.
use Rattle.std.proofs.Common.{rules, ◌≡◌, length, refl, arith}
use Rattle.std.proofs.Math.Seq.{take_all}
use Rattle.tables.specs.Tables.{measures}
use Rattle.lent.proofs.PutLaws.{put-nothing}
use Rattle.export.specs.Given.{numbers_of}
use Rattle.export.proofs.PlaceLaws.{row_room, row_then}
use Rattle.export.proofs.rows.put_rows.Goals as goal

pub loop-row-init : goal.loop-row-init
unfolding numbers_of
loop-row-init c = (refl, record { place = refl; became = put-nothing _ 0 })

pub put_row-at-requires : goal.put_row-at-requires
put_row-at-requires c =
    let all : length c.args.rows ≡ measures = search rules in
    row_room c.args.rows c.loop-row.row-index (omega (arith, all, c.loop-row-test.true)) c.loop-row.invariant.1 c.requires

pub loop-row-preserved : goal.loop-row-preserved
loop-row-preserved c =
    let all : length c.args.rows ≡ measures = search rules in (
      omega (arith, c.put_row-at.auto.out, c.loop-row.invariant.0),
      row_then c.args.rows c.loop-row.row-index (omega (arith, all, c.loop-row-test.true)) c.loop-row.invariant.1 c.requires c.put_row-at.ensures,
    )

pub returns : goal.returns
returns c =
    let all : length c.args.rows ≡ measures = search rules in
    rw (take_all c.loop-row.row-index c.args.rows (omega (arith, all, c.loop-row-test.false))) at c.loop-row.invariant.1
