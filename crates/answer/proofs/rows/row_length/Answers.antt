-- The code counts the digits and the sign, and the law what stands beside them. Assumes nothing.
use Rattle.std.proofs.Common.{rules, w64, arith}
use mir.Val.{SFits}
use mir.Facts.{to_z-of_z}
use Rattle.answer.proofs.RowLaws.{length_row}
use Rattle.answer.proofs.rows.row_length.Goals as goal

pub returns : goal.returns
returns c =
    let fits : SFits w64 c.args.row.ln = search rules in
    let signed = simp (to_z-of_z fits) at c.width.ensures in
    omega (
      arith,
      length_row c.args.k c.args.row,
      c.digits.ensures,
      signed,
      c.digits-2.ensures,
      c.digits-3.ensures,
    )
