-- A refusal gets its line; the rows' lines are counted, and written where they fit. Assumes nothing.
use Rattle.std.proofs.Common.{arith}
use Rattle.std.proofs.lemmas.Result.{err_from_is_err_and}
use Rattle.tables.specs.Tables.{measures}
use Rattle.lent.proofs.WroteLaws.{refuses, writes}
use Rattle.answer.specs.RowLines.{row_lines, spectrum_lines}
use Rattle.answer.proofs.rows.write_spectrum.Goals as goal

pub returns-in-Err : goal.returns-in-Err
unfolding spectrum_lines
returns-in-Err g c = rw c.in-Err.is c.write_no.ensures

pub returns-in_err-room : goal.returns-in_err-room
unfolding spectrum_lines
returns-in_err-room g c =
    let p = err_from_is_err_and c.from_residual.result c.from_residual.ensures.1 in
    let full = c.in_err-room.ensures in
    rw (c.in-Ok.is, p.1, p.2, full.0) (refuses c.args.out.now (row_lines measures c.in-Ok.rows) (omega arith))

pub returns : goal.returns
unfolding spectrum_lines
returns g c = let fits = c.in_ok-room.ensures in rw c.in-Ok.is (writes (omega arith) c.put_rows.ensures)
