-- The line is counted, and written where it fits. Assumes nothing.
use Rattle.std.proofs.Common.{arith}
use Rattle.std.proofs.lemmas.Result.{err_from_is_err_and}
use Rattle.lent.proofs.WroteLaws.{refuses, writes}
use Rattle.answer.specs.RowLines.{row_line}
use Rattle.answer.proofs.period.write_row.Goals as goal

pub returns-in_err-room : goal.returns-in_err-room
returns-in_err-room c =
    let p = err_from_is_err_and c.from_residual.result c.from_residual.ensures.1 in
    let full = c.in_err-room.ensures in
    rw (p.1, p.2, full.0) (refuses c.args.out.now (row_line c.args.n c.args.shown) (omega arith))

pub returns : goal.returns
returns c = let fits = c.in_ok-room.ensures in writes (omega arith) c.put_row.ensures
