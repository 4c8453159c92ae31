-- The line is counted, and written where it fits. Assumes nothing.
use Rattle.std.proofs.Common.{arith}
use Rattle.std.proofs.lemmas.Result.{err_from_is_err_and}
use Rattle.lent.proofs.WroteLaws.{refuses, writes}
use Rattle.lines.specs.Lines.{ok_line}
use Rattle.lines.proofs.write.write_ok.Goals as goal

pub returns-in_err-room : goal.returns-in_err-room
returns-in_err-room c =
    let p = err_from_is_err_and c.from_residual.result c.from_residual.ensures.1 in
    let full = c.in_err-room.ensures in
    rw (p.1, p.2, full.0) (refuses c.args.out.now (ok_line c.args.c) (omega arith))

pub returns : goal.returns
returns c = let fits = c.in_ok-room.ensures in writes (omega arith) c.put_ok.ensures
