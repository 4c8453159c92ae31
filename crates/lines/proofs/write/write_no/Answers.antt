-- The line is counted, and written where it fits. Assumes nothing.
use Rattle.std.proofs.Common.{arith}
use Rattle.std.proofs.lemmas.Result.{err_from_is_err_and}
use Rattle.lent.proofs.WroteLaws.{refuses, writes}
use Rattle.lines.specs.Lines.{number_line}
use Rattle.lines.proofs.LineLaws.{length_no}
use Rattle.lines.proofs.write.write_no.Goals as goal

pub returns-in_err-room : goal.returns-in_err-room
returns-in_err-room g c =
    let p = err_from_is_err_and c.from_residual.result c.from_residual.ensures.1 in
    let full = c.in_err-room.ensures in
    rw (p.1, p.2, full.0, ← c.number-n.ensures) (refuses c.args.out.now (number_line c.number-n.result) (omega (arith, length_no c.number-n.result)))

pub put_no-requires : goal.put_no-requires
put_no-requires g c = let fits = c.in_ok-room.ensures in omega (arith, length_no c.number-n.result)

pub returns : goal.returns
returns g c =
    let fits = c.in_ok-room.ensures in
    rw (← c.number-n.ensures) (writes (omega (arith, length_no c.number-n.result)) c.put_no.ensures)
