-- The request that was read is answered; a malformed line is refused. Assumes nothing.
use Rattle.std.proofs.Common.{sym}
use Rattle.answer.proofs.SheetLaws.{malformed-line, request-line}
use Rattle.answer.proofs.answer_line.Goals as goal

pub returns-in-Some : goal.returns-in-Some
returns-in-Some c = rw (request-line c.args.sheet c.args.s.now (sym c.in-Some.ensures)) c.answer_request.ensures

pub returns-in-None : goal.returns-in-None
returns-in-None c = rw (malformed-line c.args.sheet c.args.s.now (sym c.in-None.ensures)) c.write_no.ensures
