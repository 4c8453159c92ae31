-- A refused close leaves all as it was; else a new reader's bytes stand first. Assumes nothing.
use Rattle.std.proofs.lemmas.Result.{err_from_is_err_and}
use Rattle.kept.specs.Calls.{loan}
use Rattle.kept.proofs.TellLaws.{close_short, close_refused, close_taken}
use Rattle.kept.proofs.calls.close_in.Goals as goal

pub returns-in_err-check_size : goal.returns-in_err-check_size
returns-in_err-check_size c =
    let p = err_from_is_err_and c.from_residual.result c.from_residual.ensures.1 in
    let short = c.in_err-check_size.ensures in
    rw (p.1, p.2, short.0) (close_short (loan c.args.reader.now c.args.out.now 0 c.args.wrote.now) short.1)

pub returns-in_err-n : goal.returns-in_err-n
returns-in_err-n c =
    let p = err_from_is_err_and c.from_residual-in_err-n.result c.from_residual-in_err-n.ensures.1 in
    rw (p.1, p.2)
    (close_refused (loan c.args.reader.now c.args.out.now 0 c.args.wrote.now) c.in_ok-check_size.ensures c.reader_in-now.ensures
    c.close_list.ensures c.in_err-n.field-0.0 c.in_err-n.was)

pub returns : goal.returns
returns c =
    close_taken (loan c.args.reader.now c.args.out.now 0 c.args.wrote.now) c.in_ok-check_size.ensures c.reader_in-now.ensures
    c.close_list.ensures c.in_ok-n.n c.in_ok-n.was c.put_reader.ensures
