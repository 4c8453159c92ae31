-- By what the writer of the last answer says: the reader is a new one, or it is refused and nothing has changed. Assumes nothing.
use Rattle.std.proofs.lemmas.Result.{err_from_is_err_and}
use Rattle.lists.proofs.CloseLaws.{closed_to, closed_refused}
use Rattle.lists.proofs.close_list.Goals as goal

pub returns-in_err-n : goal.returns-in_err-n
returns-in_err-n c =
    let p = err_from_is_err_and c.from_residual.result c.from_residual.ensures.1 in
    rw (p.1, p.2) (closed_refused _ c.in_err-n.ensures)

pub returns : goal.returns
returns c = closed_to _ c.in_ok-n.ensures c.new.ensures
