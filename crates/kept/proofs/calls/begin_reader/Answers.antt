-- A new reader's bytes stand first; too few are left as they were. Assumes nothing.
use Rattle.std.proofs.lemmas.Result.{err_from_is_err_and}
use Rattle.kept.proofs.TellLaws.{begin_misuse, begin_good}
use Rattle.kept.proofs.calls.begin_reader.Goals as goal

pub returns-in_err-check_size : goal.returns-in_err-check_size
returns-in_err-check_size c =
    let p = err_from_is_err_and c.from_residual.result c.from_residual.ensures.1 in
    let short = c.in_err-check_size.ensures in
    rw (p.1, p.2, short.0) (begin_misuse c.args.reader.now short.1)

pub returns : goal.returns
returns c = begin_good c.in_ok-check_size.ensures c.new.ensures c.put_reader.ensures
