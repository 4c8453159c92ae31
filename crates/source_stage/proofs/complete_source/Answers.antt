-- A refusal of the given figures is handed on. Assumes nothing.
use mathlib.Core.Path.{sym}
use Rattle.std.proofs.lemmas.Result.{err_from_is_err_and}
use Rattle.outcome.proofs.Staged.{source_refused}
use Rattle.source_stage.proofs.complete_source.Goals as goal

pub returns-in_err-test_source-clause-refused : goal.returns-in_err-test_source-clause-refused
returns-in_err-test_source-clause-refused c =
    let p = err_from_is_err_and c.from_residual.result c.from_residual.ensures.1 in
    let e = source_refused c.args.r _ (sym c.in_err-test_source.ensures) in
    rw (p.1, p.2) (sym e)
