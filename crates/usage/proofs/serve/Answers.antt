-- The status is that of what the run answered.
use Rattle.usage.proofs.serve.Goals as goal

pub returns-in-Run-clause-answers : goal.returns-in-Run-clause-answers
returns-in-Run-clause-answers g c = rw c.in-Run.is (c.run.result, c.run.ensures, c.into.ensures)
