-- The answer on the sheet is written and counted. Assumes nothing.
use Rattle.export.proofs.LineLaws.{line-given}
use Rattle.export.proofs.xanhupive_complete_line.Goals as goal

pub returns : goal.returns
returns c = line-given c.unwrap_or.result c.answer_line.ensures c.unwrap_or.ensures
