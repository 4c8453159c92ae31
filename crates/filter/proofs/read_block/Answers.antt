-- What was read is answered.
use Rattle.filter.proofs.TurnLaws.{of_read}
use Rattle.filter.proofs.read_block.Goals as goal

pub returns : goal.returns
returns g c = of_read c.read-got.result c.args.reader.now c.answer_read.new.reader c.read-got.new.buf c.answer_read.result c.answer_read.ensures
