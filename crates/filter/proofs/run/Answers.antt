-- A block has room for the longest answer, and so for what a reader is owed.
use Rattle.std.proofs.Common.{◌≤◌}
use native.Mathlib.Omega.{arith}
use Rattle.answer.specs.declared.Sheet.{Sheet}
use Rattle.answer.specs.declared.Sheet.TheVariants as S
use Rattle.answer.specs.Sheets.{longest_answer}
use Rattle.lists.proofs.CloseLaws.{closing-short}
use Rattle.filter.proofs.run.Goals as goal

-- a block has room for the longest answer of every sheet
enough : (sheet : Sheet) → longest_answer sheet ≤ 65536
enough S.Completion = omega arith
enough S.Prediction = omega arith
enough (S.Period t) = omega arith

pub end_list-requires : goal.end_list-requires
end_list-requires g c =
    omega (arith, closing-short c.args.sheet c.read_list-read.new.reader, enough c.args.sheet, c.read_list-read.auto.out)
