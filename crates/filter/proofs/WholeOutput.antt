-- The output of a program as a whole. Assumes nothing.
use Prim.Native.Nat.{ℕ}
use mathlib.Core.Path.{◌≡◌, ap}
use mathlib.Core.List.{List, [], ◌++◌, append-nil}
use Rattle.answer.specs.declared.Sheet.{Sheet}
use Rattle.lists.specs.Parts.{new_reader, Answered}
use Rattle.lists.specs.Whole.{ending, answers_from, answers_to}
use Rattle.lists.proofs.WholeList.{answered-whole}
use Rattle.filter.specs.Output.{header_of, output_to}

-- the header, then the texts that a reader writes for a list offered in parts and at the close
pub output_whole : {sheet : Sheet} {list text : List ℕ} → Answered sheet new_reader list text → header_of sheet ++ text ≡ output_to sheet list
unfolding output_to
output_whole {sheet} a = ap (λ (l : List ℕ). header_of sheet ++ l) (answered-whole a)

-- empty input still prints the header
pub output_of_nothing : (sheet : Sheet) → output_to sheet [] ≡ header_of sheet
unfolding output_to answers_to answers_from ending
output_of_nothing sheet = append-nil (header_of sheet)
