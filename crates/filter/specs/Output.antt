-- What a program writes for a list on its standard input. Definitions only.
use Rattle.std.specs.Prelude.{ℕ, List, [], ◌∷◌, ◌++◌}
use Rattle.numerals.specs.Render.{ascii}
use Rattle.numerals.specs.Render.{lf}
use Rattle.answer.specs.declared.Sheet.{Sheet}
use Rattle.answer.specs.declared.Sheet.TheVariants as S
use Rattle.lists.specs.Whole.{answers_to}

-- the header: the completing program's alone has one
unfoldable pub header_of : Sheet → List ℕ
unfolding ascii
header_of S.Completion = ascii "dip W ZTOR RRUP Z25 from" ++ (lf ∷ [])
header_of S.Prediction = []
header_of (S.Period t) = []

-- the whole output: the header, then the answers
unfoldable pub output_to : Sheet → List ℕ → List ℕ
unfolding header_of answers_to
output_to sheet list = header_of sheet ++ answers_to sheet list
