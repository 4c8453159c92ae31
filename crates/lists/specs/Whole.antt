-- The answers to a whole list of requests: one at each LF, and that to a malformed line for a last one without it. Definitions only.
use Rattle.std.specs.Prelude.{ℕ, cond, List, [], ◌∷◌, ◌++◌, eqb, length}
use Rattle.refusals.specs.declared.Refusal.TheVariants as No
use Rattle.numerals.specs.Render.{lf}
use Rattle.lines.specs.Lines.{number_line, no_line}
use Rattle.answer.specs.declared.Sheet.{Sheet}
use Rattle.answer.specs.Sheets.{answer_to}

-- the answer to a last line without an LF: none if it has no byte
unfoldable pub ending : List ℕ → List ℕ
unfolding number_line
ending line = cond (eqb (length line) 0) [] (no_line No.Malformed)

-- the answers to the bytes that follow the start of a line
unfoldable pub answers_from : Sheet → List ℕ → List ℕ → List ℕ
unfolding ending answer_to
answers_from sheet line [] = ending line
answers_from sheet line (c ∷ cs) =
    cond (eqb c lf) (answer_to sheet line ++ answers_from sheet [] cs) (answers_from sheet (line ++ (c ∷ [])) cs)

-- the answers to a list
unfoldable pub answers_to : Sheet → List ℕ → List ℕ
unfolding answers_from
answers_to sheet s = answers_from sheet [] s
