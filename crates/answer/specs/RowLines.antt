-- The answer lines of the predicting program: 24 for an accepted request, "measure number, ln median, median and total sigma as the
-- reported whole numbers, single spaces, no header"; for one period a line, the period in the measure's place. Definitions only.
use Rattle.std.specs.Prelude.{ℕ, zero, suc, List, [], ◌∷◌, ◌++◌, get_or, Result, Ok, Err}
use Rattle.tables.specs.Tables.{measures}
use Rattle.model.specs.declared.Row.{Row}
use Rattle.model.specs.declared.Shown.{Shown}
use Rattle.model.specs.Rows.{shown_of, no_shown}
use Rattle.numerals.specs.Render.{lf, space, render_signed, ended}
use Rattle.lines.specs.Lines.{number_line}

-- the line of measure k
unfoldable pub row_line : ℕ → Shown → List ℕ
unfolding ended
row_line k r = ended k space ++ render_signed r.ln ++ (space ∷ []) ++ ended r.median space ++ ended r.sigma lf

-- the lines of the first n measures
unfoldable pub row_lines : ℕ → List Shown → List ℕ
unfolding row_line
row_lines zero rows = []
row_lines (suc k) rows = row_lines k rows ++ row_line k (get_or rows k no_shown)

-- the lines of a spectrum, or that of what there is in its place, by its number
unfoldable pub spectrum_lines : {E : Type 0} → (E → ℕ) → Result (List Shown) E → List ℕ
unfolding row_lines number_line
spectrum_lines number (Ok rows) = row_lines measures rows
spectrum_lines number (Err n) = number_line (number n)

-- the line of period t, likewise
unfoldable pub period_line : {E : Type 0} → (E → ℕ) → ℕ → Result Row E → List ℕ
unfolding row_line shown_of number_line
period_line number t (Ok w) = row_line t (shown_of w)
period_line number t (Err n) = number_line (number n)
