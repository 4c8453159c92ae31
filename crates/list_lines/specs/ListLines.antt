-- A list of request lines, each with its LF: what it says, line by line. Definitions only.
use Rattle.std.specs.Prelude.{ℕ, Bool, true, false, cond, List, [], ◌∷◌, ◌++◌, eqb, length, Option, Some, None}
use Rattle.request.specs.declared.Request.{Request}
use Rattle.numerals.specs.Render.{lf}
use Rattle.text.specs.Grammar.{line_of}

-- the lines of the bytes that follow the start of a line; an unfinished last one is malformed
unfoldable pub lines_from : List ℕ → List ℕ → List (Option Request)
unfolding line_of
lines_from line [] = cond (eqb (length line) 0) [] (None ∷ [])
lines_from line (c ∷ cs) = cond (eqb c lf) (line_of line ∷ lines_from [] cs) (lines_from (line ++ (c ∷ [])) cs)

-- the lines of a list
abbrev pub lines_of : List ℕ → List (Option Request)
lines_of s = lines_from [] s

-- ---- what was read
-- whether none is malformed
unfoldable pub all_read : List (Option Request) → Bool
all_read [] = true
all_read (Some r ∷ ls) = all_read ls
all_read (None ∷ ls) = false

-- the requests of those that are not
unfoldable pub requests_in : List (Option Request) → List Request
requests_in [] = []
requests_in (Some r ∷ ls) = r ∷ requests_in ls
requests_in (None ∷ ls) = requests_in ls

-- a number n of such lines, or that one is malformed
unfoldable pub surveyed : List (Option Request) → ℕ → Option ℕ
unfolding all_read
surveyed ls n = cond (all_read ls) (Some n) None
