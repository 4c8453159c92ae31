-- The answer lines of the completing program, as document 01 prints them under "Examples": the bytes of a line, its LF among them; and the
-- line of a refusal, which both programs print. Definitions only.
use Rattle.std.specs.Prelude.{ℕ, List, [], ◌∷◌, ◌++◌, Result, Ok, Err}
use Rattle.refusals.specs.declared.Refusal.{Refusal}
use Rattle.refusals.specs.Order.{number_of}
use Rattle.request.specs.declared.Field.{Field}
use Rattle.request.specs.declared.Field.TheVariants.{Measured, Inferred, Estimated, Blank}
use Rattle.request.specs.declared.Request.{Request}
use Rattle.request.specs.Fields.{size_of}
use Rattle.numerals.specs.Render.{lf, space, minus, ascii, ended}

-- ---- the letters
-- the byte "m", for what was measured
abbrev pub letter_m : ℕ
letter_m = 109

-- "i", for what the caller inferred
abbrev pub letter_i : ℕ
letter_i = 105

-- "e", for what we estimated
abbrev pub letter_e : ℕ
letter_e = 101

-- of a figure's origin; a completed request has no blank among its five columns
unfoldable pub letter_of : Field → ℕ
letter_of (Measured v) = letter_m
letter_of (Inferred v) = letter_i
letter_of (Estimated v) = letter_e
letter_of Blank = minus

-- ---- the line
-- a figure, and the space after it
unfoldable pub spaced : Field → List ℕ
unfolding size_of ended
spaced f = ended (size_of f) space

-- the five columns
abbrev pub columns : Request → List Field
columns c = c.dip ∷ c.w ∷ c.ztor ∷ c.rrup ∷ c.z25 ∷ []

-- the letters of the five columns, and the LF
unfoldable pub letters : Request → List ℕ
unfolding letter_of
letters c = letter_of c.dip ∷ letter_of c.w ∷ letter_of c.ztor ∷ letter_of c.rrup ∷ letter_of c.z25 ∷ lf ∷ []

-- "ok", the figures dip, W, ZTOR, RRUP and Z2.5, and their letters
unfoldable pub ok_line : Request → List ℕ
unfolding ascii spaced letters
ok_line c = ascii "ok " ++ spaced c.dip ++ spaced c.w ++ spaced c.ztor ++ spaced c.rrup ++ spaced c.z25 ++ letters c

-- "no" and a number
unfoldable pub number_line : ℕ → List ℕ
unfolding ascii ended
number_line n = ascii "no " ++ ended n lf

-- "no" and the refusal's number
abbrev pub no_line : Refusal → List ℕ
no_line n = number_line (number_of n)

-- of a completion, or of what there is in its place, by its number
unfoldable pub completion_line : {E : Type 0} → (E → ℕ) → Result Request E → List ℕ
unfolding ok_line number_line
completion_line number (Ok c) = ok_line c
completion_line number (Err n) = number_line (number n)
