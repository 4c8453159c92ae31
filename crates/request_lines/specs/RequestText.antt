-- A request as a line of text: what `line_of` reads, written. Definitions only.
use Rattle.std.specs.Prelude.{ℕ, List, [], ◌∷◌, ◌++◌}
use Rattle.request.specs.declared.Field.{Field}
use Rattle.request.specs.declared.Field.TheVariants.{Measured, Inferred, Estimated, Blank}
use Rattle.request.specs.declared.Request.{Request}
use Rattle.numerals.specs.Render.{lf, space, minus, render_signed}
use Rattle.text.specs.Grammar.{tilde}
use Rattle.fields.specs.Held.{fields_in}

-- a figure in digits, a "~" before an inferred one, "-" for blank
unfoldable pub field_text : Field → List ℕ
unfolding render_signed
field_text (Measured v) = render_signed v
field_text (Inferred v) = tilde ∷ render_signed v
field_text (Estimated v) = []
field_text Blank = minus ∷ []

-- fields that follow another: a space before each
unfoldable pub more_text : List Field → List ℕ
unfolding field_text
more_text [] = []
more_text (f ∷ fs) = space ∷ (field_text f ++ more_text fs)

-- some fields, single spaces between them
unfoldable pub fields_text : List Field → List ℕ
unfolding more_text
fields_text [] = []
fields_text (f ∷ fs) = field_text f ++ more_text fs

-- the line of a request, its LF not among its bytes
unfoldable pub line_text : Request → List ℕ
unfolding fields_text fields_in
line_text r = fields_text (fields_in r)

-- ---- a list
-- lines, each with its LF
unfoldable pub list_text : List Request → List ℕ
unfolding line_text
list_text [] = []
list_text (r ∷ rs) = line_text r ++ (lf ∷ list_text rs)
