-- The text form of a request, as document 01 gives it under "The request": the bytes of a line, its LF not among them, to the
-- request that they stand for. Definitions only.
use Rattle.std.specs.Prelude.{ℕ, zero, suc, ◌+◌, Bool, cond, ◌&&◌, ◌||◌, List, [], ◌∷◌, ltb, eqb, ℤ, pos, negsuc, length, get_or, take, drop, Option, Some, None}
use Rattle.std.specs.Option.{option_map, option_and_then}
use Rattle.request.specs.declared.Field.{Field}
use Rattle.request.specs.declared.Field.TheVariants.{Measured, Inferred, Blank}
use Rattle.request.specs.declared.Request.{Request}
use Rattle.numerals.specs.Render.{space, minus, digit0}
unfoldable pub use Rattle.numerals.specs.Plain.{digits_of}

-- ---- one field
-- the byte "~", which stands directly before an inferred figure
abbrev pub tilde : ℕ
tilde = 126

-- a number has 1 to 6 digits, no leading zero (0 itself allowed)
unfoldable pub unsigned_of : List ℕ → Option ℕ
unsigned_of s =
    cond (eqb (length s) 0 || ltb 6 (length s) || ltb 1 (length s) && eqb (get_or s 0 0) digit0) None (digits_of 0 s)

-- the number after a minus sign: never "-0"
unfoldable pub negative : ℕ → Option ℤ
negative zero = None
negative (suc n) = Some (negsuc n)

-- a number, after a minus sign where the field may have one
unfoldable pub signed_of : Bool → List ℕ → Option ℤ
signed_of signed s =
    cond (eqb (get_or s 0 0) minus)
    (cond signed (option_and_then negative (unsigned_of (drop 1 s))) None)
    (option_map pos (unsigned_of s))

-- blank is one "-"; a figure is inferred with a "~" before it and its sign, and measured without; an estimated one cannot be written
unfoldable pub field_of : Bool → List ℕ → Option Field
field_of signed s =
    cond (eqb (length s) 1 && eqb (get_or s 0 0) minus) (Some Blank)
    (cond (eqb (get_or s 0 0) tilde) (option_map Inferred (signed_of signed (drop 1 s))) (option_map Measured (signed_of signed s)))

-- ---- the line
-- the most bytes that a line has before its LF
abbrev pub longest : ℕ
longest = 115

-- the place of the first space, or the length where there is none
unfoldable pub space_at : List ℕ → ℕ
space_at [] = 0
space_at (c ∷ cs) = cond (eqb c space) 0 (suc (space_at cs))

-- fields are numbered from 0: only rake and azimuth may have a minus sign
unfoldable pub signed_at : ℕ → Bool
signed_at k = eqb k 1 || eqb k 8

-- one field more in front, if it and all behind it are well-formed
unfoldable pub in_front : Option Field → Option (List Field) → Option (List Field)
in_front (Some f) fs = option_map (λ rest. f ∷ rest) fs
in_front None fs = None

-- from field k on: n fields with one space after each, and one more that takes all the rest
unfoldable pub fields_of : ℕ → ℕ → List ℕ → Option (List Field)
fields_of zero k s = in_front (field_of (signed_at k) s) (Some [])
fields_of (suc n) k s =
    cond (ltb (space_at s) (length s))
    (in_front (field_of (signed_at k) (take (space_at s) s)) (fields_of n (k + 1) (drop (space_at s + 1) s)))
    None

-- field k of thirteen; past the last stands a default that is never read
abbrev pub field_at : List Field → ℕ → Field
field_at f k = get_or f k (Measured (pos 0))

-- thirteen fields in document 01's order
unfoldable pub request_of : List Field → Request
request_of f =
    record {
      m = field_at f 0;
      rake = field_at f 1;
      vs30 = field_at f 2;
      dip = field_at f 3;
      w = field_at f 4;
      zhyp = field_at f 5;
      ztor = field_at f 6;
      rjb = field_at f 7;
      azimuth = field_at f 8;
      rrup = field_at f 9;
      z10 = field_at f 10;
      z15 = field_at f 11;
      z25 = field_at f 12;
    }

-- the line: twelve fields with a space after each, and a thirteenth
unfoldable pub line_of : List ℕ → Option Request
line_of s = cond (ltb longest (length s)) None (option_map request_of (fields_of 12 0 s))
