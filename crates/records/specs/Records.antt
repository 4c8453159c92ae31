-- A record of a site file, 02 K8: thirteen 32-bit signed numbers in document 01's field order, high byte first, blank being the lowest
-- such number; then thirteen bytes of origin. Definitions only.
use Rattle.std.specs.Prelude.{ℕ, zero, suc, ◌+◌, ◌-◌, ◌*◌, ◌/◌, ◌%◌, Bool, true, cond, ◌&&◌, List, [], ◌∷◌, ◌++◌, ltb, eqb, ℤ, pos, negsuc, take, drop, get_or, Option, Some, None}
use Rattle.std.specs.Option.{option_map}
use Rattle.request.specs.declared.Field.{Field}
use Rattle.request.specs.declared.Field.TheVariants.{Measured, Inferred, Estimated, Blank}
use Rattle.request.specs.declared.Request.{Request}
use Rattle.text.specs.Grammar.{signed_at, in_front, request_of}
use Rattle.fields.specs.Held.{fields_in, held}

-- ---- numbers
-- whether each number of a list is a byte
unfoldable pub are_bytes : List ℕ → Bool
are_bytes [] = true
are_bytes (c ∷ cs) = ltb c 256 && are_bytes cs

-- the last so many bytes of a number, high byte first
unfoldable pub high_first : ℕ → ℕ → List ℕ
high_first zero n = []
high_first (suc size) n = high_first size (n / 256) ++ ((n % 256) ∷ [])

-- the number that bytes make, high byte first, after those that make n
unfoldable pub number_from : ℕ → List ℕ → ℕ
number_from n [] = n
number_from n (c ∷ cs) = number_from (n * 256 + c) cs

-- the lowest 32-bit signed number, which is blank, as it stands in four bytes
abbrev pub lowest : ℕ
lowest = 2147483648

-- a 32-bit signed number as it stands in four bytes: one below 0 is 2^32 more
unfoldable pub word_of : ℤ → ℕ
word_of (pos n) = n
word_of (negsuc n) = 4294967295 - n

-- and back
unfoldable pub signed_in : ℕ → ℤ
signed_in n = cond (ltb n lowest) (pos n) (negsuc (4294967295 - n))

-- ---- one field: its number, and where that came from
unfoldable pub number_of : Field → ℕ
unfolding word_of
number_of (Measured v) = word_of v
number_of (Inferred v) = word_of v
number_of (Estimated v) = word_of v
number_of Blank = lowest

-- 0 measured, 1 inferred, 2 estimated by us, 3 blank, as K6 lists them
unfoldable pub origin_of : Field → ℕ
origin_of (Measured v) = 0
origin_of (Inferred v) = 1
origin_of (Estimated v) = 2
origin_of Blank = 3

-- a number that was given: 0 and 1 say how, and no other origin does
unfoldable pub given_as : ℕ → ℤ → Option Field
given_as origin v = cond (eqb origin 0) (Some (Measured v)) (cond (eqb origin 1) (Some (Inferred v)) None)

-- the field of a number and an origin: blank is both or neither, and any other number is one that text could hold there
unfoldable pub field_in : Bool → ℕ → ℕ → Option Field
unfolding held given_as signed_in
field_in signed number origin =
    cond (eqb origin 3)
    (cond (eqb number lowest) (Some Blank) None)
    (cond (held signed (signed_in number)) (given_as origin (signed_in number)) None)

-- ---- the record
-- how many fields, and how many bytes: four and one a field
abbrev pub fields : ℕ
fields = 13

abbrev pub record_size : ℕ
record_size = 65

unfoldable pub numbers_of : List Field → List ℕ
unfolding high_first number_of
numbers_of [] = []
numbers_of (f ∷ fs) = high_first 4 (number_of f) ++ numbers_of fs

unfoldable pub origins_of : List Field → List ℕ
unfolding origin_of
origins_of [] = []
origins_of (f ∷ fs) = origin_of f ∷ origins_of fs

-- a request, written
unfoldable pub record_of : Request → List ℕ
unfolding numbers_of origins_of fields_in
record_of r = numbers_of (fields_in r) ++ origins_of (fields_in r)

-- field k of a record
unfoldable pub field_at : List ℕ → ℕ → Option Field
unfolding field_in number_from signed_at
field_at s k = field_in (signed_at k) (number_from 0 (take 4 (drop (4 * k) s))) (get_or s (4 * fields + k) 0)

-- n fields from field k on, if all are well-formed
unfoldable pub fields_from : ℕ → ℕ → List ℕ → Option (List Field)
unfolding in_front field_at
fields_from zero k s = Some []
fields_from (suc n) k s = in_front (field_at s k) (fields_from n (k + 1) s)

-- the bytes of a record, read
unfoldable pub record_in : List ℕ → Option Request
unfolding request_of fields_from
record_in s = option_map request_of (fields_from fields 0 s)
