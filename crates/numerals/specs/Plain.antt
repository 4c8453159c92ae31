-- A plain number: the bytes of one to the number that they stand for. Definitions only.
use Rattle.std.specs.Prelude.{ℕ, ◌+◌, ◌-◌, ◌*◌, min, Bool, cond, ◌&&◌, ◌||◌, List, [], ◌∷◌, ltb, leb, eqb, length, get_or, Option, Some, None}
use Rattle.std.specs.Option.{option_map}
use Rattle.numerals.specs.Render.{digit0, digit9}

-- "0" to "9"
unfoldable pub is_digit : ℕ → Bool
is_digit c = leb digit0 c && leb c digit9

-- the number that digits, and nothing else, stand for after those that make n
unfoldable pub digits_of : ℕ → List ℕ → Option ℕ
digits_of n [] = Some n
digits_of n (c ∷ cs) = cond (is_digit c) (digits_of (n * 10 + (c - digit0)) cs) None

-- 10^18, as which every larger number stands
abbrev pub largest : ℕ
largest = 1000000000000000000

-- a number as it stands here
abbrev pub capped : ℕ → ℕ
capped n = min n largest

-- a plain number has one digit or more, no leading zero (0 itself allowed)
unfoldable pub plain_of : List ℕ → Option ℕ
plain_of s = cond (eqb (length s) 0 || ltb 1 (length s) && eqb (get_or s 0 0) digit0) None (option_map capped (digits_of 0 s))
