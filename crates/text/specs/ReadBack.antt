-- A number that was written, read back. Definitions only.
use Rattle.std.specs.Prelude.{ℕ, cond, List, eqb, ℤ, pos, get_or, drop, Option}
use Rattle.std.specs.Option.{option_map, option_and_then}
use Rattle.numerals.specs.Render.{minus}
use Rattle.text.specs.Grammar.{digits_of, negative}

-- a number of either sign, whatever its size
unfoldable pub signed_back : List ℕ → Option ℤ
signed_back s = cond (eqb (get_or s 0 0) minus) (option_and_then negative (digits_of 0 (drop 1 s))) (option_map pos (digits_of 0 s))
