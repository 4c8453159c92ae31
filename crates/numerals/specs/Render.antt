-- Bytes by name, and numbers as decimal digits. Definitions only.
use Rattle.std.specs.Prelude.{ℕ, zero, suc, ◌+◌, ◌/◌, ◌%◌, cond, List, [], ◌∷◌, ◌++◌, ltb, ℤ, pos, negsuc}
use Prim.Native.Char.{code}
use Prim.Native.String.{String}
use Prim.Native.String as S

-- the byte LF
abbrev pub lf : ℕ
lf = 10

-- the byte " "
abbrev pub space : ℕ
space = 32

-- the byte "-"
abbrev pub minus : ℕ
minus = 45

-- the byte "0"
abbrev pub digit0 : ℕ
digit0 = 48

-- the byte "9"
abbrev pub digit9 : ℕ
digit9 = 57

-- the bytes of an ASCII text
unfoldable pub ascii : String → List ℕ
ascii S.[] = []
ascii (S.◌∷◌ c cs) = code c ∷ ascii cs

-- the digits of n, in at most depth divisions by 10
unfoldable pub digits_in : ℕ → ℕ → List ℕ
digits_in zero n = (digit0 + n) ∷ []
digits_in (suc depth) n = cond (ltb n 10) ((digit0 + n) ∷ []) (digits_in depth (n / 10) ++ ((digit0 + n % 10) ∷ []))

-- n in decimal with no leading zero: n divisions are always enough
unfoldable pub render : ℕ → List ℕ
render n = digits_in n n

-- a number of either sign
unfoldable pub render_signed : ℤ → List ℕ
render_signed (pos n) = render n
render_signed (negsuc n) = minus ∷ render (suc n)

-- a number, and the byte that ends it
unfoldable pub ended : ℕ → ℕ → List ℕ
ended n end = render n ++ (end ∷ [])
