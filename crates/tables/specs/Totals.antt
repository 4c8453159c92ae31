-- What 003 says of Table 3's own numbers: the printed totals are roots of sums of squares (equations 16 and 18). Definitions only.
use Rattle.std.specs.Prelude.{ℕ, ◌+◌, ◌*◌, ◌-◌, ◌≤◌}
use Rattle.tables.specs.declared.Deviations.{Deviations}

-- n times itself
abbrev pub square : ℕ → ℕ
square n = n * n

-- r is the root of n to the nearest whole number: r - 1/2 ≤ √n ≤ r + 1/2
abbrev pub RootOf : ℕ → ℕ → Type 0
RootOf n r = (square (2 * r - 1) ≤ 4 * n) × (4 * n ≤ square (2 * r + 1))

-- the square of the total deviation, s² + t²
abbrev pub total : Deviations → ℕ
total r = square r.s + square r.t

-- the square of the arbitrary component's, from s and t and not from the printed sT: that is rounded, and in seven rows a sum
-- with it misses the printed sArb by more than half of the last digit
abbrev pub arbitrary : Deviations → ℕ
arbitrary r = total r + square r.sC
