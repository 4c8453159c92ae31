-- The bytes that the library makes of a number, and the number that it makes of bytes, are those of the definitions. Assumes nothing.
use Prim.Native.Nat.{ℕ, suc, ◌+◌, ◌/◌, ◌%◌, ◌≤◌}
use mathlib.Core.Path.{◌≡◌}
use mathlib.Core.List.{List, [], ◌∷◌}
use native.Mathlib.Omega.{arith}
use lib.ListN.{length, get_or, take, drop}
use lib.Seq.{drop-cons}
use Rattle.std.specs.Int.{w16, w32, to_be_bytes, from_be_bytes}
use Rattle.records.specs.Records.{high_first, number_from}

-- ---- written
pub short_bytes : (n : ℕ) → to_be_bytes w16 (n % 65536) ≡ high_first 2 n
unfolding high_first
short_bytes n =
    let a : n % 65536 / 256 % 256 ≡ n / 256 % 256 = omega arith in
    let z : n % 65536 % 256 ≡ n % 256 = omega arith in
    rw (a, z)

pub long_bytes : (n : ℕ) → to_be_bytes w32 (n % 4294967296) ≡ high_first 4 n
unfolding high_first
long_bytes n =
    let a : n % 4294967296 / 16777216 % 256 ≡ n / 256 / 256 / 256 % 256 = omega arith in
    let b : n % 4294967296 / 65536 % 256 ≡ n / 256 / 256 % 256 = omega arith in
    let d : n % 4294967296 / 256 % 256 ≡ n / 256 % 256 = omega arith in
    let z : n % 4294967296 % 256 ≡ n % 256 = omega arith in
    rw (a, b, d, z)

-- ---- read
two_of : (s : List ℕ) (i : ℕ) → i + 2 ≤ length s → drop i s ≡ get_or s i 0 ∷ get_or s (i + 1) 0 ∷ drop (i + 2) s
two_of s i h =
    let one : suc i ≡ i + 1 = omega arith in
    let two : suc (i + 1) ≡ i + 2 = omega arith in
    rw (drop-cons s i 0 (omega arith), one, drop-cons s (i + 1) 0 (omega arith), two)

pub short_read : (s : List ℕ) (i : ℕ) → i + 2 ≤ length s → number_from 0 (take 2 (drop i s)) ≡ from_be_bytes w16 (get_or s i 0 ∷ get_or s (i + 1) 0 ∷ [])
unfolding number_from
short_read s i h = rw (two_of s i h) (omega arith)

pub long_read : (s : List ℕ) (i : ℕ) → i + 4 ≤ length s
    → number_from 0 (take 4 (drop i s)) ≡ from_be_bytes w32 (get_or s i 0 ∷ get_or s (i + 1) 0 ∷ get_or s (i + 2) 0 ∷ get_or s (i + 3) 0 ∷ [])
unfolding number_from
long_read s i h =
    let three : i + 2 + 1 ≡ i + 3 = omega arith in
    rw (two_of s i (omega arith), two_of s (i + 2) (omega arith), three) (omega arith)
