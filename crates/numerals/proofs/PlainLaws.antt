-- What digits stand for from a place of a list on, by the byte at that place; beyond the largest number all values are one. Assumes nothing.
use Prim.Native.Nat.{ℕ, suc, ◌+◌, ◌-◌, ◌*◌, ◌≤◌, ◌<◌}
use mathlib.Core.Path.{◌≡◌, refl, ap}
use mathlib.Core.Bool.{Bool, true, false, cond}
use mathlib.Core.List.{List, [], ◌∷◌}
use native.Mathlib.Omega.{arith}
use native.Mathlib.Numerals.{add-one}
use borrow.Author.Tests.{ltb-true, ltb-false}
use lib.Dec.{ltb}
use lib.ListN.{length, get_or, drop, drop_of_length-le}
use lib.Seq.{drop-cons}
use Rattle.std.specs.Prelude.{Option, Some, None}
use Rattle.std.specs.Option.{option_map}
use Rattle.numerals.specs.Render.{digit0}
use Rattle.numerals.specs.Plain.{is_digit, digits_of, largest, capped}

-- what digits after those of n stand for, as it stands in the answer
abbrev pub Read : ℕ → List ℕ → Option ℕ
Read n s = option_map capped (digits_of n s)

-- ---- beyond the largest number
-- digits make no value smaller
beyond : (n m : ℕ) (s : List ℕ) → largest ≤ n → largest ≤ m → Read n s ≡ Read m s
unfolding digits_of
beyond n m [] h k = ap Some (omega arith)
beyond n m (c ∷ cs) h k = go (is_digit c) (beyond (n * 10 + (c - digit0)) (m * 10 + (c - digit0)) cs (omega arith) (omega arith))
  where
    go : (t : Bool) → Read (n * 10 + (c - digit0)) cs ≡ Read (m * 10 + (c - digit0)) cs
        → option_map capped (cond t (digits_of (n * 10 + (c - digit0)) cs) None) ≡ option_map capped (cond t (digits_of (m * 10 + (c - digit0)) cs) None)
    go true ih = ih
    go false ih = refl

-- so a value may be cut at the largest before the digits that follow it
value-capped : (n : ℕ) (s : List ℕ) → Read n s ≡ Read (capped n) s
value-capped n s = go (ltb n largest) refl
  where
    go : (t : Bool) → ltb n largest ≡ t → Read n s ≡ Read (capped n) s
    go true e = ap (λ (m : ℕ). Read m s) (omega (arith, ltb-true n largest e))
    go false e = beyond n (capped n) s (ltb-false n largest e) (omega (arith, ltb-false n largest e))

-- ---- by the byte at a place
module _ (n : ℕ) (s : List ℕ) (i : ℕ) where
  pub digit_read : (v : ℕ) → Some v ≡ cond (is_digit (get_or s i 0)) (Some (capped (n * 10 + (get_or s i 0 - digit0)))) None → i < length s
      → (v ≤ largest) × (Read n (drop i s) ≡ Read v (drop (i + 1) s))
  unfolding digits_of
  digit_read v e h = rw (drop-cons s i 0 h, add-one i) (go (is_digit (get_or s i 0)) e)
    where
      go : (t : Bool) → Some v ≡ cond t (Some (capped (n * 10 + (get_or s i 0 - digit0)))) None
          → (v ≤ largest) × (option_map capped (cond t (digits_of (n * 10 + (get_or s i 0 - digit0)) (drop (suc i) s)) None) ≡ Read v (drop (suc i) s))
      go true g = let z : v ≡ capped (n * 10 + (get_or s i 0 - digit0)) = cc in (omega arith, rw z (value-capped (n * 10 + (get_or s i 0 - digit0)) (drop (suc i) s)))
      go false g = let z : ◌≡◌ {A = ℕ} 0 1 = cc in absurd (omega arith)

  pub no_digit : None ≡ cond (is_digit (get_or s i 0)) (Some (capped (n * 10 + (get_or s i 0 - digit0)))) None → i < length s → Read n (drop i s) ≡ None
  unfolding digits_of
  no_digit e h = rw (drop-cons s i 0 h) (go (is_digit (get_or s i 0)) e)
    where
      go : (t : Bool) → None ≡ cond t (Some (capped (n * 10 + (get_or s i 0 - digit0)))) None
          → option_map capped (cond t (digits_of (n * 10 + (get_or s i 0 - digit0)) (drop (suc i) s)) None) ≡ None
      go true g = let z : ◌≡◌ {A = ℕ} 0 1 = cc in absurd (omega arith)
      go false g = refl

  pub digits_end : length s ≤ i → n ≤ largest → Read n (drop i s) ≡ Some n
  unfolding digits_of
  digits_end h small = rw (drop_of_length-le s h) (ap Some (omega arith))
