-- How large a number of one field can be, so that it is read whole. Assumes nothing.
use Prim.Native.Nat.{ℕ, suc, ◌+◌, ◌-◌, ◌*◌, ◌^◌, ◌≤◌, ◌<◌}
use mathlib.Core.Path.{◌≡◌, refl, ap}
use mathlib.Core.Bool.{Bool, true, false, ◌&&◌, ◌||◌, cond}
use mathlib.Core.List.{List, [], ◌∷◌}
use native.Mathlib.Omega.{arith}
use native.Mathlib.Nat.{pow-succ', mul_assoc, mul-one, lt_of_lt_of_le, mul-le-mul_right, pow-le-pow_right}
use borrow.Author.Tests.{leb-true, ltb-false, lt-ltb, le-ltb, ne_eqb}
use lib.Dec.{leb, ltb, eqb, lit<}
use lib.ListN.{length, get_or}
use Rattle.std.specs.Prelude.{Option, Some, None}
use Rattle.std.specs.Option.{option_map}
use Rattle.numerals.specs.Render.{digit0, digit9}
use Rattle.numerals.specs.Plain.{is_digit, capped, plain_of}
use Rattle.text.specs.Grammar.{digits_of, unsigned_of}

-- a digit stands for less than 10
digit-le : (c : ℕ) → is_digit c ≡ true → c ≤ digit9
unfolding is_digit
digit-le c e = go (leb digit0 c) (leb c digit9) refl e
  where
    go : (a b : Bool) → leb c digit9 ≡ b → a && b ≡ true → c ≤ digit9
    go true true f g = leb-true c digit9 f
    go true false f g = cc
    go false b f g = cc

-- so k digits after those of n stand for less than (n + 1) 10^k
pub digits_lt : (n : ℕ) (s : List ℕ) (v : ℕ) → digits_of n s ≡ Some v → v < (n + 1) * 10 ^ length s
unfolding digits_of
digits_lt n [] v e = let z : n ≡ v = cc in omega (arith, mul-one (n + 1))
digits_lt n (c ∷ cs) v e = go (is_digit c) refl (digits_lt (n * 10 + (c - digit0)) cs v) e
  where
    go : (t : Bool) → is_digit c ≡ t → (digits_of (n * 10 + (c - digit0)) cs ≡ Some v → v < (n * 10 + (c - digit0) + 1) * 10 ^ length cs)
        → cond t (digits_of (n * 10 + (c - digit0)) cs) None ≡ Some v → v < (n + 1) * 10 ^ suc (length cs)
    go true h ih g =
        let p : n * 10 + (c - digit0) + 1 ≤ (n + 1) * 10 = omega (arith, digit-le c h) in
        lt_of_lt_of_le (ih g)
        (rw (pow-succ' 10 (length cs), ← mul_assoc (n + 1) 10 (10 ^ length cs)) (mul-le-mul_right (10 ^ length cs) p))
    go false h ih g = cc

-- and the number of a field is below a million
pub number_lt : (s : List ℕ) (v : ℕ) → unsigned_of s ≡ Some v → v < 1000000
unfolding unsigned_of
number_lt s v e = go (eqb (length s) 0) (ltb 6 (length s)) (ltb 1 (length s) && eqb (get_or s 0 0) digit0) refl e
  where
    go : (a b c : Bool) → ltb 6 (length s) ≡ b → cond (a || b || c) None (digits_of 0 s) ≡ Some v → v < 1000000
    go true b c h g = cc
    go false true c h g = cc
    go false false true h g = cc
    go false false false h g =
        let p : 10 ^ length s ≤ 10 ^ 6 = pow-le-pow_right (lit< tt) (ltb-false 6 (length s) h) in
        omega (arith, digits_lt 0 s v g)

-- so at most six digits stand as they are
pub six_digits : (s : List ℕ) → length s ≤ 6 → plain_of s ≡ unsigned_of s
unfolding plain_of unsigned_of
six_digits s h = rw (le-ltb 6 (length s) h) (go (eqb (length s) 0) (ltb 1 (length s) && eqb (get_or s 0 0) digit0) (digits_of 0 s) refl)
  where
    whole : (v : ℕ) → digits_of 0 s ≡ Some v → capped v ≡ v
    whole v e =
        let p : 10 ^ length s ≤ 10 ^ 6 = pow-le-pow_right (lit< tt) h in
        omega (arith, digits_lt 0 s v e)

    go : (a b : Bool) (o : Option ℕ) → digits_of 0 s ≡ o → cond (a || b) None (option_map capped o) ≡ cond (a || false || b) None o
    go true b o e = refl
    go false true o e = refl
    go false false (Some v) e = ap Some (whole v e)
    go false false None e = refl

pub seven_digits : (s : List ℕ) → 6 < length s → unsigned_of s ≡ None
unfolding unsigned_of
seven_digits s h = rw (ne_eqb (length s) 0 (λ e. omega arith), lt-ltb 6 (length s) h)
