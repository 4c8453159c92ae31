-- A number that was written, read back: its digits stand for it, whatever its size. Each law of digits goes from a number's tenth to the
-- number. Assumes nothing.
use Prim.Native.Nat.{ℕ, ◌+◌, ◌-◌, ◌*◌, ◌/◌, ◌%◌, ◌≤◌, ◌<◌}
use mathlib.Core.Path.{◌≡◌, ap, ◌∙◌}
use mathlib.Core.Bool.{Bool, true, false, cond}
use mathlib.Core.List.{List, [], ◌∷◌, ◌++◌}
use native.Mathlib.Omega.{arith}
use borrow.Author.Tests.{ne_eqb, le-leb}
use lib.ListN.{length}
use Rattle.std.specs.Prelude.{Some, None}
use Rattle.numerals.specs.Render.{digit0, digit9, render}
use Rattle.numerals.specs.Plain.{is_digit, digits_of, largest, plain_of}
use Rattle.numerals.proofs.RenderLaws.{by_tenths, render-one, render-more, some-digit, no_zero_more}

-- ---- one digit more
module _ (d : ℕ) (small : d < 10) where
  digit : is_digit (digit0 + d) ≡ true
  unfolding is_digit
  digit = rw (le-leb digit0 (digit0 + d) (omega arith), le-leb (digit0 + d) digit9 (omega arith))

  last-digit : (n : ℕ) → digits_of n ((digit0 + d) ∷ []) ≡ Some (n * 10 + d)
  unfolding digits_of
  last-digit n = rw digit (ap (λ (k : ℕ). Some (n * 10 + k)) (omega arith))

  more_digits : (n : ℕ) (s : List ℕ) (v : ℕ) → digits_of n s ≡ Some v → digits_of n (s ++ ((digit0 + d) ∷ [])) ≡ Some (v * 10 + d)
  unfolding digits_of
  more_digits n [] v e = let z : n ≡ v = cc in rw z (last-digit v)
  more_digits n (c ∷ cs) v e = go (is_digit c) (more_digits (n * 10 + (c - digit0)) cs v) e
    where
      go : (t : Bool) → (digits_of (n * 10 + (c - digit0)) cs ≡ Some v → digits_of (n * 10 + (c - digit0)) (cs ++ ((digit0 + d) ∷ [])) ≡ Some (v * 10 + d))
          → cond t (digits_of (n * 10 + (c - digit0)) cs) None ≡ Some v
          → cond t (digits_of (n * 10 + (c - digit0)) (cs ++ ((digit0 + d) ∷ []))) None ≡ Some (v * 10 + d)
      go true ih g = ih g
      go false ih g = cc

-- ---- the digits of any number
pub digits_back : (n : ℕ) → digits_of 0 (render n) ≡ Some n
digits_back =
    by_tenths (λ n. digits_of 0 (render n) ≡ Some n)
    (λ n h. rw (render-one n h) (last-digit n h 0 ∙ ap Some (omega arith)))
    (λ n h ih. rw (render-more n h) (more_digits (n % 10) (omega arith) 0 (render (n / 10)) (n / 10) ih ∙ ap Some (omega arith)))

-- ---- the number itself
pub plain_back : (n : ℕ) → n ≤ largest → plain_of (render n) ≡ Some n
unfolding plain_of
plain_back n h =
    rw (ne_eqb (length (render n)) 0 (λ q. omega (arith, some-digit n)), no_zero_more n, digits_back n) (ap Some (omega arith))
