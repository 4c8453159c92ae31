-- The digits of a number are those of its tenth and one more; how many there are, and the first of them. Assumes nothing.
use Prim.Native.Nat.{ℕ, zero, suc, ◌+◌, ◌/◌, ◌%◌, ◌^◌, ◌≤◌, ◌<◌}
use mathlib.Core.Path.{◌≡◌, refl, ap, ◌∙◌}
use mathlib.Core.Bool.{Bool, true, false, cond, ◌&&◌, and-false}
use mathlib.Core.List.{List, [], ◌∷◌, ◌++◌}
use native.Mathlib.Omega.{arith}
use native.Mathlib.Nat.{pow-suc}
use borrow.Author.Tests.{lt-ltb, le-ltb, ltb-true, ltb-false, ne_eqb}
use lib.Dec.{ltb, eqb}
use lib.IntN.{ℤ, pos, negsuc, nat_abs}
use lib.ListN.{length, get_or, length-append, get_or-append}
use lib.Signed.{lt_z}
use Rattle.exact.proofs.Signed.{lt-parts, nlt_parts}
use Rattle.numerals.specs.Render.{minus, digit0, digits_in, render, render_signed, ended}

-- more divisions than enough change nothing
enough : (f g n : ℕ) → n ≤ f → n ≤ g → digits_in f n ≡ digits_in g n
unfolding digits_in
enough zero zero n h k = refl
enough zero (suc g) n h k = rw (lt-ltb n 10 (omega arith))
enough (suc f) zero n h k = rw (lt-ltb n 10 (omega arith))
enough (suc f) (suc g) n h k =
    ap (λ (l : List ℕ). cond (ltb n 10) ((digit0 + n) ∷ []) (l ++ ((digit0 + n % 10) ∷ []))) (enough f g (n / 10) (omega arith) (omega arith))

pub render-one : (n : ℕ) → n < 10 → render n ≡ (digit0 + n) ∷ []
unfolding render digits_in
render-one zero h = refl
render-one (suc n) h = rw (lt-ltb (suc n) 10 h)

pub render-more : (n : ℕ) → 10 ≤ n → render n ≡ render (n / 10) ++ ((digit0 + n % 10) ∷ [])
unfolding render digits_in
render-more zero h = absurd (omega arith)
render-more (suc n) h =
    rw (le-ltb (suc n) 10 h)
    (ap (λ (l : List ℕ). l ++ ((digit0 + suc n % 10) ∷ [])) (enough n (suc n / 10) (suc n / 10) (omega arith) (omega arith)))

-- what holds of a digit, and of a number where it holds of its tenth, holds of every number
pub by_tenths : (P : ℕ → Type 0) → ((n : ℕ) → n < 10 → P n) → ((n : ℕ) → 10 ≤ n → P (n / 10) → P n) → (n : ℕ) → P n
by_tenths P one more n = up_to n n (omega arith)
  where
    up_to : (top m : ℕ) → m ≤ top → P m
    up_to zero m h = one m (omega arith)
    up_to (suc top) m h = go (ltb m 10) refl (up_to top (m / 10) (omega arith))
      where
        go : (t : Bool) → ltb m 10 ≡ t → P (m / 10) → P m
        go true e p = one m (ltb-true m 10 e)
        go false e p = more m (ltb-false m 10 e) p

pub length-one : (n : ℕ) → n < 10 → length (render n) ≡ 1
length-one n h = ap length (render-one n h)

pub length_more : (n : ℕ) → 10 ≤ n → length (render n) ≡ length (render (n / 10)) + 1
length_more n h = ap length (render-more n h) ∙ length-append (render (n / 10)) ((digit0 + n % 10) ∷ [])

-- a number below 10^(k + 1) has at most k + 1 digits
pub length-render : (k n : ℕ) → n < 10 ^ suc k → length (render n) ≤ suc k
length-render zero n h = omega (arith, length-one n (omega arith))
length-render (suc k) n h = go (ltb n 10) refl (length-render k (n / 10) (omega (arith, pow-suc 10 (suc k))))
  where
    go : (t : Bool) → ltb n 10 ≡ t → length (render (n / 10)) ≤ suc k → length (render n) ≤ suc (suc k)
    go true e ih = omega (arith, length-one n (ltb-true n 10 e))
    go false e ih = omega (arith, length_more n (ltb-false n 10 e))

-- ---- its first digit
pub some-digit : (n : ℕ) → 0 < length (render n)
some-digit = by_tenths (λ n. 0 < length (render n)) (λ n h. omega (arith, length-one n h)) (λ n h ih. omega (arith, length_more n h))

-- "0" leads no number but 0
pub no_leading_zero : (n : ℕ) → 1 ≤ n → digit0 < get_or (render n) 0 0
no_leading_zero =
    by_tenths (λ n. 1 ≤ n → digit0 < get_or (render n) 0 0)
    (λ n h k. rw (render-one n h) (omega arith))
    (λ n h ih k. rw (render-more n h, get_or-append (render (n / 10)) ((digit0 + n % 10) ∷ []) 0 0 (some-digit (n / 10))) (ih (omega arith)))

pub no_zero_more : (n : ℕ) → ltb 1 (length (render n)) && eqb (get_or (render n) 0 0) digit0 ≡ false
no_zero_more n = go (ltb n 10) refl
  where
    go : (t : Bool) → ltb n 10 ≡ t → ltb 1 (length (render n)) && eqb (get_or (render n) 0 0) digit0 ≡ false
    go true e = rw (length-one n (ltb-true n 10 e))
    go false e =
        let h : digit0 < get_or (render n) 0 0 = no_leading_zero n (omega (arith, ltb-false n 10 e)) in
        rw (ne_eqb (get_or (render n) 0 0) digit0 (λ q. omega arith)) (and-false (ltb 1 (length (render n))))

-- ---- with a sign
pub below_zero : (z : ℤ) → lt_z z (pos 0) ≡ true → render_signed z ≡ minus ∷ render (nat_abs z)
unfolding render_signed
below_zero (pos n) e = absurd (omega (arith, lt-parts (pos n) (pos 0) e))
below_zero (negsuc n) e = refl

pub not_below_zero : (z : ℤ) → lt_z z (pos 0) ≡ false → render_signed z ≡ render (nat_abs z)
unfolding render_signed
not_below_zero (pos n) e = refl
not_below_zero (negsuc n) e = absurd (omega (arith, nlt_parts (negsuc n) (pos 0) e))

-- and one byte more for a minus sign
pub length-signed : (k : ℕ) (z : ℤ) → nat_abs z < 10 ^ suc k → length (render_signed z) ≤ suc (suc k)
unfolding render_signed
length-signed k (pos n) h = omega (arith, length-render k n h)
length-signed k (negsuc n) h = omega (arith, length-render k (suc n) h)

-- ---- with the byte that ends it
pub length-ended : (n end : ℕ) → length (ended n end) ≡ length (render n) + 1
unfolding ended
length-ended n end = length-append (render n) (end ∷ [])
