-- What was written, read back: a number's digits stand for the number, whatever its size; a figure that the grammar allows, written and read
-- as a field, is measured as that figure, and inferred as it with a "~" before it; and no rendered number has a space in it. Each law of
-- digits goes from a number's tenth to the number. Assumes nothing.
use Prim.Native.Nat.{ℕ, suc, ◌+◌, ◌/◌, ◌%◌, ◌≤◌, ◌<◌}
use mathlib.Core.Path.{◌≡◌, refl, ap, ◌∙◌}
use mathlib.Core.Bool.{Bool, true, false, ◌&&◌, cond, and-false}
use mathlib.Core.List.{List, [], ◌∷◌, ◌++◌}
use native.Mathlib.Omega.{arith}
use borrow.Author.Tests.{le-ltb, ne_eqb}
use lib.Dec.{eqb}
use lib.IntN.{ℤ, pos, negsuc, nat_abs}
use lib.ListN.{length, get_or, length-append, get_or-append}
use lib.Signed.{lt_z}
use Rattle.std.specs.Prelude.{Some}
use Rattle.std.specs.Option.{option_map, option_and_then}
use Rattle.request.specs.declared.Field.TheVariants.{Measured, Inferred}
use Rattle.numerals.specs.Render.{space, minus, digit0, digit9, render, render_signed}
use Rattle.text.specs.Grammar.{tilde, unsigned_of, negative, signed_of, field_of, space_at}
use Rattle.text.specs.ReadBack.{signed_back}
use Rattle.text.proofs.FigureLaws.{minus-taken, no_minus, tilde-taken, no_tilde}
pub use Rattle.numerals.proofs.PlainBack.{digits_back}
use Rattle.numerals.proofs.RenderLaws.{by_tenths, render-one, render-more, length-render, some-digit, no_zero_more}

-- ---- its first byte, and its length
first_of_more : (n : ℕ) → 10 ≤ n → get_or (render n) 0 0 ≡ get_or (render (n / 10)) 0 0
first_of_more n h = rw (render-more n h) (get_or-append (render (n / 10)) ((digit0 + n % 10) ∷ []) 0 0 (some-digit (n / 10)))

pub first-digit : (n : ℕ) → (digit0 ≤ get_or (render n) 0 0) × (get_or (render n) 0 0 ≤ digit9)
first-digit =
    by_tenths (λ n. (digit0 ≤ get_or (render n) 0 0) × (get_or (render n) 0 0 ≤ digit9))
    (λ n h. rw (render-one n h) (omega arith))
    (λ n h ih. omega (arith, first_of_more n h))

-- ---- as a field
-- a number that the grammar allows
module _ (n : ℕ) (small : n < 1000000) where
  pub number_back : unsigned_of (render n) ≡ Some n
  unfolding unsigned_of
  number_back =
      rw (
        ne_eqb (length (render n)) 0 (λ q. omega (arith, some-digit n)),
        le-ltb 6 (length (render n)) (length-render 5 n (omega arith)),
        no_zero_more n,
      ) (digits_back n)

-- a figure of either sign, where a minus sign is allowed
pub figure-back : (signed : Bool) (z : ℤ) → nat_abs z < 1000000 → (lt_z z (pos 0) ≡ true → signed ≡ true) → signed_of signed (render_signed z) ≡ Some z
unfolding render_signed negative
figure-back signed (pos n) h k =
    no_minus signed (render n) (λ e. omega (arith, first-digit n)) ∙ ap (option_map pos) (number_back n h)
figure-back signed (negsuc n) h k =
    minus-taken signed (minus ∷ render (suc n)) refl (k refl) ∙ ap (option_and_then negative) (number_back (suc n) h)

-- is not blank
not_blank : (z : ℤ) → eqb (length (render_signed z)) 1 && eqb (get_or (render_signed z) 0 0) minus ≡ false
unfolding render_signed
not_blank (pos n) = rw (ne_eqb (get_or (render n) 0 0) minus (λ e. omega (arith, first-digit n))) (and-false (eqb (length (render n)) 1))
not_blank (negsuc n) = rw (ne_eqb (suc (length (render (suc n)))) 1 (λ e. omega (arith, some-digit (suc n))))

-- nor inferred
not_inferred : (z : ℤ) → get_or (render_signed z) 0 0 ≡ tilde → ⊥
unfolding render_signed
not_inferred (pos n) e = omega (arith, first-digit n)
not_inferred (negsuc n) e = omega arith

-- and so measured as it was, and inferred as it was with a "~" before it
module _ (signed : Bool) (z : ℤ) (h : nat_abs z < 1000000) (k : lt_z z (pos 0) ≡ true → signed ≡ true) where
  pub field_back : field_of signed (render_signed z) ≡ Some (Measured z)
  field_back = no_tilde signed (render_signed z) (not_blank z) (not_inferred z) ∙ ap (option_map Measured) (figure-back signed z h k)

  pub inferred-back : field_of signed (tilde ∷ render_signed z) ≡ Some (Inferred z)
  inferred-back = tilde-taken signed (tilde ∷ render_signed z) refl ∙ ap (option_map Inferred) (figure-back signed z h k)

-- ---- a figure of any size
pub signed_back_lem : (z : ℤ) → signed_back (render_signed z) ≡ Some z
unfolding render_signed signed_back negative
signed_back_lem (pos n) = rw (ne_eqb (get_or (render n) 0 0) minus (λ e. omega (arith, first-digit n)), digits_back n)
signed_back_lem (negsuc n) = rw (digits_back (suc n))

-- ---- between spaces
-- a text with no space in front of another
pub space-past : (s t : List ℕ) → space_at s ≡ length s → space_at (s ++ t) ≡ length s + space_at t
unfolding space_at
space-past [] t e = omega arith
space-past (c ∷ cs) t e = go (eqb c space) (space-past cs t) e
  where
    go : (b : Bool) → (space_at cs ≡ length cs → space_at (cs ++ t) ≡ length cs + space_at t)
        → cond b 0 (suc (space_at cs)) ≡ suc (length cs) → cond b 0 (suc (space_at (cs ++ t))) ≡ suc (length cs) + space_at t
    go true ih g = absurd (omega arith)
    go false ih g = omega (arith, ih (omega arith))

digit_no_space : (n : ℕ) → space_at ((digit0 + n) ∷ []) ≡ 1
unfolding space_at
digit_no_space n = rw (ne_eqb (digit0 + n) space (λ e. omega arith))

pub number_no_space : (n : ℕ) → space_at (render n) ≡ length (render n)
number_no_space =
    by_tenths (λ n. space_at (render n) ≡ length (render n))
    (λ n h. rw (render-one n h) (digit_no_space n))
    (λ n h ih. rw (render-more n h)
    (omega (
      arith,
      space-past (render (n / 10)) ((digit0 + n % 10) ∷ []) ih,
      digit_no_space (n % 10),
      length-append (render (n / 10)) ((digit0 + n % 10) ∷ []),
    )))

pub signed_no_space : (z : ℤ) → space_at (render_signed z) ≡ length (render_signed z)
unfolding render_signed space_at
signed_no_space (pos n) = number_no_space n
signed_no_space (negsuc n) = ap suc (number_no_space (suc n))
