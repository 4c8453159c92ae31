-- What a figure and a field say by their first byte, and that a figure's number fits an i64. Assumes nothing.
use Prim.Native.Nat.{ℕ, zero, suc, ◌-◌, ◌<◌}
use mathlib.Core.Path.{◌≡◌, refl, sym, ap, ◌∙◌}
use mathlib.Core.Bool.{Bool, true, false, ◌&&◌, and-false}
use mathlib.Core.List.{List}
use native.Mathlib.Omega.{arith}
use borrow.Author.Tests.{eq-eqb, ne_eqb}
use lib.Dec.{eqb}
use lib.IntN.{pos, neg_ℤ, ◌-ℤ◌, +ℤ_idl}
use lib.ListN.{length, get_or, take, drop}
use mir.Syntax.{w64}
use mir.Facts.{to_z-of_z}
use mir.Val.{SFits, to_z, of_z}
use Rattle.std.specs.Prelude.{Some}
use Rattle.std.specs.Option.{option_map, option_and_then}
use Rattle.lent.proofs.PartLaws.{rest}
use Rattle.exact.proofs.Signed.{sfits-abs, neg-abs}
use Rattle.request.specs.declared.Field.TheVariants.{Measured, Inferred}
use Rattle.numerals.specs.Render.{minus}
use Rattle.text.specs.Grammar.{tilde, unsigned_of, negative, signed_of, field_of}
use Rattle.text.proofs.NumberLaws.{number_lt}

-- ---- a figure
module _ (signed : Bool) (s : List ℕ) where
  pub minus-taken : get_or s 0 0 ≡ minus → signed ≡ true → signed_of signed s ≡ option_and_then negative (unsigned_of (drop 1 s))
  unfolding signed_of
  minus-taken h e = rw (eq-eqb (get_or s 0 0) minus h, e)

  pub no_minus : (get_or s 0 0 ≡ minus → ⊥) → signed_of signed s ≡ option_map pos (unsigned_of s)
  unfolding signed_of
  no_minus h = rw (ne_eqb (get_or s 0 0) minus h)

-- ---- a field
module _ (signed : Bool) (s : List ℕ) where
  -- a "~" is no minus sign, so that no field with one is blank
  pub tilde-taken : get_or s 0 0 ≡ tilde → field_of signed s ≡ option_map Inferred (signed_of signed (drop 1 s))
  unfolding field_of
  tilde-taken h = rw (h, and-false (eqb (length s) 1))

  pub no_tilde : eqb (length s) 1 && eqb (get_or s 0 0) minus ≡ false → (get_or s 0 0 ≡ tilde → ⊥) → field_of signed s ≡ option_map Measured (signed_of signed s)
  unfolding field_of
  no_tilde b h = rw (b, ne_eqb (get_or s 0 0) tilde h)

-- ---- a figure's number
-- after a minus sign stands the negative, if it is not 0
negative-is : (n : ℕ) → (n ≡ 0 → ⊥) → negative n ≡ Some (neg_ℤ (pos n))
unfolding negative
negative-is zero h = absurd (h refl)
negative-is (suc n) h = refl

module _ (n : ℕ) (small : n < 1000000) where
  plain_fits : SFits w64 (pos n)
  plain_fits = sfits-abs (pos n) (omega arith)

  negative_fits : SFits w64 (neg_ℤ (pos n))
  negative_fits = sfits-abs (neg_ℤ (pos n)) (omega (arith, neg-abs (pos n)))

  -- as an i64 is negated
  negated : (n ≡ 0 → ⊥) → Some (to_z w64 (of_z w64 (pos 0 -ℤ to_z w64 n))) ≡ negative n
  negated h = simp (to_z-of_z plain_fits, +ℤ_idl (neg_ℤ (pos n)), to_z-of_z negative_fits) (sym (negative-is n h))

-- so the figure that a slice with a minus sign in front stands for
pub negative_read : (signed : Bool) (s : List ℕ) (n : ℕ) → get_or s 0 0 ≡ minus → signed ≡ true → Some n ≡ unsigned_of (take (length s - 1) (drop 1 s)) → (n ≡ 0 → ⊥)
    → Some (to_z w64 (of_z w64 (pos 0 -ℤ to_z w64 n))) ≡ signed_of signed s
negative_read signed s n first allowed e h =
    let d : Some n ≡ unsigned_of (drop 1 s) = e ∙ ap unsigned_of (rest s 1) in
    negated n (number_lt (drop 1 s) n (sym d)) h ∙ sym (minus-taken signed s first allowed ∙ rw (← d))
