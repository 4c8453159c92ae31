-- What the tests in the code say of `within`, and of two tests joined. Assumes nothing.
use mathlib.Core.Path.{◌≡◌, refl, sym, ◌∙◌}
use mathlib.Core.Bool.{Bool, true, false, not, ◌&&◌, ◌||◌}
use mathlib.Core.Logic.{◌⊎◌, inl, inr}
use lib.IntN.{ℤ}
use lib.Signed.{lt_z, le_z}
use Rattle.exact.proofs.Signed.{not_lt}
use Rattle.request.specs.declared.Field.{Field}
use Rattle.request.specs.declared.Field.TheVariants.{Measured, Inferred, Estimated, Blank}
use Rattle.request.specs.Fields.{is_given, is_estimated, is_blank, value_of, within}

-- a field that is given, by the test of its number
module _ (f : Field) (low high : ℤ) (given : is_given f ≡ true) where
  pub too_low : lt_z (value_of f) low ≡ true → within f low high ≡ false
  unfolding within
  too_low t = rw (given, not_lt (value_of f) low true t)

  pub not_too_low : lt_z (value_of f) low ≡ false → within f low high ≡ le_z (value_of f) high
  unfolding within
  not_too_low t = rw (given, not_lt (value_of f) low false t)

-- what is neither given nor estimated
pub otherwise : (f : Field) → not (is_given f || is_estimated f) ≡ is_blank f
unfolding is_given is_estimated is_blank
otherwise (Measured v) = refl
otherwise (Inferred v) = refl
otherwise (Estimated v) = refl
otherwise Blank = refl

-- `a && b` that failed at one of its halves
pub and_no : (a b : Bool) → ((a ≡ true) × (b ≡ false)) ⊎ (a ≡ false) → a && b ≡ false
and_no a b (inl h) = rw (h.0, h.1)
and_no a b (inr h) = rw h

-- a call's answer, tested by `!`
pub wrong : (r x : Bool) → r ≡ x → not r ≡ true → x ≡ false
wrong true x e h = sym e ∙ sym h
wrong false x e h = sym e

pub right : (r x : Bool) → r ≡ x → not r ≡ false → x ≡ true
right true x e h = sym e
right false x e h = sym e ∙ sym h
