-- x with 32 ln 2 is not negative, and the powers of two in it, less 32, are one shift. Assumes nothing.
use Prim.Native.Nat.{ℕ, ◌+◌, ◌-◌, ◌*◌, ◌/◌, ◌%◌, ◌^◌, ◌≤◌, ◌<◌}
use mathlib.Core.Path.{◌≡◌, ap, ◌∙◌}
use native.Mathlib.Nat.{le_of_lt, lt_of_le_of_lt, zero-mul}
use native.Mathlib.Omega.{arith}
use lib.Dec.{lit<}
use lib.Pow.{shl_exact}
use lib.IntN.{ℤ, pos, nat_abs, ◌+ℤ◌, ◌*ℤ◌}
use mir.Syntax.{w64}
use mir.Val.{SFits, to_z, of_z}
use mir.Facts.{to_z-of_z}
use Rattle.exact.specs.Near.{up, dn}
use Rattle.exact.proofs.Signed.{same_diff, sfits, add_parts, mul-up, mul-dn}
use Rattle.fixed.specs.Fixed.{exp_one, exp_two, exp_unit, exp_shifted, exp_fixed}
use Rattle.reckon.proofs.Shifts.{shift_right, shift_left}
use Rattle.reckon.proofs.exp.exp_fixed.Goals as goal

-- ---- the argument, with 32 ln 2
abbrev shifted : ℤ → ℕ
shifted x = 10 * up x + 32 * exp_two - 10 * dn x

module _ (x : ℤ) (h : up x ≤ 20000000000) (k : dn x ≤ 22000000000) where
  ten-fits : SFits w64 (pos 10 *ℤ x)
  ten-fits =
      sfits (pos 10 *ℤ x)
      (omega (arith, mul-up (pos 10) x, zero-mul (dn x)))
      (omega (arith, mul-dn (pos 10) x, zero-mul (up x)))

  sum_is : pos 10 *ℤ x +ℤ pos (32 * exp_two) ≡ pos (shifted x)
  sum_is =
      same_diff (pos 10 *ℤ x +ℤ pos (32 * exp_two)) (pos (shifted x))
      (omega (
        arith,
        add_parts (pos 10 *ℤ x) (pos (32 * exp_two)),
        mul-up (pos 10) x,
        mul-dn (pos 10) x,
        zero-mul (dn x),
        zero-mul (up x),
      ))

  sum_fits : SFits w64 (pos 10 *ℤ x +ℤ pos (32 * exp_two))
  sum_fits = rw sum_is (record { sfits = omega arith })

-- ---- the shifts
right : (y e : ℕ) → e ≡ exp_unit (y % exp_two) → y / exp_two < 32 → e / 2 ^ (32 - y / exp_two) ≡ exp_shifted y
unfolding exp_shifted
right y e s h = shift_right 32 e (le_of_lt h) ∙ ap (λ (u : ℕ). 2 ^ (y / exp_two) * u / 2 ^ 32) s

left :
    (y e : ℕ) →
    e ≡ exp_unit (y % exp_two) →
    e ≤ 2 * exp_one →
    32 ≤ y / exp_two →
    y / exp_two ≤ 60 →
    (e * 2 ^ (y / exp_two - 32)) % 2 ^ 64 ≡ exp_shifted y
unfolding exp_shifted
left y e s m h l =
    shl_exact 35 (y / exp_two - 32) 64 (lt_of_le_of_lt m (lit< tt)) (omega arith)
    ∙ shift_left 32 e h
    ∙ ap (λ (u : ℕ). 2 ^ (y / exp_two) * u / 2 ^ 32) s

-- what the machine reads as y
abbrev read : ℤ → ℤ
read x = to_z w64 (of_z w64 (to_z w64 (of_z w64 (pos 10 *ℤ to_z w64 (of_z w64 x))) +ℤ pos (32 * exp_two)))

y_is : (x : ℤ) → SFits w64 x → up x ≤ 20000000000 → dn x ≤ 22000000000 → read x ≡ pos (shifted x)
y_is x r h k = simp (to_z-of_z r, to_z-of_z (ten-fits x h k), to_z-of_z (sum_fits x h k)) (sum_is x h k)

few : (x : ℤ) → up x ≤ 20000000000 → shifted x / exp_two ≤ 60
few x h = omega arith

pub returns-then-twos-lt32 : goal.returns-then-twos-lt32
unfolding exp_fixed
returns-then-twos-lt32 c =
    right _ _ c.exp_unit-unit.ensures.0 c.if-twos-lt32.true
    ∙ ap (λ (z : ℤ). exp_shifted (nat_abs z)) (y_is c.args.x c.ranges.x c.requires.0 c.requires.1)

pub returns-else-twos-lt32 : goal.returns-else-twos-lt32
unfolding exp_fixed
returns-else-twos-lt32 c =
    let e = y_is c.args.x c.ranges.x c.requires.0 c.requires.1 in
    left _ _ c.exp_unit-unit.ensures.0 c.exp_unit-unit.ensures.1 c.if-twos-lt32.false (rw e (few c.args.x c.requires.0))
    ∙ ap (λ (z : ℤ). exp_shifted (nat_abs z)) e
