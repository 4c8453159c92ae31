-- A line between two numbers of at most 16, with its steps, fits 64 bits. Assumes nothing.
use Prim.Native.Nat.{ℕ, ◌*◌, ◌/◌, ◌^◌, ◌≤◌, ◌<◌}
use mathlib.Core.Path.{◌≡◌}
use native.Mathlib.Omega.{arith}
use native.Mathlib.Nat.{lt_of_le_of_lt, mul-le-mul}
use lib.Dec.{lit<}
use lib.IntN.{ℤ, pos, nat_abs, ◌-ℤ◌}
use lib.Signed.{quot_z}
use mir.Syntax.{w64}
use mir.Val.{SFits, to_z}
use mir.Facts.{to_z_pos}
use Rattle.exact.proofs.Signed.{by_sign, sfits, sfits-abs, abs-parts, sub_is, quot-abs-le}
use Rattle.fixed.specs.Fixed.{E9, mul_div}
use Rattle.fixed.proofs.SignedLaws.{mul_div-abs}
use Rattle.between.specs.Fixed.{on_line_fixed}
use Rattle.between.proofs.Line.{line-inside}

pub record Steps (w : ℕ) (a b : ℤ) : Type 0 where
  pub a_fits : SFits w64 a
  pub b_fits : SFits w64 b
  pub difference : SFits w64 (b -ℤ a)
  pub quarter : SFits w64 (quot_z (b -ℤ a) (pos 4))
  pub weight : to_z w64 w ≡ pos w
  pub product : nat_abs (quot_z (b -ℤ a) (pos 4)) * w < 2 ^ 63
  pub part : SFits w64 (mul_div (quot_z (b -ℤ a) (pos 4)) (pos w) (pos 250000000))
  pub line : SFits w64 (on_line_fixed w a b)

module _ (w : ℕ) (a b : ℤ) (hw : w ≤ E9) (ha : nat_abs a ≤ 16000000000) (hb : nat_abs b ≤ 16000000000) where
  difference_le : nat_abs (b -ℤ a) ≤ 32000000000
  difference_le =
      by_sign (b -ℤ a)
      (λ z. omega (arith, z, abs-parts (b -ℤ a), abs-parts a, abs-parts b, ha, hb, sub_is b a))
      (λ z. omega (arith, z, abs-parts (b -ℤ a), abs-parts a, abs-parts b, ha, hb, sub_is b a))

  quarter-le : nat_abs (quot_z (b -ℤ a) (pos 4)) ≤ 8000000000
  quarter-le = quot-abs-le (b -ℤ a) 4 difference_le

  product_lt : nat_abs (quot_z (b -ℤ a) (pos 4)) * w < 2 ^ 63
  product_lt = lt_of_le_of_lt (mul-le-mul quarter-le hw) (lit< tt)

  part_lt : nat_abs (mul_div (quot_z (b -ℤ a) (pos 4)) (pos w) (pos 250000000)) < 2 ^ 63
  part_lt =
      rw (mul_div-abs (quot_z (b -ℤ a) (pos 4)) (pos w) (pos 250000000)) (small (nat_abs (quot_z (b -ℤ a) (pos 4)) * w) product_lt)
    where
      small : (n : ℕ) → n < 2 ^ 63 → n / 250000000 < 2 ^ 63
      small n h = omega arith

  pub steps : Steps w a b
  steps =
      let i =
      line-inside w a b 16000000000 16000000000 hw (omega (arith, abs-parts a, ha)) (omega (arith, abs-parts b, hb))
      (omega (arith, abs-parts a, ha)) (omega (arith, abs-parts b, hb)) in
      record {
        a_fits = sfits-abs a (omega (arith, ha));
        b_fits = sfits-abs b (omega (arith, hb));
        difference = sfits-abs (b -ℤ a) (omega (arith, difference_le));
        quarter = sfits-abs (quot_z (b -ℤ a) (pos 4)) (omega (arith, quarter-le));
        weight = to_z_pos w64 (omega (arith, hw));
        product = product_lt;
        part = sfits-abs (mul_div (quot_z (b -ℤ a) (pos 4)) (pos w) (pos 250000000)) part_lt;
        line = sfits (on_line_fixed w a b) (omega (arith, i.0)) (omega (arith, i.1));
      }
