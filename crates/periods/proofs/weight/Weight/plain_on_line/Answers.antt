-- A line between numbers without a sign is without a sign, and not above both. Assumes nothing.
use Rattle.std.proofs.Common.{arith, ◌≡◌, ◌≤◌, ℕ, nat_abs, pos, w64, sym, subst, ap, ap₂, ◌∙◌, to_z, of_z, ℤ}
use native.Mathlib.Nat.{le_trans}
use lib.Dec.{lit≤}
use mir.Facts.{to_z-of_z, to_z_pos}
use Rattle.exact.specs.Near.{up}
use Rattle.exact.proofs.Signed.{abs-parts, as_unsigned}
use Rattle.fixed.specs.Fixed.{E9}
use Rattle.between.specs.Fixed.{on_line_fixed}
use Rattle.between.proofs.Line.{line-inside, line_plain}
use Rattle.periods.proofs.LineFits.{Steps, steps}
use Rattle.periods.proofs.weight.Weight.plain_on_line.Goals as goal

module _ (w a b : ℕ) (hw : w ≤ E9) (ha : a ≤ 1549200000) (hb : b ≤ 1549200000) where
  line-steps : Steps w (pos a) (pos b)
  line-steps = steps w (pos a) (pos b) hw (le_trans ha (lit≤ tt)) (le_trans hb (lit≤ tt))

  size_is : nat_abs (on_line_fixed w (pos a) (pos b)) ≡ up (on_line_fixed w (pos a) (pos b))
  size_is = omega (arith, abs-parts (on_line_fixed w (pos a) (pos b)), line_plain w a b hw)

  size-le : up (on_line_fixed w (pos a) (pos b)) ≤ 1549200000
  size-le = (line-inside w (pos a) (pos b) 1549200000 0 hw ha hb (lit≤ tt) (lit≤ tt)).0

  -- what the call returned, as the machine reads it
  is : (z : ℤ) → z ≡ on_line_fixed w (to_z w64 a) (to_z w64 b) → to_z w64 (of_z w64 z) ≡ on_line_fixed w (pos a) (pos b)
  is z e =
      ap (λ (t : ℤ). to_z w64 (of_z w64 t))
      (e ∙ ap₂ (λ (p q : ℤ). on_line_fixed w p q) (to_z_pos w64 {n = a} (omega (arith, ha))) (to_z_pos w64 {n = b} (omega (arith, hb))))
      ∙ to_z-of_z line-steps.line

pub overflow_cast-result : goal.overflow_cast-result
overflow_cast-result c =
    let f = line-steps c.args.self.w c.args.a c.args.b c.args.self.at_most_one c.requires.0 c.requires.1 in
    rw (is c.args.self.w c.args.a c.args.b c.args.self.at_most_one c.requires.0 c.requires.1 c.on_line.result c.on_line.ensures)
    (as_unsigned (on_line_fixed c.args.self.w (pos c.args.a) (pos c.args.b)) f.line (line_plain c.args.self.w c.args.a c.args.b c.args.self.at_most_one))

pub returns : goal.returns
returns c =
    let e = size_is c.args.self.w c.args.a c.args.b c.args.self.at_most_one c.requires.0 c.requires.1 in
    rw (is c.args.self.w c.args.a c.args.b c.args.self.at_most_one c.requires.0 c.requires.1 c.on_line.result c.on_line.ensures)
    (e, subst (λ (n : ℕ). n ≤ 1549200000) (sym e) (size-le c.args.self.w c.args.a c.args.b c.args.self.at_most_one c.requires.0 c.requires.1))
