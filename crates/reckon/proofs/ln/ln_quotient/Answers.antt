-- Assumes nothing.
use Prim.Native.Nat.{ℕ, zero, suc, ◌+◌, ◌*◌, ◌/◌, ◌^◌, ◌≤◌, ◌<◌}
use mathlib.Core.Path.{◌≡◌, ap, ◌∙◌}
use native.Mathlib.Nat.{le_trans, le_of_eq, pow-suc, mul_assoc, mul_comm}
use native.Mathlib.Omega.{arith}
use lib.IntN.{pos, ◌-ℤ◌}
use mir.Syntax.{w64}
use mir.Facts.{to_z-of_z}
use Rattle.fixed.specs.Fixed.{ln_two, LN8, ln_ratio, ln_doubled, ln_quotient}
use Rattle.fixed.proofs.LnTwos.{doubled_last, doubled_more}
use Rattle.reckon.proofs.ln.ln_quotient.Invariants.{Inv}
use Rattle.reckon.proofs.ln.ln_quotient.Goals as goal

twice : (f b : ℕ) → 2 ^ suc f * b ≡ 2 ^ f * (b * 2)
twice f b = rw (pow-suc 2 f, mul_comm b 2, mul_assoc (2 ^ f) 2 b)

double :
    (left total top bottom twos : ℕ) →
    left + twos ≡ 6 →
    1 ≤ bottom →
    top ≤ 2 ^ left * bottom →
    twos * ln_two + ln_doubled left top bottom ≡ total →
    2 * bottom ≤ top →
    Inv total top (bottom * 2) (twos + 1)
double zero total top bottom twos e l h w g = absurd (omega arith)
double (suc f) total top bottom twos e l h w g =
    record {
      left = f;
      left_is = omega arith;
      above = omega arith;
      low = omega arith;
      high = le_trans h (le_of_eq (twice f bottom));
      whole = omega (arith, doubled_more f bottom g);
    }

done :
    (total top bottom twos r : ℕ) →
    Inv total top bottom twos →
    top < 2 * bottom →
    r ≡ ln_ratio top bottom →
    twos * ln_two + r ≡ total
done total top bottom twos r v h e = omega (arith, doubled_last v.left bottom h)

pub loop-bottom-preserved : goal.loop-bottom-preserved
loop-bottom-preserved c =
    let v = c.loop-bottom.invariant in
    double v.left _ _ _ _ v.left_is v.above v.high v.whole (omega arith)

pub returns : goal.returns
unfolding ln_quotient
returns c =
    to_z-of_z {w = w64} (record { sfits = c.less_ln8.type_inv })
    ∙ c.less_ln8.ensures
    ∙ ap (λ (n : ℕ). pos (n / 10) -ℤ pos LN8)
    (done _ _ _ _ _ c.loop-bottom.invariant c.loop-bottom-test.false c.ln_ratio.ensures.0)
