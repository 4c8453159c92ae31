-- Assumes nothing.
use Prim.Native.Nat.{ℕ, zero, suc, ◌+◌, ◌*◌, ◌/◌, ◌^◌, ◌≤◌, ◌<◌}
use mathlib.Core.Path.{◌≡◌, ap, ◌∙◌}
use native.Mathlib.Nat.{pow-succ'}
use native.Mathlib.Omega.{arith}
use lib.IntN.{pos, ◌-ℤ◌}
use mir.Syntax.{w64}
use mir.Facts.{to_z-of_z}
use Rattle.fixed.specs.Fixed.{E9, ln_two, LN8, ln_ratio, ln_halved, ln_fixed}
use Rattle.fixed.proofs.LnTwos.{halved_last, halved_more}
use Rattle.reckon.proofs.ln.ln_fixed.Invariants.{Inv}
use Rattle.reckon.proofs.ln.ln_fixed.Goals as goal

halve :
    (left total y twos : ℕ) →
    left + twos ≡ 18 →
    y < 2 ^ suc left * E9 →
    twos * ln_two + ln_halved left y ≡ total →
    2 * E9 ≤ y →
    Inv total (y / 2) (twos + 1)
halve zero total y twos e h w g = absurd (omega arith)
halve (suc f) total y twos e h w g =
    record {
      left = f;
      left_is = omega arith;
      low = omega arith;
      high = omega (arith, pow-succ' 2 (suc f));
      whole = omega (arith, halved_more f g);
    }

pub loop-y-preserved : goal.loop-y-preserved
loop-y-preserved c =
    let v = c.loop-y.invariant in
    halve v.left _ _ _ v.left_is v.high v.whole (omega arith)

done : (total y twos r : ℕ) → Inv total y twos → y < 2 * E9 → r ≡ ln_ratio y E9 → twos * ln_two + r ≡ total
done total y twos r v h e = omega (arith, halved_last v.left h)

pub returns : goal.returns
unfolding ln_fixed
returns c =
    to_z-of_z {w = w64} (record { sfits = c.less_ln8.type_inv })
    ∙ c.less_ln8.ensures
    ∙ ap (λ (n : ℕ). pos (n / 10) -ℤ pos LN8) (done _ _ _ _ c.loop-y.invariant c.loop-y-test.false c.ln_ratio.ensures.0)
