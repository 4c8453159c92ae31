-- The three branches are the definition's; the sizes of the logarithms keep each product and difference within 64 bits. Assumes nothing.
use Prim.Native.Nat.{ℕ, ◌*◌, ◌^◌, ◌≤◌, ◌<◌}
use mathlib.Core.Path.{◌∙◌}
use native.Mathlib.Omega.{arith}
use native.Mathlib.Nat.{mul-le-mul}
use lib.Dec.{lit≤}
use lib.IntN.{ℤ, pos, neg_ℤ, nat_abs, ◌-ℤ◌}
use borrow.Author.Tests.{lt-ltb, le-ltb, le-leb, lt-leb}
use mir.Syntax.{w64}
use mir.Val.{SFits}
use mir.Facts.{to_z-of_z}
use Rattle.exact.proofs.Signed.{sfits-abs, add-abs, neg-abs}
use Rattle.fixed.specs.Fixed.{mul_div, ln_quotient}
use Rattle.fixed.proofs.SignedLaws.{mul_div-abs}
use Rattle.rules.specs.Fixed.{ln_z10_fixed}
use Rattle.rules.proofs.SiteSizes.{sizes}
use Rattle.estimate.proofs.site.ln_z10.Goals as goal

-- a - b l/100: what the code's steps ask
record Falling (b : ℕ) (l : ℤ) : Type 0 where
  ln_fits : SFits w64 l
  product : b * nat_abs l < 2 ^ 63
  quotient_fits : SFits w64 (mul_div (pos b) l (pos 100))
  fits : (a : ℕ) → a ≤ 10000000000 → SFits w64 (pos a -ℤ mul_div (pos b) l (pos 100))

falling : (b : ℕ) (l : ℤ) → b ≤ 1000 → nat_abs l ≤ 10000000000 → Falling b l
falling b l hb hl =
    let q : ℤ = mul_div (pos b) l (pos 100) in
    let p : b * nat_abs l ≤ 10000000000000 = mul-le-mul hb hl in
    let s : nat_abs q ≤ 100000000000 = omega (arith, mul_div-abs (pos b) l (pos 100)) in
    record {
      ln_fits = sfits-abs l (omega arith);
      product = omega arith;
      quotient_fits = sfits-abs q (omega arith);
      fits = λ a ha. sfits-abs (pos a -ℤ q) (omega (arith, add-abs (pos a) (neg_ℤ q), neg-abs q));
    }

-- from 180 to 500, and above
middle_falls : (v : ℕ) → 150 ≤ v → v ≤ 1500 → Falling 135 (ln_quotient v 180)
middle_falls v l h = falling 135 _ (lit≤ tt) (sizes v l h).by_180

high_falls : (v : ℕ) → 150 ≤ v → v ≤ 1500 → Falling 448 (ln_quotient v 500)
high_falls v l h = falling 448 _ (lit≤ tt) (sizes v l h).by_500

pub returns-then-v-lt180 : goal.returns-then-v-lt180
unfolding ln_z10_fixed
returns-then-v-lt180 c = rw (lt-ltb c.args.v 180 c.if-v-lt180.true, ln_z10_fixed)

pub mul_div-requires : goal.mul_div-requires
mul_div-requires c =
    let f = middle_falls c.args.v c.requires.0 c.requires.1 in
    rw (c.ln_quotient.ensures, to_z-of_z f.ln_fits) (f.product, lit≤ tt)

pub overflow_sub-result : goal.overflow_sub-result
overflow_sub-result c =
    let f = middle_falls c.args.v c.requires.0 c.requires.1 in
    rw (c.mul_div.ensures, c.ln_quotient.ensures, to_z-of_z f.ln_fits, to_z-of_z f.quotient_fits) (f.fits _ (lit≤ tt))

pub returns-then-v-le-JUMP : goal.returns-then-v-le-JUMP
unfolding ln_z10_fixed
returns-then-v-le-JUMP c =
    let v = c.args.v in
    let f = middle_falls v c.requires.0 c.requires.1 in
    rw (c.mul_div.ensures, c.ln_quotient.ensures, to_z-of_z f.ln_fits, to_z-of_z f.quotient_fits)
    (to_z-of_z (f.fits _ (lit≤ tt)) ∙ rw (le-ltb v 180 c.if-v-lt180.false, ln_z10_fixed, le-leb v 500 c.if-v-le-JUMP.true))

pub mul_div-requires-else-v-le-JUMP : goal.mul_div-requires-else-v-le-JUMP
mul_div-requires-else-v-le-JUMP c =
    let f = high_falls c.args.v c.requires.0 c.requires.1 in
    rw (c.ln_quotient-else-v-le-JUMP.ensures, to_z-of_z f.ln_fits) (f.product, lit≤ tt)

pub overflow_sub-result-else-v-le-JUMP : goal.overflow_sub-result-else-v-le-JUMP
overflow_sub-result-else-v-le-JUMP c =
    let f = high_falls c.args.v c.requires.0 c.requires.1 in
    rw (c.mul_div-else-v-le-JUMP.ensures, c.ln_quotient-else-v-le-JUMP.ensures, to_z-of_z f.ln_fits, to_z-of_z f.quotient_fits) (f.fits _ (lit≤ tt))

pub returns-else-v-le-JUMP : goal.returns-else-v-le-JUMP
unfolding ln_z10_fixed
returns-else-v-le-JUMP c =
    let v = c.args.v in
    let f = high_falls v c.requires.0 c.requires.1 in
    rw (c.mul_div-else-v-le-JUMP.ensures, c.ln_quotient-else-v-le-JUMP.ensures, to_z-of_z f.ln_fits, to_z-of_z f.quotient_fits)
    (to_z-of_z (f.fits _ (lit≤ tt)) ∙ rw (le-ltb v 180 c.if-v-lt180.false, ln_z10_fixed, lt-leb v 500 c.if-v-le-JUMP.false))
