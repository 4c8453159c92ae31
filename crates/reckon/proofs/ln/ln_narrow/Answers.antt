-- Assumes nothing.
use Prim.Native.Nat.{ℕ, ◌+◌, ◌-◌, ◌*◌, ◌/◌, ◌^◌, ◌≤◌, ◌<◌}
use mathlib.Core.Path.{ap, ◌∙◌}
use native.Mathlib.Nat.{le_trans, le_of_eq, lt_of_le_of_lt, mul-le-mul}
use native.Mathlib.Omega.{arith}
use lib.Dec.{lit≤, lit<}
use Rattle.fixed.specs.Fixed.{E12}
use Rattle.fixed.proofs.LnNarrow.{ln_narrow-top}
use Rattle.exact.proofs.LnSeries.{below-third}
use Rattle.reckon.proofs.LnTerms.{narrow-is, narrow-most}
use Rattle.reckon.proofs.ln.ln_narrow.Goals as goal

square_le : (p q : ℕ) → (p - q) * (p - q) ≤ (p + q) * (p + q)
square_le p q = let h : p - q ≤ p + q = omega arith in mul-le-mul h h

-- the first power of z, at most a third, times the numerator of its square
product : (p q : ℕ) → 1 ≤ q → q ≤ p → p ≤ 2 * q → p ≤ 10000 → (p - q) * E12 / (p + q) * ((p - q) * (p - q)) < 2 ^ 64
product p q h k l m =
    let d : p - q ≤ 5000 = omega arith in
    lt_of_le_of_lt (mul-le-mul (below-third E12 _ _ (omega arith) (omega arith)) (mul-le-mul d d)) (lit< tt)

pub ln_terms-requires : goal.ln_terms-requires
ln_terms-requires c =
    let p = c.args.p in
    let q = c.args.q in
    let most = narrow-most p q (omega arith) (omega arith) (omega arith) in
    let one : 1 ≤ p + q = omega arith in (
      mul-le-mul one one,
      square_le p q,
      product p q (omega arith) (omega arith) (omega arith) (omega arith),
      lit≤ tt,
      lt_of_le_of_lt most (lit< tt),
    )

pub overflow_mul-result : goal.overflow_mul-result
overflow_mul-result c =
    omega (arith, c.ln_terms.ensures, narrow-most c.args.p c.args.q (omega arith) (omega arith) (omega arith))

pub returns : goal.returns
returns c =
    let r = ap (λ (s : ℕ). 2 * s / 100) c.ln_terms.ensures ∙ narrow-is _ _ in
    (r, le_trans (le_of_eq r) (ln_narrow-top c.args.p c.args.q (omega arith) (omega arith) (omega arith)))
