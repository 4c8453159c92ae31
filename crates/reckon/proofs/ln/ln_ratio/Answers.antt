-- Assumes nothing.
use Prim.Native.Nat.{ℕ, ◌+◌, ◌-◌, ◌*◌, ◌/◌, ◌≤◌}
use mathlib.Core.Path.{ap, ◌∙◌}
use native.Mathlib.Nat.{le_trans, lt_of_le_of_lt, mul-le-mul}
use native.Mathlib.Omega.{arith}
use lib.Dec.{lit≤, lit<}
use Rattle.fixed.specs.Fixed.{ln_one}
use Rattle.exact.proofs.Quotients.{mul_small}
use Rattle.exact.proofs.LnSeries.{below-third}
use Rattle.reckon.proofs.Fitting.{mul-fits}
use Rattle.reckon.proofs.LnTerms.{ln_most, ratio_is}
use Rattle.reckon.proofs.ln.ln_ratio.Goals as goal

-- a third, in units of 10^-10
abbrev third : ℕ
third = ln_one / 3

square_le : {z : ℕ} → z ≤ third → z * z / ln_one ≤ third
square_le {z} h = le_trans (mul_small ln_one z (omega arith)) h

z_le : (p q : ℕ) → 1 ≤ q → q ≤ p → p ≤ 2 * q → (p - q) * ln_one / (p + q) ≤ third
z_le p q h k l = below-third ln_one _ _ (omega arith) (omega arith)

pub overflow_mul-z-2 : goal.overflow_mul-z-2
overflow_mul-z-2 c =
    let z = z_le c.args.p c.args.q (omega arith) (omega arith) (omega arith) in
    mul-fits third third z z tt

pub ln_terms-requires : goal.ln_terms-requires
ln_terms-requires c =
    let z = z_le c.args.p c.args.q (omega arith) (omega arith) (omega arith) in (
      lit≤ tt,
      le_trans (square_le z) (lit≤ tt),
      lt_of_le_of_lt (mul-le-mul z (square_le z)) (lit< tt),
      lit≤ tt,
      lt_of_le_of_lt (ln_most z) (lit< tt),
    )

pub overflow_mul-result : goal.overflow_mul-result
overflow_mul-result c =
    let z = z_le c.args.p c.args.q (omega arith) (omega arith) (omega arith) in
    omega (arith, c.ln_terms.ensures, ln_most z)

pub returns : goal.returns
returns c =
    let z = z_le c.args.p c.args.q (omega arith) (omega arith) (omega arith) in
    let e = c.ln_terms.ensures in
    (ap (λ (s : ℕ). 2 * s) e ∙ ratio_is _ _, omega (arith, e, ln_most z))
