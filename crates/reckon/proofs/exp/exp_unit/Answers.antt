-- Assumes nothing.
use Rattle.std.proofs.Common.{◌≡◌, refl, sym, ap, ◌∙◌, ◌*◌, ◌/◌, ◌≤◌, ◌<◌, ℕ, ◌+◌, ◌-◌, arith}
use native.Mathlib.Nat.{le_trans, le_of_lt, div-le_self, div-div-eq-div-mul, add-zero}
use Rattle.exact.specs.Series.{exp_terms}
use Rattle.fixed.specs.Fixed.{exp_one, exp_two, exp_unit}
use Rattle.exact.proofs.Quotients.{mul_small}
use Rattle.reckon.proofs.Fitting.{mul-fits}
use Rattle.reckon.proofs.ExpTerms.{exp_term, third_mono, exp_unit-most}
use Rattle.reckon.proofs.exp.exp_unit.Invariants.{most, Inv}
use Rattle.reckon.proofs.exp.exp_unit.Goals as goal

step :
    (r term sum k next : ℕ) → next ≡ term * r / exp_one / k → r ≤ exp_two → k < 13 → Inv r term sum k → Inv r next (sum + term) (k + 1)
step r term sum k next e h l v =
    let falls : term * r / exp_one / k ≤ term = le_trans (div-le_self (term * r / exp_one) k) (mul_small exp_one term (omega arith)) in
    rw e (record { term_le = omega arith; whole = omega (arith, exp_term exp_one r term k (13 - k) (13 - (k + 1)) (omega arith)) })

-- the sum with the next term is at most the whole
sum-le : (r term sum k : ℕ) → k < 13 → Inv r term sum k → sum + term ≤ exp_unit r
sum-le r term sum k l v = omega (arith, exp_term exp_one r term k (13 - k) (13 - (k + 1)) (omega arith))

done : (r term sum k : ℕ) → 13 - k ≡ 0 → Inv r term sum k → sum ≡ exp_unit r
unfolding exp_terms
done r term sum k e v = sym (add-zero sum) ∙ ap (λ (j : ℕ). sum + exp_terms exp_one r term k j) (sym e) ∙ v.whole

r_le : {r : ℕ} → r < exp_two → r ≤ exp_two
r_le h = le_of_lt h

pub loop-k-init : goal.loop-k-init
unfolding exp_unit
loop-k-init c = record { term_le = third_mono (r_le c.requires); whole = refl }

pub overflow_add-sum-in-loop-k : goal.overflow_add-sum-in-loop-k
overflow_add-sum-in-loop-k c =
    omega (arith, sum-le _ _ _ _ (omega arith) c.loop-k.invariant, exp_unit-most (r_le c.requires))

pub overflow_mul-term-in-loop-k : goal.overflow_mul-term-in-loop-k
overflow_mul-term-in-loop-k c = mul-fits most exp_two c.loop-k.invariant.term_le (r_le c.requires) tt

pub loop-k-preserved : goal.loop-k-preserved
loop-k-preserved c =
    step _ _ _ _ _ (sym (div-div-eq-div-mul _ exp_one c.loop-k.k)) (r_le c.requires) (omega arith) c.loop-k.invariant

pub returns : goal.returns
returns c =
    let e = done _ _ _ _ (omega arith) c.loop-k.invariant in
    (e, omega (arith, e, exp_unit-most (r_le c.requires)))
