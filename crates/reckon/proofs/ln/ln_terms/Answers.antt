-- Assumes nothing.
use Prim.Native.Nat.{ℕ, suc, ◌+◌, ◌-◌, ◌*◌, ◌/◌, ◌≤◌, ◌<◌}
use mathlib.Core.Path.{◌≡◌, sym, ap, ◌∙◌}
use native.Mathlib.Nat.{add-zero, mul-le-mul_right}
use native.Mathlib.Omega.{arith}
use Rattle.exact.specs.Series.{ln_terms}
use Rattle.exact.proofs.Quotients.{mul_small}
use Rattle.reckon.proofs.ln.ln_terms.Invariants.{Turn}
use Rattle.reckon.proofs.ln.ln_terms.Goals as goal

-- one term of the series
ln_term :
    (S w p k n : ℕ) → k < n
    → ln_terms S w p (2 * k + 1) (n - k) ≡ p / (2 * k + 1) + ln_terms S w (p * w / S) (2 * (k + 1) + 1) (n - (k + 1))
unfolding ln_terms
ln_term S w p k n h =
    let e : n - k ≡ suc (n - (k + 1)) = omega arith in
    let d : 2 * k + 1 + 2 ≡ 2 * (k + 1) + 1 = omega arith in
    ap (λ (m : ℕ). ln_terms S w p (2 * k + 1) m) e
    ∙ ap (λ (j : ℕ). p / (2 * k + 1) + ln_terms S w (p * w / S) j (n - (k + 1))) d

turn-next :
    (S w z N p sum k : ℕ) → w ≤ S → k < N → Turn S w z N p sum k → Turn S w z N (p * w / S) (sum + p / (2 * k + 1)) (k + 1)
turn-next S w z N p sum k h l v =
    let next : p * w / S ≤ p = mul_small S p h in
    record { power_le = omega arith; passed = omega (arith, ln_term S w p k N l) }

-- the sum with the next term is at most the whole
turn-sum : (S w z N p sum k : ℕ) → k < N → Turn S w z N p sum k → sum + p / (2 * k + 1) ≤ ln_terms S w z 1 N
turn-sum S w z N p sum k l v = omega (arith, ln_term S w p k N l)

pub overflow_add-sum-in-loop-k : goal.overflow_add-sum-in-loop-k
overflow_add-sum-in-loop-k c = omega (arith, turn-sum _ _ _ _ _ _ _ (omega arith) c.loop-k.invariant)

pub overflow_mul-power : goal.overflow_mul-power
overflow_mul-power c = omega (arith, mul-le-mul_right c.args.square c.loop-k.invariant.power_le)

pub loop-k-preserved : goal.loop-k-preserved
loop-k-preserved c = turn-next _ _ _ _ _ _ _ c.requires.1 (omega arith) c.loop-k.invariant

done : (S w z N p sum k : ℕ) → N - k ≡ 0 → Turn S w z N p sum k → sum ≡ ln_terms S w z 1 N
unfolding ln_terms
done S w z N p sum k e v = sym (add-zero sum) ∙ ap (λ (j : ℕ). sum + ln_terms S w p (2 * k + 1) j) (sym e) ∙ v.passed

pub returns : goal.returns
returns c = done _ _ _ _ _ _ _ (omega arith) c.loop-k.invariant
