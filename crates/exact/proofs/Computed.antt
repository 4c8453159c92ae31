-- A rule over finitely many numbers: one test that antt computes over all of them, and the rule at each. Assumes nothing.
use Prim.Native.Nat.{ℕ, zero, suc, ◌+◌, ◌-◌, ◌≤◌, ◌<◌}
use mathlib.Core.Path.{◌≡◌, subst}
use mathlib.Core.Bool.{Bool, true, ◌&&◌}
use native.Mathlib.Nat.{not-suc-le-zero}
use native.Mathlib.Omega.{arith}
use lib.Dec.{T, leb, leb→le}
use lib.Ieee.Fits.{and_l, and_r}

-- the test f passes at i, i + 1, .., n of them
abbrev pub run : (ℕ → Bool) → ℕ → ℕ → Bool
run f i zero = true
run f i (suc n) = f i && run f (suc i) n

run_at : (f : ℕ → Bool) (i n : ℕ) → T (run f i n) → (k : ℕ) → k < n → T (f (i + k))
run_at f i zero t k h = absurd (not-suc-le-zero h)
run_at f i (suc n) t zero h =
    let e : i ≡ i + 0 = omega arith in
    subst (λ (m : ℕ). T (f m)) e (and_l (f i) (run f (suc i) n) t)
run_at f i (suc n) t (suc k) h =
    let e : suc i + k ≡ i + suc k = omega arith in
    subst (λ (m : ℕ). T (f m)) e (run_at f (suc i) n (and_r (f i) (run f (suc i) n) t) k (omega arith))

-- so it passes at each
pub run-from : (f : ℕ → Bool) (i n : ℕ) → T (run f i n) → (k : ℕ) → i ≤ k → k < i + n → T (f k)
run-from f i n t k l h =
    let e : i + (k - i) ≡ k = omega arith in
    subst (λ (m : ℕ). T (f m)) e (run_at f i n t (k - i) (omega arith))

-- the first of a chain of orders, and the rest
pub order-first : (a b : ℕ) (rest : Bool) → T (leb a b && rest) → (a ≤ b) × T rest
order-first a b rest t = (leb→le a b (and_l (leb a b) rest t), and_r (leb a b) rest t)
