-- The series of the exponential grows with r, and once a term is 0 further terms add nothing. Assumes nothing.
use Prim.Native.Nat.{ℕ, zero, suc, ◌+◌, ◌*◌, ◌/◌, ◌≤◌, ◌<◌}
use mathlib.Core.Path.{◌≡◌, refl, sym, ap, ◌∙◌}
use native.Mathlib.Omega.{arith}
use native.Mathlib.Nat.{le_refl, le_trans, le_of_eq, add-le-add, mul-le-mul, zero-mul, mul-zero, zero-div, zero-add, add-zero, suc-add, add_assoc, div-one, mul-div_cancel_left}
use lib.Arith.{le-zero}
use Rattle.exact.specs.Series.{exp_terms, exp_series}
use Rattle.exact.proofs.Quotients.{div-le}

-- ---- it grows
pub exp_terms_mono : (S n k : ℕ) {r r' t t' : ℕ} → r ≤ r' → t ≤ t' → exp_terms S r t k n ≤ exp_terms S r' t' k n
unfolding exp_terms
exp_terms_mono S zero k hr ht = le_refl 0
exp_terms_mono S (suc n) k hr ht = add-le-add ht (exp_terms_mono S n (k + 1) hr (div-le k (div-le S (mul-le-mul ht hr))))

pub exp_series_mono : (S n : ℕ) {r r' : ℕ} → r ≤ r' → exp_series S n r ≤ exp_series S n r'
unfolding exp_series
exp_series_mono S n h = exp_terms_mono S n 1 h (le_refl S)

-- from 1 at 0
pub exp_series-one : (S n r : ℕ) → S ≤ exp_series S (suc n) r
unfolding exp_series exp_terms
exp_series-one S n r = omega arith

pub exp_terms_zero : (S r k n : ℕ) → exp_terms S r 0 k n ≡ 0
unfolding exp_terms
exp_terms_zero S r k zero = refl
exp_terms_zero S r k (suc n) =
    zero-add (exp_terms S r (0 * r / S / k) (k + 1) n)
    ∙ ap (λ (x : ℕ). exp_terms S r x (k + 1) n)
    (ap (λ (x : ℕ). x / S / k) (zero-mul r) ∙ ap (λ (x : ℕ). x / k) (zero-div S) ∙ zero-div k)
    ∙ exp_terms_zero S r (k + 1) n

pub exp_series_zero : (S n : ℕ) → exp_series S (suc n) 0 ≡ S
unfolding exp_series exp_terms
exp_series_zero S n =
    let z : S * 0 / S / 1 ≡ 0 = ap (λ (x : ℕ). x / S / 1) (mul-zero S) ∙ ap (λ (x : ℕ). x / 1) (zero-div S) ∙ zero-div 1 in
    omega (arith, ap (λ (x : ℕ). exp_terms S 0 x 2 n) z ∙ exp_terms_zero S 0 2 n)

-- the second term is r itself
pub second_term : (S r : ℕ) → 0 < S → S * r / S / 1 ≡ r
second_term S r h = div-one (S * r / S) ∙ mul-div_cancel_left r h

-- ---- it ends
-- the term and its number after n more
unfoldable pub term_after : ℕ → ℕ → ℕ → ℕ → ℕ → ℕ
term_after S r t k zero = t
term_after S r t k (suc n) = term_after S r (t * r / S / k) (k + 1) n

unfoldable pub count_after : ℕ → ℕ → ℕ
count_after k zero = k
count_after k (suc n) = count_after (k + 1) n

pub term_after_mono : (S n k : ℕ) {r r' t t' : ℕ} → r ≤ r' → t ≤ t' → term_after S r t k n ≤ term_after S r' t' k n
unfolding term_after
term_after_mono S zero k hr ht = ht
term_after_mono S (suc n) k hr ht = term_after_mono S n (k + 1) hr (div-le k (div-le S (mul-le-mul ht hr)))

pub exp_terms_split :
    (S r t k n j : ℕ) → exp_terms S r t k (n + j) ≡ exp_terms S r t k n + exp_terms S r (term_after S r t k n) (count_after k n) j
unfolding exp_terms term_after count_after
exp_terms_split S r t k zero j = ap (λ (i : ℕ). exp_terms S r t k i) (zero-add j) ∙ sym (zero-add (exp_terms S r t k j))
exp_terms_split S r t k (suc n) j =
    ap (λ (i : ℕ). exp_terms S r t k i) (suc-add n j)
    ∙ ap (λ (s : ℕ). t + s) (exp_terms_split S r (t * r / S / k) (k + 1) n j)
    ∙ sym (add_assoc t (exp_terms S r (t * r / S / k) (k + 1) n) _)

-- where the term of r' is 0 after n, further terms at any smaller r add nothing
pub exp_series_ends :
    (S n r' : ℕ) → term_after S r' S 1 n ≡ 0 → {r : ℕ} → r ≤ r' → (j : ℕ) → exp_series S (n + j) r ≡ exp_series S n r
unfolding exp_series
exp_series_ends S n r' e {r} h j =
    let none : term_after S r S 1 n ≡ 0 = le-zero (le_trans (term_after_mono S n 1 h (le_refl S)) (le_of_eq e)) in
    exp_terms_split S r S 1 n j
    ∙ ap (λ (s : ℕ). exp_terms S r S 1 n + s)
    (ap (λ (x : ℕ). exp_terms S r x (count_after 1 n) j) none ∙ exp_terms_zero S r (count_after 1 n) j)
    ∙ add-zero (exp_terms S r S 1 n)
