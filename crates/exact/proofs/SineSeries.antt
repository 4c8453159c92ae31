-- Once a term of the sine's or the cosine's series is 0, further terms add nothing. Assumes nothing.
use Prim.Native.Nat.{ℕ, zero, suc, ◌+◌, ◌*◌, ◌/◌, ◌≤◌}
use mathlib.Core.Path.{◌≡◌, refl, ap, ◌∙◌}
use native.Mathlib.Nat.{le_refl, le_trans, le_of_eq, mul-le-mul, zero-mul, zero-div, suc-add}
use lib.Arith.{le-zero}
use lib.IntN.{ℤ, pos, ◌-ℤ◌}
use Rattle.exact.specs.Series.{alternating, sin_series, cos_series}
use Rattle.exact.proofs.Quotients.{div-le}

abbrev next : ℕ → ℕ → ℕ → ℕ → ℕ
next S w t d = t * w / S / (d * (d + 1))

-- the size of the term after n more
unfoldable pub size_after : ℕ → ℕ → ℕ → ℕ → ℕ → ℕ
size_after S w t d zero = t
size_after S w t d (suc n) = size_after S w (next S w t d) (d + 2) n

size_after_mono : (S n d : ℕ) {w w' t t' : ℕ} → w ≤ w' → t ≤ t' → size_after S w t d n ≤ size_after S w' t' d n
unfolding size_after
size_after_mono S zero d hw ht = ht
size_after_mono S (suc n) d hw ht = size_after_mono S n (d + 2) hw (div-le (d * (d + 1)) (div-le S (mul-le-mul ht hw)))

next_zero : (S w d : ℕ) → next S w 0 d ≡ 0
next_zero S w d =
    ap (λ (x : ℕ). x / S / (d * (d + 1))) (zero-mul w) ∙ ap (λ (x : ℕ). x / (d * (d + 1))) (zero-div S) ∙ zero-div (d * (d + 1))

alternating_zero : (S w d n : ℕ) → alternating S w 0 d n ≡ pos 0
unfolding alternating
alternating_zero S w d zero = refl
alternating_zero S w d (suc n) =
    ap (λ (z : ℤ). pos 0 -ℤ z) (ap (λ (x : ℕ). alternating S w x (d + 2) n) (next_zero S w d) ∙ alternating_zero S w (d + 2) n)

alternating_ends :
    (S w t d n j : ℕ) → size_after S w t d n ≡ 0 → alternating S w t d (n + j) ≡ alternating S w t d n
unfolding alternating size_after
alternating_ends S w t d zero j e = ap (λ (x : ℕ). alternating S w x d (0 + j)) e ∙ alternating_zero S w d (0 + j)
alternating_ends S w t d (suc n) j e =
    ap (λ (i : ℕ). alternating S w t d i) (suc-add n j)
    ∙ ap (λ (z : ℤ). pos t -ℤ z) (alternating_ends S w (next S w t d) (d + 2) n j e)

-- where the term of x' is 0 after n, further terms at any smaller angle add nothing
pub sin_series_ends :
    (S n x' : ℕ) → size_after S (x' * x' / S) x' 2 n ≡ 0 → {x : ℕ} → x ≤ x' → (j : ℕ) → sin_series S (n + j) x ≡ sin_series S n x
unfolding sin_series
sin_series_ends S n x' e {x} h j =
    alternating_ends S (x * x / S) x 2 n j
    (le-zero (le_trans (size_after_mono S n 2 (div-le S (mul-le-mul h h)) h) (le_of_eq e)))

pub cos_series_ends :
    (S n x' : ℕ) → size_after S (x' * x' / S) S 1 n ≡ 0 → {x : ℕ} → x ≤ x' → (j : ℕ) → cos_series S (n + j) x ≡ cos_series S n x
unfolding cos_series
cos_series_ends S n x' e {x} h j =
    alternating_ends S (x * x / S) S 1 n j
    (le-zero (le_trans (size_after_mono S n 1 (div-le S (mul-le-mul h h)) (le_refl S)) (le_of_eq e)))
