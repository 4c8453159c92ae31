-- One series at the scale S with n terms and at the scale S * K with k terms more. Each running value at the fine scale is the coarse
-- one or up to e coarse units more, with e a small numeral that the step of the series keeps. Assumes nothing.
use Prim.Native.Nat.{ℕ, zero, suc, ◌+◌, ◌*◌, ◌/◌, ◌≤◌, ◌<◌}
use mathlib.Core.Path.{◌≡◌, subst}
use native.Mathlib.Omega.{arith}
use native.Mathlib.Nat.{le_refl, le_trans, zero-lt-suc, mul-le-mul_right, mul_assoc, mul_right_comm, mul-add, add-mul, zero-mul, lt-div-mul-add, div-le_self}
use Rattle.exact.specs.Laws.{Close}
use Rattle.exact.specs.Series.{ln_terms, ln_series, exp_terms}
use Rattle.exact.proofs.Quotients.{mul_small, mul-below, mul-above, quot_below, quot_above}
use Rattle.exact.proofs.LnSeries.{ln_terms_split, ln_tail, ln_tail_mono, square-ninth}

-- ---- sums and wider bounds
pub above-add : (K e e' a b : ℕ) {a' b' : ℕ} → a' ≤ (a + e) * K → b' ≤ (b + e') * K → a' + b' ≤ (a + b + (e + e')) * K
above-add K e e' a b h h' =
    omega (
      arith,
      h,
      h',
      add-mul a e K,
      add-mul b e' K,
      add-mul (a + b) (e + e') K,
      add-mul a b K,
      add-mul e e' K,
    )

pub close_add : (K e e' a b : ℕ) {a' b' : ℕ} → Close K e a a' → Close K e' b b' → Close K (e + e') (a + b) (a' + b')
close_add K e e' a b c c' =
    record { low = omega (arith, c.low, c'.low, add-mul a b K); high = above-add K e e' a b c.high c'.high }

pub close_wide : (K e e' a : ℕ) {a' : ℕ} → e ≤ e' → Close K e a a' → Close K e' a a'
close_wide K e e' a h c =
    let more : a + e ≤ a + e' = omega arith in
    record { low = c.low; high = le_trans c.high (mul-le-mul_right K more) }

-- a quotient of whole numbers
pub close_ratio : (d K x : ℕ) → 0 < d → Close K 1 (x / d) (x * K / d)
close_ratio d K x hd =
    record {
      low = quot_below d K x hd (le_refl (x * K));
      high =
          quot_above d K x (x / d + 1) (le_refl (x * K))
          (omega (arith, add-mul (x / d) 1 d, lt-div-mul-add {a = x} {b = d} hd));
    }

-- ---- the logarithm: two units a term
expand_two : (p w : ℕ) → (p + 2) * (w + 2) ≡ p * w + 2 * p + 2 * w + 4
expand_two p w = simp (mul-add, add-mul) (omega arith)

expand_one : (p : ℕ) → (p + 1) * (p + 1) ≡ p * p + 2 * p + 1
expand_one p = simp (mul-add, add-mul) (omega arith)

next_power :
    (S K p w : ℕ) {p' w' : ℕ} → 27 ≤ S → 0 < K → p * 3 ≤ S → w * 9 ≤ S → Close K 2 p p' → Close K 2 w w'
    → Close K 2 (p * w / S) (p' * w' / (S * K))
next_power S K p w h_s h_k hp hw cp cw =
    record {
      low = mul-below S K p w (omega arith) h_k cp.low cw.low;
      high =
          mul-above S K (p + 2) (w + 2) (p * w / S + 2) cp.high cw.high
          (omega (arith, expand_two p w, add-mul (p * w / S) 2 S, lt-div-mul-add {a = p * w} {b = S} (omega arith)));
    }

square : (S K z : ℕ) {z' : ℕ} → 0 < S → 0 < K → z * 3 ≤ S → Close K 1 z z' → Close K 2 (z * z / S) (z' * z' / (S * K))
square S K z h_s h_k small c =
    record {
      low = mul-below S K z z h_s h_k c.low c.low;
      high =
          mul-above S K (z + 1) (z + 1) (z * z / S + 2) c.high c.high
          (omega (arith, expand_one z, add-mul (z * z / S) 2 S, lt-div-mul-add {a = z * z} {b = S} h_s));
    }

quotient : (d K p : ℕ) {p' : ℕ} → 0 < d → Close K 2 p p' → Close K 2 (p / d) (p' / d)
quotient d K p hd c =
    record {
      low = quot_below d K p hd c.low;
      high =
          quot_above d K (p + 2) (p / d + 2) c.high (omega (arith, add-mul (p / d) 2 d, lt-div-mul-add {a = p} {b = d} hd));
    }

ln_terms_close :
    (S K : ℕ) → 27 ≤ S → 0 < K
    → (n d p w : ℕ) {p' w' : ℕ} → 0 < d → p * 3 ≤ S → w * 9 ≤ S → Close K 2 p p' → Close K 2 w w'
    → Close K (n * 2) (ln_terms S w p d n) (ln_terms (S * K) w' p' d n)
unfolding ln_terms
ln_terms_close S K h_s h_k zero d p w hd hp hw cp cw =
    record { low = omega (arith, zero-mul K); high = omega (arith, zero-mul K) }
ln_terms_close S K h_s h_k (suc n) d p w {p'} {w'} hd hp hw cp cw =
    let next : p * w / S ≤ p = mul_small S p (omega arith) in
    let rest = ln_terms_close S K h_s h_k n (d + 2) (p * w / S) w (omega arith) (omega arith) hw (next_power S K p w h_s h_k hp hw cp cw) cw in
    let e : 2 + n * 2 ≡ suc n * 2 = omega arith in
    subst
    (λ (t : ℕ). Close K t (p / d + ln_terms S w (p * w / S) (d + 2) n) (p' / d + ln_terms (S * K) w' (p' * w' / (S * K)) (d + 2) n))
    e
    (close_add K 2 (n * 2) (p / d) (ln_terms S w (p * w / S) (d + 2) n) (quotient d K p hd cp) rest)

-- z at both scales, at most a third, and a tail at a third of at most a coarse unit, which counts twice
pub ln_series_close :
    (S K n k z z' : ℕ) → 27 ≤ S → 0 < K → z * 3 ≤ S → z' ≤ S * K / 3 → ln_tail (S * K) n k (S * K / 3) ≤ K → Close K 1 z z'
    → Close K (n * 4 + 2) (ln_series S n z) (ln_series (S * K) (n + k) z')
unfolding ln_series
ln_series_close S K n k z z' h_s h_k hz top tail c =
    let T : ℕ = S * K in
    fin (ln_terms S (z * z / S) z 1 n) (ln_terms T (z' * z' / T) z' 1 n) (ln_tail T n k z') (ln_terms T (z' * z' / T) z' 1 (n + k))
    (ln_terms_close S K h_s h_k n 1 z (z * z / S) (zero-lt-suc 0) hz (square-ninth S z (omega arith) hz)
    (close_wide K 1 2 z (omega arith) c) (square S K z (omega arith) h_k hz c))
    (ln_terms_split T (z' * z' / T) z' 1 n k)
    (le_trans (ln_tail_mono T n k top) tail)
  where
    fin : (A B T B' : ℕ) → Close K (n * 2) A B → B' ≡ B + T → T ≤ K → Close K (n * 4 + 2) (2 * A) (2 * B')
    fin A B T B' c e t =
        record {
          low = omega (arith, mul_assoc 2 A K, c.low);
          high =
              omega (
                arith,
                c.high,
                mul_assoc 2 A K,
                add-mul A (n * 2) K,
                add-mul (2 * A) (n * 4 + 2) K,
                add-mul (n * 4) 2 K,
                mul_right_comm n 4 K,
                mul_right_comm n 2 K,
              );
        }

-- ---- the exponential: four units a term
expand_four : (t r : ℕ) → (t + 4) * (r + 2) ≡ t * r + 2 * t + 4 * r + 8
expand_four t r = simp (mul-add, add-mul) (omega arith)

next_term :
    (S K t r k : ℕ) {t' r' : ℕ} → 100 ≤ S → 0 < K → 2 ≤ k → t ≤ S → 10 * r ≤ 7 * S → Close K 4 t t' → Close K 2 r r'
    → Close K 4 (t * r / S / k) (t' * r' / (S * K) / k)
next_term S K t r k h_s h_k hk ht hr ct cr =
    let u : ℕ = t * r / S in
    record {
      low = quot_below k K u (omega arith) (mul-below S K t r (omega arith) h_k ct.low cr.low);
      high =
          quot_above k K (u + 6) (u / k + 4)
          (mul-above S K (t + 4) (r + 2) (u + 6) ct.high cr.high
          (omega (arith, expand_four t r, add-mul u 6 S, lt-div-mul-add {a = t * r} {b = S} (omega arith))))
          (omega (arith, add-mul (u / k) 4 k, lt-div-mul-add {a = u} {b = k} (omega arith)));
    }

pub exp_terms_close :
    (S K : ℕ) → 100 ≤ S → 0 < K
    → (n k t r : ℕ) {t' r' : ℕ} → 2 ≤ k → t ≤ S → 10 * r ≤ 7 * S → Close K 4 t t' → Close K 2 r r'
    → Close K (n * 4) (exp_terms S r t k n) (exp_terms (S * K) r' t' k n)
unfolding exp_terms
exp_terms_close S K h_s h_k zero k t r hk ht hr ct cr =
    record { low = omega (arith, zero-mul K); high = omega (arith, zero-mul K) }
exp_terms_close S K h_s h_k (suc n) k t r {t'} {r'} hk ht hr ct cr =
    let next : t * r / S / k ≤ S = le_trans (div-le_self (t * r / S) k) (le_trans (mul_small S t (omega arith)) ht) in
    let rest = exp_terms_close S K h_s h_k n (k + 1) (t * r / S / k) r (omega arith) next hr (next_term S K t r k h_s h_k hk ht hr ct cr) cr in
    let e : 4 + n * 4 ≡ suc n * 4 = omega arith in
    subst
    (λ (i : ℕ). Close K i (t + exp_terms S r (t * r / S / k) (k + 1) n) (t' + exp_terms (S * K) r' (t' * r' / (S * K) / k) (k + 1) n))
    e
    (close_add K 4 (n * 4) t (exp_terms S r (t * r / S / k) (k + 1) n) ct rest)
