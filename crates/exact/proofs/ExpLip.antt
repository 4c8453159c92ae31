-- The series of the exponential at two arguments near each other, r' = r + d: a mean value law, term by term, against the larger
-- value. If S t' ≤ S t + d u + 8 S, where u is the term before t', then the next pair of terms is so again: u r' ≤ j (t' + 1) S
-- makes the factor of the next divisor come out, and 2 + 8 · 3/4 = 8 is the fixed point for r ≤ 3/4. Assumes nothing.
use Prim.Native.Nat.{ℕ, zero, suc, ◌+◌, ◌*◌, ◌/◌, ◌≤◌, ◌<◌}
use mathlib.Core.Path.{◌≡◌, sym, ap, subst, ◌∙◌}
use native.Mathlib.Omega.{arith}
use native.Mathlib.Nat.{le_trans, le_of_eq, zero-lt-suc, mul-le-mul_left, mul-le-mul_right, mul_assoc, mul_comm, mul_left_comm, mul_right_comm, mul-add, add-mul, suc-mul, zero-mul, mul-zero, le_of_mul-le-mul_left, div-mul-le_self, lt-div-mul-add}
use Rattle.exact.specs.Series.{exp_terms, exp_series}

-- a product is not far above its rounded quotient by k S
room : (S t r k : ℕ) → 0 < S → 0 < k → t * r ≤ k * ((t * r / S / k + 1) * S)
room S t r k h_s hk =
    go (t * r / S) (t * r / S / k) (lt-div-mul-add {a = t * r} {b = S} h_s) (lt-div-mul-add {a = t * r / S} {b = k} hk)
  where
    go : (q p : ℕ) → t * r < q * S + S → q < p * k + k → t * r ≤ k * ((p + 1) * S)
    go q p h g =
        let more : q + 1 ≤ k * (p + 1) = omega (arith, mul-add k p 1, mul_comm k p) in
        omega (arith, add-mul q 1 S, mul-le-mul_right S more, mul_assoc k (p + 1) S)

-- the three products of the step, spread out
spread-next : (S j p : ℕ) → (j + 1) * ((p + 1) * S) ≡ (j + 1) * (S * p) + (j * S + S)
spread-next S j p = simp (mul-add, add-mul) (omega (arith, mul_comm p S, ap (λ (x : ℕ). j * x) (mul_comm p S)))

spread_change : (d j t' : ℕ) → d * (j * (t' + 1)) ≡ j * (d * t') + j * d
spread_change d j t' = mul_left_comm d j (t' + 1) ∙ ap (λ (x : ℕ). j * x) (mul-add d t' 1 ∙ one) ∙ mul-add j (d * t') d
  where
    one : d * t' + d * 1 ≡ d * t' + d
    one = omega arith

spread_bound : (S d j p t' : ℕ) → (j + 1) * (S * p + d * t' + 8 * S) ≡ (j + 1) * (S * p) + (j * (d * t') + d * t') + 8 * (j * S) + 8 * S
spread_bound S d j p t' =
    omega (
      arith,
      mul-add (j + 1) (S * p + d * t') (8 * S),
      mul-add (j + 1) (S * p) (d * t'),
      add-mul j 1 (d * t'),
      add-mul j 1 (8 * S),
      mul_left_comm j 8 S,
    )

-- q' and p' are t' r' rounded down twice, p is t r rounded down twice
term_step :
    (S d r r' j t t' u p p' q' : ℕ) → 0 < S → r' ≡ r + d → 4 * r ≤ 3 * S → d ≤ S
    → S * t' ≤ S * t + d * u + 8 * S → u * r' ≤ j * ((t' + 1) * S)
    → q' * S ≤ t' * r' → p' * (j + 1) ≤ q' → t * r ≤ (j + 1) * ((p + 1) * S)
    → S * p' ≤ S * p + d * t' + 8 * S
term_step S d r r' j t t' u p p' q' h_s er hr hd h hu hq hp htr = le_of_mul-le-mul_left whole (zero-lt-suc j)
  where
    left : (j + 1) * (S * p') ≤ t' * r'
    left =
        omega (
          arith,
          hq,
          mul-le-mul_right S hp,
          mul_right_comm p' (j + 1) S,
          mul_comm (j + 1) (S * p'),
          ap (λ (x : ℕ). x * (j + 1)) (mul_comm S p'),
        )

    before : u * r ≤ j * ((t' + 1) * S)
    before = omega (arith, ap (λ (x : ℕ). u * x) er, mul-add u r d)

    turn : j * ((t' + 1) * S) ≡ S * (j * (t' + 1))
    turn = sym (mul_assoc j (t' + 1) S) ∙ mul_comm (j * (t' + 1)) S

    middle : t' * r ≤ t * r + d * (j * (t' + 1)) + 8 * r
    middle =
        le_of_mul-le-mul_left
        (omega (
          arith,
          mul-le-mul_right r h,
          mul_assoc S t' r,
          add-mul (S * t + d * u) (8 * S) r,
          add-mul (S * t) (d * u) r,
          mul_assoc S t r,
          mul_assoc d u r,
          mul-le-mul_left d before,
          mul_assoc 8 S r,
          mul-add S (t * r + d * (j * (t' + 1))) (8 * r),
          mul-add S (t * r) (d * (j * (t' + 1))),
          mul_left_comm S 8 r,
          mul_left_comm S d (j * (t' + 1)),
          ap (λ (x : ℕ). d * x) turn,
        ))
        h_s

    first : t' * r' ≡ t' * r + d * t'
    first = omega (arith, ap (λ (x : ℕ). t' * x) er, mul-add t' r d, mul_comm t' d)

    gather :
        (l t'r tr dt j_sp jdt jd j_s x y z : ℕ) → l ≤ t'r + dt → t'r ≤ tr + y + 8 * r → tr ≤ x → jd ≤ j_s
        → x ≡ j_sp + (j_s + S) → y ≡ jdt + jd → z ≡ j_sp + (jdt + dt) + 8 * j_s + 8 * S → l ≤ z
    gather l t'r tr dt j_sp jdt jd j_s x y z a b c k e f g = omega (arith, hr)

    whole : suc j * (S * p') ≤ suc j * (S * p + d * t' + 8 * S)
    whole =
        let e : j + 1 ≡ suc j = omega arith in
        subst (λ (x : ℕ). x * (S * p') ≤ x * (S * p + d * t' + 8 * S)) e
        (gather ((j + 1) * (S * p')) (t' * r) (t * r) (d * t') ((j + 1) * (S * p)) (j * (d * t')) (j * d) (j * S) _ _ _
        (le_trans left (le_of_eq first)) middle htr (mul-le-mul_left j hd)
        (spread-next S j p) (spread_change d j t') (spread_bound S d j p t'))

exp_terms_lip :
    (S d r r' : ℕ) → 0 < S → r' ≡ r + d → 4 * r ≤ 3 * S → d ≤ S
    → (n j t t' u : ℕ) → S * t' ≤ S * t + d * u + 8 * S → u * r' ≤ j * ((t' + 1) * S)
    → S * exp_terms S r' t' (j + 1) n ≤ S * exp_terms S r t (j + 1) n + d * (u + exp_terms S r' t' (j + 1) n) + 8 * (n * S)
unfolding exp_terms
exp_terms_lip S d r r' h_s er hr hd zero j t t' u h hu = omega (arith, mul-zero S)
exp_terms_lip S d r r' h_s er hr hd (suc n) j t t' u h hu =
    let p' : ℕ = t' * r' / S / (j + 1) in
    let p : ℕ = t * r / S / (j + 1) in
    let next : S * p' ≤ S * p + d * t' + 8 * S =
    term_step S d r r' j t t' u p p' (t' * r' / S) h_s er hr hd h hu (div-mul-le_self (t' * r') S)
    (div-mul-le_self (t' * r' / S) (j + 1)) (room S t r (j + 1) h_s (omega arith)) in
    fin (exp_terms S r' p' (j + 1 + 1) n) (exp_terms S r p (j + 1 + 1) n)
    (exp_terms_lip S d r r' h_s er hr hd n (j + 1) p p' t' next (room S t' r' (j + 1) h_s (omega arith)))
  where
    fin : (R' R : ℕ) → S * R' ≤ S * R + d * (t' + R') + 8 * (n * S) → S * (t' + R') ≤ S * (t + R) + d * (u + (t' + R')) + 8 * (suc n * S)
    fin R' R k = omega (arith, mul-add S t' R', mul-add S t R, mul-add d u (t' + R'), suc-mul n S)

pub exp_series_lip :
    (S n d r r' : ℕ) → 0 < S → r' ≡ r + d → 4 * r ≤ 3 * S → d ≤ S
    → S * exp_series S n r' ≤ S * exp_series S n r + d * exp_series S n r' + 8 * (n * S)
unfolding exp_series
exp_series_lip S n d r r' h_s er hr hd =
    omega (
      arith,
      exp_terms_lip S d r r' h_s er hr hd n 0 S S 0 (omega (arith, mul-zero d)) (omega (arith, zero-mul r', zero-mul ((S + 1) * S))),
      mul-add d 0 (exp_terms S r' S 1 n),
      mul-zero d,
    )
