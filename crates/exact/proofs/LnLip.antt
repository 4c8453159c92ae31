-- The series of the logarithm at two arguments near each other. With z ≤ z' ≤ z + δ and 3 z' ≤ 1 the running power p' is at most
-- p + e and p' (w' - w) at most g; one term later e has become e/9 + g + 2 and g has become g/9 + 1, since w and w' are at most
-- 1/9, and a term p/d with d ≥ 3 has moved by e/3 + 2. The weights 24 for e and 27 for g are the fixed point of that step
-- (64/3 + 24/9 = 24, 24 + 27/9 = 27), so the induction closes on 64 (sum' - sum) ≤ 24 e + 27 g + 250 n. Assumes nothing.
use Prim.Native.Nat.{ℕ, zero, suc, ◌+◌, ◌-◌, ◌*◌, ◌/◌, ◌≤◌, ◌<◌}
use mathlib.Core.Path.{◌≡◌, sym, ap, subst, subst₂}
use native.Mathlib.Omega.{arith}
use native.Mathlib.Nat.{le_refl, le_trans, le_of_eq, mul-le-mul_left, mul-le-mul_right, mul_assoc, mul_comm, mul_left_comm, mul_right_comm, mul-add, add-mul, lt-div-mul-add, div-mul-le_self, div-le_of_le-mul, le_of_mul-le-mul_right, div-one}
use Rattle.exact.specs.Series.{ln_terms, ln_series, ln_unit}
use Rattle.exact.proofs.LnSeries.{ratio_mono, ratio_third, three_thirds, square-ninth}

-- ---- one step
-- e w is at most e/9 + 1
ninth : (S e w : ℕ) → w * 9 ≤ S → e * w ≤ (e / 9 + 1) * S
ninth S e w h = go (e / 9) (omega arith)
  where
    go : (q : ℕ) → e ≤ q * 9 + 8 → e * w ≤ (q + 1) * S
    go q k =
        omega (
          arith,
          mul-le-mul_left e h,
          mul_assoc e w 9,
          mul-le-mul_right S k,
          add-mul (q * 9) 8 S,
          mul_right_comm q 9 S,
          add-mul q 1 S,
        )

next_power : (S p p' w w' o e g : ℕ) → 0 < S → w * 9 ≤ S → w' ≤ w + o → p' ≤ p + e → p' * o ≤ g * S → p' * w' / S ≤ p * w / S + (e / 9 + g + 2)
next_power S p p' w w' o e g h_s hw hw' hp hg =
    div-le_of_le-mul S (fin (p * w / S) (e / 9) (lt-div-mul-add {a = p * w} {b = S} h_s) (ninth S e w hw))
  where
    fin : (A q : ℕ) → p * w < A * S + S → e * w ≤ (q + 1) * S → p' * w' ≤ S * (A + (q + g + 2))
    fin A q ha hq =
        omega (
          arith,
          mul-le-mul_left p' hw',
          mul-add p' w o,
          mul-le-mul_right w hp,
          add-mul p e w,
          add-mul q 1 S,
          mul_comm S (A + (q + g + 2)),
          add-mul A (q + g + 2) S,
          add-mul (q + g) 2 S,
          add-mul q g S,
        )

next-cross : (S p' w' o g : ℕ) → 0 < S → w' * 9 ≤ S → p' * o ≤ g * S → p' * w' / S * o ≤ (g / 9 + 1) * S
next-cross S p' w' o g h_s hw hg = go (p' * w' / S) (g / 9) falls (omega arith)
  where
    falls : p' * w' / S * 9 ≤ p'
    falls =
        le_of_mul-le-mul_right
        (omega (
          arith,
          div-mul-le_self (p' * w') S,
          mul_right_comm (p' * w' / S) 9 S,
          mul_assoc p' w' 9,
          mul-le-mul_left p' hw,
        ))
        h_s

    go : (r q : ℕ) → r * 9 ≤ p' → g ≤ q * 9 + 8 → r * o ≤ (q + 1) * S
    go r q h k =
        omega (
          arith,
          mul-le-mul_right o h,
          mul_right_comm r 9 o,
          mul-le-mul_right S k,
          add-mul (q * 9) 8 S,
          mul_right_comm q 9 S,
          add-mul q 1 S,
        )

next_term : (d p p' e : ℕ) → 3 ≤ d → p' ≤ p + e → p' / d ≤ p / d + (e / 3 + 2)
next_term d p p' e hd hp =
    div-le_of_le-mul d (go (p / d) (e / 3) (lt-div-mul-add {a = p} {b = d} (omega arith)) (omega arith))
  where
    go : (A q : ℕ) → p < A * d + d → e ≤ q * 3 + 2 → p' ≤ d * (A + (q + 2))
    go A q ha hq = omega (arith, mul_comm d (A + (q + 2)), add-mul A (q + 2) d, add-mul q 2 d, mul-le-mul_left q hd)

-- ---- the terms from the second on
ln_terms_lip :
    (S : ℕ) → 0 < S
    → (n d p p' w w' o e g : ℕ) → 3 ≤ d → w * 9 ≤ S → w' * 9 ≤ S → w' ≤ w + o → p' ≤ p + e → p' * o ≤ g * S
    → 64 * ln_terms S w' p' d n ≤ 64 * ln_terms S w p d n + 24 * e + 27 * g + 250 * n
unfolding ln_terms
ln_terms_lip S h_s zero d p p' w w' o e g hd hw hw' ho hp hg = omega arith
ln_terms_lip S h_s (suc n) d p p' w w' o e g hd hw hw' ho hp hg =
    fin (p' / d) (p / d) (ln_terms S w' (p' * w' / S) (d + 2) n) (ln_terms S w (p * w / S) (d + 2) n) (next_term d p p' e hd hp)
    (ln_terms_lip S h_s n (d + 2) (p * w / S) (p' * w' / S) w w' o (e / 9 + g + 2) (g / 9 + 1) (omega arith) hw hw' ho
    (next_power S p p' w w' o e g h_s hw ho hp hg)
    (next-cross S p' w' o g h_s hw' hg))
  where
    fin : (a b r s : ℕ) → a ≤ b + (e / 3 + 2) → 64 * r ≤ 64 * s + 24 * (e / 9 + g + 2) + 27 * (g / 9 + 1) + 250 * n
        → 64 * (a + r) ≤ 64 * (b + s) + 24 * e + 27 * g + 250 * suc n
    fin a b r s h k = omega arith

-- ---- the whole series: it moves by 73/64 of twice what z moves
-- where z moves by at most 9 q its square moves by at most 6 q + 1
square_lip : (S z z' q : ℕ) → 0 < S → z' * 3 ≤ S → z ≤ z' → z' ≤ z + 9 * q → z' * z' / S ≤ z * z / S + (6 * q + 1)
square_lip S z z' q h_s h3 hz hq = div-le_of_le-mul S (go (z * z / S) (lt-div-mul-add {a = z * z} {b = S} h_s))
  where
    third : q * z' * 3 ≤ q * S
    third = le_trans (le_of_eq (mul_assoc q z' 3)) (mul-le-mul_left q h3)

    go : (A : ℕ) → z * z < A * S + S → z' * z' ≤ S * (A + (6 * q + 1))
    go A h =
        omega (
          arith,
          third,
          mul-le-mul_right z' hq,
          add-mul z (9 * q) z',
          mul-le-mul_left z hq,
          mul-add z z (9 * q),
          mul_assoc 9 q z',
          mul_comm z (9 * q),
          mul_assoc 9 q z,
          mul-le-mul_left q hz,
          mul_comm S (A + (6 * q + 1)),
          add-mul A (6 * q + 1) S,
          add-mul (6 * q) 1 S,
          mul_assoc 6 q S,
        )

pub ln_series_lip :
    (S n z z' δ : ℕ) → 0 < S → z' * 3 ≤ S → z ≤ z' → z' ≤ z + δ
    → 32 * ln_series S (suc n) z' ≤ 32 * ln_series S (suc n) z + 73 * δ + (250 * n + 1000)
unfolding ln_series ln_terms
ln_series_lip S n z z' δ h_s h3 hz hd =
    let q : ℕ = δ / 9 + 1 in
    let w : ℕ = z * z / S in
    let w' : ℕ = z' * z' / S in
    let hw' : w' * 9 ≤ S = square-ninth S z' h_s h3 in
    let hw : w * 9 ≤ S = square-ninth S z h_s (le_trans (mul-le-mul_right 3 hz) h3) in
    let ho : w' ≤ w + (6 * q + 1) = square_lip S z z' q h_s h3 hz (le_trans hd (omega arith)) in
    let hg : z' * (6 * q + 1) ≤ (2 * q + 1) * S = cross q in
    fin (z' / 1) (z / 1) (ln_terms S w' (z' * w' / S) 3 n) (ln_terms S w (z * w / S) 3 n) (div-one z') (div-one z)
    (ln_terms_lip S h_s n 3 (z * w / S) (z' * w' / S) w w' (6 * q + 1) (δ / 9 + (2 * q + 1) + 2) ((2 * q + 1) / 9 + 1)
    (le_refl 3) hw hw' ho
    (next_power S z z' w w' (6 * q + 1) δ (2 * q + 1) h_s hw ho hd hg)
    (next-cross S z' w' (6 * q + 1) (2 * q + 1) h_s hw' hg))
  where
    cross : (q : ℕ) → z' * (6 * q + 1) ≤ (2 * q + 1) * S
    cross q =
        omega (
          arith,
          mul-le-mul_left (6 * q + 1) h3,
          mul_assoc (6 * q + 1) z' 3,
          mul_comm z' (6 * q + 1),
          add-mul (2 * q) 1 S,
          add-mul (6 * q) 1 S,
          mul_assoc 6 q S,
          mul_assoc 2 q S,
        )

    fin : (a b r s : ℕ) → a ≡ z' → b ≡ z
        → 64 * r ≤ 64 * s + 24 * (δ / 9 + (2 * (δ / 9 + 1) + 1) + 2) + 27 * ((2 * (δ / 9 + 1) + 1) / 9 + 1) + 250 * n
        → 32 * (2 * (a + r)) ≤ 32 * (2 * (b + s)) + 73 * δ + (250 * n + 1000)
    fin a b r s ea eb h = omega arith

-- ---- z = (m - 1)/(m + 1): m is S + a, D is m + S, and m moves by h. From D² ≥ 4 m S the change δ of z has 4 m δ ≤ 2 S h + 9 S
ratio_core :
    (S a h D z z' δ : ℕ) → 0 < S → D ≡ S + a + S → D + h ≤ 3 * S → z ≤ z' → z' ≡ z + δ
    → z' * (D + h) ≤ (a + h) * S → a * S < z * D + D
    → 4 * (δ * (S + a)) ≤ 2 * (h * S) + 9 * S
ratio_core S a h D z z' δ h_s e_d top hz ez above below = le_of_mul-le-mul_right whole h_s
  where
    D-le : D ≤ 3 * S
    D-le = omega arith

    one : δ * D + h * z ≤ D + h * S
    one =
        omega (
          arith,
          mul-add z' D h,
          add-mul a h S,
          ap (λ (t : ℕ). t * D) ez,
          add-mul z δ D,
          mul_comm z' h,
          mul-le-mul_left h hz,
        )

    two : δ * D * D + h * z * D ≤ D * D + h * S * D
    two = omega (arith, mul-le-mul_right D one, add-mul (δ * D) (h * z) D, add-mul D (h * S) D)

    -- S D = 2 S² + S a, and S a ≤ (z + 1) D
    side : S * D ≤ z * D + D + 2 * (S * S)
    side = omega (arith, ap (λ (t : ℕ). S * t) e_d, mul-add S (S + a) S, mul-add S S a, mul_comm S a)

    three : h * S * D ≤ h * z * D + h * D + 2 * (h * S * S)
    three =
        omega (
          arith,
          mul-le-mul_left h side,
          mul_assoc h S D,
          mul-add h (z * D + D) (2 * (S * S)),
          mul-add h (z * D) D,
          mul_assoc h z D,
          mul_left_comm h 2 (S * S),
          mul_assoc h S S,
        )

    square : 4 * ((S + a) * S) ≤ (S + a + S) * (S + a + S)
    square = simp (mul-add, add-mul) (omega (arith, mul_comm a S))

    four : δ * (4 * ((S + a) * S)) ≤ δ * D * D
    four =
        le_trans (mul-le-mul_left δ (subst (λ (t : ℕ). 4 * ((S + a) * S) ≤ t * t) (sym e_d) square))
        (le_of_eq (sym (mul_assoc δ D D)))

    five : D * D + h * D ≤ 9 * (S * S)
    five =
        omega (
          arith,
          mul-le-mul_right D top,
          add-mul D h D,
          mul_assoc 3 S D,
          mul-le-mul_left S D-le,
          mul_left_comm S 3 S,
        )

    whole : 4 * (δ * (S + a)) * S ≤ (2 * (h * S) + 9 * S) * S
    whole =
        omega (
          arith,
          two,
          three,
          four,
          five,
          mul_assoc 4 (δ * (S + a)) S,
          mul_assoc δ (S + a) S,
          mul_left_comm δ 4 ((S + a) * S),
          add-mul (2 * (h * S)) (9 * S) S,
          mul_assoc 2 (h * S) S,
          mul_assoc 9 S S,
        )

ratio_lip :
    (S m m' h : ℕ) → 0 < S → S ≤ m → m' ≡ m + h → m' ≤ 2 * S
    → 4 * (((m' - S) * S / (m' + S) - (m - S) * S / (m + S)) * m) ≤ 2 * (h * S) + 9 * S
ratio_lip S m m' h h_s hm e top =
    let a : ℕ = m - S in
    let z : ℕ = (m - S) * S / (m + S) in
    let z' : ℕ = (m' - S) * S / (m' + S) in
    let hz : z ≤ z' = ratio_mono S m m' h_s hm (omega arith) in
    let ea : S + a ≡ m = omega arith in
    let e_d : m' + S ≡ m + S + h = omega arith in
    let eah : m' - S ≡ a + h = omega arith in
    subst (λ (t : ℕ). 4 * ((z' - z) * t) ≤ 2 * (h * S) + 9 * S) ea
    (ratio_core S a h (m + S) z z' (z' - z) h_s (omega arith) (omega arith) hz (omega arith)
    (subst₂ (λ (s t : ℕ). z' * s ≤ t * S) e_d eah (div-mul-le_self ((m' - S) * S) (m' + S)))
    (lt-div-mul-add {a = (m - S) * S} {b = m + S} (omega arith)))

-- ---- the logarithm from 1 to 2: m times its change is at most 73/64 of the change of m, and a few units
pub ln_unit_lip :
    (S n m m' h : ℕ) → 0 < S → S ≤ m → m' ≡ m + h → m' ≤ 2 * S
    → 64 * (m * ln_unit S (suc n) m') ≤ 64 * (m * ln_unit S (suc n) m) + 73 * (S * h) + (500 * n + 2400) * m
unfolding ln_unit
ln_unit_lip S n m m' h h_s hm e top =
    let z : ℕ = (m - S) * S / (m + S) in
    let z' : ℕ = (m' - S) * S / (m' + S) in
    let hz : z ≤ z' = ratio_mono S m m' h_s hm (omega arith) in
    fin (ln_series S (suc n) z') (ln_series S (suc n) z) (z' - z)
    (ln_series_lip S n z z' (z' - z) h_s (three_thirds S z' (ratio_third S m' h_s top)) hz (omega arith))
    (ratio_lip S m m' h h_s hm e top)
  where
    fin : (A B δ : ℕ) → 32 * A ≤ 32 * B + 73 * δ + (250 * n + 1000) → 4 * (δ * m) ≤ 2 * (h * S) + 9 * S
        → 64 * (m * A) ≤ 64 * (m * B) + 73 * (S * h) + (500 * n + 2400) * m
    fin A B δ k l =
        omega (
          arith,
          mul-le-mul_right m k,
          mul_assoc 32 A m,
          add-mul (32 * B + 73 * δ) (250 * n + 1000) m,
          add-mul (32 * B) (73 * δ) m,
          mul_assoc 32 B m,
          mul_assoc 73 δ m,
          add-mul (250 * n) 1000 m,
          add-mul (500 * n) 2400 m,
          mul_assoc 250 n m,
          mul_assoc 500 n m,
          mul_comm A m,
          mul_comm B m,
          mul_comm S h,
        )
