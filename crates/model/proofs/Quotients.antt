-- Quotients of numbers that are only near. If the dividends are ρ parts in N apart and the divisors σ, quotients that are at most 1
-- are ρ + σ + 3 units of 1/N apart: one for the product of the parts, two for the roundings. A quotient a/(a + x) is 1 - x/(a + x),
-- so it is as near as x/(a + x) is, and two roundings more. Assumes nothing.
use Prim.Native.Nat.{ℕ, ◌+◌, ◌*◌, ◌/◌, ◌≤◌, ◌<◌}
use mathlib.Core.Path.{◌≡◌, sym, ap, ◌∙◌}
use native.Mathlib.Omega.{arith}
use native.Mathlib.Nat.{le_trans, le_of_eq, mul-le-mul_left, mul-le-mul_right, mul_assoc, mul_comm, mul_left_comm, mul_right_comm, mul-add, add-mul, mul-pos, zero-mul, le_of_mul-le-mul_right, lt_of_mul-lt-mul_right, div-mul-le_self, lt-div-mul-add, div-le_of_le-mul}
use lib.IntN.{pos}
use Rattle.exact.specs.Near.{NearZ}
use Rattle.exact.specs.Laws.{Rel}

-- ---- numbers without a sign
pub near_pos : {K e : ℕ} (a b : ℕ) → a * K ≤ b + e * K → b ≤ a * K + e * K → NearZ K e (pos a) (pos b)
near_pos {K} a b h k = record { low = omega (arith, zero-mul K); high = omega (arith, zero-mul K) }

pub pos_low : {K e a b : ℕ} → NearZ K e (pos a) (pos b) → a * K ≤ b + e * K
pos_low {K} n = omega (arith, n.low, zero-mul K)

pub pos_high : {K e a b : ℕ} → NearZ K e (pos a) (pos b) → b ≤ a * K + e * K
pos_high {K} n = omega (arith, n.high, zero-mul K)

-- ---- the same quotient at both scales
pub ratio_same : (K p d : ℕ) → 0 < d → 0 < K → NearZ K 1 (pos (p / d)) (pos (p * K / d))
ratio_same K p d hd h_k =
    near_pos (p / d) (p * K / d)
    (le_trans
    (le_of_mul-le-mul_right (low (p / d) (p * K / d) (div-mul-le_self p d) (lt-div-mul-add {a = p * K} {b = d} hd)) hd)
    (omega arith))
    (le_of_mul-le-mul_right (high (p / d) (p * K / d) (lt-div-mul-add {a = p} {b = d} hd) (div-mul-le_self (p * K) d)) hd)
  where
    low : (q q' : ℕ) → q * d ≤ p → p * K < q' * d + d → q * K * d ≤ (q' + 1) * d
    low q q' h k = omega (arith, mul_right_comm q K d, mul-le-mul_right K h, add-mul q' 1 d)

    high : (q q' : ℕ) → p < q * d + d → q' * d ≤ p * K → q' * d ≤ (q * K + 1 * K) * d
    high q q' h k =
        let above : p ≤ q * d + d = omega arith in
        omega (
          arith,
          k,
          mul-le-mul_right K above,
          add-mul (q * d) d K,
          mul_right_comm q d K,
          add-mul (q * K) (1 * K) d,
          one K,
          ap (λ (t : ℕ). t * d) (one K),
          mul_comm d K,
        )
      where
        one : (t : ℕ) → 1 * t ≡ t
        one t = omega arith

-- ---- a quotient and its complement
whole-low : (N a x b : ℕ) → 0 < b → a + x ≡ b → a * N / b + x * N / b ≤ N
whole-low N a x b hb e =
    le_of_mul-le-mul_right (go (a * N / b) (x * N / b) (div-mul-le_self (a * N) b) (div-mul-le_self (x * N) b)) hb
  where
    go : (p q : ℕ) → p * b ≤ a * N → q * b ≤ x * N → (p + q) * b ≤ N * b
    go p q h k = omega (arith, add-mul p q b, add-mul a x N, ap (λ (t : ℕ). t * N) e, mul_comm N b)

whole-high : (N a x b : ℕ) → 0 < b → a + x ≡ b → N < a * N / b + x * N / b + 2
whole-high N a x b hb e =
    lt_of_mul-lt-mul_right b
    (go (a * N / b) (x * N / b) (lt-div-mul-add {a = a * N} {b = b} hb) (lt-div-mul-add {a = x * N} {b = b} hb))
  where
    go : (p q : ℕ) → a * N < p * b + b → x * N < q * b + b → N * b < (p + q + 2) * b
    go p q h k = omega (arith, add-mul (p + q) 2 b, add-mul p q b, add-mul a x N, ap (λ (t : ℕ). t * N) e, mul_comm N b)

pub rest-near :
    {K e : ℕ} (N a x b a' x' b' : ℕ) → 0 < b → 0 < b' → 2 ≤ K → a + x ≡ b → a' + x' ≡ b'
    → NearZ K e (pos (x * N / b)) (pos (x' * (N * K) / b'))
    → NearZ K (e + 2) (pos (a * N / b)) (pos (a' * (N * K) / b'))
rest-near {K} {e} N a x b a' x' b' hb hb' h_k s s' n =
    go (a * N / b) (x * N / b) (a' * (N * K) / b') (x' * (N * K) / b') (whole-low N a x b hb s) (whole-high N a x b hb s)
    (whole-low (N * K) a' x' b' hb' s')
    (whole-high (N * K) a' x' b' hb' s')
    (pos_low n)
    (pos_high n)
  where
    go :
        (p q p' q' : ℕ) → p + q ≤ N → N < p + q + 2 → p' + q' ≤ N * K → N * K < p' + q' + 2 → q * K ≤ q' + e * K
        → q' ≤ q * K + e * K
        → NearZ K (e + 2) (pos p) (pos p')
    go p q p' q' h1 h2 h3 h4 l h =
        let top : (p + q) * K ≤ N * K = mul-le-mul_right K h1 in
        let more : N ≤ p + q + 1 = omega arith in
        let bottom : N * K ≤ (p + q + 1) * K = mul-le-mul_right K more in
        near_pos p p'
        (omega (arith, top, add-mul p q K, h4, h, add-mul e 2 K))
        (omega (arith, bottom, add-mul (p + q) 1 K, add-mul p q K, h3, l, add-mul e 2 K))

-- ---- a quotient of near numbers
-- the two relative distances together
two_rels : (N ρ σ : ℕ) → ρ * σ ≤ N → (N + ρ) * (N + σ) ≤ N * (N + (ρ + σ + 1))
two_rels N ρ σ h =
    omega (
      arith,
      mul-add (N + ρ) N σ,
      add-mul N ρ N,
      add-mul N ρ σ,
      mul-add N N (ρ + σ + 1),
      mul-add N (ρ + σ) 1,
      mul-add N ρ σ,
      mul_comm ρ N,
    )

-- q' b' ≤ a' N K, a' N ≤ a K (N + ρ), b K N ≤ b' (N + σ), a N < q b + b
ratio_high :
    (N K ρ σ a a' b b' q q' : ℕ) → 0 < N → 0 < K → 0 < b → ρ * σ ≤ N → a ≤ b → q' * b' ≤ a' * (N * K) → a' * N ≤ a * K * (N + ρ)
    → b * K * N ≤ b' * (N + σ) → a * N < q * b + b
    → q' ≤ (q + (ρ + σ + 2)) * K
ratio_high N K ρ σ a a' b b' q q' hN h_k hb small ab hq ha hb' hc = le_of_mul-le-mul_right last hb
  where
    -- q' b K N ≤ a K K (N + ρ) (N + σ)
    one : q' * (b * K * N) ≤ a * K * (N + ρ) * K * (N + σ)
    one =
        le_trans (mul-le-mul_left q' hb')
        (le_trans (le_of_eq (sym (mul_assoc q' b' (N + σ))))
        (mul-le-mul_right (N + σ) (le_trans hq (le_trans (le_of_eq (sym (mul_assoc a' N K))) (mul-le-mul_right K ha)))))

    two : a * K * (N + ρ) * K * (N + σ) ≤ a * K * K * (N * (N + (ρ + σ + 1)))
    two = le_trans (le_of_eq (turn (a * K) (N + ρ) K (N + σ))) (mul-le-mul_left (a * K * K) (two_rels N ρ σ small))
      where
        turn : (x y k z : ℕ) → x * y * k * z ≡ x * k * (y * z)
        turn x y k z = ap (λ (t : ℕ). t * z) (mul_right_comm x y k) ∙ mul_assoc (x * k) y z

    -- the factor K N taken out
    three : q' * b * (K * N) ≤ a * (N + (ρ + σ + 1)) * K * (K * N)
    three = le_trans (le_of_eq (left q' b K N)) (le_trans one (le_trans two (le_of_eq (right a K N (N + (ρ + σ + 1))))))
      where
        left : (q b k n : ℕ) → q * b * (k * n) ≡ q * (b * k * n)
        left q b k n = simp (mul_assoc)

        right : (a k n z : ℕ) → a * k * k * (n * z) ≡ a * z * k * (k * n)
        right a k n z = simp (mul_assoc, mul_comm, mul_left_comm)

    four : q' * b ≤ a * (N + (ρ + σ + 1)) * K
    four = le_of_mul-le-mul_right three (mul-pos h_k hN)

    five : a * (N + (ρ + σ + 1)) ≤ (q + (ρ + σ + 2)) * b
    five =
        omega (
          arith,
          hc,
          mul-add a N (ρ + σ + 1),
          mul-le-mul_right (ρ + σ + 1) ab,
          mul_comm b (ρ + σ + 1),
          add-mul q (ρ + σ + 2) b,
          add-mul (ρ + σ) 2 b,
          add-mul (ρ + σ) 1 b,
        )

    last : q' * b ≤ (q + (ρ + σ + 2)) * K * b
    last = le_trans four (le_trans (mul-le-mul_right K five) (le_of_eq (mul_right_comm (q + (ρ + σ + 2)) b K)))

-- q b ≤ a N, a K N ≤ a' (N + ρ), b' N ≤ b K (N + σ), a' N K < q' b' + b'
ratio_low :
    (N K ρ σ a a' b b' q q' : ℕ) → 0 < N → 2 ≤ K → 0 < b → ρ * σ ≤ N → ρ + σ + 1 ≤ N → q' ≤ N * K → q * b ≤ a * N
    → a * K * N ≤ a' * (N + ρ) → b' * N ≤ b * K * (N + σ) → a' * (N * K) < q' * b' + b'
    → q * K ≤ q' + (ρ + σ + 3) * K
ratio_low N K ρ σ a a' b b' q q' hN h_k hb small fit top hq ha hb' hc = le_of_mul-le-mul_right last hN
  where
    K-pos : 0 < K
    K-pos = omega arith

    zero' : a' * (N * K) ≤ (q' + 1) * b'
    zero' = omega (arith, add-mul q' 1 b')

    -- a' N N ≤ (q' + 1) b (N + σ)
    one : a' * N * N * K ≤ (q' + 1) * b * (N + σ) * K
    one =
        le_trans (le_of_eq (left a' N K))
        (le_trans (mul-le-mul_right N zero')
        (le_trans (le_of_eq (mul_assoc (q' + 1) b' N))
        (le_trans (mul-le-mul_left (q' + 1) hb') (le_of_eq (right (q' + 1) b K (N + σ))))))
      where
        left : (a n k : ℕ) → a * n * n * k ≡ a * (n * k) * n
        left a n k = mul_right_comm (a * n) n k ∙ ap (λ (t : ℕ). t * n) (mul_assoc a n k)

        right : (x b k z : ℕ) → x * (b * k * z) ≡ x * b * z * k
        right x b k z = simp (mul_assoc, mul_comm)

    two : a' * N * N ≤ (q' + 1) * b * (N + σ)
    two = le_of_mul-le-mul_right one K-pos

    -- q b K N N ≤ a' (N + ρ) N N ≤ (q' + 1) b N (N + m)
    three : q * K * N * (b * N) ≤ (q' + 1) * (N + (ρ + σ + 1)) * (b * N)
    three =
        le_trans (le_of_eq (left q b K N))
        (le_trans (mul-le-mul_right N (mul-le-mul_right N (mul-le-mul_right K hq)))
        (le_trans (le_of_eq (mid a N K))
        (le_trans (mul-le-mul_right N (mul-le-mul_right N ha))
        (le_trans (le_of_eq (swap a' (N + ρ) N))
        (le_trans (mul-le-mul_right (N + ρ) two)
        (le_trans (le_of_eq (far (q' + 1) b (N + σ) (N + ρ)))
        (le_trans (mul-le-mul_left ((q' + 1) * b) (le_trans (le_of_eq (mul_comm (N + σ) (N + ρ))) (two_rels N ρ σ small)))
        (le_of_eq (end (q' + 1) b N (N + (ρ + σ + 1)))))))))))
      where
        left : (q b k n : ℕ) → q * k * n * (b * n) ≡ q * b * k * n * n
        left q b k n = simp (mul_assoc, mul_left_comm)

        mid : (a n k : ℕ) → a * n * k * n * n ≡ a * k * n * n * n
        mid a n k = ap (λ (t : ℕ). t * n * n) (mul_right_comm a n k)

        swap : (a z n : ℕ) → a * z * n * n ≡ a * n * n * z
        swap a z n = simp (mul_assoc, mul_comm, mul_left_comm)

        far : (x b y z : ℕ) → x * b * y * z ≡ x * b * (y * z)
        far x b y z = mul_assoc (x * b) y z

        end : (x b n z : ℕ) → x * b * (n * z) ≡ x * z * (b * n)
        end x b n z = simp (mul_assoc, mul_comm, mul_left_comm)

    four : q * K * N ≤ (q' + 1) * (N + (ρ + σ + 1))
    four = le_of_mul-le-mul_right three (mul-pos hb hN)

    last : q * K * N ≤ (q' + (ρ + σ + 3) * K) * N
    last = end N K (ρ + σ + 1) q' (q * K * N) fit K-pos top four (room ρ σ K N)
      where
        room : (ρ σ K N : ℕ) → (ρ + σ + 3) * K * N ≡ (ρ + σ + 1) * (N * K) + 2 * (N * K)
        room ρ σ K N =
            mul_assoc (ρ + σ + 3) K N ∙ ap (λ (t : ℕ). (ρ + σ + 3) * t) (mul_comm K N) ∙
            (let e : ρ + σ + 3 ≡ ρ + σ + 1 + 2 = omega arith in ap (λ (t : ℕ). t * (N * K)) e) ∙ add-mul (ρ + σ + 1) 2 (N * K)

        end :
            (N K m q' l : ℕ) → m ≤ N → 0 < K → q' ≤ N * K → l ≤ (q' + 1) * (N + m) → (ρ + σ + 3) * K * N ≡ m * (N * K) + 2 * (N * K)
            → l ≤ (q' + (ρ + σ + 3) * K) * N
        end N K m q' l h k t g e =
            omega (
              arith,
              g,
              e,
              mul-add (q' + 1) N m,
              add-mul q' 1 N,
              add-mul q' 1 m,
              mul-le-mul_right m t,
              mul_comm (N * K) m,
              add-mul q' ((ρ + σ + 3) * K) N,
              mul-le-mul_left N k,
            )

-- the first not above the second
pub ratio_near :
    {K ρ σ : ℕ} (N a a' b b' : ℕ) → 0 < N → 2 ≤ K → 0 < b → 0 < b' → ρ * σ ≤ N → ρ + σ + 1 ≤ N → a ≤ b → a' ≤ b'
    → Rel N ρ 0 (a * K) a'
    → Rel N σ 0 (b * K) b'
    → NearZ K (ρ + σ + 3) (pos (a * N / b)) (pos (a' * (N * K) / b'))
ratio_near {K} {ρ} {σ} N a a' b b' hN h_k hb hb' small fit ab ab' r s =
    let top : a' * (N * K) / b' ≤ N * K = div-le_of_le-mul b' (mul-le-mul_right (N * K) ab') in
    let low =
    ratio_low N K ρ σ a a' b b' (a * N / b) (a' * (N * K) / b') hN h_k hb small fit top (div-mul-le_self (a * N) b)
    (off (a' * (N + ρ)) r.low)
    (off (b * K * (N + σ)) s.high)
    (lt-div-mul-add {a = a' * (N * K)} {b = b'} hb') in
    let high =
    ratio_high N K ρ σ a a' b b' (a * N / b) (a' * (N * K) / b') hN (omega arith) hb small ab (div-mul-le_self (a' * (N * K)) b')
    (off (a * K * (N + ρ)) r.high)
    (off (b' * (N + σ)) s.low)
    (lt-div-mul-add {a = a * N} {b = b} hb) in
    near_pos (a * N / b) (a' * (N * K) / b') low (more (a * N / b) (a' * (N * K) / b') high)
  where
    off : (y : ℕ) {x : ℕ} → x ≤ y + 0 → x ≤ y
    off y h = omega arith

    more : (q q' : ℕ) → q' ≤ (q + (ρ + σ + 2)) * K → q' ≤ q * K + (ρ + σ + 3) * K
    more q q' k = omega (arith, k, add-mul q (ρ + σ + 2) K, add-mul (ρ + σ) 2 K, add-mul (ρ + σ) 3 K)
