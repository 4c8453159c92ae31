-- The hanging-wall term within 56 c9 units of 10^-9. The distance factor is (D - R)/D, that is 1 - R/D. Where D is RRUP, the same
-- whole number at both scales, rounding alone differs: one unit. Otherwise the program's D, in 10^-4 m, is the exact one cut, so R/D
-- moves by R/(D (D + 1)) or less; as D² is not below R² + (1 km)² but for the cut, and that is at least twice R times 1 km, this is
-- at most 51 units. Two roundings of R/D and two of the complement: 54. The other factors make a whole number of 40000000ths, at most
-- 1, and the product's rounding takes it to 56. Assumes nothing.
use Prim.Native.Nat.{ℕ, ◌+◌, ◌-◌, ◌*◌, ◌/◌, ◌≤◌, ◌<◌, zero-le}
use mathlib.Core.Path.{◌≡◌, refl, sym, ap, subst, ◌∙◌, subst₂}
use mathlib.Core.Bool.{Bool, true, false}
use native.Mathlib.Omega.{arith}
use native.Mathlib.Decide.{dec_le}
use native.Mathlib.Nat.{le_refl, le_trans, le_of_eq, le_of_lt, lt_of_le_of_lt, mul-le-mul, mul-le-mul_left, mul-le-mul_right, mul_assoc, mul_comm, mul_left_comm, mul_right_comm, mul-mul-mul_comm, mul-add, add-mul, mul-pos, le_of_mul-le-mul_right, div-mul-le_self, lt-div-mul-add, div-le_of_le-mul, lt_of_lt_of_le, mul-lt-mul_of_pos_right, mul-div-mul_right, sub-le}
use lib.Dec.{ltb, leb, eqb, lit≤}
use lib.IntN.{pos}
use borrow.Author.Tests.{ltb-true, ltb-false, leb-false}
use Rattle.exact.specs.Near.{NearZ, dn}
use Rattle.exact.specs.Root.{root, IsRoot}
use Rattle.exact.specs.Exact.{E30, root_e}
use Rattle.exact.proofs.NearLaws.{near_wide}
use Rattle.exact.proofs.Root.{root_is, side-lt, square-one}
use Rattle.fixed.specs.Fixed.{E9, K21, mul_div}
use Rattle.model.specs.Equations.{E24, E27, most, wall_distance, f_hng_r, f_hng_m, f_hng_dip, f_hng_z, f_hng, times}
use Rattle.model.specs.Fixed.{wall_distance_fixed, f_hng_r_fixed, f_hng_fixed, wall_fixed}
use Rattle.model.specs.declared.Scenario.{Scenario}
use Rattle.tables.specs.declared.Coefficients.{Coefficients}
use Rattle.model.proofs.Quotients.{rest-near, ratio_same, near_pos}
use Rattle.model.proofs.NearSums.{share_err, near_share}
use Rattle.model.specs.Accuracy.{InRange}
use Rattle.model.specs.FineNear.{Between}
use Rattle.model.proofs.Between.{between_share}

-- ---- R/D and R M/X, where X is D M or up to M more: q and q' are the quotients
high_core : (N K M R D X q q' : ℕ) → 0 < M → 0 < D → D * M ≤ X → R * N < q * D + D → q' * X ≤ R * M * (N * K) → q' ≤ (q + 1) * K
high_core N K M R D X q q' hM hD h_x hq hq' = le_of_mul-le-mul_right (le_trans two three) hD
  where
    turn : R * M * (N * K) ≡ R * N * K * M
    turn = simp (mul_assoc, mul_comm, mul_left_comm)

    one : q' * D * M ≤ R * N * K * M
    one = le_trans (le_of_eq (mul_assoc q' D M)) (le_trans (mul-le-mul_left q' h_x) (le_trans hq' (le_of_eq turn)))

    two : q' * D ≤ R * N * K
    two = le_of_mul-le-mul_right one hM

    above : R * N ≤ (q + 1) * D
    above = omega (arith, add-mul q 1 D)

    three : R * N * K ≤ (q + 1) * K * D
    three = le_trans (mul-le-mul_right K above) (le_of_eq (mul_right_comm (q + 1) D K))

low_core :
    (N K M R D X q q' : ℕ) → 0 < K → 0 < M → 0 < D → X ≤ (D + 1) * M → R * N ≤ 51 * (D * (D + 1)) → q * D ≤ R * N
    → R * M * (N * K) < q' * X + X
    → q * K ≤ q' + 52 * K
low_core N K M R D X q q' h_k hM hD h_x small hq hq' = le_of_mul-le-mul_right last (mul-pos hD next)
  where
    next : 0 < D + 1
    next = omega arith

    turn : R * M * (N * K) ≡ R * N * K * M
    turn = simp (mul_assoc, mul_comm, mul_left_comm)

    above : R * M * (N * K) ≤ (q' + 1) * X
    above = omega (arith, add-mul q' 1 X)

    one : R * N * K * M ≤ (q' + 1) * (D + 1) * M
    one =
        le_trans (le_of_eq (sym turn))
        (le_trans above (le_trans (mul-le-mul_left (q' + 1) h_x) (le_of_eq (sym (mul_assoc (q' + 1) (D + 1) M)))))

    two : R * N * K ≤ (q' + 1) * (D + 1)
    two = le_of_mul-le-mul_right one hM

    spread : q * K * (D * (D + 1)) ≡ q * D * K * (D + 1)
    spread = simp (mul_assoc, mul_comm, mul_left_comm)

    three : q * K * (D * (D + 1)) ≤ R * N * K * D + R * N * K
    three =
        omega (arith, spread, mul-le-mul_right (D + 1) (mul-le-mul_right K hq), mul-add (R * N * K) D 1)

    four : R * N * K ≤ 51 * K * (D * (D + 1))
    four = le_trans (mul-le-mul_right K small) (le_of_eq (mul_right_comm 51 (D * (D + 1)) K))

    five : R * N * K * D ≤ (q' + 1) * (D * (D + 1))
    five =
        le_trans (mul-le-mul_right D two)
        (le_of_eq (mul_assoc (q' + 1) (D + 1) D ∙ ap (λ (t : ℕ). (q' + 1) * t) (mul_comm (D + 1) D)))

    last : q * K * (D * (D + 1)) ≤ (q' + 52 * K) * (D * (D + 1))
    last = fin (D * (D + 1)) (q * K * (D * (D + 1))) (R * N * K * D) (R * N * K) three four five
      where
        fin : (P l x y : ℕ) → l ≤ x + y → y ≤ 51 * K * P → x ≤ (q' + 1) * P → l ≤ (q' + 52 * K) * P
        fin P l x y a b c =
            omega (arith, add-mul q' 1 P, add-mul q' (52 * K) P, mul_assoc 51 K P, mul_assoc 52 K P, mul-le-mul_right P h_k)

-- 10^-4 m in units of 10^-30 km
abbrev M23 : ℕ
M23 = 100_000000_000000_000000_000

-- D cut from X; R below it, and small beside its square
cut-near :
    (R D X : ℕ) → 0 < D → D * M23 ≤ X → X ≤ (D + 1) * M23 → R ≤ D → R * E9 ≤ 51 * (D * (D + 1))
    → NearZ K21 54 (pos ((D - R) * E9 / D)) (pos ((X - R * M23) * E30 / X))
cut-near R D X hD lo hi hR small =
    let h_x : 0 < X = le_trans (mul-pos hD (lit≤ tt)) lo in
    let inside : R * M23 ≤ X = le_trans (mul-le-mul_right M23 hR) lo in
    let q : ℕ = R * E9 / D in
    let q' : ℕ = R * M23 * E30 / X in
    rest-near {e = 52} E9 (D - R) R D (X - R * M23) (R * M23) X hD h_x (lit≤ tt) (rest D R hR) (rest X (R * M23) inside)
    (near_pos q q'
    (low_core E9 K21 M23 R D X q q' (lit≤ tt) (lit≤ tt) hD hi small (div-mul-le_self (R * E9) D)
    (lt-div-mul-add {a = R * M23 * E30} {b = X} h_x))
    (le_trans
    (high_core E9 K21 M23 R D X q q' (lit≤ tt) hD lo (lt-div-mul-add {a = R * E9} {b = D} hD) (div-mul-le_self (R * M23 * E30) X))
    (more q)))
  where
    rest : (a b : ℕ) → b ≤ a → a - b + b ≡ a
    rest a b h = omega arith

    more : (q : ℕ) → (q + 1) * K21 ≤ q * K21 + 52 * K21
    more q = omega (arith, add-mul q 1 K21)

-- ---- R is small beside D²: twice a product is at most the two squares
twice : (a t : ℕ) → 2 * (a * (a + t)) ≤ a * a + (a + t) * (a + t)
twice a t = simp (mul-add, add-mul) (omega (arith, mul_comm t a))

pub squares : (a b : ℕ) → 2 * (a * b) ≤ a * a + b * b
squares a b = either (dec_le a b)
  where
    either : Dec (a ≤ b) → 2 * (a * b) ≤ a * a + b * b
    either (yes h) =
        let e : a + (b - a) ≡ b = omega arith in
        subst (λ (t : ℕ). 2 * (a * t) ≤ a * a + t * t) e (twice a (b - a))
    either (no h) =
        let e : b + (a - b) ≡ a = omega arith in
        let k : 2 * (b * a) ≤ b * b + a * a = subst (λ (t : ℕ). 2 * (b * t) ≤ b * b + t * t) e (twice b (a - b)) in
        omega (arith, k, mul_comm a b)

-- lengths in 10^-4 m, of which 1 km has ten million
wall_small : (R D : ℕ) → 100 ≤ D → R * R + 10000000 * 10000000 < (D + 1) * (D + 1) → R * E9 ≤ 51 * (D * (D + 1))
wall_small R D hD h =
    fin R D (R * R) (D * (D + 1)) hD h (squares R 10000000) (add-mul D 1 (D + 1)) (mul-le-mul_right (D + 1) more)
  where
    more : 51 ≤ D
    more = omega arith

    fin :
        (R D rr p : ℕ) → 100 ≤ D → rr + 10000000 * 10000000 < (D + 1) * (D + 1) → 2 * (R * 10000000) ≤ rr + 10000000 * 10000000
        → (D + 1) * (D + 1) ≡ p + 1 * (D + 1)
        → 51 * (D + 1) ≤ p
        → R * E9 ≤ 51 * p
    fin R D rr p a b c e f = omega arith

-- ---- a root cut from a finer one
pub root-cut : (n M D X : ℕ) → IsRoot n D → IsRoot (n * (M * M)) X → 0 < M → (D * M ≤ X) × (X ≤ (D + 1) * M)
root-cut n M D X i j hM =
    let low : D * M < X + 1 = side-lt (D * M) (X + 1) (lt_of_le_of_lt below j.high) in
    let high : X < (D + 1) * M = side-lt X ((D + 1) * M) (lt_of_le_of_lt j.low above) in
    (omega arith, le_of_lt high)
  where
    below : D * M * (D * M) ≤ n * (M * M)
    below = le_trans (le_of_eq (mul-mul-mul_comm D M D M)) (mul-le-mul_right (M * M) i.low)

    above : n * (M * M) < (D + 1) * M * ((D + 1) * M)
    above =
        lt_of_lt_of_le (mul-lt-mul_of_pos_right i.high (mul-pos hM hM)) (le_of_eq (sym (mul-mul-mul_comm (D + 1) M (D + 1) M)))

-- ---- the larger of two, by cases
pub most_by : (P : ℕ → Type 0) (a b : ℕ) → (b ≤ a → P a) → (a ≤ b → P b) → P (most a b)
most_by P a b f g = go (ltb a b) refl
  where
    go : (t : Bool) → ltb a b ≡ t → P (elim t [ true ↦ b | false ↦ a ])
    go true e = g (le_of_lt (ltb-true a b e))
    go false e = f (ltb-false a b e)

-- the larger of two distances, of which the first is exact and the second cut
most-cut :
    (M a b x y : ℕ) → a * M ≡ x → b * M ≤ y → y ≤ (b + 1) * M → (most a b * M ≤ most x y) × (most x y ≤ (most a b + 1) * M)
most-cut M a b x y e l h =
    most_by (λ (d : ℕ). (d * M ≤ most x y) × (most x y ≤ (d + 1) * M)) a b
    (λ k. most_by (λ (z : ℕ). (a * M ≤ z) × (z ≤ (a + 1) * M)) x y
    (λ g. (omega arith, omega (arith, add-mul a 1 M)))
    (λ g. (omega arith, omega (arith, add-mul a 1 M, add-mul b 1 M, mul-le-mul_right M k))))
    (λ k. most_by (λ (z : ℕ). (b * M ≤ z) × (z ≤ (b + 1) * M)) x y
    (λ g. (omega arith, omega (arith, add-mul b 1 M, mul-le-mul_right M k)))
    (λ g. (l, h)))

most-right : (a b : ℕ) → b ≤ most a b
most-right a b = most_by (λ (d : ℕ). b ≤ d) a b (λ h. h) (λ h. le_refl b)

-- ---- the distance factor
-- ZTOR below 1 km: j is RJB, r RRUP
shallow : (j r : ℕ) → j ≤ 200000
    → NearZ K21 54
    (pos
    ((most (r * 10000) (root ((j * j + 1000000) * 100000000)) - j * 10000) * E9
    / most (r * 10000) (root ((j * j + 1000000) * 100000000))))
    (pos ((most (r * E27) (root_e ((j * j + 1000000) * E24)) - j * E27) * E30 / most (r * E27) (root_e ((j * j + 1000000) * E24))))
unfolding root_e
shallow j r hj =
    let n : ℕ = (j * j + 1000000) * 100000000 in
    let b : ℕ = root n in
    let y : ℕ = root ((j * j + 1000000) * E24 * E30) in
    let same : n * (M23 * M23) ≡ (j * j + 1000000) * E24 * E30 =
    mul_assoc (j * j + 1000000) 100000000 (M23 * M23) ∙ sym (mul_assoc (j * j + 1000000) E24 E30) in
    let cut = root-cut n M23 b y (root_is n) (subst (λ (t : ℕ). IsRoot t y) (sym same) (root_is _)) (lit≤ tt) in
    let both = most-cut M23 (r * 10000) b (r * E27) y (mul_assoc r 10000 M23) cut.0 cut.1 in
    let D : ℕ = most (r * 10000) b in
    let D-big : b ≤ D = most-right (r * 10000) b in
    let more : b + 1 ≤ D + 1 = omega arith in
    let wide : j * 10000 * (j * 10000) + 10000000 * 10000000 < (D + 1) * (D + 1) =
    lt_of_lt_of_le (lt_of_le_of_lt (le_of_eq (spread j)) (root_is n).high) (mul-le-mul more more) in
    let km : 10000000 < D + 1 = side-lt 10000000 (D + 1) (omega (arith, wide)) in
    let R-le : j * 10000 < D + 1 = side-lt (j * 10000) (D + 1) (omega (arith, wide)) in
    subst
    (λ (t : ℕ).
    NearZ K21 54 (pos ((D - j * 10000) * E9 / D)) (pos ((most (r * E27) y - t) * E30 / most (r * E27) y)))
    (mul_assoc j 10000 M23)
    (cut-near (j * 10000) D (most (r * E27) y) (omega arith) both.0 both.1 (omega arith)
    (wall_small (j * 10000) D (omega arith) wide))
  where
    spread : (j : ℕ) → j * 10000 * (j * 10000) + 10000000 * 10000000 ≡ (j * j + 1000000) * 100000000
    spread j = omega (arith, mul-mul-mul_comm j 10000 j 10000, add-mul (j * j) 1000000 100000000)

-- a difference of multiples
less : (a b M : ℕ) → b ≤ a → (a - b) * M ≡ a * M - b * M
less a b M h =
    let e : a - b + b ≡ a = omega arith in
    go (ap (λ (t : ℕ). t * M) e)
  where
    go : (a - b + b) * M ≡ a * M → (a - b) * M ≡ a * M - b * M
    go e = omega (arith, e, add-mul (a - b) b M)

-- ZTOR from 1 km up: RRUP is above RJB, and the same number at both scales
deeper :
    (j r : ℕ) → j < r → NearZ K21 1 (pos ((r * 10000 - j * 10000) * E9 / (r * 10000))) (pos ((r * E27 - j * E27) * E30 / (r * E27)))
deeper j r h =
    let hr : 0 < r = omega arith in
    subst₂ (λ (s t : ℕ). NearZ K21 1 (pos s) (pos t)) (sym (scaled 10000 E9 (lit≤ tt)))
    (ap (λ (t : ℕ). t / r) (mul_assoc (r - j) E9 K21) ∙ sym (scaled E27 E30 (lit≤ tt)))
    (ratio_same K21 ((r - j) * E9) r hr (lit≤ tt))
  where
    scaled : (M N : ℕ) → 0 < M → (r * M - j * M) * N / (r * M) ≡ (r - j) * N / r
    scaled M N hM =
        ap (λ (t : ℕ). t / (r * M))
        (ap (λ (t : ℕ). t * N) (sym (less r j M (le_of_lt h))) ∙ mul_right_comm (r - j) M N)
        ∙ mul-div-mul_right ((r - j) * N) r hM

-- from 1 km up RJB + 1 is below the root of RJB² + ZTOR², and RRUP at most a metre short of it
below-rrup : (z j r : ℕ) → 1000 ≤ z → j ≤ 200000 → j * j + z * z ≤ (r + 1) * (r + 1) → j < r
below-rrup z j r hz hj h =
    let up : j + 1 < r + 1 = side-lt (j + 1) (r + 1) (omega (arith, h, square-one j, mul-le-mul hz hz)) in
    omega arith

-- (d - RJB)/d in units of 1/N, M units a metre
abbrev quotient : ℕ → ℕ → ℕ → ℕ → ℕ
quotient j M N d = (d - j * M) * N / d

pub f_hng_r-near :
    (z j r : ℕ) → j ≤ 200000 → j * j + z * z ≤ (r + 1) * (r + 1) → NearZ K21 54 (pos (f_hng_r_fixed z j r)) (pos (f_hng_r z j r))
unfolding f_hng_r_fixed f_hng_r
f_hng_r-near z j r hj h = at_zero (eqb j 0)
  where
    at_depth :
        (t : Bool) → ltb z 1000 ≡ t
        → NearZ K21 54
        (pos (quotient j 10000 E9 (elim t [ true ↦ most (r * 10000) (root ((j * j + 1000000) * 100000000)) | false ↦ r * 10000 ])))
        (pos (quotient j E27 E30 (elim t [ true ↦ most (r * E27) (root_e ((j * j + 1000000) * E24)) | false ↦ r * E27 ])))
    at_depth true e = shallow j r hj
    at_depth false e = near_wide K21 1 54 _ _ (lit≤ tt) (deeper j r (below-rrup z j r (ltb-false z 1000 e) hj h))

    at_zero : (t : Bool)
        → NearZ K21 54
        (pos (elim t [ true ↦ E9 | false ↦ quotient j 10000 E9 (wall_distance_fixed z j r) ]))
        (pos (elim t [ true ↦ E30 | false ↦ quotient j E27 E30 (wall_distance z j r) ]))
    at_zero true = near_pos E9 E30 (lit≤ tt) (lit≤ tt)
    at_zero false = at_depth (ltb z 1000) refl

-- ---- the other three factors make a number of 40000000ths, at most one
pub M-le : (m : ℕ) → f_hng_m m ≤ 100
M-le m = low (leb m 600) refl
  where
    middle : (t : Bool) → ltb m 650 ≡ t → elim t [ true ↦ 2 * (m - 600) | false ↦ 100 ] ≤ 100
    middle true e = omega (arith, ltb-true m 650 e)
    middle false e = lit≤ tt

    low : (t : Bool) → leb m 600 ≡ t → elim t [ true ↦ 0 | false ↦ elim (ltb m 650) [ true ↦ 2 * (m - 600) | false ↦ 100 ] ] ≤ 100
    low true e = lit≤ tt
    low false e = middle (ltb m 650) refl

dip-le : (d : ℕ) → f_hng_dip d ≤ 20
dip-le d = go (leb d 70) refl
  where
    go : (t : Bool) → leb d 70 ≡ t → elim t [ true ↦ 20 | false ↦ 90 - d ] ≤ 20
    go true e = lit≤ tt
    go false e = omega (arith, leb-false d 70 e)

abbrev others : Scenario → ℕ
others x = f_hng_m x.m * f_hng_z x.ztor * f_hng_dip x.dip

pub others-le : (x : Scenario) → others x ≤ 40000000
others-le x = mul-le-mul (mul-le-mul (M-le x.m) (depth x.ztor)) (dip-le x.dip)
  where
    depth : (z : ℕ) → f_hng_z z ≤ 20000
    depth z = omega arith

-- ---- the term
product-near :
    (p a b : ℕ) → p ≤ 40000000 → NearZ K21 54 (pos a) (pos b) → NearZ K21 56 (pos (a * p / 40000000)) (pos (b * p / 40000000))
unfolding mul_div
product-near p a b h n =
    near_wide K21 (share_err 40000000 (pos p) 54) 56 _ _ (room p h)
    (subst₂ (λ (s t : ℕ). NearZ K21 (share_err 40000000 (pos p) 54) (pos (s / 40000000)) (pos (t / 40000000))) (mul_comm p a)
    (mul_comm p b)
    (near_share 40000000 (pos p) (lit≤ tt) (lit≤ tt) n))
  where
    room : (p : ℕ) → p ≤ 40000000 → (p * 54 + 2 * 40000000) / 40000000 ≤ 56
    room p h = omega arith

pub f_hng-near : (c : Coefficients) (x : Scenario) → InRange x → NearZ K21 (share_err 1000 c.c9 56) (f_hng_fixed c x) (f_hng c x)
unfolding f_hng_fixed wall_fixed f_hng times
f_hng-near c x i =
    near_share 1000 c.c9 (lit≤ tt) (lit≤ tt)
    (product-near (others x) (f_hng_r_fixed x.ztor x.rjb x.rrup) (f_hng_r x.ztor x.rjb x.rrup) (others-le x)
    (f_hng_r-near x.ztor x.rjb x.rrup i.rjb-high i.apart))

-- ---- where it lies: the factors are at most one
factor_le : (z j r : ℕ) → f_hng_r z j r ≤ E30
unfolding f_hng_r
factor_le z j r = go (eqb j 0)
  where
    go : (t : Bool) → elim t [ true ↦ E30 | false ↦ quotient j E27 E30 (wall_distance z j r) ] ≤ E30
    go true = le_refl E30
    go false = div-le_of_le-mul (wall_distance z j r) (mul-le-mul_right E30 (sub-le (wall_distance z j r) (j * E27)))

pub f_hng_between :
    (c : Coefficients) (x : Scenario) → dn c.c9 ≡ 0 → Between (times c.c9 (pos 0)) (times c.c9 (pos E30)) (f_hng c x)
unfolding f_hng times
f_hng_between c x h =
    between_share 1000 c.c9 h
    (record {
      low = zero-le;
      high =
          inside _
          (div-le_of_le-mul 40000000 (le_trans (mul-le-mul (factor_le x.ztor x.rjb x.rrup) (others-le x)) (lit≤ tt)));
    })
  where
    inside : (n : ℕ) → n ≤ E30 → n + 0 ≤ E30 + 0
    inside n k = omega arith
