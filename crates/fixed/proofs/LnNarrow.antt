-- The logarithm of a quotient of small whole numbers from 1 to 2, in units of 10^-10, is at most 2 units short of the exact one and
-- above it by at most 1000 units of 10^-30; it grows with the quotient, and is at most ln 2, and at least ln 1.2 from 1.2 up. z² is a
-- quotient of two whole numbers, so each power of z at 10^-12 is at most two of its units short of the power at 10^-30, and above it by
-- at most 3 units of 10^-30. Eleven terms, doubled, are at most 44 units of 10^-12 short, what is left out two more, and the
-- division by 100 leaves 2 units of 10^-10. Assumes nothing.
use Prim.Native.Nat.{ℕ, zero, suc, ◌+◌, ◌-◌, ◌*◌, ◌/◌, ◌≤◌, ◌<◌}
use mathlib.Core.Path.{◌≡◌, refl, sym, ap, subst, subst₂, ◌∙◌}
use native.Mathlib.Omega.{arith}
use native.Mathlib.Decide.{dec_le}
use native.Mathlib.Nat.{le_refl, le_trans, le_of_eq, add-le-add, zero-lt-suc, mul-le-mul, mul-le-mul_left, mul-le-mul_right, mul_assoc, mul_comm, mul_left_comm, mul_right_comm, mul-mul-mul_comm, mul-add, add-mul, add-zero, one-mul, zero-mul, mul-pos, lt-div-mul-add, div-mul-le_self, div-le_of_le-mul}
use lib.Dec.{lit≤}
use lib.IntN.{ℤ, pos, negsuc}
use lib.Ieee.Nearest.{div_mono}
use Rattle.exact.specs.Near.{up, dn}
use Rattle.exact.specs.Laws.{Close}
use Rattle.exact.specs.Series.{ln_terms, ln_series, ln_unit, ln_halving, ln_from}
use Rattle.exact.specs.Exact.{E30, ln_e}
use Rattle.exact.proofs.Quotients.{div-le, cancel, mul_small, over_quot}
use Rattle.exact.proofs.LnSeries.{ln_tail, ln_tail_mono, ln_terms_split, ln_unit-one, below-third, three_thirds}
use Rattle.exact.proofs.LnRatio.{from_one, ln_ratio-below, ln_ratio-above}
use Rattle.exact.proofs.LnWhole.{ln_from-at, ln_from-double}
use Rattle.exact.proofs.LnExact.{L30, L30-unit, ln_e-parts}
use Rattle.exact.proofs.TwoScales.{above-add, close_ratio}
use Rattle.fixed.proofs.LeftOut.{narrow_left_out}
use Rattle.fixed.specs.Fixed.{E12, K20, narrow_count, ln_narrow}

-- ---- it grows
-- the square of z as a quotient w/S, and the power p of z
ln_terms_grow :
    (S S' w w' : ℕ) → 0 < S → 0 < S' → w * S' ≤ w' * S
    → (n d : ℕ) {p p' : ℕ} → p ≤ p' → ln_terms S w p d n ≤ ln_terms S' w' p' d n
unfolding ln_terms
ln_terms_grow S S' w w' h_s hS' h zero d hp = le_refl 0
ln_terms_grow S S' w w' h_s hS' h (suc n) d {p} {p'} hp =
    add-le-add (div-le d hp)
    (ln_terms_grow S S' w w' h_s hS' h n (d + 2)
    (div_mono (p * w) S (p' * w') S' h_s hS'
    (le_trans (le_of_eq (mul_assoc p w S')) (le_trans (mul-le-mul hp h) (le_of_eq (sym (mul_assoc p' w' S)))))))

-- z = a/b: of two quotients above 1, by what they have above 1, the smaller has the smaller z
cross : (a a' q q' : ℕ) → (q + a) * q' ≤ (q' + a') * q → a * (q' + a' + q') ≤ a' * (q + a + q)
cross a a' q q' h =
    omega (
      arith,
      add-mul q a q',
      add-mul q' a' q,
      mul_comm q q',
      mul-add a (q' + a') q',
      mul-add a q' a',
      mul-add a' (q + a) q,
      mul-add a' q a,
      mul_comm a a',
    )

cross_z : (p q p' q' : ℕ) → q ≤ p → q' ≤ p' → p * q' ≤ p' * q → (p - q) * (p' + q') ≤ (p' - q') * (p + q)
cross_z p q p' q' low low' h =
    let e : q + (p - q) ≡ p = omega arith in
    let e' : q' + (p' - q') ≡ p' = omega arith in
    subst₂ (λ (u v : ℕ). (p - q) * (v + q') ≤ (p' - q') * (u + q)) e e'
    (cross (p - q) (p' - q') q q' (subst₂ (λ (u v : ℕ). u * q' ≤ v * q) (sym e) (sym e') h))

-- the squares and the first power
cross-square : (a b a' b' : ℕ) → a * b' ≤ a' * b → a * a * (b' * b') ≤ a' * a' * (b * b)
cross-square a b a' b' h =
    le_trans (le_of_eq (mul-mul-mul_comm a a b' b')) (le_trans (mul-le-mul h h) (le_of_eq (mul-mul-mul_comm a' b a' b)))

first_power : (S a b a' b' : ℕ) → 0 < b → 0 < b' → a * b' ≤ a' * b → a * S / b ≤ a' * S / b'
first_power S a b a' b' hb hb' h =
    div_mono (a * S) b (a' * S) b' hb hb'
    (le_trans (le_of_eq (mul_right_comm a S b')) (le_trans (mul-le-mul_right S h) (le_of_eq (mul_right_comm a' b S))))

-- the smaller quotient has the smaller logarithm
pub ln_narrow_ratio : (p q p' q' : ℕ) → 0 < q → 0 < q' → q ≤ p → p * q' ≤ p' * q → ln_narrow p q ≤ ln_narrow p' q'
unfolding ln_narrow
ln_narrow_ratio p q p' q' hq hq' low h =
    let low' : q' ≤ p' = cancel q q' p' hq (le_trans (le_of_eq (mul_comm q' q)) (le_trans (mul-le-mul_right q' low) h)) in
    let z : (p - q) * (p' + q') ≤ (p' - q') * (p + q) = cross_z p q p' q' low low' h in
    let hb : 0 < p + q = omega arith in
    let hb' : 0 < p' + q' = omega arith in
    div-le 100
    (mul-le-mul_left 2
    (ln_terms_grow ((p + q) * (p + q)) ((p' + q') * (p' + q')) ((p - q) * (p - q)) ((p' - q') * (p' - q')) (mul-pos hb hb)
    (mul-pos hb' hb') (cross-square (p - q) (p + q) (p' - q') (p' + q') z) narrow_count 1
    (first_power E12 (p - q) (p + q) (p' - q') (p' + q') hb hb' z)))

pub ln_narrow_mono : (p p' q : ℕ) → 0 < q → q ≤ p → p ≤ p' → ln_narrow p q ≤ ln_narrow p' q
ln_narrow_mono p p' q hq low h = ln_narrow_ratio p q p' q hq hq low (mul-le-mul_right q h)

-- ln 2 and ln 1.2
at_two : ln_narrow 2 1 ≤ 6931471806
unfolding ln_narrow
at_two = lit≤ tt

pub ln_narrow-top : (p q : ℕ) → 0 < q → q ≤ p → p ≤ 2 * q → ln_narrow p q ≤ 6931471806
ln_narrow-top p q hq low top = le_trans (ln_narrow_ratio p q 2 1 hq (lit≤ tt) low (omega arith)) at_two

at_six_fifths : 1823215567 ≤ ln_narrow 6 5
unfolding ln_narrow
at_six_fifths = lit≤ tt

pub ln_narrow-low : (p q : ℕ) → 0 < q → p ≤ 2 * q → 6 * q ≤ 5 * p → 1823215567 ≤ ln_narrow p q
ln_narrow-low p q hq top h = le_trans at_six_fifths (ln_narrow_ratio 6 5 p q (lit≤ tt) hq (lit≤ tt) (omega arith))

-- ---- two scales
-- b is at a scale K times finer than a: it is a K, or up to e of its own units less, or up to f of a's more
record Apart (K e f a b : ℕ) : Type 0 where
  low : a * K ≤ b + e
  high : b ≤ (a + f) * K

apart-add :
    (K e e' f f' a b : ℕ) {a' b' : ℕ} → Apart K e f a a' → Apart K e' f' b b' → Apart K (e + e') (f + f') (a + b) (a' + b')
apart-add K e e' f f' a b c c' =
    record { low = omega (arith, c.low, c'.low, add-mul a b K); high = above-add K f f' a b c.high c'.high }

-- a quotient by a whole number
quotient-low : (d K c c' : ℕ) → 0 < d → c * K ≤ c' + 3 → c / d * K ≤ c' / d + 3
quotient-low d K c c' hd h =
    cancel d (c / d * K) (c' / d + 3) hd
    (omega (
      arith,
      mul_right_comm (c / d) K d,
      mul-le-mul_right K (div-mul-le_self c d),
      lt-div-mul-add {a = c'} {b = d} hd,
      add-mul (c' / d) 3 d,
    ))

quotient-high : (d K c c' : ℕ) → 0 < d → c' ≤ (c + 2) * K → c' / d ≤ (c / d + 2) * K
quotient-high d K c c' hd h =
    div-le_of_le-mul d
    (le_trans h (le_trans (mul-le-mul_right K over) (le_of_eq (mul_assoc d (c / d + 2) K))))
  where
    over : c + 2 ≤ d * (c / d + 2)
    over = omega (arith, lt-div-mul-add {a = c} {b = d} hd, mul-add d (c / d) 2, mul_comm d (c / d))

-- ---- z² at the fine scale T, as w, against a²/b²
square-low : (T a b z w : ℕ) → 0 < T → z * b ≤ a * T → w * T ≤ z * z → w * (b * b) ≤ a * a * T
square-low T a b z w h_t hz hw =
    cancel T (w * (b * b)) (a * a * T) h_t
    (le_trans (le_of_eq (mul_right_comm w (b * b) T))
    (le_trans (mul-le-mul_right (b * b) hw)
    (le_trans (le_of_eq (mul-mul-mul_comm z z b b))
    (le_trans (mul-le-mul hz hz) (le_of_eq (mul-mul-mul_comm a T a T ∙ sym (mul_assoc (a * a) T T)))))))

square-high :
    (T a b z w : ℕ) → 0 < T → a * T ≤ (z + 1) * b → z * z < w * T + T → z * 3 ≤ T → a * a * T ≤ (w + 2) * (b * b)
square-high T a b z w h_t hz hw small =
    cancel T (a * a * T) ((w + 2) * (b * b)) h_t
    (le_trans (le_of_eq (mul_assoc (a * a) T T ∙ mul-mul-mul_comm a a T T))
    (le_trans (mul-le-mul hz hz)
    (le_trans (le_of_eq (mul-mul-mul_comm (z + 1) b (z + 1) b))
    (le_trans (mul-le-mul_right (b * b) one_more) (le_of_eq (mul_right_comm (w + 2) T (b * b)))))))
  where
    expand : (z + 1) * (z + 1) ≡ z * z + 2 * z + 1
    expand = simp (mul-add, add-mul) (omega arith)

    one_more : (z + 1) * (z + 1) ≤ (w + 2) * T
    one_more = omega (arith, expand, add-mul w 2 T)

-- ---- the powers: c coarse, multiplied by A/B, and c' fine, multiplied by w/T
module _ (A B T K w : ℕ) (h_b : 0 < B) (h_t : 0 < T) (w_b : w * B ≤ A * T) (AT : A * T ≤ (w + 2) * B) (third : 3 * A ≤ B) where
  -- c' A/B is at most two units above the fine power that follows
  over_next : (c' : ℕ) → c' * 3 ≤ T → c' * A ≤ (c' * w / T + 2) * B
  over_next c' small =
      cancel T (c' * A) ((c' * w / T + 2) * B) h_t
      (omega (
        arith,
        mul_assoc c' A T,
        mul-le-mul_left c' AT,
        add-mul w 2 B,
        mul-add c' (w * B) (2 * B),
        mul_left_comm c' 2 B,
        mul_assoc c' w B,
        mul-le-mul_right B (over_quot (c' * w) T h_t),
        mul_right_comm (c' * w / T + 1) T B,
        mul-le-mul_right B small,
        mul_right_comm c' 3 B,
        add-mul (c' * w / T + 1) 1 B,
        add-mul ((c' * w / T + 1) * B) (1 * B) T,
        mul_assoc 1 B T,
        mul_comm T B,
      ))

  power_low : (c c' : ℕ) → c' * 3 ≤ T → c * K ≤ c' + 3 → c * A / B * K ≤ c' * w / T + 3
  power_low c c' small h =
      cancel B (c * A / B * K) (c' * w / T + 3) h_b
      (omega (
        arith,
        mul_right_comm (c * A / B) K B,
        mul-le-mul_right K (div-mul-le_self (c * A) B),
        mul_right_comm c A K,
        mul-le-mul_right A h,
        add-mul c' 3 A,
        over_next c' small,
        add-mul (c' * w / T) 2 B,
        add-mul (c' * w / T) 3 B,
        third,
      ))

  power_high : (c c' : ℕ) → c' ≤ (c + 2) * K → c' * w / T ≤ (c * A / B + 2) * K
  power_high c c' h =
      cancel B (c' * w / T) ((c * A / B + 2) * K) h_b (le_trans under (le_trans (mul-le-mul_right A h) over))
    where
      under : c' * w / T * B ≤ c' * A
      under =
          cancel T (c' * w / T * B) (c' * A) h_t
          (omega (
            arith,
            mul_right_comm (c' * w / T) B T,
            mul-le-mul_right B (div-mul-le_self (c' * w) T),
            mul_assoc c' w B,
            mul-le-mul_left c' w_b,
            mul_assoc c' A T,
          ))

      room : (c + 2) * A ≤ (c * A / B + 2) * B
      room = omega (arith, add-mul c 2 A, lt-div-mul-add {a = c * A} {b = B} h_b, add-mul (c * A / B) 2 B)

      over : (c + 2) * K * A ≤ (c * A / B + 2) * K * B
      over =
          le_trans (le_of_eq (mul_right_comm (c + 2) K A))
          (le_trans (mul-le-mul_right K room) (le_of_eq (mul_right_comm (c * A / B + 2) B K)))

  w_le : w ≤ T
  w_le = cancel B w T h_b (omega (arith, mul-le-mul_right T third, mul_assoc 3 A T, mul_comm B T))

  -- n terms
  terms_apart :
      (n d c : ℕ) {c' : ℕ} → 0 < d → c' * 3 ≤ T → Apart K 3 2 c c'
      → Apart K (n * 3) (n * 2) (ln_terms B A c d n) (ln_terms T w c' d n)
  unfolding ln_terms
  terms_apart zero d c hd small h = record { low = omega (arith, zero-mul K); high = omega (arith, zero-mul K) }
  terms_apart (suc n) d c {c'} hd small h =
      let next : c' * w / T ≤ c' = mul_small T c' w_le in
      let rest =
      terms_apart n (d + 2) (c * A / B) (omega arith) (omega arith)
      (record { low = power_low c c' small h.low; high = power_high c c' h.high }) in
      let e : 3 + n * 3 ≡ suc n * 3 = omega arith in
      let f : 2 + n * 2 ≡ suc n * 2 = omega arith in
      subst₂
      (λ (i j : ℕ). Apart K i j (c / d + ln_terms B A (c * A / B) (d + 2) n) (c' / d + ln_terms T w (c' * w / T) (d + 2) n))
      e f
      (apart-add K 3 (n * 3) 2 (n * 2) (c / d) (ln_terms B A (c * A / B) (d + 2) n)
      (record { low = quotient-low d K c c' hd h.low; high = quotient-high d K c c' hd h.high })
      rest)

-- ---- the series at both scales, S and S * K
-- z itself
ratio_apart : (d K x : ℕ) → 0 < d → Apart K 3 2 (x / d) (x * K / d)
ratio_apart d K x hd =
    let c : Close K 1 (x / d) (x * K / d) = close_ratio d K x hd in
    let more : x / d + 1 ≤ x / d + 2 = omega arith in
    record { low = omega (arith, c.low); high = le_trans c.high (mul-le-mul_right K more) }

-- a/b at most a third, and a tail at a third of at most a coarse unit, which counts twice
series_apart :
    (S K n k a b : ℕ) → 0 < S → 0 < K → 0 < b → 3 * a ≤ b → ln_tail (S * K) n k (S * K / 3) ≤ K
    → Apart K (n * 6) (n * 4 + 2) (2 * ln_terms (b * b) (a * a) (a * S / b) 1 n) (ln_series (S * K) (n + k) (a * (S * K) / b))
unfolding ln_series
series_apart S K n k a b h_s h_k hb third tail =
    let T : ℕ = S * K in
    let z : ℕ = a * T / b in
    let w : ℕ = z * z / T in
    let h_t : 0 < T = mul-pos h_s h_k in
    let h_b : 0 < b * b = mul-pos hb hb in
    let z_le : z ≤ T / 3 = below-third T a b hb third in
    let small : z * 3 ≤ T = three_thirds T z z_le in
    fin (ln_terms (b * b) (a * a) (a * S / b) 1 n) (ln_terms T w z 1 n) (ln_tail T n k z) (ln_terms T w z 1 (n + k))
    (terms_apart (a * a) (b * b) T K w h_b h_t
    (square-low T a b z w h_t (div-mul-le_self (a * T) b) (div-mul-le_self (z * z) T))
    (square-high T a b z w h_t (over_quot (a * T) b hb) (lt-div-mul-add {a = z * z} {b = T} h_t) small)
    (square-third a b third)
    n 1 (a * S / b) (zero-lt-suc 0) small
    (subst (λ (t : ℕ). Apart K 3 2 (a * S / b) (t / b)) (mul_assoc a S K) (ratio_apart b K (a * S) hb)))
    (ln_terms_split T w z 1 n k)
    (le_trans (ln_tail_mono T n k z_le) tail)
  where
    square-third : (u v : ℕ) → 3 * u ≤ v → 3 * (u * u) ≤ v * v
    square-third u v h = omega (arith, mul-le-mul h h, mul-mul-mul_comm 3 u 3 u)

    fin : (C F R F' : ℕ) → Apart K (n * 3) (n * 2) C F → F' ≡ F + R → R ≤ K → Apart K (n * 6) (n * 4 + 2) (2 * C) (2 * F')
    fin C F R F' c e t =
        record {
          low = omega (arith, c.low, mul_assoc 2 C K);
          high =
              omega (
                arith,
                c.high,
                mul_assoc 2 C K,
                add-mul C (n * 2) K,
                add-mul (2 * C) (n * 4 + 2) K,
                add-mul (n * 4) 2 K,
                mul_right_comm n 4 K,
                mul_right_comm n 2 K,
              );
        }

-- ---- against the exact logarithm
-- how many units of 10^-30 one of 10^-12 has
abbrev K18 : ℕ
K18 = 1_000000_000000_000000

-- twice the coarse sum is lnNarrow once divided by 100
hundredth_low : (K N C F U : ℕ) → N * 100 ≤ C → C * K ≤ F + 66 → 32 * F ≤ 32 * U + (250 * 59 + 1146) → N * (100 * K) ≤ U + 1000
hundredth_low K N C F U h k l = omega (arith, mul-le-mul_right K h, mul_assoc N 100 K)

hundredth_high : (K N C F U : ℕ) → C ≤ N * 100 + 99 → F ≤ (C + 46) * K → U ≤ F → U ≤ (N + 2) * (100 * K)
hundredth_high K N C F U h k l =
    omega (
      arith,
      mul-le-mul_right K h,
      add-mul (N * 100) 99 K,
      add-mul C 46 K,
      mul_assoc N 100 K,
      add-mul N 2 (100 * K),
    )

unit_near :
    (p q : ℕ) → 0 < q → q ≤ p → p ≤ 2 * q
    → (ln_narrow p q * K20 ≤ ln_unit E30 60 (p * E30 / q) + 1000) × (ln_unit E30 60 (p * E30 / q) ≤ (ln_narrow p q + 2) * K20)
unfolding ln_narrow
unit_near p q hq low top =
    let C : ℕ = 2 * ln_terms ((p + q) * (p + q)) ((p - q) * (p - q)) ((p - q) * E12 / (p + q)) 1 narrow_count in
    let F : ℕ = ln_series E30 60 ((p - q) * E30 / (p + q)) in
    let U : ℕ = ln_unit E30 60 (p * E30 / q) in
    let c : Apart K18 66 46 C F =
    series_apart E12 K18 narrow_count (60 - narrow_count) (p - q) (p + q) (lit≤ tt) (lit≤ tt) (omega arith) (omega arith) narrow_left_out in (
      hundredth_low K18 (C / 100) C F U (div-mul-le_self C 100) c.low (ln_ratio-above E30 59 p q (lit≤ tt) hq low top),
      hundredth_high K18 (C / 100) C F U (tens C) c.high (ln_ratio-below E30 60 p q (lit≤ tt) hq low),
    )
  where
    tens : (n : ℕ) → n ≤ n / 100 * 100 + 99
    tens n = omega arith

-- from 1 to 2 the exact logarithm is the series; at 2 that is ln 2
module _ (S n L : ℕ) (h_s : 0 < S) (e_l : L ≡ ln_unit S n (2 * S)) where
  below_two : (x : ℕ) → x < 2 * S → ln_from S n L x ≡ ln_unit S n x
  unfolding ln_halving
  below_two x h = ln_from-at S n L 0 x h_s h

  at_end : ln_from S n L (2 * S) ≡ ln_unit S n (2 * S)
  at_end =
      ln_from-double S n L S h_s (le_refl S)
      ∙ ap (λ (t : ℕ). L + t) (below_two S (omega arith) ∙ ln_unit-one S n)
      ∙ add-zero L
      ∙ e_l

  to_two : (x : ℕ) → x ≤ 2 * S → ln_from S n L x ≡ ln_unit S n x
  to_two x h = either (dec_le (2 * S) x)
    where
      either : Dec (2 * S ≤ x) → ln_from S n L x ≡ ln_unit S n x
      either (yes k) =
          let e : 2 * S ≡ x = omega arith in
          subst (λ (t : ℕ). ln_from S n L t ≡ ln_unit S n t) e at_end
      either (no k) = below_two x (omega arith)

-- and it is not negative
no_sign : (z : ℤ) (F L : ℕ) → up z + 0 * L ≡ dn z + F → (dn z ≡ 0) × (up z ≡ F)
no_sign (pos n) F L e = (refl, omega (arith, zero-mul L))
no_sign (negsuc n) F L e = absurd (omega (arith, zero-mul L))

ln_e_unit : (x : ℕ) → E30 ≤ x → x ≤ 2 * E30 → (dn (ln_e x) ≡ 0) × (up (ln_e x) ≡ ln_unit E30 60 x)
ln_e_unit x low top =
    no_sign (ln_e x) (ln_unit E30 60 x) L30
    (ln_e-parts 0 x (lit≤ tt) (le_trans low (le_of_eq (sym (one-mul x))))
    ∙ ap (λ (t : ℕ). dn (ln_e x) + t)
    (ap (λ (t : ℕ). ln_from E30 60 L30 t) (one-mul x) ∙ to_two E30 60 L30 (lit≤ tt) L30-unit x top))

-- p/q rounded down is at most 2
quotient-top : (S p q : ℕ) → p ≤ 2 * q → p * S / q ≤ 2 * S
quotient-top S p q h =
    div-le_of_le-mul q (le_trans (mul-le-mul_right S h) (le_of_eq (mul_assoc 2 q S ∙ mul_left_comm 2 q S)))

-- ln (p/q) at most 2 units of 10^-10 short, for p/q from 1 to 2
pub ln_narrow-near :
    (p q : ℕ) → 0 < q → q ≤ p → p ≤ 2 * q
    → (dn (ln_e (p * E30 / q)) ≡ 0)
    × (ln_narrow p q * K20 ≤ up (ln_e (p * E30 / q)) + 1000)
    × (up (ln_e (p * E30 / q)) ≤ (ln_narrow p q + 2) * K20)
ln_narrow-near p q hq low top =
    let x : ℕ = p * E30 / q in
    let e : (dn (ln_e x) ≡ 0) × (up (ln_e x) ≡ ln_unit E30 60 x) = ln_e_unit x (from_one E30 p q hq low) (quotient-top E30 p q top) in
    let near = unit_near p q hq low top in (
      e.0,
      subst (λ (t : ℕ). ln_narrow p q * K20 ≤ t + 1000) (sym e.1) near.0,
      subst (λ (t : ℕ). t ≤ (ln_narrow p q + 2) * K20) (sym e.1) near.1,
    )
