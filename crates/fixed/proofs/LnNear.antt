-- The program's logarithms lie near the exact one: of a fixed-point number within 7 units of 10^-9, of a quotient within 5. Both are
-- j ln 2 and the logarithm of a ratio P/Q from 1 to 2. In units of 10^-10, those of the inside, the series is short of the exact one by
-- at most 38, the j parts of ln 2 by 6 j/10; the exact logarithm of 2^j P/Q is within 12 (where a fixed-point number was halved and
-- rounded) or within a tiny fraction of one (a quotient) of that at the argument. A division by 10 and ln 8 finish. The scale
-- and the number of terms are read by their names, and count only where the budget is added up. Assumes nothing.
use Prim.Native.Nat.{ℕ, zero, suc, ◌+◌, ◌-◌, ◌*◌, ◌/◌, ◌^◌, ◌≤◌, ◌<◌}
use mathlib.Core.Path.{◌≡◌, refl, sym, ap, subst, ◌∙◌}
use native.Mathlib.Omega.{arith}
use native.Mathlib.Decide.{dec_le}
use native.Mathlib.Nat.{le_trans, le_of_eq, le_of_lt, lt_of_lt_of_le, lt_of_le_of_lt, mul-le-mul_left, mul-le-mul_right, mul_assoc, mul_comm, mul_left_comm, mul_right_comm, mul-add, add-mul, suc-mul, one-mul, zero-mul, mul-div_cancel, mul-pos, mul-lt-mul_of_pos_right, pow-succ', pow-le-pow_right, lt-div-mul-add, div-mul-le_self, div-lt_iff_lt-mul, le-div_iff_mul-le, div-le_of_le-mul}
use lib.Dec.{lit≤, lit<}
use lib.IntN.{ℤ, pos, ◌-ℤ◌}
use lib.Pow.{pow_pos}
use Rattle.exact.specs.Near.{up, dn, NearZ}
use Rattle.exact.specs.Laws.{Close}
use Rattle.exact.specs.Series.{ln_series, ln_unit, ln_halving, ln_from}
use Rattle.exact.specs.Exact.{E30, ln_e}
use Rattle.exact.proofs.Signed.{sub_is}
use Rattle.exact.proofs.Quotients.{cancel}
use Rattle.exact.proofs.LnSeries.{below-third, three_thirds}
use Rattle.exact.proofs.LnRatio.{from_one, ln_ratio-below, ln_ratio-above}
use Rattle.exact.proofs.LnWhole.{half-below, ln_from_power, ln_from-at, ln_from_mono}
use Rattle.exact.proofs.LnExact.{L30, L30-unit, ln_e-parts, ln_from-near}
use Rattle.exact.proofs.TwoScales.{close_ratio, ln_series_close}
use Rattle.fixed.proofs.LnTwos.{halved_last, halved_more, doubled_last, doubled_more}
use Rattle.fixed.proofs.LeftOut.{ln_left_out}
use Rattle.fixed.specs.Fixed.{E9, E10, K20, K21, LN8, ln_one, ln_two, ln_count, ln_ratio, ln_halved, ln_fixed, ln_doubled, ln_quotient}

-- ---- the budget, in units of the inside
-- how many units of 10^-30 one has, and how many of them make one of 10^-9
abbrev K : ℕ
K = E30 / ln_one

abbrev tens : ℕ
tens = ln_one / E9

-- by how much the series may be short: four a term, and two for what is left out, since the sum is doubled
abbrev short : ℕ
short = ln_count * 4 + 2

-- by how much 3 ln 2 is above what is taken out for it
abbrev spare : ℕ
spare = (3 * L30 - LN8 * K21) / K

-- of a fixed-point number: the series, 18 parts of ln 2, the halves that were rounded, the last division
fixed_room : short + 11 + 12 + tens ≤ tens * 7 + spare + 1
fixed_room = lit≤ tt

-- of a quotient: the series, six parts of ln 2, the quotient at 10^-30, the last division
quotient-room : short + 4 + 1 + tens ≤ tens * 5 + spare + 1
quotient-room = lit≤ tt

-- ---- a ratio from 1 to 2
-- the series against sixty terms at 10^-30, z the same quotient
series_close :
    (p q : ℕ) → 0 < q → q ≤ p → p ≤ 2 * q → Close K short (ln_ratio p q) (ln_series E30 60 ((p - q) * E30 / (p + q)))
unfolding ln_ratio
series_close p q hq h top =
    let d : ℕ = p + q in
    let hd : 0 < d = omega arith in
    let h3 : 3 * (p - q) ≤ d = omega arith in
    subst (λ (t : ℕ). Close K short (ln_series ln_one ln_count ((p - q) * ln_one / d)) (ln_series E30 60 (t / d))) (mul_assoc (p - q) ln_one K)
    (ln_series_close ln_one K ln_count (60 - ln_count) ((p - q) * ln_one / d) ((p - q) * ln_one * K / d) (lit≤ tt) (lit≤ tt)
    (three_thirds ln_one _ (below-third ln_one (p - q) d hd h3))
    (le_trans (le_of_eq (ap (λ (t : ℕ). t / d) (mul_assoc (p - q) ln_one K))) (below-third E30 (p - q) d hd h3))
    ln_left_out
    (close_ratio d K ((p - q) * ln_one) hd))

-- against the exact logarithm of the quotient rounded down
ratio_low : (p q : ℕ) → 0 < q → q ≤ p → p ≤ 2 * q → ln_ratio p q * K ≤ ln_unit E30 60 (p * E30 / q) + 500
ratio_low p q hq h top =
    fin _ _ (ln_unit E30 60 (p * E30 / q)) (series_close p q hq h top).low (ln_ratio-above E30 59 p q (lit≤ tt) hq h top)
  where
    fin : (a b m : ℕ) → a ≤ b → 32 * b ≤ 32 * m + (250 * 59 + 1146) → a ≤ m + 500
    fin a b m k l = omega arith

ratio_high : (p q : ℕ) → 0 < q → q ≤ p → p ≤ 2 * q → ln_unit E30 60 (p * E30 / q) ≤ (ln_ratio p q + short) * K
ratio_high p q hq h top = le_trans (ln_ratio-below E30 60 p q (lit≤ tt) hq h) (series_close p q hq h top).high

-- ---- with j powers of two
quotient-top : (p q : ℕ) → 0 < q → p < 2 * q → p * E30 / q < 2 * E30
quotient-top p q hq h =
    (div-lt_iff_lt-mul hq).1 (lt_of_lt_of_le (mul-lt-mul_of_pos_right h (lit≤ tt)) (le_of_eq (mul_right_comm 2 q E30)))

powers : (j p q : ℕ) → 0 < q → q ≤ p → p < 2 * q → ln_from E30 60 L30 (2 ^ j * (p * E30 / q)) ≡ j * L30 + ln_unit E30 60 (p * E30 / q)
unfolding ln_halving
powers j p q hq h top =
    ln_from_power E30 60 L30 j (p * E30 / q) (lit≤ tt) (from_one E30 p q hq h)
    ∙ ap (λ (t : ℕ). j * L30 + t) (ln_from-at E30 60 L30 0 (p * E30 / q) (lit≤ tt) (quotient-top p q hq top))

-- j ln 2 is short by at most 6 j/10 units
twos : (j t : ℕ) → 6 * j ≤ 10 * t → (j * ln_two * K ≤ j * L30) × (j * L30 ≤ (j * ln_two + t) * K)
twos j t h = go K ln_two L30 (lit≤ tt) (lit≤ tt)
  where
    go : (K l L : ℕ) → l * K ≤ L → 10 * L ≤ 10 * (l * K) + 6 * K → (j * l * K ≤ j * L) × (j * L ≤ (j * l + t) * K)
    go K l L low high = (
      omega (arith, mul-le-mul_left j low, mul_assoc j l K),
      omega (
        arith,
        mul-le-mul_left j high,
        mul_left_comm j 10 L,
        mul-add j (10 * (l * K)) (6 * K),
        mul_left_comm j 10 (l * K),
        mul_left_comm j 6 K,
        mul-le-mul_right K h,
        mul_assoc 6 j K,
        mul_assoc 10 t K,
        add-mul (j * l) t K,
        mul_assoc j l K,
      ),
    )

-- the coarse value, j ln 2 and the ratio, against the exact logarithm of 2^j P/Q
coarse : ℕ → ℕ → ℕ → ℕ
coarse j p q = j * ln_two + ln_ratio p q

coarse-low : (j p q : ℕ) → 0 < q → q ≤ p → p < 2 * q → coarse j p q * K ≤ ln_from E30 60 L30 (2 ^ j * (p * E30 / q)) + 500
unfolding coarse
coarse-low j p q hq h top =
    rw (powers j p q hq h top)
    (fin (ln_ratio p q) (ln_unit E30 60 (p * E30 / q)) K (j * ln_two) (j * L30) (twos j j (omega arith)).0 (ratio_low p q hq h (le_of_lt top)))
  where
    fin : (r m K a b : ℕ) → a * K ≤ b → r * K ≤ m + 500 → (a + r) * K ≤ b + m + 500
    fin r m K a b k l = omega (arith, add-mul a r K)

coarse-high :
    (j p q t : ℕ) → 0 < q → q ≤ p → p < 2 * q → 6 * j ≤ 10 * t
    → ln_from E30 60 L30 (2 ^ j * (p * E30 / q)) ≤ (coarse j p q + (short + t)) * K
unfolding coarse
coarse-high j p q t hq h top ht =
    rw (powers j p q hq h top)
    (fin (ln_ratio p q) (ln_unit E30 60 (p * E30 / q)) K (j * ln_two) (j * L30) (twos j t ht).1 (ratio_high p q hq h (le_of_lt top)))
  where
    fin : (r m K a b : ℕ) → b ≤ (a + t) * K → m ≤ (r + short) * K → b + m ≤ (a + r + (short + t)) * K
    fin r m K a b k l =
        omega (arith, add-mul a t K, add-mul r short K, add-mul (a + r) (short + t) K, add-mul a r K, add-mul short t K)

-- ---- the last division, and three powers of two taken out
spread : (M u m d q : ℕ) → u + (0 + m) ≡ d + (q + 0) → u * M + m * M ≡ d * M + q * M
spread M u m d q k =
    omega (arith, ap (λ (t : ℕ). t * M) k, add-mul u (0 + m) M, add-mul d (q + 0) M, add-mul 0 m M, add-mul q 0 M)

-- C is the coarse value, q what is left of it once it is divided by f; c is q less m, where m is 3 ln 2 at 10^-9 rounded down; l is 3 ln 2
-- at 10^-30, at least g coarse units more
leaf-low :
    (K f e C q m l F : ℕ) (c z : ℤ) → 2 ≤ e → K ≤ f * K → q * f ≤ C → up c + (0 + m) ≡ dn c + (q + 0) → up z + l ≡ dn z + F
    → l ≤ (m + 1) * (f * K) → C * K ≤ F + K
    → up c * (f * K) + dn z ≤ up z + dn c * (f * K) + e * (f * K)
leaf-low K f e C q m l F c z he hf hq ec ez hl h =
    omega (
      arith,
      spread (f * K) (up c) m (dn c) q ec,
      add-mul m 1 (f * K),
      mul-le-mul_right K hq,
      mul_assoc q f K,
      mul-le-mul_right (f * K) he,
    )

leaf-high :
    (K f g e t C q m l F : ℕ) (c z : ℤ) → t + f ≤ f * e + g + 1 → C < q * f + f → up c + (0 + m) ≡ dn c + (q + 0)
    → up z + l ≡ dn z + F
    → m * (f * K) + g * K ≤ l → F ≤ (C + t) * K
    → up z + dn c * (f * K) ≤ up c * (f * K) + dn z + e * (f * K)
leaf-high K f g e t C q m l F c z ht hq ec ez hl h =
    let room : t * K + f * K ≤ e * (f * K) + g * K + K =
    omega (arith, mul-le-mul_right K ht, add-mul t f K, add-mul (f * e + g) 1 K, add-mul (f * e) g K, mul_assoc f e K, mul_left_comm e f K) in
    let above : C * K + K ≤ q * (f * K) + f * K =
    omega (arith, mul-le-mul_right K hq, add-mul C 1 K, suc-mul C K, add-mul (q * f) f K, mul_assoc q f K) in
    omega (arith, room, above, spread (f * K) (up c) m (dn c) q ec, add-mul C t K)

leaf :
    (e t C F : ℕ) (z : ℤ) → t + tens ≤ tens * e + spare + 1 → 2 ≤ e → up z + 3 * L30 ≡ dn z + F → C * K ≤ F + K → F ≤ (C + t) * K
    → NearZ K21 e (pos (C / tens) -ℤ pos LN8) z
leaf e t C F z ht he ez low high =
    let c : ℤ = pos (C / tens) -ℤ pos LN8 in
    let ec = sub_is (pos (C / tens)) (pos LN8) in
    record {
      low = leaf-low K tens e C (C / tens) LN8 (3 * L30) F c z he (lit≤ tt) (div-mul-le_self C tens) ec ez (lit≤ tt) low;
      high =
          leaf-high K tens spare e t C (C / tens) LN8 (3 * L30) F c z ht (lt-div-mul-add {a = C} {b = tens} (lit≤ tt)) ec ez (lit≤ tt) high;
    }

-- ---- a fixed-point number: y halved j times is m, rounded down, from 1 to 2
record Halves (f y : ℕ) : Type 0 where
  j : ℕ
  m : ℕ
  j_le : j ≤ f
  m_low : E9 ≤ m
  m_high : m < 2 * E9
  under : 2 ^ j * m ≤ y
  over : y < 2 ^ j * (m + 1)
  value : ln_halved f y ≡ coarse j m E9

none : (f y : ℕ) → E9 ≤ y → y < 2 * E9 → ln_halved f y ≡ ln_ratio y E9 → Halves f y
unfolding coarse
none f y low high e =
    record {
      j = 0;
      m = y;
      j_le = omega arith;
      m_low = low;
      m_high = high;
      under = omega (arith, one-mul y);
      over = omega (arith, one-mul (y + 1));
      value = omega (arith, e, zero-mul ln_two);
    }

one_more : (f y : ℕ) → ln_halved (suc f) y ≡ ln_two + ln_halved f (y / 2) → Halves f (y / 2) → Halves (suc f) y
unfolding coarse
one_more f y e h =
    let P : ℕ = 2 ^ h.j in
    record {
      j = suc h.j;
      m = h.m;
      j_le = omega (arith, h.j_le);
      m_low = h.m_low;
      m_high = h.m_high;
      under = omega (arith, h.under, ap (λ (t : ℕ). t * h.m) (pow-succ' 2 h.j), mul_assoc 2 (2 ^ h.j) h.m);
      over = omega (arith, h.over, ap (λ (t : ℕ). t * (h.m + 1)) (pow-succ' 2 h.j), mul_assoc 2 (2 ^ h.j) (h.m + 1));
      value = omega (arith, e, h.value, suc-mul h.j ln_two);
    }

step : (f y : ℕ) → E9 ≤ y → (2 * E9 ≤ y → Halves f (y / 2)) → Halves (suc f) y
step f y low ih = either (dec_le (2 * E9) y)
  where
    either : Dec (2 * E9 ≤ y) → Halves (suc f) y
    either (yes h) = one_more f y (halved_more f h) (ih h)
    either (no g) = let h : y < 2 * E9 = omega arith in none (suc f) y low h (halved_last (suc f) h)

halves : (f y : ℕ) → E9 ≤ y → y < 2 ^ suc f * E9 → Halves f y
unfolding ln_halved
halves zero y low high = none 0 y low high (halved_last 0 high)
halves (suc f) y low high = step f y low (λ h. halves f (y / 2) (omega arith) (half-below E9 f y high))

-- a power of two keeps a number from 1 up from 1 up
raise : (j M : ℕ) → E30 ≤ M → E30 ≤ 2 ^ j * M
raise j M h = le_trans h (le_trans (le_of_eq (sym (one-mul M))) (mul-le-mul_right M (pow_pos j)))

-- what the coarse value and the exact logarithm at X are apart, where X is R = 2^j P/Q up to c units
finish :
    (e t c C F G : ℕ) (z : ℤ) → short + t + c + tens ≤ tens * e + spare + 1 → 2 ≤ e → up z + 3 * L30 ≡ dn z + F
    → C * K ≤ G + 500 → G ≤ (C + (short + t)) * K → G ≤ F + 10000000000000 → F ≤ G + c * K
    → NearZ K21 e (pos (C / tens) -ℤ pos LN8) z
finish e t c C F G z room he ez low high GF FG =
    leaf e (short + t + c) C F z room he ez (below K (lit≤ tt) low) (above K FG high)
  where
    below : (k : ℕ) → 10000000000500 ≤ k → C * k ≤ G + 500 → C * k ≤ F + k
    below k h l = omega (arith, l, GF)

    above : (k : ℕ) → F ≤ G + c * k → G ≤ (C + (short + t)) * k → F ≤ (C + (short + t + c)) * k
    above k h l = omega (arith, add-mul C (short + t + c) k, add-mul C (short + t) k, add-mul (short + t) c k)

-- m, in units of 10^-9, at 10^-30
fine : (m : ℕ) → m * E30 / E9 ≡ m * K21
fine m = ap (λ (t : ℕ). t / E9) (sym (mul_assoc m K21 E9)) ∙ mul-div_cancel (m * K21) (lit≤ tt)

-- y is at most one part in N above P m, and N is not above m
one_part : (P m y K N : ℕ) → y < P * (m + 1) → N ≤ m → y * K * (10 * N) ≤ P * (m * K) * (10 * N + 10)
one_part P m y K N h k =
    let y_k : y * K ≤ P * (m * K) + P * K =
    omega (arith, mul-le-mul_right K (le_of_lt h), mul_assoc P (m + 1) K, ap (λ (t : ℕ). P * t) (add-mul m 1 K), mul-add P (m * K) (1 * K), ap (λ (t : ℕ). P * t) (one-mul K)) in
    let ParamKind : P * K * (10 * N) ≤ P * (m * K) * 10 =
    omega (arith, mul_left_comm (P * K) 10 N, mul-le-mul_left (P * K) k, mul_assoc P K m, ap (λ (t : ℕ). P * t) (mul_comm K m), mul_comm (P * (m * K)) 10) in
    omega (arith, mul-le-mul_right (10 * N) y_k, add-mul (P * (m * K)) (P * K) (10 * N), mul-add (P * (m * K)) (10 * N) 10)

fixed_at :
    (x j m : ℕ) → x < 65536 * E9 → j ≤ 18 → E9 ≤ m → m < 2 * E9 → 2 ^ j * m ≤ 8 * x → 8 * x < 2 ^ j * (m + 1)
    → NearZ K21 7 (pos (coarse j m E9 / tens) -ℤ pos LN8) (ln_e (x * K21))
fixed_at x j m top hj m_low m_high under over =
    let X : ℕ = 8 * (x * K21) in
    let R : ℕ = 2 ^ j * (m * K21) in
    let e_x : 8 * x * K21 ≡ X = mul_assoc 8 x K21 in
    let one : E30 ≤ m * K21 = mul-le-mul_right K21 m_low in
    let below : R ≤ X =
    le_trans (le_of_eq (sym (mul_assoc (2 ^ j) m K21))) (le_trans (mul-le-mul_right K21 under) (le_of_eq e_x)) in
    let wide : X * E10 ≤ R * (E10 + 10) =
    le_trans (le_of_eq (ap (λ (t : ℕ). t * E10) (sym e_x))) (one_part (2 ^ j) m (8 * x) K21 E9 over m_low) in
    let R-one : E30 ≤ R = raise j (m * K21) one in
    let X-one : E30 ≤ X = le_trans R-one below in
    let X-top : X < 2 ^ 201 * E30 = le_trans_lt (mul-le-mul_left 8 (mul-le-mul_right K21 (le_of_lt top))) in
    finish 7 11 12 (coarse j m E9) (ln_from E30 60 L30 X) (ln_from E30 60 L30 R) (ln_e (x * K21)) fixed_room (lit≤ tt)
    (ln_e-parts 3 (x * K21) (lit≤ tt) X-one)
    (subst (λ (t : ℕ). coarse j m E9 * K ≤ ln_from E30 60 L30 (2 ^ j * t) + 500) (fine m) (coarse-low j m E9 (lit≤ tt) m_low m_high))
    (subst (λ (t : ℕ). ln_from E30 60 L30 (2 ^ j * t) ≤ (coarse j m E9 + (short + 11)) * K) (fine m)
    (coarse-high j m E9 11 (lit≤ tt) m_low m_high (omega arith)))
    (more _ _ (ln_from_mono E30 59 L30 (lit≤ tt) L30-unit (lit≤ tt) R X R-one below))
    (units _ _ (ln_from-near E10 K20 10 12 refl (lit≤ tt) (lit≤ tt) R X R-one X-one X-top wide))
  where
    le_trans_lt : {a : ℕ} → a ≤ 8 * (65536 * E9 * K21) → a < 2 ^ 201 * E30
    le_trans_lt h = lt_of_le_of_lt h (lit< tt)

    more : (a b : ℕ) → a ≤ b → a ≤ b + 10000000000000
    more a b h = omega arith

    units : (a b : ℕ) → a ≤ b + 12 * K20 → a ≤ b + 12 * K
    units a b h = omega arith

-- ln x within 7 units of 10^-9, for x from 1/8 up to 65536
pub ln_fixed-near : (x : ℕ) → E9 ≤ 8 * x → x < 65536 * E9 → NearZ K21 7 (ln_fixed x) (ln_e (x * K21))
unfolding ln_fixed
ln_fixed-near x low high = go (halves 18 (8 * x) low (omega arith))
  where
    go : Halves 18 (8 * x) → NearZ K21 7 (pos (ln_halved 18 (8 * x) / tens) -ℤ pos LN8) (ln_e (x * K21))
    go h = rw h.value (fixed_at x h.j h.m high h.j_le h.m_low h.m_high h.under h.over)

-- ---- a quotient: q doubled j times is at most p and more than half of it
record Doubles (f p q : ℕ) : Type 0 where
  j : ℕ
  j_le : j ≤ f
  low : 2 ^ j * q ≤ p
  high : p < 2 * (2 ^ j * q)
  value : ln_doubled f p q ≡ coarse j p (2 ^ j * q)

at_once : (f p q : ℕ) → q ≤ p → p < 2 * q → ln_doubled f p q ≡ ln_ratio p q → Doubles f p q
unfolding coarse
at_once f p q low high e =
    record {
      j = 0;
      j_le = omega arith;
      low = omega (arith, one-mul q);
      high = omega (arith, one-mul q);
      value = omega (arith, e, zero-mul ln_two, ap (λ (t : ℕ). ln_ratio p t) (one-mul q));
    }

once_more : (f p q : ℕ) → ln_doubled (suc f) p q ≡ ln_two + ln_doubled f p (2 * q) → Doubles f p (2 * q) → Doubles (suc f) p q
unfolding coarse
once_more f p q e h =
    let same : 2 ^ h.j * (2 * q) ≡ 2 ^ suc h.j * q =
    omega (arith, ap (λ (t : ℕ). t * q) (pow-succ' 2 h.j), mul_assoc 2 (2 ^ h.j) q, mul_left_comm (2 ^ h.j) 2 q) in
    record {
      j = suc h.j;
      j_le = omega (arith, h.j_le);
      low = omega (arith, h.low, same);
      high = omega (arith, h.high, same);
      value = omega (arith, e, h.value, suc-mul h.j ln_two, ap (λ (t : ℕ). ln_ratio p t) same);
    }

doubling : (f p q : ℕ) → q ≤ p → (2 * q ≤ p → Doubles f p (2 * q)) → Doubles (suc f) p q
doubling f p q low ih = either (dec_le (2 * q) p)
  where
    either : Dec (2 * q ≤ p) → Doubles (suc f) p q
    either (yes h) = once_more f p q (doubled_more f q h ∙ ap (λ (t : ℕ). ln_two + ln_doubled f p t) (mul_comm q 2)) (ih h)
    either (no g) = let h : p < 2 * q = omega arith in at_once (suc f) p q low h (doubled_last (suc f) q h)

doubles : (f p q : ℕ) → q ≤ p → p < 2 ^ suc f * q → Doubles f p q
unfolding ln_doubled
doubles zero p q low high = at_once 0 p q low high (doubled_last 0 q high)
doubles (suc f) p q low high =
    doubling f p q low
    (λ h. doubles f p (2 * q) h
    (omega (arith, ap (λ (t : ℕ). t * q) (pow-succ' 2 (suc f)), mul_assoc 2 (2 ^ suc f) q, mul_left_comm (2 ^ suc f) 2 q)))

-- 8 a and T m, both 8 p/q rounded down, m in T parts, are at most T and 8 units apart
two_ways :
    (p q E T a m : ℕ) → 0 < q → a * q ≤ p * E → p * E < a * q + q → m * (T * q) ≤ 8 * p * E → 8 * p * E < m * (T * q) + T * q
    → (8 * a ≤ T * m + T) × (T * m ≤ 8 * a + 8)
two_ways p q E T a m hq al ah ml mh =
    let e : m * (T * q) ≡ T * m * q = sym (mul_assoc m T q) ∙ ap (λ (t : ℕ). t * q) (mul_comm m T) in (
      cancel q (8 * a) (T * m + T) hq (omega (arith, e, mul_assoc 8 a q, mul_assoc 8 p E, add-mul (T * m) T q)),
      cancel q (T * m) (8 * a + 8) hq (omega (arith, e, mul_assoc 8 a q, mul_assoc 8 p E, add-mul (8 * a) 8 q)),
    )

-- 64 units of a number from 1 up are less than one part in 10^20
few : (x y : ℕ) → E30 ≤ x → y ≤ x + 64 → y * 100000000000000000000 ≤ x * (100000000000000000000 + 1)
few x y h k = go 100000000000000000000 (le_trans (lit≤ tt) h)
  where
    go : (N : ℕ) → 64 * N ≤ x → y * N ≤ x * (N + 1)
    go N g = omega (arith, mul-le-mul_right N k, add-mul x 64 N, mul-add x N 1)

apart_by : (x y : ℕ) → E30 ≤ x → E30 ≤ y → y ≤ 65 * E30 → y ≤ x + 64 → ln_from E30 60 L30 y ≤ ln_from E30 60 L30 x + 2 * 10000000000
apart_by x y hx hy top h =
    ln_from-near 100000000000000000000 10000000000 1 2 refl (lit≤ tt) (lit≤ tt) x y hx hy (lt_of_le_of_lt top (lit< tt)) (few x y hx h)

quotient-at :
    (p q j : ℕ) → 0 < q → q ≤ 8 * p → p ≤ 8 * q → j ≤ 6 → 2 ^ j * q ≤ 8 * p → 8 * p < 2 * (2 ^ j * q)
    → NearZ K21 5 (pos (coarse j (8 * p) (2 ^ j * q) / tens) -ℤ pos LN8) (ln_e (p * E30 / q))
quotient-at p q j hq low high hj Q-low Q-high =
    let a : ℕ = p * E30 / q in
    let T : ℕ = 2 ^ j in
    let Q : ℕ = 2 ^ j * q in
    let T-pos : 1 ≤ T = pow_pos j in
    let T-top : T ≤ 64 = pow-le-pow_right (lit≤ tt) hj in
    let h_q : 0 < Q = mul-pos T-pos hq in
    let M : ℕ = 8 * p * E30 / Q in
    let near : (8 * a ≤ T * M + T) × (T * M ≤ 8 * a + 8) =
    two_ways p q E30 T a M hq (div-mul-le_self (p * E30) q) (lt-div-mul-add {a = p * E30} {b = q} hq)
    (div-mul-le_self (8 * p * E30) Q) (lt-div-mul-add {a = 8 * p * E30} {b = Q} h_q) in
    let R-one : E30 ≤ T * M = raise j M (from_one E30 (8 * p) Q h_q Q-low) in
    let X-one : E30 ≤ 8 * a = eighth a ((le-div_iff_mul-le hq).1 (part p q low)) in
    let X-top : 8 * a ≤ 65 * E30 = room (8 * a) a (omega arith) (div-le_of_le-mul q (le_trans (mul-le-mul_right E30 high) (le_of_eq (turn q E30)))) in
    let R-top : T * M ≤ 65 * E30 = room (T * M) a near.1 (div-le_of_le-mul q (le_trans (mul-le-mul_right E30 high) (le_of_eq (turn q E30)))) in
    finish 5 4 1 (coarse j (8 * p) Q) (ln_from E30 60 L30 (8 * a)) (ln_from E30 60 L30 (T * M)) (ln_e a) quotient-room (lit≤ tt)
    (ln_e-parts 3 a (lit≤ tt) X-one)
    (coarse-low j (8 * p) Q h_q Q-low Q-high)
    (coarse-high j (8 * p) Q 4 h_q Q-low Q-high (omega arith))
    (le_trans (apart_by (8 * a) (T * M) X-one R-one R-top (le_trans near.1 (omega arith))) (loose _))
    (le_trans (apart_by (T * M) (8 * a) R-one X-one X-top (le_trans near.0 (omega arith))) (loose' _))
  where
    eighth : (a : ℕ) → 125000000000000000000000000000 ≤ a → E30 ≤ 8 * a
    eighth a h = omega arith

    part : (p q : ℕ) → q ≤ 8 * p → 125000000000000000000000000000 * q ≤ p * E30
    part p q h = omega arith

    turn : (q E : ℕ) → 8 * q * E ≡ q * (8 * E)
    turn q E = omega (arith, mul_assoc 8 q E, mul_left_comm q 8 E)

    room : (r a : ℕ) → r ≤ 8 * a + 8 → a ≤ 8 * E30 → r ≤ 65 * E30
    room r a h k = omega arith

    loose : (n : ℕ) → n + 2 * 10000000000 ≤ n + 10000000000000
    loose n = omega arith

    loose' : (n : ℕ) → n + 2 * 10000000000 ≤ n + 1 * K
    loose' n = omega arith

-- ln (p/q) within 5 units of 10^-9, for p/q from 1/8 to 8
pub ln_quotient-near : (p q : ℕ) → 0 < q → q ≤ 8 * p → p ≤ 8 * q → NearZ K21 5 (ln_quotient p q) (ln_e (p * E30 / q))
unfolding ln_quotient
ln_quotient-near p q hq low high = go (doubles 6 (8 * p) q low (omega arith))
  where
    go : Doubles 6 (8 * p) q → NearZ K21 5 (pos (ln_doubled 6 (8 * p) q / tens) -ℤ pos LN8) (ln_e (p * E30 / q))
    go h = rw h.value (quotient-at p q h.j hq low high h.j_le h.low h.high)
